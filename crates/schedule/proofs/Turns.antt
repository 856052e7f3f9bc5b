-- The first part of a tick: the turn of each unit.
use Rattle.std.proofs.Common.{◌≡◌, ℕ, zero, suc, ◌+◌, ◌-◌, ◌*◌, ◌/◌, ◌%◌, ◌<◌, ◌≤◌, Bool, true, false, cond, not, ◌&&◌, ◌||◌, eqb, ltb, leb, ◌⊎◌, length, Some, None, Option, sym, refl, ap, ◌∙◌, subst, ap₂, inl, inr, ⊎_elim, arith}
use Rattle.std.proofs.lemmas.Bool.{cases_Bool, cond-true, cond-false, both_ways, and_parts, and_from, and_left, and_right, eqb-true, eqb-false, eq-eqb, ne_eqb, or_left, or_right, or_cases, lt-leb, ltb-true, lt-ltb, le-ltb, not-true, not_from_false, cases_eq, cases_order, cases_lt}
use Rattle.std.proofs.lemmas.Bool.Decides.{nat_tests}
use Rattle.schedule.specs.Rows.{all_meet, Row, ends, reaches, Places, word1, word2, asked, Now, read_to, Excludes, Concerns, Accepted}
use Rattle.plant.specs.Model.{Work}
use Rattle.schedule.specs.Program.{Engine, exec, asks, Share, due, is_date, wake, addr, target, turn, row_turn, opening}
use Rattle.schedule.specs.Plants.{Lawful}
use Rattle.plant.specs.Order.{after_begun}
use Rattle.schedule.specs.Machine.{Job, UnitState, Message, Mark, Bench, said, is_none, bind, is_line, owner, mine, share_of, program, present, gives, own, guard, begin, wait, engine, Keep, take_in, or_first, cells_of, start_of, open_of, head_of, cells_at, prepared, began, turn_at, first_to, Fit, marked, store, release, heard, land, ended, settle_to, left, leave, tick, ticks, Opened, Closed, CyclePromise, DatePromise}
use Rattle.schedule.specs.Pick.{pick}
use Rattle.schedule.proofs.Pick.{pick-cong, pick-none, pick_same, pick_inv, pick_some, find}
use Rattle.schedule.proofs.Valuation.{at, did, word, did-final, word-final, excl-not}
use Rattle.schedule.proofs.Supplies.{anyb, any_same, any-hit, any-miss, V, does, puts, shown_at, row-asks, all-present, input1, input2, at-end, shown-some, held_start, start-val}
use Rattle.plant.proofs.Begun.{same_set, any_order}
use Rattle.schedule.proofs.Blocks.{layout-any, opening-any, length-opening}
use Rattle.schedule.proofs.Openings.{head_plain, head-runs}
use Rattle.schedule.proofs.Wake.{wake-le, wake-date, wake-skip, wake-end, due-date}

own-next : (d t o j : ℕ) → (d ≡ t → o ≡ j → ⊥) → (ltb d t || (eqb d t && ltb o j)) ≡ (ltb d t || (eqb d t && ltb o (suc j)))
own-next d t o j h = grind (arith, nat_tests)

own-now : (d t o j : ℕ) → d ≡ t → o ≡ j → (ltb d t || (eqb d t && ltb o (suc j))) ≡ true
own-now d t o j p q = grind (arith, nat_tests)

own-not : (d t o j : ℕ) → d ≡ t → o ≡ j → (ltb d t || (eqb d t && ltb o j)) ≡ false
own-not d t o j p q = grind (arith, nat_tests)

own-early : (d t o j : ℕ) → (ltb d t || (eqb d t && ltb o j)) ≡ true → d ≤ t
own-early d t o j h = grind (arith, nat_tests)

unit-next : (d t : ℕ) → (d ≡ t → ⊥) → (ltb d t || (eqb d t && false)) ≡ (ltb d t || (eqb d t && true))
unit-next d t h = grind (arith, nat_tests)

unit-now : (d t : ℕ) → d ≡ t → (ltb d t || (eqb d t && true)) ≡ true
unit-now d t h = grind (arith, nat_tests)

unit-early : (d t : ℕ) (b : Bool) → (ltb d t || (eqb d t && b)) ≡ true → d ≤ t
unit-early d t b h = grind (arith, nat_tests)

unit-past : (d t : ℕ) → (ltb d t || (eqb d t && false)) ≡ true → d < t
unit-past d t h = grind (arith, nat_tests)

-- a unit's rows
record Mine (j : ℕ) (r : Row) : Type 0 where
  kind : r.sends ≡ is_line j
  near : Concerns r (j / 2)
  home : r.sends ≡ false → r.st ≡ j / 2

mine-says : (j : ℕ) (r : Row) → mine j r ≡ true → Mine j r
mine-says j r e = go (is_line j) refl e
  where
    go : (b : Bool) → is_line j ≡ b → cond b (r.sends && (eqb r.st (j / 2) || r.listeners (j / 2))) (not r.sends && eqb r.st (j / 2)) ≡ true → Mine j r
    go true q h =
        let p = and_parts r.sends _ h in
        record { kind = p.0 ∙ sym q; near = ⊎_elim (λ z. inl (eqb-true _ _ z)) (λ z. inr (p.0, z)) (or_cases _ _ p.1); home = λ z. absurd (both_ways _ z p.0) }
    go false q h =
        let p = and_parts (not r.sends) _ h in
        record { kind = not-true _ p.0 ∙ sym q; near = inl (eqb-true _ _ p.1); home = λ _. eqb-true _ _ p.1 }

own-mine : (j : ℕ) (r : Row) → owner r ≡ j → mine j r ≡ true
own-mine j r e = go r.sends refl
  where
    go : (b : Bool) → r.sends ≡ b → mine j r ≡ true
    go true q =
        let c : ◌≡◌ {A = ℕ} (cond r.sends 1 0) 1 = cond-true _ _ _ q in
        let x : j % 2 ≡ 1 = omega arith in
        let y : r.st ≡ j / 2 = omega arith in
        cond-true (is_line j) _ _ (eq-eqb _ _ x) ∙ and_from _ _ q (or_left _ _ (eq-eqb _ _ y))
    go false q =
        let c : ◌≡◌ {A = ℕ} (cond r.sends 1 0) 0 = cond-false _ _ _ q in
        let x : j % 2 ≡ 1 → ⊥ = λ z. omega arith in
        let y : r.st ≡ j / 2 = omega arith in
        cond-false (is_line j) _ _ (ne_eqb _ _ x) ∙ and_from _ _ (not_from_false _ q) (eq-eqb _ _ y)

own-station : (j : ℕ) (r : Row) → owner r ≡ j → r.st ≡ j / 2
own-station j r e = go r.sends refl
  where
    go : (b : Bool) → r.sends ≡ b → r.st ≡ j / 2
    go true q = let c : ◌≡◌ {A = ℕ} (cond r.sends 1 0) 1 = cond-true _ _ _ q in omega arith
    go false q = let c : ◌≡◌ {A = ℕ} (cond r.sends 1 0) 0 = cond-false _ _ _ q in omega arith

call-own : (j : ℕ) (r : Row) → mine j r ≡ true → r.sends ≡ false → owner r ≡ j
call-own j r m q =
    let p = mine-says j r m in
    let c : ◌≡◌ {A = ℕ} (cond r.sends 1 0) 0 = cond-false _ _ _ q in
    let z : eqb (j % 2) 1 ≡ false = sym p.kind ∙ q in
    let y : j % 2 ≡ 1 → ⊥ = eqb-false _ _ z in
    let s : r.st ≡ j / 2 = p.home q in
    omega arith

module _ {S : Type 0} (next : S → Work → S) (answer : S → Work → ℕ) (law : Lawful S next answer) (knows : ℕ → ℕ → ℕ → Bool)
    (r : ℕ → Row) (n L : ℕ) (kp : ℕ → Keep) (nk stations base : ℕ) (a : Now S) (basis : ℕ → Option ℕ) (ok : Accepted r n L a.places basis) (fit : Fit next answer knows r n L kp nk stations) (old : ℕ → Mark)
    (prev : Places) (c0 : ℕ → Option ℕ) (ea : (s x : ℕ) → a.places s x ≡ start_of kp nk (cells_of kp nk prev c0) s x) (kin : (m : ℕ) → m < nk → (kp m).st < stations) (out : (s x : ℕ) → stations ≤ s → prev s x ≡ None) (pos_l : 0 < L) where
  abbrev pub do? : ℕ → Bool
  do? k = does next answer r a n L basis ok k

  abbrev pub sh : ℕ → Share
  sh j = share_of r n L j

  abbrev pub oo : ℕ → ℕ
  oo j = open_of r n L kp nk j

  abbrev pub own_begun : ℕ → ℕ → ℕ → Bool
  own_begun t j k = ltb (r k).date t || (eqb (r k).date t && ltb (owner (r k)) j)

  abbrev pub unit_begun : ℕ → Bool → ℕ → Bool
  unit_begun t hd k = ltb (r k).date t || (eqb (r k).date t && hd)

  abbrev pub busy_by : ℕ → Bool → ℕ → ℕ → Bool
  busy_by t hd u k = (do? k && mine u (r k)) && (unit_begun t hd k && ltb t (ends (r k)))

  abbrev pub busy_row : ℕ → Bool → ℕ → Option ℕ
  busy_row t hd u = pick (busy_by t hd u) (λ k. k) n

  abbrev pub resume : ℕ → Bool → Option ℕ → ℕ
  resume t hd None = cond hd (suc t) t
  resume t hd (Some k) = ends (r k)

  abbrev pub wake_of : ℕ → Bool → ℕ → ℕ
  wake_of t hd u = wake (sh u) (resume t hd (busy_row t hd u))

  abbrev pub job_of : ℕ → Option ℕ → Option Job
  job_of u None = None
  job_of u (Some k) = Some (record { stop = base + ends (r k); row = k; word = cond (own next answer knows r n L kp nk u k) (word next answer r a k) 0 })

  abbrev pub line_by : ℕ → ℕ → ℕ → Bool
  line_by t j k = (do? k && (r k).sends) && (own_begun t j k && ltb t (ends (r k)))

  abbrev pub msg_of : Option ℕ → Option Message
  msg_of None = None
  msg_of (Some k) = Some (record { stop = base + ends (r k); word = word next answer r a k })

  abbrev pub works : ℕ → Work
  works k = asked (r k) (at next answer r a k)

  abbrev pub begun_calls : ℕ → ℕ → ℕ → Bool
  begun_calls t j k = ((do? k && not (r k).sends) && ltb k n) && own_begun t j k

  abbrev pub plant_at : ℕ → ℕ → S
  plant_at t j = after_begun next works (begun_calls t j) a.plant n

  abbrev pub mark_at : ℕ → ℕ → ℕ → Mark
  mark_at t j k = cond (do? k && own_begun t j k) (marked next answer knows r n L kp nk base a k (old k)) (old k)

  pub record UnitOk (t : ℕ) (hd : Bool) (u : ℕ) (g : UnitState) : Type 0 where
    pub ga : g.at ≡ base + wake_of t hd u
    pub gp : g.pc ≡ target (sh u) (oo u) (wake_of t hd u)
    pub gb : g.busy ≡ job_of u (busy_row t hd u)

  -- a unit whose cycle has not opened is due at address 0
  abbrev pub UnitIs : ℕ → Bool → ℕ → UnitState → Type 0
  UnitIs zero false u g = (g.at ≡ base) × (g.pc ≡ 0) × (g.busy ≡ None)
  UnitIs zero true u g = UnitOk 0 true u g
  UnitIs (suc t) hd u g = UnitOk (suc t) hd u g

  unit-had : (t u : ℕ) (g : UnitState) → UnitOk t true u g → UnitIs t true u g
  unit-had zero u g h = h
  unit-had (suc t) u g h = h

  had-unit : (t u : ℕ) (g : UnitState) → UnitIs t true u g → UnitOk t true u g
  had-unit zero u g h = h
  had-unit (suc t) u g h = h

  abbrev pub open? : ℕ → ℕ → ℕ → Bool
  open? t j s = ltb 0 t || ltb (2 * s) j

  abbrev pub c1 : ℕ → Option ℕ
  c1 = cells_of kp nk prev c0

  abbrev pub place_at : ℕ → ℕ → ℕ → ℕ → Option ℕ
  place_at t j s x = cond (open? t j s) (shown_at next answer r a n L basis ok t s x) (prev s x)

  abbrev pub cell_at : ℕ → ℕ → ℕ → Option ℕ
  cell_at t j m = cond (open? t j (kp m).st) (c1 m) (c0 m)

  pub record Inv (t j : ℕ) (b : Bench S) : Type 0 where
    pub pl : (s x : ℕ) → b.places s x ≡ place_at t j s x
    pub cl : (m : ℕ) → b.cells m ≡ cell_at t j m
    pub st : b.plant ≡ plant_at t j
    pub gr : (u : ℕ) → u < 2 * stations → UnitIs t (ltb u j) u (b.units u)
    pub ln : b.line ≡ msg_of (pick (line_by t j) (λ k. k) n)
    pub mk : (k : ℕ) → k < n → b.mark k ≡ mark_at t j k

  -- in the turn of unit j, its station open
  pub record Pre (t j : ℕ) (b : Bench S) : Type 0 where
    pub pl : (s x : ℕ) → b.places s x ≡ place_at t (suc j) s x
    pub cl : (m : ℕ) → b.cells m ≡ cell_at t (suc j) m
    pub st : b.plant ≡ plant_at t j
    pub gr : (u : ℕ) → u < 2 * stations → (u ≡ j → ⊥) → UnitIs t (ltb u j) u (b.units u)
    pub ln : b.line ≡ msg_of (pick (line_by t j) (λ k. k) n)
    pub mk : (k : ℕ) → k < n → b.mark k ≡ mark_at t j k

  -- NO OVERLAP
  met : (k : ℕ) → k < n → do? k ≡ true → all_meet (r k).tests (V next answer r a n L basis ok) ≡ true
  met k l d = sym (did-final next answer r a n L basis ok k (r k).st l (inl refl)) ∙ d

  never_both : (i k : ℕ) → i < n → k < n → do? i ≡ true → do? k ≡ true → Excludes (r i).tests (r k).tests → ⊥
  never_both i k li lk di dk e = excl-not (r i).tests (r k).tests (V next answer r a n L basis ok) e (met i li di) (met k lk dk)

  pub calls-apart : (i k : ℕ) → i < k → k < n → do? i ≡ true → do? k ≡ true → (r i).sends ≡ false → (r k).sends ≡ false → (r i).st ≡ (r k).st → ends (r i) ≤ (r k).date
  calls-apart i k h l di dk ci ck s = ⊎_elim (λ e. absurd (never_both i k (omega arith) l di dk e)) (λ e. e) (ok.calls i k h l ci ck s)

  lines-apart : (i k : ℕ) → i < k → k < n → do? i ≡ true → do? k ≡ true → (r i).sends ≡ true → (r k).sends ≡ true → (ends (r i) ≤ (r k).date) ⊎ (ends (r k) ≤ (r i).date)
  lines-apart i k h l di dk ci ck = ⊎_elim (λ e. absurd (never_both i k (omega arith) l di dk e)) (λ e. e) (ok.lines i k h l ci ck)

  -- two performed rows that run at one time, both sends or both calls of one station, are one
  pub one_line : (t i k : ℕ) → i < n → k < n → do? i ≡ true → do? k ≡ true → (r i).sends ≡ true → (r k).sends ≡ true
      → (r i).date ≤ t → (r k).date ≤ t → t < ends (r i) → t < ends (r k) → k ≡ i
  one_line t i k li lk di dk ci ck ai ak ei ek = go (cases_order k i)
    where
      go : (k ≡ i) ⊎ ((k < i) ⊎ (i < k)) → k ≡ i
      go (inl e) = e
      go (inr (inl h)) = absurd (⊎_elim (λ z. omega arith) (λ z. omega arith) (lines-apart k i h li dk di ck ci))
      go (inr (inr h)) = absurd (⊎_elim (λ z. omega arith) (λ z. omega arith) (lines-apart i k h lk di dk ci ck))

  one-call : (t i k : ℕ) → i < n → k < n → do? i ≡ true → do? k ≡ true → (r i).sends ≡ false → (r k).sends ≡ false → (r i).st ≡ (r k).st
      → (r i).date ≤ t → (r k).date ≤ t → t < ends (r i) → t < ends (r k) → k ≡ i
  one-call t i k li lk di dk ci ck s ai ak ei ek = go (cases_order k i)
    where
      go : (k ≡ i) ⊎ ((k < i) ⊎ (i < k)) → k ≡ i
      go (inl e) = e
      go (inr (inl h)) = absurd (omega (arith, calls-apart k i h li dk di ck ci (sym s)))
      go (inr (inr h)) = absurd (omega (arith, calls-apart i k h lk di dk ci ck s))

  pub one_unit : (t u i k : ℕ) → i < n → k < n → do? i ≡ true → do? k ≡ true → mine u (r i) ≡ true → mine u (r k) ≡ true
      → (r i).date ≤ t → (r k).date ≤ t → t < ends (r i) → t < ends (r k) → k ≡ i
  one_unit t u i k li lk di dk mi mk' ai ak ei ek = go (cases_Bool (is_line u)) (mine-says u (r i) mi) (mine-says u (r k) mk')
    where
      go : (is_line u ≡ true) ⊎ (is_line u ≡ false) → Mine u (r i) → Mine u (r k) → k ≡ i
      go (inl q) p s = one_line t i k li lk di dk (p.kind ∙ q) (s.kind ∙ q) ai ak ei ek
      go (inr q) p s = one-call t i k li lk di dk (p.kind ∙ q) (s.kind ∙ q) (p.home (p.kind ∙ q) ∙ sym (s.home (s.kind ∙ q))) ai ak ei ek

  pub record Runs (t u k : ℕ) (hd : Bool) : Type 0 where
    pub doing : do? k ≡ true
    pub here : mine u (r k) ≡ true
    pub since : unit_begun t hd k ≡ true
    pub till : t < ends (r k)

  pub busy-says : (t u k : ℕ) (hd : Bool) → busy_by t hd u k ≡ true → Runs t u k hd
  busy-says t u k hd e =
      let p = and_parts (do? k && mine u (r k)) _ e in
      let q = and_parts (do? k) _ p.0 in
      let s = and_parts (unit_begun t hd k) _ p.1 in
      record { doing = q.0; here = q.1; since = s.0; till = ltb-true _ _ s.1 }

  pub busy-from : (t u k : ℕ) (hd : Bool) → do? k ≡ true → mine u (r k) ≡ true → unit_begun t hd k ≡ true → t < ends (r k) → busy_by t hd u k ≡ true
  busy-from t u k hd d m b e = and_from _ _ (and_from _ _ d m) (and_from _ _ b (lt-ltb _ _ e))

  pub busy-one : (t u i k : ℕ) (hd : Bool) → i < n → k < n → busy_by t hd u i ≡ true → busy_by t hd u k ≡ true → k ≡ i
  busy-one t u i k hd li lk p q =
      let x = busy-says t u i hd p in
      let y = busy-says t u k hd q in
      one_unit t u i k li lk x.doing y.doing x.here y.here (unit-early _ _ _ x.since) (unit-early _ _ _ y.since) x.till y.till

  pub other-unit : (t j u : ℕ) (g : UnitState) → (u ≡ j → ⊥) → UnitIs t (ltb u j) u g → UnitIs t (ltb u (suc j)) u g
  other-unit t j u g ne h = subst (λ hd. UnitIs t hd u g) (step u j ne) h
    where
      step : (u j : ℕ) → (u ≡ j → ⊥) → ltb u j ≡ ltb u (suc j)
      step u j h = grind (arith, nat_tests)

  -- THE TURN OF UNIT j AT DATE t
  module _ (t j : ℕ) (lt : t < L) (lj : j < 2 * stations) (b : Bench S) (v : Pre t j b) where
    -- nothing of this unit begins now
    abbrev Quiet : Type 0
    Quiet = (k : ℕ) → k < n → do? k ≡ true → mine j (r k) ≡ true → (r k).date ≡ t → ⊥

    abbrev Quiet' : Type 0
    Quiet' = (k : ℕ) → k < n → do? k ≡ true → (r k).date ≡ t → owner (r k) ≡ j → ⊥

    same-begun : (k : ℕ) → (do? k ≡ true → (r k).date ≡ t → owner (r k) ≡ j → ⊥) → (do? k ≡ false) ⊎ (own_begun t j k ≡ own_begun t (suc j) k)
    same-begun k h = ⊎_elim (λ d. inr (own-next _ _ _ _ (h d))) (λ d. inl d) (cases_Bool (do? k))

    line_same : (k : ℕ) → (do? k ≡ true → (r k).date ≡ t → owner (r k) ≡ j → ⊥) → line_by t j k ≡ line_by t (suc j) k
    line_same k h = ⊎_elim (λ z. and_left _ _ (and_left _ _ z) ∙ sym (and_left _ _ (and_left _ _ z))) (λ z. ap (λ w. (do? k && (r k).sends) && (w && ltb t (ends (r k)))) z) (same-begun k h)

    calls_same : (k : ℕ) → (do? k ≡ true → (r k).date ≡ t → owner (r k) ≡ j → ⊥) → begun_calls t j k ≡ begun_calls t (suc j) k
    calls_same k h = ⊎_elim (λ z. and_left _ _ (and_left _ _ (and_left _ _ z)) ∙ sym (and_left _ _ (and_left _ _ (and_left _ _ z)))) (λ z. ap (λ w. ((do? k && not (r k).sends) && ltb k n) && w) z) (same-begun k h)

    mark-same : (k : ℕ) → (do? k ≡ true → (r k).date ≡ t → owner (r k) ≡ j → ⊥) → mark_at t j k ≡ mark_at t (suc j) k
    mark-same k h = ap (λ w. cond w (marked next answer knows r n L kp nk base a k (old k)) (old k)) (⊎_elim (λ z. and_left _ _ z ∙ sym (and_left _ _ z)) (λ z. ap (λ w. do? k && w) z) (same-begun k h))

    lines_same : Quiet' → pick (line_by t j) (λ k. k) n ≡ pick (line_by t (suc j)) (λ k. k) n
    lines_same q = pick_same (line_by t j) (line_by t (suc j)) (λ k. k) n (λ k l. line_same k (q k l))

    plants-same : Quiet' → plant_at t j ≡ plant_at t (suc j)
    plants-same q = same_set next answer law works (begun_calls t j) (begun_calls t (suc j)) a.plant n (λ k l. calls_same k (q k l))

    busy-quiet : Quiet → busy_row t false j ≡ busy_row t true j
    busy-quiet q = pick_same (busy_by t false j) (busy_by t true j) (λ k. k) n go
      where
        go : (k : ℕ) → k < n → busy_by t false j k ≡ busy_by t true j k
        go k l = ⊎_elim (λ z. ap (λ w. (do? k && mine j (r k)) && (w && ltb t (ends (r k)))) (unit-next (r k).date t (λ e. let p = and_parts (do? k) _ z in q k l p.0 p.1 e))) (λ z. and_left _ _ z ∙ sym (and_left _ _ z)) (cases_Bool (do? k && mine j (r k)))

    quiet-own : Quiet → Quiet'
    quiet-own q k l d e o = q k l d (own-mine j (r k) o) e

    gears : (c : Bench S) → ((u : ℕ) → (u ≡ j → ⊥) → c.units u ≡ b.units u) → UnitOk t true j (c.units j) → (u : ℕ) → u < 2 * stations → UnitIs t (ltb u (suc j)) u (c.units u)
    gears c h g u lu = ⊎_elim same (λ ne. subst (UnitIs t (ltb u (suc j)) u) (sym (h u ne)) (other-unit t j u (b.units u) ne (v.gr u lu ne))) (cases_eq u j)
      where
        same : u ≡ j → UnitIs t (ltb u (suc j)) u (c.units u)
        same e = subst (λ hd. UnitIs t hd u (c.units u)) (sym (lt-ltb u (suc j) (omega arith))) (unit-had t u (c.units u) (subst (λ w. UnitOk t true w (c.units w)) (sym e) g))

    quiet-inv : Quiet → (c : Bench S) → ((s x : ℕ) → c.places s x ≡ b.places s x) → ((m : ℕ) → c.cells m ≡ b.cells m) → c.plant ≡ b.plant → c.line ≡ b.line → ((k : ℕ) → c.mark k ≡ b.mark k)
        → ((u : ℕ) → (u ≡ j → ⊥) → c.units u ≡ b.units u) → UnitOk t true j (c.units j) → Inv t (suc j) c
    quiet-inv q c ep ec es el em eg g = record {
      pl = λ s x. ep s x ∙ v.pl s x;
      cl = λ m. ec m ∙ v.cl m;
      st = es ∙ v.st ∙ plants-same (quiet-own q);
      gr = gears c eg g;
      ln = el ∙ v.ln ∙ ap msg_of (lines_same (quiet-own q));
      mk = λ k l. em k ∙ v.mk k l ∙ mark-same k (quiet-own q k l);
    }

    -- not due
    idle : UnitOk t false j (b.units j) → Quiet → resume t true (busy_row t true j) ≡ resume t false (busy_row t false j) ⊎ (wake (sh j) (resume t true (busy_row t true j)) ≡ wake (sh j) (resume t false (busy_row t false j))) → Inv t (suc j) b
    idle gj q e = quiet-inv q b (λ s x. refl) (λ m. refl) refl refl (λ k. refl) (λ u ne. refl)
        (record { ga = gj.ga ∙ ap (λ w. base + w) (sym we); gp = gj.gp ∙ ap (target (sh j) (oo j)) (sym we); gb = gj.gb ∙ ap (job_of j) (busy-quiet q) })
      where
        we : wake_of t true j ≡ wake_of t false j
        we = ⊎_elim (λ z. ap (wake (sh j)) z) (λ z. z) e

    abbrev T : ℕ
    T = base + t

    late : (W : ℕ) → t ≤ W → T + (W - t) ≡ base + W
    late W l = omega arith

    set-unit : (g : UnitState) → cond (eqb j j) g (b.units j) ≡ g
    set-unit g = cond-true _ _ _ (eq-eqb j j refl)

    waits : (b.units j).busy ≡ None → Quiet → busy_row t false j ≡ None → Inv t (suc j) (wait next answer knows r n L kp nk j T (wake (sh j) (suc t) - t) (target (sh j) (oo j) (wake (sh j) (suc t))) b)
    waits fb q none = quiet-inv q _ (λ s x. refl) (λ m. refl) refl refl (λ k. refl) (λ u ne. cond-false _ _ _ (ne_eqb _ _ (λ e. ne (sym e))))
        (subst (UnitOk t true j) (sym (set-unit g)) (record { ga = late (wake (sh j) (suc t)) (omega (arith, wake-le (sh j) (suc t))) ∙ ap (λ w. base + w) (sym we); gp = ap (target (sh j) (oo j)) (sym we); gb = fb ∙ ap (job_of j) (sym none ∙ busy-quiet q) }))
      where
        g : UnitState
        g = record { at = T + (wake (sh j) (suc t) - t); pc = target (sh j) (oo j) (wake (sh j) (suc t)); busy = (b.units j).busy }

        we : wake_of t true j ≡ wake (sh j) (suc t)
        we = ap (λ o. wake (sh j) (resume t true o)) (sym (busy-quiet q) ∙ none)

    -- row i is performed
    module _ (i : ℕ) (li : i < n) (mi : mine j (r i) ≡ true) (di : (r i).date ≡ t) (dd : do? i ≡ true) (none : busy_row t false j ≡ None) (free : (b.units j).busy ≡ None) where
      b1 : Bench S
      b1 = wait next answer knows r n L kp nk j T (wake (sh j) (ends (r i)) - t) (target (sh j) (oo j) (wake (sh j) (ends (r i)))) b

      long : t < ends (r i)
      long = omega (arith, ok.long i li)

      -- it is the only one of this unit
      only : (k : ℕ) → k < n → do? k ≡ true → mine j (r k) ≡ true → (r k).date ≡ t → k ≡ i
      only k l d m e = one_unit t j i k li l dd d mi m (omega arith) (omega arith) long (omega (arith, ok.long k l))

      now : busy_by t true j i ≡ true
      now = busy-from t j i true dd mi (unit-now (r i).date t di) long

      row_now : busy_row t true j ≡ Some i
      row_now = pick_some (busy_by t true j) (λ k. k) n i li now (λ k l p. busy-one t j i k true li l now p)

      shown-at : owner (r i) ≡ j → (x : ℕ) → b.places (r i).st x ≡ shown_at next answer r a n L basis ok (r i).date (r i).st x
      shown-at o x = v.pl (r i).st x ∙ cond-true _ _ _ (or_right _ _ (lt-ltb (2 * (r i).st) (suc j) (omega (arith, own-station j (r i) o)))) ∙ ap (λ w. shown_at next answer r a n L basis ok w (r i).st x) (sym di)

      words : owner (r i) ≡ j → (word1 (r i) b.places ≡ word1 (r i) (at next answer r a i)) × (word2 (r i) b.places ≡ word2 (r i) (at next answer r a i))
      words o = ((input1 next answer r a n L basis ok i li dd b.places (shown-at o)).1, (input2 next answer r a n L basis ok i li dd b.places (shown-at o)).1)

      asked-same : owner (r i) ≡ j → asked (r i) b.places ≡ works i
      asked-same o = ap₂ (λ x y. record { station = (r i).st; number = (r i).work; count = (r i).count; first = x; second = y }) (words o).0 (words o).1

      -- the reading's plant, as the works from the top
      E : ℕ → Bool
      E k = do? k && not (r k).sends

      plant-read : (m : ℕ) → (read_to next answer r a m).plant ≡ after_begun next works E a.plant m
      unfolding read_to after_begun E
      plant-read zero = refl
      plant-read (suc m) = ap (λ p. cond (do? m && not (r m).sends) (next p (works m)) p) (plant-read m)

      -- what the plant answers
      module _ (call : (r i).sends ≡ false) where
        own-i : owner (r i) ≡ j
        own-i = call-own j (r i) mi call

        above : (k : ℕ) → k < n → (works k).station ≡ (works i).station → k < i → begun_calls t j k ≡ E k
        unfolding E
        above k l s h = go (cases_Bool (do? k && not (r k).sends))
          where
            go : (do? k && not (r k).sends ≡ true) ⊎ (do? k && not (r k).sends ≡ false) → begun_calls t j k ≡ do? k && not (r k).sends
            go (inr q) = and_left _ _ (and_left _ _ q) ∙ sym q
            go (inl q) =
                let p = and_parts (do? k) _ q in
                let e = calls-apart k i h li p.0 dd (not-true _ p.1) call s in
                and_from _ _ (and_from _ _ q (lt-ltb _ _ l)) (or_left _ _ (lt-ltb (r k).date t (omega (arith, ok.long k l)))) ∙ sym q

        below : (k : ℕ) → k < n → (works k).station ≡ (works i).station → i < k → begun_calls t j k ≡ false
        below k l s h = go (cases_Bool (do? k && not (r k).sends))
          where
            go : (do? k && not (r k).sends ≡ true) ⊎ (do? k && not (r k).sends ≡ false) → begun_calls t j k ≡ false
            go (inr q) = and_left _ _ (and_left _ _ q)
            go (inl q) =
                let p = and_parts (do? k) _ q in
                let e = calls-apart i k h l dd p.0 call (not-true _ p.1) (sym s) in
                and_right _ _ (off (omega arith))
              where
                off : t < (r k).date → own_begun t j k ≡ false
                off z = later (r k).date t (owner (r k)) j z
                  where
                    later : (d t o j : ℕ) → t < d → (ltb d t || (eqb d t && ltb o j)) ≡ false
                    later d t o j h = grind (arith, nat_tests)

        rest : (k : ℕ) → (k ≡ i → ⊥) → begun_calls t (suc j) k ≡ begun_calls t j k
        rest k ne = go (cases_Bool (ltb k n))
          where
            go : (ltb k n ≡ true) ⊎ (ltb k n ≡ false) → begun_calls t (suc j) k ≡ begun_calls t j k
            go (inr q) = and_left _ _ (and_right _ _ q) ∙ sym (and_left _ _ (and_right _ _ q))
            go (inl q) = sym (calls_same k (λ d e o. ne (only k (ltb-true _ _ q) d (own-mine j (r k) o) e)))

        done : (answer (plant_at t j) (works i) ≡ answer (after_begun next works E a.plant i) (works i)) × (next (plant_at t j) (works i) ≡ plant_at t (suc j))
        done = any_order next answer law works (begun_calls t j) (begun_calls t (suc j)) E a.plant n i li above below
            (and_right _ _ (own-not (r i).date t (owner (r i)) j di own-i))
            (and_from _ _ (and_from _ _ (and_from _ _ dd (not_from_false _ call)) (lt-ltb _ _ li)) (own-now (r i).date t (owner (r i)) j di own-i))
            rest

        call-word : answer b.plant (asked (r i) b.places) ≡ answer (read_to next answer r a i).plant (works i)
        call-word = ap₂ answer v.st (asked-same own-i) ∙ done.0 ∙ ap (λ p. answer p (works i)) (sym (plant-read i))

        call-state : next b.plant (asked (r i) b.places) ≡ plant_at t (suc j)
        call-state = ap₂ next v.st (asked-same own-i) ∙ done.1

      same_word : owner (r i) ≡ j → gives next answer knows r n L kp nk (r i) b ≡ word next answer r a i
      same_word o = ⊎_elim
          (λ q. cond-true _ _ _ q ∙ (words o).0 ∙ sym (cond-true _ _ _ q))
          (λ q. cond-false _ _ _ q ∙ call-word q ∙ sym (cond-false _ _ _ q)) (cases_Bool (r i).sends)

      -- the line is free for a send
      line-free : (r i).sends ≡ true → owner (r i) ≡ j → b.line ≡ None
      line-free s o = v.ln ∙ ap msg_of (pick-none (line_by t j) (λ k. k) n (λ k l. off k l (cases_Bool (line_by t j k))))
        where
          off : (k : ℕ) → k < n → (line_by t j k ≡ true) ⊎ (line_by t j k ≡ false) → line_by t j k ≡ false
          off k l (inr q) = q
          off k l (inl q) = absurd (clash (and_parts (do? k && (r k).sends) _ q))
            where
              clash : (do? k && (r k).sends ≡ true) × (own_begun t j k && ltb t (ends (r k)) ≡ true) → ⊥
              clash (x, y) =
                  let p = and_parts (do? k) _ x in
                  let z = and_parts (own_begun t j k) _ y in
                  let e : k ≡ i = one_line t i k li l dd p.0 s p.1 (omega arith) (own-early (r k).date t (owner (r k)) j z.0) long (ltb-true t (ends (r k)) z.1) in
                  both_ways (own_begun t j k) (ap (own_begun t j) e ∙ own-not (r i).date t (owner (r i)) j di o) z.0

      ok-guard : guard next answer knows r n L kp nk j i b1 ≡ true
      unfolding b1
      ok-guard = and_from _ _ (ap (λ (g : UnitState). is_none g.busy) (set-unit _) ∙ ap is_none free) (go (cases_Bool (own next answer knows r n L kp nk j i)))
        where
          go : (own next answer knows r n L kp nk j i ≡ true) ⊎ (own next answer knows r n L kp nk j i ≡ false)
              → (not (own next answer knows r n L kp nk j i) || (present (r i) b.places && cond (r i).sends (is_none b.line) (knows (r i).st (r i).work (r i).count))) ≡ true
          go (inr q) = or_left _ _ (ap not q)
          go (inl q) = or_right _ _ (and_from _ _ (all-present next answer r a n L basis ok i li dd b.places (shown-at (eqb-true _ _ q)))
              (⊎_elim (λ s. cond-true _ _ _ s ∙ ap is_none (line-free s (eqb-true _ _ q))) (λ s. cond-false _ _ _ s ∙ fit.known i li s) (cases_Bool (r i).sends)))

      abbrev own? : Bool
      own? = own next answer knows r n L kp nk j i

      -- other rows of this unit do not begin now
      elsewhere : (k : ℕ) → k < n → (k ≡ i → ⊥) → do? k ≡ true → (r k).date ≡ t → owner (r k) ≡ j → ⊥
      elsewhere k l ne d e o = ne (only k l d (own-mine j (r k) o) e)

      not_own : own? ≡ false → Quiet'
      not_own q k l d e o = let z : k ≡ i = only k l d (own-mine j (r k) o) e in eqb-false (owner (r i)) j q (ap (λ w. owner (r w)) (sym z) ∙ o)

      c : Bench S
      c = begin next answer knows r n L kp nk j i T b1

      stops : T + (r i).dur ≡ base + ends (r i)
      stops = omega arith

      c-plant : c.plant ≡ plant_at t (suc j)
      unfolding c b1
      c-plant = go (cases_Bool own?) (cases_Bool (r i).sends)
        where
          go : (own? ≡ true) ⊎ (own? ≡ false) → ((r i).sends ≡ true) ⊎ ((r i).sends ≡ false) → cond (own? && not (r i).sends) (next b.plant (asked (r i) b.places)) b.plant ≡ plant_at t (suc j)
          go (inr q) s = cond-false _ _ _ (and_left _ _ q) ∙ v.st ∙ plants-same (not_own q)
          go (inl q) (inr s) = cond-true _ _ _ (and_from _ _ q (not_from_false _ s)) ∙ call-state s
          go (inl q) (inl s) = cond-false _ _ _ (and_right _ _ (ap not s)) ∙ v.st
              ∙ same_set next answer law works (begun_calls t j) (begun_calls t (suc j)) a.plant n (λ k l. ⊎_elim (at_i k) (λ ne. calls_same k (elsewhere k l ne)) (cases_eq k i))
            where
              at_i : (k : ℕ) → k ≡ i → begun_calls t j k ≡ begun_calls t (suc j) k
              at_i k e = let z : not (r k).sends ≡ false = ap (λ w. not (r w).sends) e ∙ ap not s in and_left _ _ (and_left _ _ (and_right _ _ z)) ∙ sym (and_left _ _ (and_left _ _ (and_right _ _ z)))

      c-line : c.line ≡ msg_of (pick (line_by t (suc j)) (λ k. k) n)
      unfolding c b1
      c-line = go (cases_Bool own?) (cases_Bool (r i).sends)
        where
          go : (own? ≡ true) ⊎ (own? ≡ false) → ((r i).sends ≡ true) ⊎ ((r i).sends ≡ false)
              → cond (own? && (r i).sends) (Some (record { stop = T + (r i).dur; word = gives next answer knows r n L kp nk (r i) b })) b.line ≡ msg_of (pick (line_by t (suc j)) (λ k. k) n)
          go (inr q) s = cond-false _ _ _ (and_left _ _ q) ∙ v.ln ∙ ap msg_of (lines_same (not_own q))
          go (inl q) (inr s) = cond-false _ _ _ (and_right _ _ s) ∙ v.ln ∙ ap msg_of (pick_same (line_by t j) (line_by t (suc j)) (λ k. k) n (λ k l. ⊎_elim (at_i k) (λ ne. line_same k (elsewhere k l ne)) (cases_eq k i)))
            where
              at_i : (k : ℕ) → k ≡ i → line_by t j k ≡ line_by t (suc j) k
              at_i k e = let z : (r k).sends ≡ false = ap (λ w. (r w).sends) e ∙ s in and_left _ _ (and_right _ _ z) ∙ sym (and_left _ _ (and_right _ _ z))
          go (inl q) (inl s) = cond-true _ _ _ (and_from _ _ q s) ∙ ap₂ (λ x y. Some (record { stop = x; word = y })) stops (same_word (eqb-true _ _ q))
              ∙ ap msg_of (sym (pick_some (line_by t (suc j)) (λ k. k) n i li sends-now one))
            where
              sends-now : line_by t (suc j) i ≡ true
              sends-now = and_from _ _ (and_from _ _ dd s) (and_from _ _ (own-now (r i).date t (owner (r i)) j di (eqb-true _ _ q)) (lt-ltb _ _ long))

              one : (k : ℕ) → k < n → line_by t (suc j) k ≡ true → k ≡ i
              one k l e =
                  let x = and_parts (do? k && (r k).sends) _ e in
                  let p = and_parts (do? k) _ x.0 in
                  let z = and_parts (own_begun t (suc j) k) _ x.1 in
                  one_line t i k li l dd p.0 s p.1 (omega arith) (own-early (r k).date t (owner (r k)) (suc j) z.0) long (ltb-true t (ends (r k)) z.1)

      c-mark : (k : ℕ) → k < n → c.mark k ≡ mark_at t (suc j) k
      unfolding c b1
      c-mark k l = go (cases_Bool own?) (cases_eq i k)
        where
          new : Mark
          new = record { count = suc (b.mark i).count; tick = T; first = said (ltb 0 (r i).count) (word1 (r i) b.places); second = said (ltb 1 (r i).count) (word2 (r i) b.places); given = Some (gives next answer knows r n L kp nk (r i) b) }

          old-i : own? ≡ true → b.mark i ≡ old i
          old-i q = v.mk i li ∙ cond-false (do? i && own_begun t j i) (marked next answer knows r n L kp nk base a i (old i)) (old i) (and_right (do? i) (own_begun t j i) (own-not (r i).date t (owner (r i)) j di (eqb-true _ _ q)))

          fresh : own? ≡ true → new ≡ marked next answer knows r n L kp nk base a i (old i)
          fresh q = λ z. record { count = suc (old-i q z).count; tick = base + di' z; first = said (ltb 0 (r i).count) ((words oq).0 z); second = said (ltb 1 (r i).count) ((words oq).1 z); given = Some (same_word oq z) }
            where
              di' : t ≡ (r i).date
              di' = sym di

              oq : owner (r i) ≡ j
              oq = eqb-true _ _ q

          go : (own? ≡ true) ⊎ (own? ≡ false) → (i ≡ k) ⊎ (i ≡ k → ⊥) → cond (own? && eqb i k) new (b.mark k) ≡ mark_at t (suc j) k
          go (inr q) e = cond-false _ _ _ (and_left _ _ q) ∙ v.mk k l ∙ mark-same k (not_own q k l)
          go (inl q) (inr ne) = cond-false _ _ _ (and_right _ _ (ne_eqb _ _ ne)) ∙ v.mk k l ∙ mark-same k (elsewhere k l (λ e. ne (sym e)))
          go (inl q) (inl e) = cond-true _ _ _ (and_from _ _ q (eq-eqb _ _ e)) ∙ fresh q ∙ sym (cond-true _ _ _ (and_from _ _ dd (own-now (r i).date t (owner (r i)) j di (eqb-true _ _ q)))) ∙ ap (mark_at t (suc j)) e

      c-unit : UnitOk t true j (c.units j)
      unfolding c b1
      c-unit = subst (UnitOk t true j) (sym (cond-true _ _ _ (eq-eqb j j refl)))
          (record {
            ga = ap (λ (g : UnitState). g.at) (set-unit g1) ∙ late (wake (sh j) (ends (r i))) (omega (arith, wake-le (sh j) (ends (r i)), long)) ∙ ap (λ o. base + wake (sh j) (resume t true o)) (sym row_now);
            gp = ap (λ (g : UnitState). g.pc) (set-unit g1) ∙ ap (λ o. target (sh j) (oo j) (wake (sh j) (resume t true o))) (sym row_now);
            gb = ap₂ (λ x y. Some (record { stop = x; row = i; word = y })) stops (job-word (cases_Bool own?)) ∙ ap (job_of j) (sym row_now);
          })
        where
          job-word : (own? ≡ true) ⊎ (own? ≡ false) → cond own? (gives next answer knows r n L kp nk (r i) b) 0 ≡ cond own? (word next answer r a i) 0
          job-word (inl q) = ap (λ y. cond own? y 0) (same_word (eqb-true _ _ q))
          job-word (inr q) = cond-false _ _ _ q ∙ sym (cond-false _ _ _ q)

          g1 : UnitState
          g1 = record { at = T + (wake (sh j) (ends (r i)) - t); pc = target (sh j) (oo j) (wake (sh j) (ends (r i))); busy = (b.units j).busy }

      c-other : (u : ℕ) → (u ≡ j → ⊥) → c.units u ≡ b.units u
      unfolding c b1
      c-other u ne = let z : eqb j u ≡ false = ne_eqb _ _ (λ e. ne (sym e)) in cond-false _ _ _ z ∙ cond-false _ _ _ z

      c-places : (s x : ℕ) → c.places s x ≡ b.places s x
      unfolding c b1
      c-places s x = refl

      c-cells : (m : ℕ) → c.cells m ≡ b.cells m
      unfolding c b1
      c-cells m = refl

      performs : (engine next answer knows r n L kp nk j T).perform i b1 ≡ Some c
      unfolding c
      performs = cond-true _ _ _ ok-guard

      performed-inv : Inv t (suc j) c
      performed-inv = record { pl = λ s x. c-places s x ∙ v.pl s x; cl = λ m. c-cells m ∙ v.cl m; st = c-plant; gr = gears c c-other c-unit; ln = c-line; mk = c-mark }

    -- the rows of this date from the top
    walk : (b.units j).busy ≡ None → (m i : ℕ) → i + m ≡ n → ((k : ℕ) → k < i → do? k ≡ true → mine j (r k) ≡ true → (r k).date ≡ t → ⊥) → busy_row t false j ≡ None
        → (c : Bench S) × (turn (sh j) (engine next answer knows r n L kp nk j T) (oo j) t i m b ≡ Some c) × Inv t (suc j) c
    unfolding turn b1
    walk fb zero i e q none = (_, refl, waits fb (λ k l. q k (omega arith)) none)
    walk fb (suc m) i e q none = go (cases_Bool (due (sh j) t i)) (cases_Bool (do? i)) (walk fb m (suc i) (omega arith))
      where
        more : (mine j (r i) && eqb (r i).date t ≡ true → do? i ≡ false) → (k : ℕ) → k < suc i → do? k ≡ true → mine j (r k) ≡ true → (r k).date ≡ t → ⊥
        more h k l d mk' z = ⊎_elim (λ e. at_i e) (λ ne. q k (omega arith) d mk' z) (cases_eq k i)
          where
            at_i : k ≡ i → ⊥
            at_i e = both_ways (do? i) (h (and_from _ _ (ap (λ w. mine j (r w)) (sym e) ∙ mk') (eq-eqb _ _ (ap (λ w. (r w).date) (sym e) ∙ z)))) (ap do? (sym e) ∙ d)

        goal : Type 0
        goal = (c : Bench S) × (turn (sh j) (engine next answer knows r n L kp nk j T) (oo j) t i (suc m) b ≡ Some c) × Inv t (suc j) c

        on : (x : Option (Bench S)) → turn (sh j) (engine next answer knows r n L kp nk j T) (oo j) t i (suc m) b ≡ x → ((c : Bench S) × (x ≡ Some c) × Inv t (suc j) c) → goal
        on x p (c, z, w) = (c, p ∙ z, w)

        go : (due (sh j) t i ≡ true) ⊎ (due (sh j) t i ≡ false) → (do? i ≡ true) ⊎ (do? i ≡ false)
            → (((k : ℕ) → k < suc i → do? k ≡ true → mine j (r k) ≡ true → (r k).date ≡ t → ⊥) → busy_row t false j ≡ None → (c : Bench S) × (turn (sh j) (engine next answer knows r n L kp nk j T) (oo j) t (suc i) m b ≡ Some c) × Inv t (suc j) c) → goal
        go (inr z) d ih = on _ (cond-false _ _ _ z) (ih (more (λ y. absurd (both_ways _ z y))) none)
        go (inl z) d ih = by-do d
          where
            p : (mine j (r i) ≡ true) × (eqb (r i).date t ≡ true)
            p = and_parts _ _ z

            dt : (r i).date ≡ t
            dt = eqb-true _ _ p.1

            li : i < n
            li = omega arith

            told : asks (engine next answer knows r n L kp nk j T) (r i).tests b ≡ Some (do? i)
            told = row-asks next answer r a n L basis ok (engine next answer knows r n L kp nk j T) b i (j / 2) (b.places (j / 2)) (omega arith) (mine-says j (r i) p.0).near (λ t. refl)
                (λ x. v.pl (j / 2) x ∙ cond-true _ _ _ (or_right _ _ (lt-ltb (2 * (j / 2)) (suc j) (omega arith))) ∙ ap (λ w. shown_at next answer r a n L basis ok w (j / 2) x) (sym dt))

            by-do : (do? i ≡ true) ⊎ (do? i ≡ false) → goal
            by-do (inr d) = on _ (cond-true _ _ _ z ∙ ap (λ o. row_turn (sh j) (engine next answer knows r n L kp nk j T) (oo j) t i o b (turn (sh j) (engine next answer knows r n L kp nk j T) (oo j) t (suc i) m b)) (told ∙ ap Some d)) (ih (more (λ _. d)) none)
            by-do (inl d) = on _ (cond-true _ _ _ z ∙ ap (λ o. row_turn (sh j) (engine next answer knows r n L kp nk j T) (oo j) t i o b (turn (sh j) (engine next answer knows r n L kp nk j T) (oo j) t (suc i) m b)) (told ∙ ap Some d)) (_, performs i li p.0 dt d none fb, performed-inv i li p.0 dt d none fb)

    -- the whole turn
    pub turned : UnitOk t false j (b.units j) → (c : Bench S) × (turn_at next answer knows r n L kp nk j T b ≡ Some c) × Inv t (suc j) c
    turned gj = go (busy_row t false j) refl
      where
        not-due : (W : ℕ) → t < W → (b.units j).at ≡ base + W → turn_at next answer knows r n L kp nk j T b ≡ Some b
        not-due W l e = cond-false _ _ _ (ne_eqb (b.units j).at T (λ z. omega (arith, e, z)))

        running : (k : ℕ) → busy_row t false j ≡ Some k → (k < n) × (busy_by t false j k ≡ true) → (c : Bench S) × (turn_at next answer knows r n L kp nk j T b ≡ Some c) × Inv t (suc j) c
        running k e (lk, z) =
            let x = busy-says t j k false z in
            let past : (r k).date < t = unit-past (r k).date t x.since in
            let q : Quiet = λ i li di mi ei. let same : i ≡ k = one_unit t j k i lk li x.doing di x.here mi (omega arith) (omega arith) x.till (omega (arith, ok.long i li)) in let dd : (r i).date ≡ (r k).date = ap (λ w. (r w).date) same in omega arith in
            let one : resume t false (busy_row t false j) ≡ ends (r k) = ap (resume t false) e in
            let two : resume t true (busy_row t true j) ≡ ends (r k) = ap (resume t true) (sym (busy-quiet q) ∙ e) in
            let w : wake_of t false j ≡ wake (sh j) (ends (r k)) = ap (wake (sh j)) one in
            (b, not-due (wake (sh j) (ends (r k))) (omega (arith, wake-le (sh j) (ends (r k)), x.till)) (gj.ga ∙ ap (λ y. base + y) w), idle gj q (inl (two ∙ sym one)))

        resting : busy_row t false j ≡ None → (is_date (sh j) t ≡ true) ⊎ (is_date (sh j) t ≡ false) → (c : Bench S) × (turn_at next answer knows r n L kp nk j T b ≡ Some c) × Inv t (suc j) c
        resting e (inr d) =
            let q : Quiet = λ i li di mi ei. both_ways (is_date (sh j) t) d (due-date (sh j) t i li (and_from _ _ mi (eq-eqb _ _ ei))) in
            let w : wake_of t false j ≡ wake (sh j) t = ap (λ o. wake (sh j) (resume t false o)) e in
            let w' : wake_of t true j ≡ wake (sh j) (suc t) = ap (λ o. wake (sh j) (resume t true o)) (sym (busy-quiet q) ∙ e) in
            let s : wake (sh j) t ≡ wake (sh j) (suc t) = wake-skip (sh j) t lt d in
            (b, not-due (wake (sh j) (suc t)) (wake-le (sh j) (suc t)) (gj.ga ∙ ap (λ y. base + y) (w ∙ s)), idle gj q (inr (w' ∙ sym s ∙ sym w)))
        resting e (inl d) = waking (walk (gj.gb ∙ ap (job_of j) e) n 0 (omega arith) (λ k l. absurd (omega arith)) e)
          where
            w : wake_of t false j ≡ t
            w = ap (λ o. wake (sh j) (resume t false o)) e ∙ wake-date (sh j) t lt d

            here : (b.units j).pc ≡ addr (sh j) (oo j) t
            here = gj.gp ∙ ap (target (sh j) (oo j)) w ∙ cond-true _ _ _ (lt-ltb t L lt)

            runs-it : turn_at next answer knows r n L kp nk j T b ≡ turn (sh j) (engine next answer knows r n L kp nk j T) (oo j) t 0 n b
            runs-it = cond-true _ _ _ (eq-eqb _ _ (gj.ga ∙ ap (λ y. base + y) w))
                ∙ cond-true _ _ _ (ap is_none (gj.gb ∙ ap (job_of j) e))
                ∙ ap (λ pc. exec (engine next answer knows r n L kp nk j T) (program r n L kp nk j) (suc (length (program r n L kp nk j))) pc b) here
                ∙ subst (λ o. exec (engine next answer knows r n L kp nk j T) (program r n L kp nk j) (suc (length (program r n L kp nk j))) (addr (sh j) o t) b ≡ turn (sh j) (engine next answer knows r n L kp nk j T) o t 0 n b) (length-opening (sh j) (head_of kp nk j)) (layout-any (sh j) (opening (sh j) (head_of kp nk j)) t lt d (engine next answer knows r n L kp nk j T) b)

            waking : (c : Bench S) × (turn (sh j) (engine next answer knows r n L kp nk j T) (oo j) t 0 n b ≡ Some c) × Inv t (suc j) c → (c : Bench S) × (turn_at next answer knows r n L kp nk j T b ≡ Some c) × Inv t (suc j) c
            waking (c, z, y) = (c, runs-it ∙ z, y)

        go : (o : Option ℕ) → busy_row t false j ≡ o → (c : Bench S) × (turn_at next answer knows r n L kp nk j T b ≡ Some c) × Inv t (suc j) c
        go None e = resting e (cases_Bool (is_date (sh j) t))
        go (Some k) e = running k e (from (pick_inv (busy_by t false j) (λ k. k) n k e))
          where
            from : (i : ℕ) × (i < n) × (busy_by t false j i ≡ true) × (i ≡ k) → (k < n) × (busy_by t false j k ≡ true)
            from (i, li, z, y) = (omega arith, ap (busy_by t false j) (sym y) ∙ z)

  unit-on : (t u : ℕ) (hd : Bool) (g : UnitState) → 0 < t → UnitIs t hd u g → UnitOk t hd u g
  unit-on zero u hd g l h = absurd (omega arith)
  unit-on (suc t) u hd g l h = h

  -- a unit's turn after the cycle's first tick
  turned_on : (t j : ℕ) → 0 < t → t < L → j < 2 * stations → (b : Bench S) → Inv t j b → (c : Bench S) × (turn_at next answer knows r n L kp nk j (base + t) b ≡ Some c) × Inv t (suc j) c
  turned_on t j pos lt lj b v = turned t j lt lj b
      (record { pl = λ s x. v.pl s x ∙ cond-true _ _ _ (opn s) ∙ sym (cond-true _ _ _ (opn' s)); cl = λ m. v.cl m ∙ cond-true _ _ _ (opn (kp m).st) ∙ sym (cond-true _ _ _ (opn' (kp m).st)); st = v.st; gr = λ u lu ne. v.gr u lu; ln = v.ln; mk = v.mk })
      (unit-on t j false (b.units j) pos (subst (λ hd. UnitIs t hd j (b.units j)) (le-ltb j j (omega arith)) (v.gr j lj)))
    where
      opn : (s : ℕ) → open? t j s ≡ true
      opn s = or_left _ _ (lt-ltb 0 t pos)

      opn' : (s : ℕ) → open? t (suc j) s ≡ true
      opn' s = or_left _ _ (lt-ltb 0 t pos)

  none-begun : (d o : ℕ) → (ltb d 0 || (eqb d 0 && ltb o 0)) ≡ false
  none-begun d o = grind (arith, nat_tests)

  none-begun' : (d : ℕ) → (ltb d 0 || (eqb d 0 && false)) ≡ false
  none-begun' d = grind (arith, nat_tests)

  none-at-0 : (u : ℕ) → busy_row 0 false u ≡ None
  none-at-0 u = pick-none (busy_by 0 false u) (λ k. k) n (λ k l. and_right _ _ (and_left _ _ (none-begun' (r k).date)))

  shown0 : (s x : ℕ) → shown_at next answer r a n L basis ok 0 s x ≡ a.places s x
  shown0 s x = go (a.places s x) refl
    where
      nothing : anyb (λ k. puts next answer r a n L basis ok s x k && leb (ends (r k)) 0) n ≡ false
      nothing = any-miss _ n (λ k l. and_right _ _ (lt-leb (ends (r k)) 0 (omega (arith, ok.long k l))))

      go : (w : Option ℕ) → a.places s x ≡ w → shown_at next answer r a n L basis ok 0 s x ≡ w
      go None e = cond-false _ _ _ (ap₂ (λ p q. not (is_none p) || q) e nothing)
      go (Some w) e = shown-some next answer r a n L basis ok 0 s x w (held_start next answer r a n L basis ok 0 s x w e) (start-val next answer r a n L basis ok s x w e)

  still_open : (j s : ℕ) → (2 * s ≡ j → ⊥) → open? 0 j s ≡ open? 0 (suc j) s
  still_open j s ne = go (2 * s) j ne
    where
      go : (a j : ℕ) → (a ≡ j → ⊥) → (ltb 0 0 || ltb a j) ≡ (ltb 0 0 || ltb a (suc j))
      go a j h = grind (arith, nat_tests)

  not-open : (j s : ℕ) → 2 * s ≡ j → open? 0 j s ≡ false
  not-open j s e = go (2 * s) j e
    where
      go : (a j : ℕ) → a ≡ j → (ltb 0 0 || ltb a j) ≡ false
      go a j h = grind (arith, nat_tests)

  now-open : (t j s : ℕ) → 2 * s < j → open? t j s ≡ true
  now-open t j s l = or_right _ _ (lt-ltb (2 * s) j l)

  -- a unit's turn in the cycle's first tick
  module _ (j : ℕ) (lj : j < 2 * stations) (b : Bench S) (v : Inv 0 j b) where
    g0 : UnitIs 0 false j (b.units j)
    g0 = subst (λ hd. UnitIs 0 hd j (b.units j)) (le-ltb j j (omega arith)) (v.gr j lj)

    abbrev eng : Engine (Bench S)
    eng = engine next answer knows r n L kp nk j (base + 0)

    runs-0 : turn_at next answer knows r n L kp nk j (base + 0) b ≡ turn (sh j) eng (oo j) 0 0 n (cond (not (is_line j)) (prepared next answer knows r n L kp nk (j / 2) b) b)
    runs-0 = cond-true _ _ _ (eq-eqb _ _ (g0.0 ∙ omega arith)) ∙ cond-true _ _ _ (ap is_none g0.2)
        ∙ ap (λ pc. exec eng (program r n L kp nk j) (suc (length (program r n L kp nk j))) pc b) g0.1
        ∙ opening-any (sh j) (head_of kp nk j) (head_plain kp nk j) pos_l eng b
        ∙ ap (turn (sh j) eng (oo j) 0 0 n) (head-runs next answer knows r n L kp nk j (base + 0) b)

    goes_on : (d : Bench S) → cond (not (is_line j)) (prepared next answer knows r n L kp nk (j / 2) b) b ≡ d → Pre 0 j d → (d.units j).busy ≡ None
        → (c : Bench S) × (turn_at next answer knows r n L kp nk j (base + 0) b ≡ Some c) × Inv 0 (suc j) c
    goes_on d e p f = on (walk 0 j pos_l lj d p f n 0 (omega arith) (λ k l. absurd (omega arith)) (none-at-0 j))
      where
        on : (c : Bench S) × (turn (sh j) eng (oo j) 0 0 n d ≡ Some c) × Inv 0 (suc j) c → (c : Bench S) × (turn_at next answer knows r n L kp nk j (base + 0) b ≡ Some c) × Inv 0 (suc j) c
        on (c, z, w) = (c, runs-0 ∙ ap (turn (sh j) eng (oo j) 0 0 n) e ∙ z, w)

    line-pre : j % 2 ≡ 1 → Pre 0 j b
    line-pre odd = record {
      pl = λ s x. v.pl s x ∙ ap (λ w. cond w (shown_at next answer r a n L basis ok 0 s x) (prev s x)) (still_open j s (λ e. omega arith));
      cl = λ m. v.cl m ∙ ap (λ w. cond w (c1 m) (c0 m)) (still_open j (kp m).st (λ e. omega arith));
      st = v.st;
      gr = λ u lu ne. v.gr u lu;
      ln = v.ln;
      mk = v.mk;
    }

    module _ (even : 2 * (j / 2) ≡ j) where
      abbrev s0 : ℕ
      s0 = j / 2

      old-place : (x : ℕ) → b.places s0 x ≡ prev s0 x
      old-place x = v.pl s0 x ∙ cond-false _ _ _ (not-open j s0 even)

      new-cell : (m : ℕ) → (kp m).st ≡ s0 → cells_at next answer knows r n L kp nk s0 b m ≡ c1 m
      new-cell m e = cond-true _ _ _ (eq-eqb _ _ e) ∙ ap₂ (λ p q. cond (ltb m nk) (take_in p q) q) (ap (λ w. b.places w (kp m).from) e ∙ old-place (kp m).from ∙ ap (λ w. prev w (kp m).from) (sym e)) (v.cl m ∙ cond-false _ _ _ (ap (open? 0 j) e ∙ not-open j s0 even))

      work-pre : Pre 0 j (prepared next answer knows r n L kp nk s0 b)
      work-pre = record {
        pl = λ s x. ⊎_elim (here s x) (λ ne. cond-false _ _ _ (ne_eqb _ _ ne) ∙ v.pl s x ∙ ap (λ w. cond w (shown_at next answer r a n L basis ok 0 s x) (prev s x)) (still_open j s (λ e. ne (omega arith)))) (cases_eq s0 s);
        cl = λ m. ⊎_elim (λ e. new-cell m e ∙ sym (cond-true _ _ _ (now-open 0 (suc j) (kp m).st (omega (arith, e))))) (λ ne. cond-false _ _ _ (ne_eqb _ _ ne) ∙ v.cl m ∙ ap (λ w. cond w (c1 m) (c0 m)) (still_open j (kp m).st (λ e. ne (omega arith)))) (cases_eq (kp m).st s0);
        st = v.st;
        gr = λ u lu ne. v.gr u lu;
        ln = v.ln;
        mk = v.mk;
      }
        where
          here : (s x : ℕ) → s0 ≡ s → cond (eqb s0 s) (start_of kp nk (cells_at next answer knows r n L kp nk s0 b) s0 x) (b.places s x) ≡ place_at 0 (suc j) s x
          here s x e = cond-true _ _ _ (eq-eqb _ _ e)
              ∙ pick-cong _ (λ m. or_first (cells_at next answer knows r n L kp nk s0 b m) (kp m).first) (λ m. or_first (c1 m) (kp m).first) nk (λ m l q. ap (λ w. or_first w (kp m).first) (new-cell m (eqb-true _ _ (and_parts (eqb (kp m).st s0) _ q).0)))
              ∙ sym (ea s0 x) ∙ sym (shown0 s0 x) ∙ ap (λ w. shown_at next answer r a n L basis ok 0 w x) e ∙ sym (cond-true _ _ _ (now-open 0 (suc j) s (omega (arith, e))))

    turned-0 : (c : Bench S) × (turn_at next answer knows r n L kp nk j (base + 0) b ≡ Some c) × Inv 0 (suc j) c
    turned-0 = go (cases_Bool (is_line j))
      where
        go : (is_line j ≡ true) ⊎ (is_line j ≡ false) → (c : Bench S) × (turn_at next answer knows r n L kp nk j (base + 0) b ≡ Some c) × Inv 0 (suc j) c
        go (inl q) = goes_on b (cond-false _ _ _ (ap not q)) (line-pre (eqb-true _ _ q)) g0.2
        go (inr q) = goes_on _ (cond-true _ _ _ (ap not q)) (work-pre (let ne : j % 2 ≡ 1 → ⊥ = eqb-false _ _ q in omega arith)) g0.2

  turned-any : (t j : ℕ) → t < L → j < 2 * stations → (b : Bench S) → Inv t j b → (c : Bench S) × (turn_at next answer knows r n L kp nk j (base + t) b ≡ Some c) × Inv t (suc j) c
  turned-any zero j lt lj b v = turned-0 j lj b v
  turned-any (suc t) j lt lj b v = turned_on (suc t) j (omega arith) lt lj b v

  -- THE FIRST PART of tick t
  pub first_part : (t m : ℕ) → t < L → m ≤ 2 * stations → (b : Bench S) → Inv t 0 b → (c : Bench S) × (first_to next answer knows r n L kp nk (base + t) m b ≡ Some c) × Inv t m c
  unfolding first_to
  first_part t zero lt lm b v = (b, refl, v)
  first_part t (suc m) lt lm b v = go (first_part t m lt (omega arith) b v)
    where
      go : (c : Bench S) × (first_to next answer knows r n L kp nk (base + t) m b ≡ Some c) × Inv t m c → (c : Bench S) × (first_to next answer knows r n L kp nk (base + t) (suc m) b ≡ Some c) × Inv t (suc m) c
      go (c, z, y) = on (turned-any t m lt lm c y)
        where
          on : (d : Bench S) × (turn_at next answer knows r n L kp nk m (base + t) c ≡ Some d) × Inv t (suc m) d → (d : Bench S) × (first_to next answer knows r n L kp nk (base + t) (suc m) b ≡ Some d) × Inv t (suc m) d
          on (d, x, w) = (d, ap (λ o. bind o (turn_at next answer knows r n L kp nk m (base + t))) z ∙ x, w)

  -- THE SECOND PART: units below j have settled
  abbrev lands : ℕ → ℕ → ℕ → ℕ → Bool
  lands t j s k = leb (ends (r k)) t || (eqb (ends (r k)) (suc t) && ltb (2 * s + cond (r k).sends 1 0) j)

  abbrev puts? : ℕ → ℕ → ℕ → Bool
  puts? s x k = puts next answer r a n L basis ok s x k

  abbrev mid_held : ℕ → ℕ → ℕ → ℕ → Bool
  mid_held t j s x = not (is_none (a.places s x)) || anyb (λ k. puts? s x k && lands t j s k) n

  abbrev V? : ℕ → Option ℕ
  V? = V next answer r a n L basis ok

  abbrev mid_shown : ℕ → ℕ → ℕ → ℕ → Option ℕ
  mid_shown t j s x = cond (mid_held t j s x) (V? x) None

  record Mid (t j : ℕ) (b : Bench S) : Type 0 where
    pl : (s x : ℕ) → b.places s x ≡ mid_shown t j s x
    cl : (m : ℕ) → b.cells m ≡ c1 m
    st : b.plant ≡ plant_at t (2 * stations)
    lo : (u : ℕ) → u < 2 * stations → u < j → UnitOk (suc t) false u (b.units u)
    hi : (u : ℕ) → u < 2 * stations → j ≤ u → UnitOk t true u (b.units u)
    ln : b.line ≡ msg_of (pick (line_by t (2 * stations)) (λ k. k) n)
    mk : (k : ℕ) → k < n → b.mark k ≡ mark_at t (2 * stations) k

  -- which row lands at unit j
  lands-mine : (t j s x k : ℕ) → k < n → puts? s x k ≡ true → 2 * s + cond (r k).sends 1 0 ≡ j → (do? k ≡ true) × (mine j (r k) ≡ true) × (s ≡ j / 2) × ((r k).out ≡ x)
  lands-mine t j s x k l p e = go (cases_Bool (r k).sends) (and_parts (do? k) _ p)
    where
      go : ((r k).sends ≡ true) ⊎ ((r k).sends ≡ false) → (do? k ≡ true) × (reaches (r k) s && eqb (r k).out x ≡ true) → (do? k ≡ true) × (mine j (r k) ≡ true) × (s ≡ j / 2) × ((r k).out ≡ x)
      go (inl q) (d, z) =
          let y = and_parts (reaches (r k) s) _ z in
          let c : ◌≡◌ {A = ℕ} (cond (r k).sends 1 0) 1 = cond-true _ _ _ q in
          let m : j % 2 ≡ 1 = omega arith in
          let h : s ≡ j / 2 = omega arith in
          let ear : (r k).listeners (j / 2) ≡ true = ap (r k).listeners (sym h) ∙ sym (cond-true (r k).sends _ _ q) ∙ y.0 in
          (d, cond-true (is_line j) _ _ (eq-eqb _ _ m) ∙ and_from _ _ q (or_right _ _ ear), h, eqb-true _ _ y.1)
      go (inr q) (d, z) =
          let y = and_parts (reaches (r k) s) _ z in
          let c : ◌≡◌ {A = ℕ} (cond (r k).sends 1 0) 0 = cond-false _ _ _ q in
          let m : j % 2 ≡ 1 → ⊥ = λ w. omega arith in
          let h : s ≡ j / 2 = omega arith in
          let home : (r k).st ≡ s = eqb-true _ _ (sym (cond-false (r k).sends _ _ q) ∙ y.0) in
          (d, cond-false (is_line j) _ _ (ne_eqb _ _ m) ∙ and_from _ _ (not_from_false _ q) (eq-eqb _ _ (home ∙ h)), h, eqb-true _ _ y.1)

  lands-next : (e t o j : ℕ) → (e ≡ suc t → o ≡ j → ⊥) → (leb e t || (eqb e (suc t) && ltb o j)) ≡ (leb e t || (eqb e (suc t) && ltb o (suc j)))
  lands-next e t o j h = grind (arith, nat_tests)

  lands-now : (e t o j : ℕ) → e ≡ suc t → o ≡ j → (leb e t || (eqb e (suc t) && ltb o (suc j))) ≡ true
  lands-now e t o j p q = grind (arith, nat_tests)

  mid-same : (t j s x : ℕ) → ((k : ℕ) → k < n → puts? s x k ≡ true → ends (r k) ≡ suc t → 2 * s + cond (r k).sends 1 0 ≡ j → ⊥) → mid_shown t j s x ≡ mid_shown t (suc j) s x
  mid-same t j s x h = ap (λ w. cond (not (is_none (a.places s x)) || w) (V? x) None) (any_same _ _ n (λ k l. go k l (cases_Bool (puts? s x k))))
    where
      go : (k : ℕ) → k < n → (puts? s x k ≡ true) ⊎ (puts? s x k ≡ false) → puts? s x k && lands t j s k ≡ puts? s x k && lands t (suc j) s k
      go k l (inl q) = ap (λ w. puts? s x k && w) (lands-next (ends (r k)) t (2 * s + cond (r k).sends 1 0) j (h k l q))
      go k l (inr q) = and_left _ _ q ∙ sym (and_left _ _ q)

  unit-after : (d t : ℕ) → (ltb d t || (eqb d t && true)) ≡ (ltb d (suc t) || (eqb d (suc t) && false))
  unit-after d t = grind (arith, nat_tests)

  stay : (t u k : ℕ) → busy_by t true u k ≡ true → (ends (r k) ≡ suc t → ⊥) → busy_by (suc t) false u k ≡ true
  stay t u k z ne = let x = busy-says t u k true z in busy-from (suc t) u k false x.doing x.here (sym (unit-after (r k).date t) ∙ x.since) (omega (arith, x.till, ne))

  was : (t u k : ℕ) → busy_by (suc t) false u k ≡ true → (busy_by t true u k ≡ true) × (suc t < ends (r k))
  was t u k z = let x = busy-says (suc t) u k false z in (busy-from t u k true x.doing x.here (unit-after (r k).date t ∙ x.since) (omega (arith, x.till)), x.till)

  no_row : (t u : ℕ) → ((k : ℕ) → k < n → busy_by (suc t) false u k ≡ true → ⊥) → busy_row (suc t) false u ≡ None
  no_row t u h = pick-none (busy_by (suc t) false u) (λ k. k) n (λ k l. ⊎_elim (λ z. absurd (h k l z)) (λ z. z) (cases_Bool (busy_by (suc t) false u k)))

  abbrev Going : ℕ → ℕ → ℕ → Type 0
  Going t u k = (k < n) × (busy_by t true u k ≡ true) × (busy_row t true u ≡ Some k)

  abbrev Next : ℕ → ℕ → Type 0
  Next t u = ((k : ℕ) × Going t u k × (((ends (r k) ≡ suc t) × (busy_row (suc t) false u ≡ None)) ⊎ ((ends (r k) ≡ suc t → ⊥) × (busy_row (suc t) false u ≡ Some k))))
      ⊎ (((k : ℕ) → k < n → busy_by t true u k ≡ false) × (busy_row t true u ≡ None) × (busy_row (suc t) false u ≡ None))

  next_row : (t u : ℕ) → Next t u
  next_row t u = go (find (busy_by t true u) n)
    where
      go : ((j : ℕ) × (j < n) × (busy_by t true u j ≡ true)) ⊎ ((k : ℕ) → k < n → busy_by t true u k ≡ false) → Next t u
      go (inr h) = inr (h, pick-none (busy_by t true u) (λ k. k) n h, no_row t u (λ k l z. both_ways _ (h k l) (was t u k z).0))
      go (inl (k, l, z)) = inl (k, (l, z, pick_some (busy_by t true u) (λ k. k) n k l z (λ i m y. busy-one t u k i true l m z y)), by_end (cases_eq (ends (r k)) (suc t)))
        where
          by_end : (ends (r k) ≡ suc t) ⊎ (ends (r k) ≡ suc t → ⊥) → ((ends (r k) ≡ suc t) × (busy_row (suc t) false u ≡ None)) ⊎ ((ends (r k) ≡ suc t → ⊥) × (busy_row (suc t) false u ≡ Some k))
          by_end (inr ne) = inr (ne, pick_some (busy_by (suc t) false u) (λ k. k) n k l (stay t u k z ne) (λ i m y. busy-one (suc t) u k i false l m (stay t u k z ne) y))
          by_end (inl e) = inl (e, no_row t u gone)
            where
              gone : (i : ℕ) → i < n → busy_by (suc t) false u i ≡ true → ⊥
              gone i m y =
                  let w = was t u i y in
                  let same : i ≡ k = busy-one t u k i true l m z w.0 in
                  let ee : ends (r i) ≡ ends (r k) = ap (λ x. ends (r x)) same in
                  omega (arith, w.1)

  -- after the tick a unit waits for the same date
  resume-same : (t u : ℕ) → resume t true (busy_row t true u) ≡ resume (suc t) false (busy_row (suc t) false u)
  resume-same t u = go (next_row t u)
    where
      go : Next t u → resume t true (busy_row t true u) ≡ resume (suc t) false (busy_row (suc t) false u)
      go (inr (h, e, f)) = ap (resume t true) e ∙ sym (ap (resume (suc t) false) f)
      go (inl (k, (l, z, e), inl (y, f))) = ap (resume t true) e ∙ y ∙ sym (ap (resume (suc t) false) f)
      go (inl (k, (l, z, e), inr (y, f))) = ap (resume t true) e ∙ sym (ap (resume (suc t) false) f)

  unit-onward : (t u : ℕ) (g : UnitState) (o : Option Job) → UnitOk t true u g → o ≡ job_of u (busy_row (suc t) false u) → UnitOk (suc t) false u (record { at = g.at; pc = g.pc; busy = o })
  unit-onward t u g o h e = record { ga = h.ga ∙ ap (λ w. base + wake (sh u) w) (resume-same t u); gp = h.gp ∙ ap (λ w. target (sh u) (oo u) (wake (sh u) w)) (resume-same t u); gb = e }

  -- a row that lands at unit j now is what the unit is busy with
  lands-busy : (t j s x k : ℕ) → k < n → puts? s x k ≡ true → ends (r k) ≡ suc t → 2 * s + cond (r k).sends 1 0 ≡ j → busy_by t true j k ≡ true
  lands-busy t j s x k l p e o = let m = lands-mine t j s x k l p o in busy-from t j k true m.0 m.1 (begun (r k).date t (omega (arith, ok.long k l))) (omega arith)
    where
      begun : (d t : ℕ) → d ≤ t → (ltb d t || (eqb d t && true)) ≡ true
      begun d t h = grind (arith, nat_tests)

  module _ (t j : ℕ) (lj : j < 2 * stations) (b : Bench S) (v : Mid t j b) where
    abbrev T' : ℕ
    T' = base + suc t

    hj : UnitOk t true j (b.units j)
    hj = v.hi j lj (omega arith)

    moved : (c : Bench S) → ((s x : ℕ) → c.places s x ≡ mid_shown t (suc j) s x) → ((m : ℕ) → c.cells m ≡ b.cells m) → c.plant ≡ b.plant → c.line ≡ b.line → ((k : ℕ) → c.mark k ≡ b.mark k)
        → ((u : ℕ) → (u ≡ j → ⊥) → c.units u ≡ b.units u) → UnitOk (suc t) false j (c.units j) → Mid t (suc j) c
    moved c p w s l m g h = record {
      pl = p;
      cl = λ m. w m ∙ v.cl m;
      st = s ∙ v.st;
      lo = λ u lu k. ⊎_elim (λ e. subst (λ w. UnitOk (suc t) false w (c.units w)) (sym e) h) (λ ne. subst (UnitOk (suc t) false u) (sym (g u ne)) (v.lo u lu (omega arith))) (cases_eq u j);
      hi = λ u lu k. subst (UnitOk t true u) (sym (g u (λ e. omega arith))) (v.hi u lu (omega arith));
      ln = l ∙ v.ln;
      mk = λ k l. m k ∙ v.mk k l;
    }

    stays : ((k : ℕ) → k < n → busy_by t true j k ≡ true → ends (r k) ≡ suc t → ⊥) → (b.units j).busy ≡ job_of j (busy_row (suc t) false j) → Mid t (suc j) b
    stays h e = moved b (λ s x. v.pl s x ∙ mid-same t j s x (λ k l p y o. h k l (lands-busy t j s x k l p y o) y)) (λ m. refl) refl refl (λ k. refl) (λ u ne. refl) (unit-onward t j (b.units j) (b.units j).busy hj e)

    -- storing what row k gives
    module _ (k : ℕ) (l : k < n) (z : busy_by t true j k ≡ true) (en : ends (r k) ≡ suc t) (gone : busy_row (suc t) false j ≡ None) where
      x : Runs t j k true
      x = busy-says t j k true z

      only-k : (i : ℕ) → i < n → busy_by t true j i ≡ true → i ≡ k
      only-k i li y = busy-one t j k i true l li z y

      freed-unit : UnitOk (suc t) false j (cond (eqb j j) (record { at = (b.units j).at; pc = (b.units j).pc; busy = None }) (b.units j))
      freed-unit = subst (UnitOk (suc t) false j) (sym (cond-true _ _ _ (eq-eqb j j refl))) (unit-onward t j (b.units j) None hj (sym (ap (job_of j) gone)))

      stores : reaches (r k) (j / 2) ≡ true → 2 * (j / 2) + cond (r k).sends 1 0 ≡ j → Mid t (suc j) (store next answer knows r n L kp nk j k (word next answer r a k) b)
      stores re oj = moved _ places (λ m. refl) refl refl (λ k. refl) (λ u ne. cond-false _ _ _ (ne_eqb _ _ (λ e. ne (sym e)))) freed-unit
        where
          places : (s y : ℕ) → cond (eqb (j / 2) s && eqb (r k).out y) (Some (word next answer r a k)) (b.places s y) ≡ mid_shown t (suc j) s y
          places s y = ⊎_elim hit miss (cases_Bool (eqb (j / 2) s && eqb (r k).out y))
            where
              hit : eqb (j / 2) s && eqb (r k).out y ≡ true → cond (eqb (j / 2) s && eqb (r k).out y) (Some (word next answer r a k)) (b.places s y) ≡ mid_shown t (suc j) s y
              hit q =
                  let p = and_parts (eqb (j / 2) s) _ q in
                  let es : j / 2 ≡ s = eqb-true _ _ p.0 in
                  let ey : (r k).out ≡ y = eqb-true _ _ p.1 in
                  let pk : puts? s y k ≡ true = and_from _ _ x.doing (and_from _ _ (ap (reaches (r k)) (sym es) ∙ re) p.1) in
                  let ok2 : 2 * s + cond (r k).sends 1 0 ≡ j = ap (λ w. 2 * w + cond (r k).sends 1 0) (sym es) ∙ oj in
                  cond-true _ _ _ q ∙ sym (ap V? (sym ey) ∙ word-final next answer r a n L basis ok k l x.doing)
                  ∙ sym (cond-true _ _ _ (or_right _ _ (any-hit (λ i. puts? s y i && lands t (suc j) s i) n k l (and_from _ _ pk (lands-now (ends (r k)) t (2 * s + cond (r k).sends 1 0) j en ok2)))))

              miss : eqb (j / 2) s && eqb (r k).out y ≡ false → cond (eqb (j / 2) s && eqb (r k).out y) (Some (word next answer r a k)) (b.places s y) ≡ mid_shown t (suc j) s y
              miss q = cond-false _ _ _ q ∙ v.pl s y ∙ mid-same t j s y none
                where
                  none : (i : ℕ) → i < n → puts? s y i ≡ true → ends (r i) ≡ suc t → 2 * s + cond (r i).sends 1 0 ≡ j → ⊥
                  none i li p e o =
                      let m = lands-mine t j s y i li p o in
                      let same : i ≡ k = only-k i li (lands-busy t j s y i li p e o) in
                      both_ways _ q (and_from _ _ (eq-eqb _ _ (sym m.2)) (eq-eqb _ _ (ap (λ w. (r w).out) (sym same) ∙ m.3)))

      releases : reaches (r k) (j / 2) ≡ false → Mid t (suc j) (release next answer knows r n L kp nk j b)
      releases re = moved _ (λ s y. v.pl s y ∙ mid-same t j s y (none s y)) (λ m. refl) refl refl (λ k. refl) (λ u ne. cond-false _ _ _ (ne_eqb _ _ (λ e. ne (sym e)))) freed-unit
        where
          none : (s y i : ℕ) → i < n → puts? s y i ≡ true → ends (r i) ≡ suc t → 2 * s + cond (r i).sends 1 0 ≡ j → ⊥
          none s y i li p e o =
              let m = lands-mine t j s y i li p o in
              let same : i ≡ k = only-k i li (lands-busy t j s y i li p e o) in
              both_ways _ re (ap (λ w. reaches (r w) (j / 2)) (sym same) ∙ ap (reaches (r i)) (sym m.2) ∙ (and_parts (reaches (r i) s) _ (and_parts (do? i) _ p).1).0)

      -- the end of what unit j does
      landing : (q : Job) → q.row ≡ k → q.word ≡ cond (own next answer knows r n L kp nk j k) (word next answer r a k) 0 → (c : Bench S) × (land next answer knows r n L kp nk T' j q b ≡ Some c) × Mid t (suc j) c
      landing q ek ew = go (cases_Bool (is_line j)) (cases_Bool (own next answer knows r n L kp nk j k)) (mine-says j (r k) x.here)
        where
          my : Mine j (r k)
          my = mine-says j (r k) x.here

          row_at : (w : ℕ) → own next answer knows r n L kp nk j q.row ≡ own next answer knows r n L kp nk j k
          row_at w = ap (own next answer knows r n L kp nk j) ek

          go : (is_line j ≡ true) ⊎ (is_line j ≡ false) → (own next answer knows r n L kp nk j k ≡ true) ⊎ (own next answer knows r n L kp nk j k ≡ false) → Mine j (r k) → (c : Bench S) × (land next answer knows r n L kp nk T' j q b ≡ Some c) × Mid t (suc j) c
          go (inl i) (inl o) m = (_, cond-true _ _ _ i ∙ cond-true _ _ _ (row_at 0 ∙ o), releases deaf)
            where
              deaf : reaches (r k) (j / 2) ≡ false
              deaf = cond-true _ _ _ (m.kind ∙ i) ∙ ap (r k).listeners (sym (own-station j (r k) (eqb-true _ _ o))) ∙ fit.elsewhere k l
          go (inl i) (inr o) m = (_, cond-true _ _ _ i ∙ cond-false _ _ _ (row_at 0 ∙ o) ∙ ap (λ w. heard next answer knows r n L kp nk b.line T' j w b) ek ∙ ap (λ w. heard next answer knows r n L kp nk w T' j k b) on_line ∙ cond-true _ _ _ (eq-eqb _ _ (ap (λ w. base + w) en)), stores hears (omega (arith, odd, bit)))
            where
              sk : (r k).sends ≡ true
              sk = m.kind ∙ i

              odd : j % 2 ≡ 1
              odd = eqb-true _ _ i

              bit : ◌≡◌ {A = ℕ} (cond (r k).sends 1 0) 1
              bit = cond-true _ _ _ sk

              hears : reaches (r k) (j / 2) ≡ true
              hears = cond-true _ _ _ sk ∙ ⊎_elim (λ e. absurd (eqb-false _ _ o (omega (arith, e, odd, bit)))) (λ e. e.1) m.near

              on_line : b.line ≡ Some (record { stop = base + ends (r k); word = word next answer r a k })
              on_line = v.ln ∙ ap msg_of (pick_some (line_by t (2 * stations)) (λ k. k) n k l mine-now one)
                where
                  all-begun : (d t o j : ℕ) → d ≤ t → o < j → (ltb d t || (eqb d t && ltb o j)) ≡ true
                  all-begun d t o j p q = grind (arith, nat_tests)

                  mine-now : line_by t (2 * stations) k ≡ true
                  mine-now = and_from _ _ (and_from _ _ x.doing sk) (and_from _ _ (all-begun (r k).date t (owner (r k)) (2 * stations) (unit-early _ _ _ x.since) (omega (arith, fit.stationed k l, bit))) (lt-ltb _ _ x.till))

                  one : (i : ℕ) → i < n → line_by t (2 * stations) i ≡ true → i ≡ k
                  one i li e =
                      let y = and_parts (do? i && (r i).sends) _ e in
                      let p = and_parts (do? i) _ y.0 in
                      let w = and_parts (own_begun t (2 * stations) i) _ y.1 in
                      one_line t k i l li x.doing p.0 sk p.1 (unit-early _ _ _ x.since) (own-early (r i).date t (owner (r i)) (2 * stations) w.0) x.till (ltb-true t (ends (r i)) w.1)
          go (inr i) o m = (_, cond-false _ _ _ i ∙ ap₂ (λ w z. Some (store next answer knows r n L kp nk j w z b)) ek (ew ∙ cond-true _ _ _ (eq-eqb _ _ (call-own j (r k) x.here ck))), stores at_home (omega (arith, even, bit)))
            where
              ck : (r k).sends ≡ false
              ck = m.kind ∙ i

              even : j % 2 ≡ 1 → ⊥
              even = eqb-false _ _ i

              bit : ◌≡◌ {A = ℕ} (cond (r k).sends 1 0) 0
              bit = cond-false _ _ _ ck

              at_home : reaches (r k) (j / 2) ≡ true
              at_home = cond-false _ _ _ ck ∙ eq-eqb _ _ (m.home ck)

    settled-unit : (c : Bench S) × (ended next answer knows r n L kp nk (b.units j).busy T' j b ≡ Some c) × Mid t (suc j) c
    settled-unit = go (next_row t j)
      where
        go : Next t j → (c : Bench S) × (ended next answer knows r n L kp nk (b.units j).busy T' j b ≡ Some c) × Mid t (suc j) c
        go (inr (h, e, f)) = (b, ap (λ o. ended next answer knows r n L kp nk o T' j b) (hj.gb ∙ ap (job_of j) e), stays (λ k l z y. both_ways _ (h k l) z) (hj.gb ∙ ap (job_of j) (e ∙ sym f)))
        go (inl (k, (l, z, e), inr (ne, f))) = (
          b,
          ap (λ o. ended next answer knows r n L kp nk o T' j b) (hj.gb ∙ ap (job_of j) e) ∙ cond-false _ _ _ (ne_eqb (base + ends (r k)) T' (λ y. ne (omega (arith, y)))),
          stays (λ i li y w. ne (ap (λ q. ends (r q)) (sym (busy-one t j k i true l li z y)) ∙ w)) (hj.gb ∙ ap (job_of j) (e ∙ sym f)),
        )
        go (inl (k, (l, z, e), inl (y, f))) = on (landing k l z y f (record { stop = base + ends (r k); row = k; word = cond (own next answer knows r n L kp nk j k) (word next answer r a k) 0 }) refl refl)
          where
            on : (c : Bench S) × (land next answer knows r n L kp nk T' j (record { stop = base + ends (r k); row = k; word = cond (own next answer knows r n L kp nk j k) (word next answer r a k) 0 }) b ≡ Some c) × Mid t (suc j) c
                → (c : Bench S) × (ended next answer knows r n L kp nk (b.units j).busy T' j b ≡ Some c) × Mid t (suc j) c
            on (c, p, m) = (c, ap (λ o. ended next answer knows r n L kp nk o T' j b) (hj.gb ∙ ap (job_of j) e) ∙ cond-true _ _ _ (eq-eqb _ _ (ap (λ w. base + w) y)) ∙ p, m)

  second-part : (t m : ℕ) → m ≤ 2 * stations → (b : Bench S) → Mid t 0 b → (c : Bench S) × (settle_to next answer knows r n L kp nk (base + suc t) m b ≡ Some c) × Mid t m c
  unfolding settle_to
  second-part t zero lm b v = (b, refl, v)
  second-part t (suc m) lm b v = go (second-part t m (omega arith) b v)
    where
      go : (c : Bench S) × (settle_to next answer knows r n L kp nk (base + suc t) m b ≡ Some c) × Mid t m c → (c : Bench S) × (settle_to next answer knows r n L kp nk (base + suc t) (suc m) b ≡ Some c) × Mid t (suc m) c
      go (c, z, y) = on (settled-unit t m lm c y)
        where
          on : (d : Bench S) × (ended next answer knows r n L kp nk (c.units m).busy (base + suc t) m c ≡ Some d) × Mid t (suc m) d → (d : Bench S) × (settle_to next answer knows r n L kp nk (base + suc t) (suc m) b ≡ Some d) × Mid t (suc m) d
          on (d, x, w) = (d, ap (λ o. bind o (λ c. ended next answer knows r n L kp nk (c.units m).busy (base + suc t) m c)) z ∙ x, w)

  -- FROM THE FIRST PART TO THE SECOND: all stations are open
  placed-all : (t s x : ℕ) → place_at t (2 * stations) s x ≡ shown_at next answer r a n L basis ok t s x
  placed-all t s x = go (cases_lt s stations) t
    where
      go : (s < stations) ⊎ (stations ≤ s) → (t : ℕ) → place_at t (2 * stations) s x ≡ shown_at next answer r a n L basis ok t s x
      go (inl l) t = cond-true _ _ _ (now-open t (2 * stations) s (omega arith))
      go (inr l) (suc t) = cond-true _ _ _ (or_left _ _ (lt-ltb 0 (suc t) (omega arith)))
      go (inr l) zero = cond-false _ _ _ (shut (2 * s) (2 * stations) (omega arith)) ∙ out s x l ∙ sym (shown0 s x ∙ ea s x ∙ pick-none _ _ nk nobody)
        where
          shut : (a j : ℕ) → j ≤ a → (ltb 0 0 || ltb a j) ≡ false
          shut a j h = grind (arith, nat_tests)

          nobody : (m : ℕ) → m < nk → eqb (kp m).st s && eqb (kp m).into x ≡ false
          nobody m lm = and_left _ _ (ne_eqb (kp m).st s (λ e. omega (arith, kin m lm, e)))

  celled-all : (t m : ℕ) → cell_at t (2 * stations) m ≡ c1 m
  celled-all t m = go (cases_Bool (ltb m nk))
    where
      go : (ltb m nk ≡ true) ⊎ (ltb m nk ≡ false) → cell_at t (2 * stations) m ≡ c1 m
      go (inl q) = cond-true _ _ _ (now-open t (2 * stations) (kp m).st (omega (arith, kin m (ltb-true _ _ q))))
      go (inr q) = ap (λ w. cond (open? t (2 * stations) (kp m).st) (c1 m) w) (sym (cond-false _ _ _ q)) ∙ both (open? t (2 * stations) (kp m).st) (c1 m)
        where
          both : (b : Bool) (w : Option ℕ) → cond b w w ≡ w
          both true w = refl
          both false w = refl

  to-mid : (t : ℕ) (b : Bench S) → Inv t (2 * stations) b → Mid t 0 b
  to-mid t b v = record {
    pl = λ s x. v.pl s x ∙ placed-all t s x ∙ ap (λ w. cond (not (is_none (a.places s x)) || w) (V? x) None) (any_same _ _ n (λ k l. ap (λ w. puts? s x k && w) (none_yet (ends (r k)) t (2 * s + cond (r k).sends 1 0))));
    cl = λ m. v.cl m ∙ celled-all t m;
    st = v.st;
    lo = λ u lu k. absurd (omega arith);
    hi = λ u lu k. had-unit t u (b.units u) (subst (λ hd. UnitIs t hd u (b.units u)) (lt-ltb u (2 * stations) lu) (v.gr u lu));
    ln = v.ln;
    mk = v.mk;
  }
    where
      none_yet : (e t o : ℕ) → leb e t ≡ (leb e t || (eqb e (suc t) && ltb o 0))
      none_yet e t o = grind (arith, nat_tests)

  own-after : (d t o j : ℕ) → o < j → (ltb d t || (eqb d t && ltb o j)) ≡ (ltb d (suc t) || (eqb d (suc t) && ltb o 0))
  own-after d t o j h = grind (arith, nat_tests)

  owner-in : (k : ℕ) → k < n → owner (r k) < 2 * stations
  owner-in k l = go (r k).sends refl
    where
      go : (b : Bool) → (r k).sends ≡ b → owner (r k) < 2 * stations
      go true q = let c : ◌≡◌ {A = ℕ} (cond (r k).sends 1 0) 1 = cond-true _ _ _ q in omega (arith, fit.stationed k l)
      go false q = let c : ◌≡◌ {A = ℕ} (cond (r k).sends 1 0) 0 = cond-false _ _ _ q in omega (arith, fit.stationed k l)

  begun-after : (t k : ℕ) → k < n → own_begun t (2 * stations) k ≡ own_begun (suc t) 0 k
  begun-after t k l = own-after (r k).date t (owner (r k)) (2 * stations) (owner-in k l)

  -- who lands is in the few_stations
  lander-in : (s x k : ℕ) → k < n → puts? s x k ≡ true → 2 * s + cond (r k).sends 1 0 < 2 * stations
  lander-in s x k l p = go (cases_Bool (r k).sends) (and_parts (reaches (r k) s) _ (and_parts (do? k) _ p).1).0
    where
      go : ((r k).sends ≡ true) ⊎ ((r k).sends ≡ false) → reaches (r k) s ≡ true → 2 * s + cond (r k).sends 1 0 < 2 * stations
      go (inl q) e = let c : ◌≡◌ {A = ℕ} (cond (r k).sends 1 0) 1 = cond-true _ _ _ q in let g : s < stations = fit.listening k s l (sym (cond-true _ _ _ q) ∙ e) in omega arith
      go (inr q) e = let c : ◌≡◌ {A = ℕ} (cond (r k).sends 1 0) 0 = cond-false _ _ _ q in let h : (r k).st ≡ s = eqb-true _ _ (sym (cond-false _ _ _ q) ∙ e) in omega (arith, fit.stationed k l)

  line-says : (t j k : ℕ) → line_by t j k ≡ true → (do? k ≡ true) × ((r k).sends ≡ true) × (own_begun t j k ≡ true) × (t < ends (r k))
  line-says t j k e =
      let y = and_parts (do? k && (r k).sends) _ e in
      let p = and_parts (do? k) _ y.0 in
      let w = and_parts (own_begun t j k) _ y.1 in
      (p.0, p.1, w.0, ltb-true t (ends (r k)) w.1)

  line-from : (t j k : ℕ) → do? k ≡ true → (r k).sends ≡ true → own_begun t j k ≡ true → t < ends (r k) → line_by t j k ≡ true
  line-from t j k d s b e = and_from _ _ (and_from _ _ d s) (and_from _ _ b (lt-ltb _ _ e))

  line-one : (t j i k : ℕ) → i < n → k < n → line_by t j i ≡ true → line_by t j k ≡ true → k ≡ i
  line-one t j i k li lk p q =
      let x = line-says t j i p in
      let y = line-says t j k q in
      one_line t i k li lk x.0 y.0 x.1 y.1 (own-early (r i).date t (owner (r i)) j x.2) (own-early (r k).date t (owner (r k)) j y.2) x.3 y.3

  line-left : (t : ℕ) → left next answer knows r n L kp nk (msg_of (pick (line_by t (2 * stations)) (λ k. k) n)) (base + suc t) ≡ msg_of (pick (line_by (suc t) 0) (λ k. k) n)
  line-left t = go (find (line_by t (2 * stations)) n)
    where
      U : ℕ
      U = 2 * stations

      before : (k : ℕ) → k < n → line_by (suc t) 0 k ≡ true → (line_by t (2 * stations) k ≡ true) × (suc t < ends (r k))
      before k l e = let y = line-says (suc t) 0 k e in (line-from t (2 * stations) k y.0 y.1 (begun-after t k l ∙ y.2) (omega (arith, y.3)), y.3)

      off : ((k : ℕ) → k < n → line_by (suc t) 0 k ≡ true → ⊥) → pick (line_by (suc t) 0) (λ k. k) n ≡ None
      off h = pick-none (line_by (suc t) 0) (λ k. k) n (λ k l. ⊎_elim (λ z. absurd (h k l z)) (λ z. z) (cases_Bool (line_by (suc t) 0 k)))

      go : ((j : ℕ) × (j < n) × (line_by t (2 * stations) j ≡ true)) ⊎ ((k : ℕ) → k < n → line_by t (2 * stations) k ≡ false)
          → left next answer knows r n L kp nk (msg_of (pick (line_by t (2 * stations)) (λ k. k) n)) (base + suc t) ≡ msg_of (pick (line_by (suc t) 0) (λ k. k) n)
      go (inr h) = ap (λ o. left next answer knows r n L kp nk (msg_of o) (base + suc t)) (pick-none (line_by t (2 * stations)) (λ k. k) n h) ∙ sym (ap msg_of (off (λ k l z. both_ways _ (h k l) (before k l z).0)))
      go (inl (k, l, z)) = ap (λ o. left next answer knows r n L kp nk (msg_of o) (base + suc t)) (pick_some (line_by t (2 * stations)) (λ k. k) n k l z (λ i m y. line-one t (2 * stations) k i l m z y)) ∙ by_end (cases_eq (ends (r k)) (suc t))
        where
          by_end : (ends (r k) ≡ suc t) ⊎ (ends (r k) ≡ suc t → ⊥) → left next answer knows r n L kp nk (msg_of (Some k)) (base + suc t) ≡ msg_of (pick (line_by (suc t) 0) (λ k. k) n)
          by_end (inl e) = cond-true _ _ _ (eq-eqb _ _ (ap (λ w. base + w) e)) ∙ sym (ap msg_of (off gone))
            where
              gone : (i : ℕ) → i < n → line_by (suc t) 0 i ≡ true → ⊥
              gone i m y =
                  let w = before i m y in
                  let same : i ≡ k = line-one t (2 * stations) k i l m z w.0 in
                  let ee : ends (r i) ≡ ends (r k) = ap (λ x. ends (r x)) same in
                  omega (arith, w.1)
          by_end (inr ne) = cond-false _ _ _ (ne_eqb (base + ends (r k)) (base + suc t) (λ y. ne (omega (arith, y)))) ∙ sym (ap msg_of (pick_some (line_by (suc t) 0) (λ k. k) n k l on (λ i m y. line-one (suc t) 0 k i l m on y)))
            where
              x : (do? k ≡ true) × ((r k).sends ≡ true) × (own_begun t (2 * stations) k ≡ true) × (t < ends (r k))
              x = line-says t (2 * stations) k z

              on : line_by (suc t) 0 k ≡ true
              on = line-from (suc t) 0 k x.0 x.1 (sym (begun-after t k l) ∙ x.2) (omega (arith, x.3, ne))

  finish : (t : ℕ) (b : Bench S) → Mid t (2 * stations) b → Inv (suc t) 0 (leave next answer knows r n L kp nk (base + suc t) b)
  finish t b v = record {
    pl = λ s x. v.pl s x ∙ ap (λ w. cond (not (is_none (a.places s x)) || w) (V? x) None) (any_same _ _ n (λ k l. landed s x k l (cases_Bool (puts? s x k)))) ∙ sym (cond-true _ _ _ (or_left _ _ (lt-ltb 0 (suc t) (omega arith))));
    cl = λ m. v.cl m ∙ sym (cond-true _ _ _ (or_left _ _ (lt-ltb 0 (suc t) (omega arith))));
    st = v.st ∙ same_set next answer law works (begun_calls t (2 * stations)) (begun_calls (suc t) 0) a.plant n (λ k l. ap (λ w. ((do? k && not (r k).sends) && ltb k n) && w) (begun-after t k l));
    gr = λ u lu. subst (λ hd. UnitOk (suc t) hd u (b.units u)) (sym (le-ltb u 0 (omega arith))) (v.lo u lu lu);
    ln = ap (λ o. left next answer knows r n L kp nk o (base + suc t)) v.ln ∙ line-left t;
    mk = λ k l. v.mk k l ∙ ap (λ w. cond (do? k && w) (marked next answer knows r n L kp nk base a k (old k)) (old k)) (begun-after t k l);
  }
    where
      all-landed : (e t o j : ℕ) → o < j → (leb e t || (eqb e (suc t) && ltb o j)) ≡ leb e (suc t)
      all-landed e t o j h = grind (arith, nat_tests)

      landed : (s x k : ℕ) → k < n → (puts? s x k ≡ true) ⊎ (puts? s x k ≡ false) → puts? s x k && lands t (2 * stations) s k ≡ puts? s x k && leb (ends (r k)) (suc t)
      landed s x k l (inr q) = and_left _ _ q ∙ sym (and_left _ _ q)
      landed s x k l (inl q) = ap (λ w. puts? s x k && w) (all-landed (ends (r k)) t (2 * s + cond (r k).sends 1 0) (2 * stations) (lander-in s x k l q))

  -- ONE TICK
  ticked : (t : ℕ) → t < L → (b : Bench S) → Inv t 0 b → (c : Bench S) × (tick next answer knows r n L kp nk (2 * stations) (base + t) b ≡ Some c) × Inv (suc t) 0 c
  ticked t lt b v = go (first_part t (2 * stations) lt (omega arith) b v)
    where
      e : suc (base + t) ≡ base + suc t
      e = omega arith

      go : (c : Bench S) × (first_to next answer knows r n L kp nk (base + t) (2 * stations) b ≡ Some c) × Inv t (2 * stations) c → (c : Bench S) × (tick next answer knows r n L kp nk (2 * stations) (base + t) b ≡ Some c) × Inv (suc t) 0 c
      go (c, z, y) = on (second-part t (2 * stations) (omega arith) c (to-mid t c y))
        where
          on : (d : Bench S) × (settle_to next answer knows r n L kp nk (base + suc t) (2 * stations) c ≡ Some d) × Mid t (2 * stations) d → (d : Bench S) × (tick next answer knows r n L kp nk (2 * stations) (base + t) b ≡ Some d) × Inv (suc t) 0 d
          on (d, x, w) = (
            leave next answer knows r n L kp nk (base + suc t) d,
            ap (λ o. bind o (λ c. bind (settle_to next answer knows r n L kp nk (suc (base + t)) (2 * stations) c) (λ d. Some (leave next answer knows r n L kp nk (suc (base + t)) d)))) z
                ∙ ap (λ T. bind (settle_to next answer knows r n L kp nk T (2 * stations) c) (λ d. Some (leave next answer knows r n L kp nk T d))) e
                ∙ ap (λ o. bind o (λ d. Some (leave next answer knows r n L kp nk (base + suc t) d))) x,
            finish t d w,
          )

  all-ticks : (t : ℕ) → t ≤ L → (b : Bench S) → Inv 0 0 b → (c : Bench S) × (ticks next answer knows r n L kp nk (2 * stations) base t b ≡ Some c) × Inv t 0 c
  unfolding ticks
  all-ticks zero lt b v = (b, refl, v)
  all-ticks (suc t) lt b v = go (all-ticks t (omega arith) b v)
    where
      go : (c : Bench S) × (ticks next answer knows r n L kp nk (2 * stations) base t b ≡ Some c) × Inv t 0 c → (c : Bench S) × (ticks next answer knows r n L kp nk (2 * stations) base (suc t) b ≡ Some c) × Inv (suc t) 0 c
      go (c, z, y) = on (ticked t lt c y)
        where
          on : (d : Bench S) × (tick next answer knows r n L kp nk (2 * stations) (base + t) c ≡ Some d) × Inv (suc t) 0 d → (d : Bench S) × (ticks next answer knows r n L kp nk (2 * stations) base (suc t) b ≡ Some d) × Inv (suc t) 0 d
          on (d, x, w) = (d, ap (λ o. bind o (tick next answer knows r n L kp nk (2 * stations) (base + t))) z ∙ x, w)

  -- THE CYCLE'S BEGINNING AND END
  after_none : (D : ℕ → Bool) (s : S) (m : ℕ) → ((k : ℕ) → k < m → D k ≡ false) → after_begun next works D s m ≡ s
  unfolding after_begun
  after_none D s zero h = refl
  after_none D s (suc m) h = cond-false _ _ _ (h m (omega arith)) ∙ after_none D s m (λ k l. h k (omega arith))

  pub opens : (b : Bench S) → ((k : ℕ) → b.mark k ≡ old k) → ((s x : ℕ) → b.places s x ≡ prev s x) → ((m : ℕ) → b.cells m ≡ c0 m) → b.plant ≡ a.plant → Opened next answer knows r n L kp nk stations base b → Inv 0 0 b
  opens b em ep ec es o = record {
    pl = λ s x. ep s x ∙ sym (cond-false _ _ _ (shut (2 * s)));
    cl = λ m. ec m ∙ sym (cond-false _ _ _ (shut (2 * (kp m).st)));
    st = es ∙ sym (after_none (begun_calls 0 0) a.plant n (λ k l. and_right _ _ (none-begun (r k).date (owner (r k)))));
    gr = λ u lu. subst (λ hd. UnitIs 0 hd u (b.units u)) (sym (le-ltb u 0 (omega arith))) (o.at u lu, o.pc u lu, o.free u lu);
    ln = o.line ∙ sym (ap msg_of (pick-none (line_by 0 0) (λ k. k) n (λ k l. and_right _ _ (and_left _ _ (none-begun (r k).date (owner (r k)))))));
    mk = λ k l. em k ∙ sym (cond-false _ _ _ (and_right _ _ (none-begun (r k).date (owner (r k)))));
  }
    where
      shut : (x : ℕ) → (ltb 0 0 || ltb x 0) ≡ false
      shut x = grind (arith, nat_tests)

  plant-from : (m : ℕ) → (read_to next answer r a m).plant ≡ after_begun next works (λ k. do? k && not (r k).sends) a.plant m
  unfolding read_to after_begun
  plant-from zero = refl
  plant-from (suc m) = ap (λ p. cond (do? m && not (r m).sends) (next p (works m)) p) (plant-from m)

  pub record Ended (c : Bench S) : Type 0 where
    pub places : (s x : ℕ) → c.places s x ≡ (read_to next answer r a n).places s x
    pub cells : (m : ℕ) → c.cells m ≡ c1 m
    pub plant : c.plant ≡ (read_to next answer r a n).plant
    pub mark : (k : ℕ) → k < n → c.mark k ≡ cond (do? k) (marked next answer knows r n L kp nk base a k (old k)) (old k)
    pub again : Opened next answer knows r n L kp nk stations (base + L) c

  pub closes : (c : Bench S) → Inv L 0 c → Ended c
  closes c v = record {
    places = λ s x. here s x ∙ at-end next answer r a n L basis ok s x;
    cells = λ m. v.cl m ∙ cond-true _ _ _ (or_left _ _ (lt-ltb 0 L pos_l));
    plant = v.st ∙ same_set next answer law works (begun_calls L 0) (λ k. do? k && not (r k).sends) a.plant n all ∙ sym (plant-from n);
    mark = λ k l. v.mk k l ∙ ap (λ x. cond x (marked next answer knows r n L kp nk base a k (old k)) (old k)) (front (do? k) (own_begun L 0 k) (begun k l));
    again = record {
      at = λ u lu. (g u lu).ga ∙ ap (λ w. base + w) (w u);
      pc = λ u lu. (g u lu).gp ∙ ap (target (sh u) (oo u)) (w u) ∙ cond-false _ _ _ (le-ltb L L (omega arith));
      free = λ u lu. (g u lu).gb ∙ ap (job_of u) (none u);
      line = v.ln ∙ ap msg_of (pick-none (line_by L 0) (λ k. k) n (λ k l. and_right (do? k && (r k).sends) _ (and_right (own_begun L 0 k) (ltb L (ends (r k))) (over k l))));
      out = λ s x ls. here s x ∙ empty s x ls;
    };
  }
    where
      here : (s x : ℕ) → c.places s x ≡ shown_at next answer r a n L basis ok L s x
      here s x = v.pl s x ∙ cond-true _ _ _ (or_left _ _ (lt-ltb 0 L pos_l))

      over : (k : ℕ) → k < n → ltb L (ends (r k)) ≡ false
      over k l = le-ltb L (ends (r k)) (ok.inside k l)

      begun : (k : ℕ) → k < n → own_begun L 0 k ≡ true
      begun k l = or_left _ _ (lt-ltb (r k).date L (omega (arith, ok.inside k l, ok.long k l)))

      front : (x y : Bool) → y ≡ true → x && y ≡ x
      front x y h = grind arith

      all : (k : ℕ) → k < n → begun_calls L 0 k ≡ do? k && not (r k).sends
      all k l = front _ _ (begun k l) ∙ front _ _ (lt-ltb k n l)

      none : (u : ℕ) → busy_row L false u ≡ None
      none u = pick-none (busy_by L false u) (λ k. k) n (λ k l. and_right (do? k && mine u (r k)) _ (and_right (unit_begun L false k) (ltb L (ends (r k))) (over k l)))

      w : (u : ℕ) → wake_of L false u ≡ L
      w u = ap (λ o. wake (sh u) (resume L false o)) (none u) ∙ wake-end (sh u)

      g : (u : ℕ) → u < 2 * stations → UnitOk L false u (c.units u)
      g u lu = unit-on L u false (c.units u) pos_l (subst (λ hd. UnitIs L hd u (c.units u)) (le-ltb u 0 (omega arith)) (v.gr u lu))

      -- nothing lands outside the few_stations
      empty : (s x : ℕ) → stations ≤ s → shown_at next answer r a n L basis ok L s x ≡ None
      empty s x ls = cond-false _ _ _ (ap₂ (λ p q. not (is_none p) || q) (ea s x ∙ pick-none _ _ nk nobody) (any-miss _ n nowhere))
        where
          nobody : (m : ℕ) → m < nk → eqb (kp m).st s && eqb (kp m).into x ≡ false
          nobody m lm = and_left _ _ (ne_eqb (kp m).st s (λ e. omega (arith, kin m lm, e)))

          nowhere : (k : ℕ) → k < n → puts? s x k && leb (ends (r k)) L ≡ false
          nowhere k lk = and_left _ _ (⊎_elim (λ p. absurd (omega (arith, lander-in s x k lk p))) (λ p. p) (cases_Bool (puts? s x k)))

pub cycle-stands : {S : Type 0} (next : S → Work → S) (answer : S → Work → ℕ) → Lawful S next answer → CyclePromise S next answer
cycle-stands {S} next answer law knows r n L kp nk stations base basis b pos_l kin ok fit o =
    go (all-ticks next answer law knows r n L kp nk stations base a basis ok fit b.mark b.places b.cells (λ s x. refl) kin o.out pos_l L (omega arith) b
    (opens next answer law knows r n L kp nk stations base a basis ok fit b.mark b.places b.cells (λ s x. refl) kin o.out pos_l b (λ k. refl) (λ s x. refl) (λ m. refl) refl o))
  where
    a : Now S
    a = began next answer knows r n L kp nk b

    go : (c : Bench S) × (ticks next answer knows r n L kp nk (2 * stations) base L b ≡ Some c) × Inv next answer law knows r n L kp nk stations base a basis ok fit b.mark b.places b.cells (λ s x. refl) kin o.out pos_l L 0 c
        → (c : Bench S) × (ticks next answer knows r n L kp nk (2 * stations) base L b ≡ Some c) × Closed next answer knows r n L kp nk stations base b c
    go (c, z, v) = (c, z, end (closes next answer law knows r n L kp nk stations base a basis ok fit b.mark b.places b.cells (λ s x. refl) kin o.out pos_l c v))
      where
        end : Ended next answer law knows r n L kp nk stations base a basis ok fit b.mark b.places b.cells (λ s x. refl) kin o.out pos_l c → Closed next answer knows r n L kp nk stations base b c
        end e = record { places = e.places; cells = e.cells; plant = e.plant; mark = e.mark; again = e.again }

pub dates-stand : {S : Type 0} (next : S → Work → S) (answer : S → Work → ℕ) → Lawful S next answer → DatePromise S next answer
dates-stand {S} next answer law knows r n L kp nk stations base basis b pos_l kin ok fit o t lt =
    go (all-ticks next answer law knows r n L kp nk stations base a basis ok fit b.mark b.places b.cells (λ s x. refl) kin o.out pos_l t lt b
    (opens next answer law knows r n L kp nk stations base a basis ok fit b.mark b.places b.cells (λ s x. refl) kin o.out pos_l b (λ k. refl) (λ s x. refl) (λ m. refl) refl o))
  where
    a : Now S
    a = began next answer knows r n L kp nk b

    plain : (d t o : ℕ) → (ltb d t || (eqb d t && ltb o 0)) ≡ ltb d t
    plain d t o = grind (arith, nat_tests)

    go : (c : Bench S) × (ticks next answer knows r n L kp nk (2 * stations) base t b ≡ Some c) × Inv next answer law knows r n L kp nk stations base a basis ok fit b.mark b.places b.cells (λ s x. refl) kin o.out pos_l t 0 c
        → (c : Bench S) × (ticks next answer knows r n L kp nk (2 * stations) base t b ≡ Some c)
        × ((k : ℕ) → k < n → c.mark k ≡ cond (did next answer r a k && ltb (r k).date t) (marked next answer knows r n L kp nk base a k (b.mark k)) (b.mark k))
    go (c, z, v) = (c, z, λ k l. v.mk k l ∙ ap (λ w. cond (did next answer r a k && w) (marked next answer knows r n L kp nk base a k (b.mark k)) (b.mark k)) (plain (r k).date t (owner (r k))))
