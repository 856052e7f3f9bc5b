-- A unit that is woken does the turn of its date.
use Rattle.std.proofs.Common.{◌≡◌, ℕ, zero, suc, ◌+◌, ◌-◌, ◌%◌, ◌<◌, ◌≤◌, Bool, true, false, cond, not, ◌&&◌, eqb, ltb, ◌⊎◌, List, [], ◌∷◌, ◌++◌, map, length, get_or, Some, Option, sym, refl, ap, ◌∙◌, subst, ap₂, inl, inr, append_assoc, append-nil, arith}
use Rattle.std.specs.List.{AllByRecursion}
use Rattle.std.proofs.lemmas.Bool.{cases_Bool, cases_lt, cases_eq, cond-true, cond-false, and_parts, and_from, or_cases, or_left, or_right, eqb-true, eqb-false, eq-eqb, ne_eqb, lt-ltb, not-true, not_from_false, false≢true}
use Rattle.std.proofs.lemmas.List.{length-map}
use Rattle.sheet.specs.declared.row.Head.{Head}
use Rattle.sheet.specs.declared.row.Relation.{Relation}
use Rattle.sheet.specs.declared.row.Test.{Test}
use Rattle.sheet.specs.declared.row.Row.{Row}
use Rattle.sheet.specs.declared.row.Row.TheVariants.{Keep as keep_row, Call as call_row, Send as send_row}
use Rattle.sheet.specs.Rows.{row_at}
use Rattle.judge.specs.Rules.{Listens}
use Rattle.judge.specs.Verdict.{is_keep, listens}
use Rattle.netcode.specs.declared.step.Step.{Step}
use Rattle.netcode.specs.declared.step.Step.TheVariants.{Send, Receive, Keep, Clear, Give}
use Rattle.netcode.specs.Layouts.{work_program, line_program, station_of}
use Rattle.schedule.specs.Rows.{Test as Asked}
use Rattle.schedule.specs.Program.{Step as PlannedStep, Engine, one, tested, onward, row_turn, exec, asks, heads, plainly, plain, Plain, Share, due, is_date as planned_date, wake, addr, target, turn, open_len, opening as planned_opening}
use Rattle.schedule.specs.Machine.{share_of, head_of, program}
use Rattle.schedule.proofs.Blocks.{layout-any, opening-any, length-opening}
use Rattle.schedule.proofs.Openings.{head_plain}
use Rattle.schedule.proofs.Wake.{due-date}
use Rattle.translate.specs.Schedules.{keep_count, as_test, as_tests, rows_of, row_total, keeps_of, relation_from, concrete}
use Rattle.translate.specs.Ordered.{Ordered}
use Rattle.translate.specs.Laws.{Sheet}
use Rattle.translate.specs.Translation.{tests_in, date_of, end_of, is_line, belongs, act, first_date, address, preparation, program_code}
use Rattle.translate.specs.Turns.{Done, perform, waits, one_step, runs, BelongsTo, Due, DateOf, FirstFrom, block_at, TestsHold, Topmost, Turn, TurnsStand}
use Rattle.translate.proofs.Dates.{first-least, first-top, first-is, first-none-before}
use Rattle.translate.proofs.Maps.{keep-front, tests_same, end_same, relation-same, due-same, total, first-wake, address_same, preparation-same, opening-length, program-maps}
use Rattle.translate.proofs.Judging.{ordered, limits}

-- The rows of a program.
belongs-if : (p : ℕ) (row : Row) → BelongsTo p row → belongs p row ≡ true
belongs-if p (keep_row k) b = absurd b
belongs-if p (call_row c) b = and_from _ _ (not_from_false _ (ne_eqb p (line_program (station_of p)) (λ e. omega arith))) (eq-eqb c.station (station_of p) (omega arith))
belongs-if p (send_row s) (inl b) = and_from _ _ (eq-eqb p (line_program (station_of p)) (omega arith)) (or_left _ _ (eq-eqb s.station (station_of p) (omega arith)))
belongs-if p (send_row s) (inr (n, l, b)) =
    let z : n ≡ station_of p = omega arith in
    and_from _ _ (eq-eqb p (line_program (station_of p)) (omega arith)) (or_right (eqb s.station (station_of p)) _ (eq-eqb _ _ (subst (λ (k : ℕ). Listens s.listeners k) z l)))

belongs-so : (p : ℕ) (row : Row) → belongs p row ≡ true → BelongsTo p row
belongs-so p (keep_row k) b = absurd (false≢true b)
belongs-so p (call_row c) b =
    let q = and_parts (not (is_line p)) _ b in
    let e = eqb-true _ _ q.1 in
    let f = eqb-false p (line_program (station_of p)) (not-true _ q.0) in
    even e f
  where
    even : c.station ≡ station_of p → (p ≡ line_program (station_of p) → ⊥) → p ≡ work_program c.station
    even e f = go (cases_eq (p % 2) 1)
      where
        go : (p % 2 ≡ 1) ⊎ (p % 2 ≡ 1 → ⊥) → p ≡ work_program c.station
        go (inl o) = absurd (f (omega arith))
        go (inr o) = grind arith
belongs-so p (send_row s) b =
    let q = and_parts (is_line p) _ b in
    let e = eqb-true p (line_program (station_of p)) q.0 in
    go e (or_cases (eqb s.station (station_of p)) _ q.1)
  where
    go : p ≡ line_program (station_of p) → (eqb s.station (station_of p) ≡ true) ⊎ (listens s.listeners (station_of p) ≡ true) → BelongsTo p (send_row s)
    go e (inl x) = let y = eqb-true _ _ x in inl (omega arith)
    go e (inr x) = inr (station_of p, eqb-true _ _ x, e)

keep-not : (p : ℕ) (row : Row) → is_keep row ≡ true → BelongsTo p row → ⊥
keep-not p (keep_row k) e b = b
keep-not p (call_row c) e b = false≢true e
keep-not p (send_row s) e b = false≢true e

-- The first date not before another.
first-from : (cycle : ℕ) (rows : List Row) (p e : ℕ) → e ≤ cycle → FirstFrom cycle rows p e (first_date cycle rows p e)
first-from cycle rows p e l = record {
  late = first-least cycle rows p e (length rows) l;
  date = go (first-is cycle rows p e (length rows));
  within = first-top cycle rows p e (length rows);
  first = λ y a b d. let z = first-none-before cycle rows p e (length rows) d.0 d.1.0 (belongs-if p (row_at rows d.0) d.1.1) (rw d.1.2 a) in let q = d.1.2 in omega arith;
}
  where
    x : ℕ
    x = first_date cycle rows p e

    go : ((i : ℕ) × (i < length rows) × (belongs p (row_at rows i) ≡ true) × (date_of (row_at rows i) ≡ first_date cycle rows p e)) ⊎ (first_date cycle rows p e ≡ cycle)
        → DateOf cycle rows p (first_date cycle rows p e) ⊎ (first_date cycle rows p e ≡ cycle)
    go (inl (i, a, b, f)) = inl (i, (a, belongs-so p (row_at rows i) b, f))
    go (inr f) = inr f

done : List Step → Option (ℕ × ℕ) → Done
done xs n = record { performed = xs; next = n }

get_or-maps : {X Y : Type 0} (f : X → Y) (xs : List X) (i : ℕ) (d : X) → get_or (map f xs) i (f d) ≡ f (get_or xs i d)
get_or-maps f [] i d = refl
get_or-maps f (x ∷ xs) zero d = refl
get_or-maps f (x ∷ xs) (suc i) d = get_or-maps f xs i d

-- Running a program is running the schedule's.
module _ (rows : List Row) (p : ℕ) (holds : Test → Bool) where
  abbrev nk : ℕ
  nk = keep_count rows

  abbrev asked : Asked → Bool
  asked t = holds record { variable = t.var; relation = relation_from t.equal; word = t.word }

  abbrev does : ℕ → Step
  does k = act p (nk + k) (row_at rows (nk + k))

  abbrev E : Engine Done
  E = record {
    ask = λ t s. Some (asked t);
    later = waits;
    perform = λ k s. Some (perform (does k) s);
    take = λ x m s. perform (Keep x m) s;
    wipe = λ s. perform Clear s;
    put = λ m x w s. perform (Give m x w) s;
  }

  act-step : (prog : List Step) (i at : ℕ) (go : ℕ → Done → Option Done) (s : Done) (row : Row)
      → one_step holds prog (act p i row) at go s ≡ go (suc at) (perform (act p i row) s)
  act-step prog i at go s (keep_row k) = refl
  act-step prog i at go s (call_row c) = refl
  act-step prog i at go s (send_row c) = on (eqb c.station (station_of p))
    where
      on : (b : Bool) → one_step holds prog (cond b (Send i c.variable c.duration) (Receive c.variable c.duration)) at go s
          ≡ go (suc at) (perform (cond b (Send i c.variable c.duration) (Receive c.variable c.duration)) s)
      on true = refl
      on false = refl

  sim-step : (prog : List Step) (x : PlannedStep) (at : ℕ) (go go' : ℕ → Done → Option Done) → ((a : ℕ) (s : Done) → go a s ≡ go' a s) → (s : Done)
      → one_step holds prog (concrete rows p x) at go s ≡ one E x at go' s
  sim-step prog (PlannedStep.test t a) at go go' e s = on (asked t)
    where
      on : (b : Bool) → cond b (go (suc at) s) (go a s) ≡ tested E (Some b) at a go' s
      on true = e (suc at) s
      on false = e a s
  sim-step prog (PlannedStep.future m a) at go go' e s = e (suc at) _
  sim-step prog PlannedStep.halt at go go' e s = refl
  sim-step prog (PlannedStep.act k) at go go' e s = act-step prog (nk + k) at go s (row_at rows (nk + k)) ∙ e (suc at) _
  sim-step prog (PlannedStep.keep x m) at go go' e s = e (suc at) _
  sim-step prog PlannedStep.clear at go go' e s = e (suc at) _
  sim-step prog (PlannedStep.give m x w) at go go' e s = e (suc at) _

  sim : (q : List PlannedStep) (f at : ℕ) (s : Done) → runs holds (map (concrete rows p) q) f at s ≡ exec E q f at s
  unfolding runs exec
  sim q zero at s = refl
  sim q (suc f) at s =
      ap (λ (x : Step). one_step holds (map (concrete rows p) q) x at (runs holds (map (concrete rows p) q) f) s) (get_or-maps (concrete rows p) q at PlannedStep.halt)
      ∙ sim-step (map (concrete rows p) q) (get_or q at PlannedStep.halt) at (runs holds (map (concrete rows p) q) f) (exec E q f) (sim q f) s

  -- The preparation.
  prepares : (c : List PlannedStep) → Plain c → (s : Done) → heads E c s ≡ record { performed = s.performed ++ map (concrete rows p) c; next = s.next }
  unfolding heads done
  prepares [] q s = ap (λ (xs : List Step). done xs s.next) (sym (append-nil s.performed))
  prepares (x ∷ c) (q, qs) s = prepares c qs (plainly E x s) ∙ on x q
    where
      on : (x : PlannedStep) → plain x ≡ true
          → ◌≡◌ {A = Done} record { performed = (plainly E x s).performed ++ map (concrete rows p) c; next = (plainly E x s).next } record { performed = s.performed ++ (concrete rows p x ∷ map (concrete rows p) c); next = s.next }
      on (PlannedStep.keep v m) z = ap (λ (xs : List Step). done xs s.next) (append_assoc s.performed (Keep v m ∷ []) (map (concrete rows p) c))
      on PlannedStep.clear z = ap (λ (xs : List Step). done xs s.next) (append_assoc s.performed (Clear ∷ []) (map (concrete rows p) c))
      on (PlannedStep.give m v w) z = ap (λ (xs : List Step). done xs s.next) (append_assoc s.performed (Give m v w ∷ []) (map (concrete rows p) c))
      on (PlannedStep.test t a) z = absurd (false≢true z)
      on (PlannedStep.future m a) z = absurd (false≢true z)
      on PlannedStep.halt z = absurd (false≢true z)
      on (PlannedStep.act k) z = absurd (false≢true z)

  -- The tests of a row.
  every : List Asked → Bool
  every [] = true
  every (t ∷ c) = asked t && every c

  asks-is : (c : List Asked) (s : Done) → asks E c s ≡ Some (every c)
  unfolding asks every
  asks-is [] s = refl
  asks-is (t ∷ c) s = go (asked t) (asks-is c s)
    where
      go : (b : Bool) → asks E c s ≡ Some (every c) → onward E (Some b) (asks E c s) ≡ Some (b && every c)
      go true e = e
      go false e = refl

  asked-as : (t : Test) → asked (as_test t) ≡ holds t
  asked-as t = ap (λ (r : Relation). holds record { variable = t.variable; relation = r; word = t.word }) (relation-same t.relation)

  every-if : (ts : List Test) → AllByRecursion (λ t. holds t ≡ true) ts → every (as_tests ts) ≡ true
  unfolding every
  every-if [] a = refl
  every-if (t ∷ ts) (x, a) = and_from _ _ (asked-as t ∙ x) (every-if ts a)

  every-so : (ts : List Test) → every (as_tests ts) ≡ true → AllByRecursion (λ t. holds t ≡ true) ts
  unfolding every
  every-so [] e = tt
  every-so (t ∷ ts) e = let q = and_parts (asked (as_test t)) _ e in (sym (asked-as t) ∙ q.0, every-so ts q.1)

  -- The turn of a date of the schedule.
  module _ (h : Share) where
    turn-performs : (o d m i k : ℕ) (s : Done) → i ≤ k → k < i + m → due h d k ≡ true → every (h.tests k) ≡ true
        → ((j : ℕ) → i ≤ j → j < k → due h d j ≡ true → every (h.tests j) ≡ true → ⊥)
        → turn h E o d i m s ≡ Some (perform (does k) (waits (wake h (h.stop k) - d) (target h o (wake h (h.stop k))) s))
    unfolding turn
    turn-performs o d zero i k s a b q e u = absurd (omega arith)
    turn-performs o d (suc m) i k s a b q e u = go (cases_eq i k) (λ l. turn-performs o d m (suc i) k s l (omega arith) q e (λ j x y. u j (omega arith) y))
      where
        R : Option Done
        R = Some (perform (does k) (waits (wake h (h.stop k) - d) (target h o (wake h (h.stop k))) s))

        go : (i ≡ k) ⊎ (i ≡ k → ⊥) → (suc i ≤ k → turn h E o d (suc i) m s ≡ R) → cond (due h d i) (row_turn h E o d i (asks E (h.tests i) s) s (turn h E o d (suc i) m s)) (turn h E o d (suc i) m s) ≡ R
        go (inl z) next =
            cond-true _ _ _ (ap (due h d) z ∙ q)
            ∙ ap (λ (w : Option Bool). row_turn h E o d i w s (turn h E o d (suc i) m s)) (asks-is (h.tests i) s ∙ ap Some (ap (λ (j : ℕ). every (h.tests j)) z ∙ e))
            ∙ ap (λ (j : ℕ). Some (perform (does j) (waits (wake h (h.stop j) - d) (target h o (wake h (h.stop j))) s))) z
        go (inr z) next = on (cases_Bool (due h d i))
          where
            far : i ≤ k → (i ≡ k → ⊥) → suc i ≤ k
            far a z = grind arith

            on : (due h d i ≡ true) ⊎ (due h d i ≡ false) → cond (due h d i) (row_turn h E o d i (asks E (h.tests i) s) s (turn h E o d (suc i) m s)) (turn h E o d (suc i) m s) ≡ R
            on (inr f) = cond-false _ _ _ f ∙ next (far a z)
            on (inl f) =
                cond-true _ _ _ f
                ∙ ap (λ (w : Option Bool). row_turn h E o d i w s (turn h E o d (suc i) m s)) (asks-is (h.tests i) s ∙ ap Some (fails (cases_Bool (every (h.tests i)))))
                ∙ next (far a z)
              where
                fails : (every (h.tests i) ≡ true) ⊎ (every (h.tests i) ≡ false) → every (h.tests i) ≡ false
                fails (inl y) = absurd (u i (omega arith) (omega (arith, far a z)) f y)
                fails (inr y) = y

    turn-idles : (o d m i : ℕ) (s : Done) → ((j : ℕ) → i ≤ j → j < i + m → due h d j ≡ true → every (h.tests j) ≡ true → ⊥)
        → turn h E o d i m s ≡ Some (waits (wake h (suc d) - d) (target h o (wake h (suc d))) s)
    unfolding turn
    turn-idles o d zero i s u = refl
    turn-idles o d (suc m) i s u = on (cases_Bool (due h d i)) (turn-idles o d m (suc i) s (λ j x y. u j (omega arith) (omega arith)))
      where
        on : (due h d i ≡ true) ⊎ (due h d i ≡ false) → turn h E o d (suc i) m s ≡ Some (waits (wake h (suc d) - d) (target h o (wake h (suc d))) s)
            → cond (due h d i) (row_turn h E o d i (asks E (h.tests i) s) s (turn h E o d (suc i) m s)) (turn h E o d (suc i) m s) ≡ Some (waits (wake h (suc d) - d) (target h o (wake h (suc d))) s)
        on (inr f) ih = cond-false _ _ _ f ∙ ih
        on (inl f) ih =
            cond-true _ _ _ f
            ∙ ap (λ (w : Option Bool). row_turn h E o d i w s (turn h E o d (suc i) m s)) (asks-is (h.tests i) s ∙ ap Some (fails (cases_Bool (every (h.tests i)))))
            ∙ ih
          where
            fails : (every (h.tests i) ≡ true) ⊎ (every (h.tests i) ≡ false) → every (h.tests i) ≡ false
            fails (inl y) = absurd (u i (omega arith) (omega arith) f y)
            fails (inr y) = y

module _ (h : Head) (rows : List Row) (s : Sheet h rows) (p : ℕ) (holds : Test → Bool) where
  abbrev L : ℕ
  L = h.cycle

  abbrev n : ℕ
  n = row_total rows

  abbrev sh : Share
  sh = share_of (rows_of rows) n L p

  abbrev W : List PlannedStep
  W = head_of (keeps_of rows) (keep_count rows) p

  abbrev o : ℕ
  o = open_len sh W

  abbrev q : List PlannedStep
  q = program (rows_of rows) n L (keeps_of rows) (keep_count rows) p

  abbrev M : Engine Done
  M = E rows p holds

  ord : Ordered L rows
  ord = ordered h rows s.rules

  long : 1 ≤ L
  long = (limits h rows s.rules s.within s.counted).cycle.0

  run_is : (at : ℕ) (before : Done) → runs holds (program_code L rows p) (suc (length (program_code L rows p))) at before ≡ exec M q (suc (length q)) at before
  run_is at before =
      ap (λ (xs : List Step). runs holds xs (suc (length xs)) at before) (program-maps L rows p ord)
      ∙ ap (λ (k : ℕ). runs holds (map (concrete rows p) q) (suc k) at before) (length-map q (concrete rows p))
      ∙ sim rows p holds q (suc (length q)) at before

  target_is : (e : ℕ) → e ≤ L → target sh o (wake sh e) ≡ block_at L rows p (first_date L rows p e)
  target_is e l =
      ap (λ (a : ℕ). cond (ltb (wake sh e) L) a 0) (sym (address_same L rows p ord o (wake sh e)))
      ∙ ap (λ (x : ℕ). cond (ltb x L) (address L rows p o x) 0) (sym (first-wake L rows p ord e l))
      ∙ ap (λ (k : ℕ). cond (ltb (first_date L rows p e) L) (address L rows p k (first_date L rows p e)) 0) (sym (opening-length L rows p ord))

  waits-is : (d e : ℕ) (done : Done) → e ≤ L → waits (wake sh e - d) (target sh o (wake sh e)) done ≡ waits (first_date L rows p e - d) (block_at L rows p (first_date L rows p e)) done
  waits-is d e done l = ap₂ (λ (x y : ℕ). waits (x - d) y done) (sym (first-wake L rows p ord e l)) (target_is e l)

  due-real : (d j : ℕ) → j < n → due sh d j ≡ true → Due L rows p d (keep_count rows + j)
  due-real d j l e =
      let f = and_parts (belongs p (row_at rows (keep_count rows + j))) _ (due-same L rows p ord d j l ∙ e) in
      let t = total L rows p ord in
      (omega arith, belongs-so p (row_at rows (keep_count rows + j)) f.0, eqb-true _ _ f.1)

  due-plan : (d j : ℕ) → j < n → Due L rows p d (keep_count rows + j) → due sh d j ≡ true
  due-plan d j l e = sym (due-same L rows p ord d j l) ∙ and_from _ _ (belongs-if p (row_at rows (keep_count rows + j)) e.1) (eq-eqb _ _ e.2)

  hold-real : (j : ℕ) → every rows p holds (sh.tests j) ≡ true → TestsHold L rows p holds (keep_count rows + j)
  hold-real j e = every-so rows p holds (tests_in (row_at rows (keep_count rows + j))) (ap (every rows p holds) (sym (tests_same (row_at rows (keep_count rows + j)))) ∙ e)

  hold-plan : (j : ℕ) → TestsHold L rows p holds (keep_count rows + j) → every rows p holds (sh.tests j) ≡ true
  hold-plan j e = ap (every rows p holds) (tests_same (row_at rows (keep_count rows + j))) ∙ every-if rows p holds (tests_in (row_at rows (keep_count rows + j))) e

  -- A row of the program is a call or a send.
  numbered : (d i : ℕ) → Due L rows p d i → (keep_count rows ≤ i) × (i - keep_count rows < n) × (keep_count rows + (i - keep_count rows) ≡ i)
  numbered d i e = go (cases_lt i (keep_count rows))
    where
      go : (i < keep_count rows) ⊎ (keep_count rows ≤ i) → (keep_count rows ≤ i) × (i - keep_count rows < n) × (keep_count rows + (i - keep_count rows) ≡ i)
      go (inl l) = absurd (keep-not p (row_at rows i) (keep-front rows i l) e.1)
      go (inr l) = let a = e.0 in (l, omega arith, omega arith)

  does-row : (d at k : ℕ) (before done : Done) → d < L → k < n → exec M q (suc (length q)) at before ≡ turn sh M o d 0 n done
      → Topmost L rows p holds d (keep_count rows + k)
      → (x : ℕ) × FirstFrom L rows p (end_of (row_at rows (keep_count rows + k))) x
      × (runs holds (program_code L rows p) (suc (length (program_code L rows p))) at before
      ≡ Some (perform (act p (keep_count rows + k) (row_at rows (keep_count rows + k))) (waits (x - d) (block_at L rows p x) done)))
  does-row d at k before done ld lk e t =
      let row = row_at rows (keep_count rows + k) in
      let len = total L rows p ord in
      let z : end_of row ≤ L = ord.inside (keep_count rows + k) (omega arith) in (
        first_date L rows p (end_of row),
        first-from L rows p (end_of row) z,
        run_is at before ∙ e
            ∙ turn-performs rows p holds sh o d n 0 k done (omega arith) (omega arith) (due-plan d k lk t.due) (hold-plan k t.holding)
            (λ j a b f g. t.above (keep_count rows + j) (omega arith) (due-real d j (omega arith) f) (hold-real j g))
            ∙ ap (λ (w : Done). Some (perform (act p (keep_count rows + k) row) w))
            (ap (λ (y : ℕ). waits (wake sh y - d) (target sh o (wake sh y)) done) (sym (end_same row)) ∙ waits-is d (end_of row) done z),
      )

  turns : (d at : ℕ) (before done : Done) → d < L → exec M q (suc (length q)) at before ≡ turn sh M o d 0 n done → Turn L rows p holds d at before done
  turns d at before done ld e = record {
    performs = λ i t. let m = numbered d i t.due in
        subst (λ (y : ℕ). (x : ℕ) × FirstFrom L rows p (end_of (row_at rows y)) x
        × (runs holds (program_code L rows p) (suc (length (program_code L rows p))) at before ≡ Some (perform (act p y (row_at rows y)) (waits (x - d) (block_at L rows p x) done)))) m.2
        (does-row d at (i - keep_count rows) before done ld m.1 e (subst (λ (y : ℕ). Topmost L rows p holds d y) (sym m.2) t));
    idles = λ u. (
      first_date L rows p (suc d),
      first-from L rows p (suc d) ld,
      run_is at before ∙ e
          ∙ turn-idles rows p holds sh o d n 0 done (λ j a b f g. u (keep_count rows + j) (due-real d j (omega arith) f) (hold-real j g))
          ∙ ap Some (waits-is d (suc d) done ld),
    );
  }

  pub dated : (d : ℕ) → d < L → DateOf L rows p d → (done : Done) → Turn L rows p holds d (block_at L rows p d) done done
  dated d l (i, e) done = turns d (block_at L rows p d) done done l (ap (λ (a : ℕ). exec M q (suc (length q)) a done) here ∙ runs-there)
    where
      m : (keep_count rows ≤ i) × (i - keep_count rows < n) × (keep_count rows + (i - keep_count rows) ≡ i)
      m = numbered d i e

      is : planned_date sh d ≡ true
      is = due-date sh d (i - keep_count rows) m.1 (due-plan d (i - keep_count rows) m.1 (subst (λ (y : ℕ). Due L rows p d y) (sym m.2) e))

      here : block_at L rows p d ≡ addr sh o d
      here = cond-true _ _ _ (lt-ltb d L l) ∙ ap (λ (k : ℕ). address L rows p k d) (opening-length L rows p ord) ∙ address_same L rows p ord o d

      runs-there : exec M q (suc (length q)) (addr sh o d) done ≡ turn sh M o d 0 n done
      runs-there = subst (λ (k : ℕ). exec M q (suc (length q)) (addr sh k d) done ≡ turn sh M k d 0 n done) (length-opening sh W) (layout-any sh (planned_opening sh W) d l is M done)

  pub opened : (done : Done) → Turn L rows p holds 0 0 done record { performed = done.performed ++ preparation rows p; next = done.next }
  opened done = turns 0 0 done _ long
      (opening-any sh W (head_plain (keeps_of rows) (keep_count rows) p) long M done
      ∙ ap (turn sh M o 0 0 n) (prepares rows p holds W (head_plain (keeps_of rows) (keep_count rows) p) done ∙ ap (λ (xs : List Step). again (done.performed ++ xs)) (sym (preparation-same L rows p ord))))
    where
      again : List Step → Done
      again xs = record { performed = xs; next = done.next }

pub turns-stand : TurnsStand
turns-stand = record {
  dated = λ h rows s p d l e holds done. dated h rows s p holds d l e done;
  opened = λ h rows s p holds done. opened h rows s p holds done;
}
