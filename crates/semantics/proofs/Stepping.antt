-- The steps of a unit's turn, on a run and on a schedule's bench that hold the same.
use Rattle.std.proofs.Common.{◌≡◌, ℕ, zero, suc, ◌+◌, ◌*◌, ◌/◌, ◌%◌, ◌<◌, Bool, true, false, cond, not, ◌&&◌, ◌||◌, eqb, ltb, ◌⊎◌, List, get_or, Some, None, Option, sym, refl, ap, ◌∙◌, subst, ap₂, inl, inr, add-one, arith}
use Rattle.std.proofs.lemmas.Bool.{cases_Bool, eq-eqb, ne_eqb, eqb-true, cond-true, cond-false, and_parts, both_ways, not-true, eqb-false, cases_order}
use Rattle.sheet.specs.declared.row.Inputs.{Inputs}
use Rattle.sheet.specs.declared.row.Inputs.TheVariants.{Nothing as no_input, Single as one_input, Pair as two_inputs}
use Rattle.sheet.specs.declared.row.Condition.{Condition}
use Rattle.sheet.specs.declared.row.Call.{Call}
use Rattle.sheet.specs.declared.row.Send.{Send}
use Rattle.sheet.specs.declared.row.Row.{Row}
use Rattle.sheet.specs.declared.row.Row.TheVariants.{Keep as keep_row, Call as call_row, Send as send_row}
use Rattle.sheet.specs.Rows.{row_at, tests_of}
use Rattle.judge.specs.Rules.{IsKeep}
use Rattle.netcode.specs.declared.step.Step.{Step}
use Rattle.netcode.specs.declared.step.Step.TheVariants.{Halt, Send as send_step, Receive as receive_step}
use Rattle.plant.specs.Model.{Model, leaves}
use Rattle.plant.specs.Replies.{asked, count_of}
use Rattle.plant.specs.declared.works.Words.{Words}
use Rattle.plant.specs.declared.works.Words.TheVariants.{Nothing, Single, Pair}
use Rattle.schedule.specs.Rows.{Test, meets, Row as Planned, Places, word_of, word1, word2, asked as asked_of}
use Rattle.schedule.specs.Program.{Step as PlannedStep, Engine, one, exec, tested, acted}
use Rattle.schedule.specs.Machine.{Bench, Job as PlannedJob, Message as PlannedMessage, said, is_none, is_line, owner, mine, guard, present, answered, engine, begin}
use Rattle.translate.specs.Schedules.{keep_count, as_row, as_tests, rows_of, row_total, keeps_of, input_count, first_input, second_input, relation_from, concrete}
use Rattle.translate.specs.Translation.{act}
use Rattle.semantics.specs.declared.state.Job.{Job}
use Rattle.semantics.specs.declared.state.Job.TheVariants.{Listen}
use Rattle.semantics.specs.declared.state.Message.{Message}
use Rattle.semantics.specs.declared.state.State.{State}
use Rattle.semantics.specs.Reading.{passes}
use Rattle.semantics.specs.Machine as real
use Rattle.semantics.specs.Machine.{World, Stepped, Outcome, onto, halted, word_in, unit_in, is_idle, is_busy, input_words, first_word, second_word, with_job}
use Rattle.semantics.proofs.Guarded.{guarded}
use Rattle.semantics.proofs.Alike.{Alike, JobAlike, begun_by, owns, as_line, wait-alike, keep-alike, clear-alike, give-alike, call-alike, send-alike, listen-alike}

never : {A : Type 0} {B : Type 0} (x : A) → ◌≡◌ {A = Option A} None (Some x) → B
never x e = absurd (let z : ◌≡◌ {A = ℕ} 0 1 = cc in omega arith)

-- A call with its inputs.
abbrev planned : Call Condition → Inputs → Planned
planned c i = record {
  sends = false;
  st = c.station;
  work = c.work;
  count = input_count i;
  one = first_input i;
  two = second_input i;
  out = c.output;
  listeners = λ n. false;
  date = c.date;
  dur = c.duration;
  tests = as_tests (tests_of c.condition);
}

record Ready (c : Call Condition) (i : Inputs) (at : ℕ → Option ℕ) (pl : Places) : Type 0 where
  words : Words
  is : input_words i at ≡ Some words
  asks : asked c.station c.work words ≡ asked_of (planned c i) pl
  first : first_word words ≡ said (ltb 0 (input_count i)) (word1 (planned c i) pl)
  second : second_word words ≡ said (ltb 1 (input_count i)) (word2 (planned c i) pl)
  count : count_of words ≡ input_count i

ready : (c : Call Condition) (i : Inputs) (at : ℕ → Option ℕ) (pl : Places) → ((x : ℕ) → x < 64 → at x ≡ pl c.station x)
    → (0 < input_count i → first_input i < 64) → (1 < input_count i → second_input i < 64) → present (planned c i) pl ≡ true → Ready c i at pl
ready c no_input at pl same l1 l2 h = record { words = Nothing; is = refl; asks = refl; first = refl; second = refl; count = refl }
ready c (one_input a) at pl same l1 l2 h = go (at a) (pl c.station a) refl refl (same a (l1 (omega arith)))
  where
    go : (o p : Option ℕ) → at a ≡ o → pl c.station a ≡ p → o ≡ p → Ready c (one_input a) at pl
    go (Some v) (Some u) e f g = record {
      words = Single v;
      is = ap real.one_word e;
      asks = ap (λ (z : ℕ). record { station = c.station; number = c.work; count = 1; first = z; second = 0 }) vu;
      first = ap Some vu;
      second = refl;
      count = refl;
    }
      where
        vu : v ≡ word_of (pl c.station a)
        vu = let q : v ≡ u = cc in q ∙ sym (ap word_of f)
    go None p e f g = absurd (both_ways true (sym h ∙ ap (λ (z : Option ℕ). (false || not (is_none z)) && true) (f ∙ sym g)) refl)
    go (Some v) None e f g = absurd (let z : ◌≡◌ {A = ℕ} 0 1 = cc in omega arith)
ready c (two_inputs a d) at pl same l1 l2 h = go (at a) (pl c.station a) (at d) (pl c.station d) refl refl (same a (l1 (omega arith))) refl refl (same d (l2 (omega arith)))
  where
    go : (o p q s : Option ℕ) → at a ≡ o → pl c.station a ≡ p → o ≡ p → at d ≡ q → pl c.station d ≡ s → q ≡ s → Ready c (two_inputs a d) at pl
    go (Some v) (Some u) (Some x) (Some y) e f g e2 f2 g2 = record {
      words = Pair v x;
      is = ap₂ real.two_words e e2;
      asks = ap₂ (λ (z t : ℕ). record { station = c.station; number = c.work; count = 2; first = z; second = t }) vu xy;
      first = ap Some vu;
      second = ap Some xy;
      count = refl;
    }
      where
        vu : v ≡ word_of (pl c.station a)
        vu = let q : v ≡ u = cc in q ∙ sym (ap word_of f)

        xy : x ≡ word_of (pl c.station d)
        xy = let q : x ≡ y = cc in q ∙ sym (ap word_of f2)
    go None p q s e f g e2 f2 g2 = absurd (both_ways true (sym h ∙ ap (λ (z : Option ℕ). (false || not (is_none z)) && (false || not (is_none (pl c.station d)))) (f ∙ sym g)) refl)
    go (Some v) None q s e f g e2 f2 g2 = absurd (let z : ◌≡◌ {A = ℕ} 0 1 = cc in omega arith)
    go (Some v) (Some u) None s e f g e2 f2 g2 = absurd (both_ways true (sym h ∙ ap₂ (λ (y z : Option ℕ). (false || not (is_none y)) && (false || not (is_none z))) f (f2 ∙ sym g2)) refl)
    go (Some v) (Some u) (Some x) None e f g e2 f2 g2 = absurd (let z : ◌≡◌ {A = ℕ} 0 1 = cc in omega arith)

relation-meets : (t : Test) (v : ℕ) → passes (relation_from t.equal) v t.word ≡ meets t (Some v)
relation-meets t v = go t.equal
  where
    go : (q : Bool) → passes (relation_from q) v t.word ≡ cond q (eqb v t.word) (not (eqb v t.word))
    go true = refl
    go false = refl

both-parts : (a o p q : Bool) → (a && (not o || (p && q))) ≡ true → (a ≡ true) × (o ≡ true → (p ≡ true) × (q ≡ true))
both-parts true true true true h = (refl, λ e. (refl, refl))
both-parts true true true false h = absurd (both_ways false refl h)
both-parts true true false q h = absurd (both_ways false refl h)
both-parts true false p q h = (refl, λ e. absurd (both_ways false refl e))
both-parts false o p q h = absurd (both_ways false refl h)

-- Whose a row is: a call's unit is its station's work unit; a send's are line units.
call-unit : (j : ℕ) (x : Planned) → x.sends ≡ false → mine j x ≡ true → (is_line j ≡ false) × (x.st ≡ j / 2)
call-unit j x s h = go (cases_Bool (is_line j))
  where
    go : (is_line j ≡ true) ⊎ (is_line j ≡ false) → (is_line j ≡ false) × (x.st ≡ j / 2)
    go (inl e) = absurd (both_ways x.sends s (and_parts x.sends _ (sym (cond-true _ _ _ e) ∙ h)).0)
    go (inr e) = (e, eqb-true x.st (j / 2) (and_parts (not x.sends) _ (sym (cond-false _ _ _ e) ∙ h)).1)

send-unit : (j : ℕ) (x : Planned) → x.sends ≡ true → mine j x ≡ true → is_line j ≡ true
send-unit j x s h = go (cases_Bool (is_line j))
  where
    go : (is_line j ≡ true) ⊎ (is_line j ≡ false) → is_line j ≡ true
    go (inl e) = e
    go (inr e) = absurd (both_ways x.sends (not-true x.sends (and_parts (not x.sends) _ (sym (cond-false _ _ _ e) ∙ h)).0) s)

even : (j : ℕ) → is_line j ≡ false → 2 * (j / 2) ≡ j
even j e = let ne = eqb-false (j % 2) 1 e in go (cases_order (j % 2) 1) ne
  where
    go : (j % 2 ≡ 1) ⊎ ((j % 2 < 1) ⊎ (1 < j % 2)) → (j % 2 ≡ 1 → ⊥) → 2 * (j / 2) ≡ j
    go (inl q) ne = absurd (ne q)
    go (inr (inl q)) ne = omega arith
    go (inr (inr q)) ne = absurd (omega arith)

odd : (j : ℕ) → is_line j ≡ true → 2 * (j / 2) + 1 ≡ j
odd j e = let q = eqb-true (j % 2) 1 e in omega arith

-- What a run is while a unit performs steps: its clock stands, and it goes on.
pub record Going (T : ℕ) (s : State) : Type 0 where
  pub granted : s.granted ≡ T
  pub going : s.stopped ≡ false

module _ (m : Model) (rows : List Row) (L : ℕ) where
  abbrev r : ℕ → Planned
  r = rows_of rows

  abbrev n : ℕ
  n = row_total rows

  abbrev nk : ℕ
  nk = keep_count rows

  abbrev S : Type 0
  S = m.State

  abbrev Same : (ℕ → ℕ) → Bench S → World S → Type 0
  Same late b w = Alike m r n L (keeps_of rows) nk late b w

  -- What the rules of programs say of a step of unit j, as far as it is used.
  abbrev pub Fine : ℕ → PlannedStep → Type 0
  Fine j (PlannedStep.test t a) = t.var < 64
  Fine j (PlannedStep.future ticks a) = Unit {0}
  Fine j PlannedStep.halt = Unit {0}
  Fine j (PlannedStep.act k) = (k < n) × (mine j (r k) ≡ true)
  Fine j (PlannedStep.keep x c) = (x < 64) × (c < 16)
  Fine j PlannedStep.clear = Unit {0}
  Fine j (PlannedStep.give c x v) = (c < 16) × (x < 64)

  -- What is used of a row.
  pub record RowFine (k : ℕ) : Type 0 where
    pub call : IsKeep (row_at rows (nk + k)) → ⊥
    pub row : nk + k < 128
    pub first : 0 < (r k).count → (r k).one < 64
    pub second : 1 < (r k).count → (r k).two < 64
    pub output : (r k).out < 64

  module _ (row_fine : (k : ℕ) → k < n → RowFine k) (late : ℕ → ℕ) (j T : ℕ) (lj : j < 16) (ls : j / 2 < 8) where
    abbrev e : Engine (Bench S)
    e = engine (leaves m) (guarded m) m.known r n L (keeps_of rows) nk j T

    -- After one step: halted, or at an address from which the rest leads on.
    abbrev Leads : Bench S → World S → (ℕ → Bench S → Option (Bench S)) → Bench S → Stepped S → Type 0
    Leads b w go c st = ((st ≡ halted w) × (b ≡ c))
        ⊎ ((pc : ℕ) × (b' : Bench S) × (w' : World S) × (st ≡ onto pc w') × (go pc b' ≡ Some c) × Same late b' w' × Going T w'.state)

    next_address : (pc : ℕ) (go : ℕ → Bench S → Option (Bench S)) (b c : Bench S) → go (suc pc) b ≡ Some c → go (pc + 1) b ≡ Some c
    next_address pc go b c h = ap (λ (z : ℕ). go z b) (add-one pc) ∙ h

    on_test : (t : Test) (a pc : ℕ) (go : ℕ → Bench S → Option (Bench S)) (b c : Bench S) (w : World S) → t.var < 64 → Same late b w → Going T w.state
        → one e (PlannedStep.test t a) pc go b ≡ Some c
        → Leads b w go c (real.performed m (concrete rows j (PlannedStep.test t a)) j pc w)
    on_test t a pc go b c w lv al g h = split (word_in w.state (j / 2) t.var) (b.places (j / 2) t.var) (al.places (j / 2) t.var ls lv) h
      where
        split : (o p : Option ℕ) → o ≡ p → tested e (answered t p) pc a go b ≡ Some c → Leads b w go c (real.tested m o (relation_from t.equal) t.word a j pc w)
        split None None q k = never c k
        split None (Some u) q k = absurd (let z : ◌≡◌ {A = ℕ} 0 1 = cc in omega arith)
        split (Some v) None q k = absurd (let z : ◌≡◌ {A = ℕ} 0 1 = cc in omega arith)
        split (Some v) (Some u) q k = way (passes (relation_from t.equal) v t.word) (meets t (Some u)) (relation-meets t v ∙ ap (λ (z : ℕ). meets t (Some z)) vu) k
          where
            vu : v ≡ u
            vu = cc

            way : (x y : Bool) → x ≡ y → tested e (Some y) pc a go b ≡ Some c → Leads b w go c (cond x (onto (pc + 1) w) (onto a w))
            way true true f k = inr (pc + 1, b, w, refl, next_address pc go b c k, al, g)
            way false false f k = inr (a, b, w, refl, k, al, g)
            way true false f k = absurd (both_ways true f refl)
            way false true f k = absurd (both_ways false refl f)

    idle : (busy : Option PlannedJob) (job : Job) → JobAlike m r n L (keeps_of rows) nk j busy job → is_none busy ≡ true → not (is_idle job) ≡ false
    idle None job al h = ap (λ (x : Job). not (is_idle x)) al
    idle (Some q) job al h = absurd (both_ways false refl h)

    abbrev begun : ℕ → Bench S → Bench S
    begun k b = begin (leaves m) (guarded m) m.known r n L (keeps_of rows) nk j k T b

    abbrev guards : ℕ → Bench S → Bool
    guards k b = guard (leaves m) (guarded m) m.known r n L (keeps_of rows) nk j k b

    as-begun : (k : ℕ) (b : Bench S) (w : World S) (o d : Bool) → owns m r n L (keeps_of rows) nk j k ≡ o → (r k).sends ≡ d
        → Same late (begun_by m r n L (keeps_of rows) nk o d j k T b) w → Same late (begun k b) w
    as-begun k b w o d eo ed al =
        subst (λ (x : Bool). Same late (begun_by m r n L (keeps_of rows) nk x (r k).sends j k T b) w) (sym eo)
        (subst (λ (x : Bool). Same late (begun_by m r n L (keeps_of rows) nk o x j k T b) w) (sym ed) al)

    on_call : (k pc : ℕ) (go : ℕ → Bench S → Option (Bench S)) (b c : Bench S) (w : World S) (cl : Call Condition) → row_at rows (nk + k) ≡ call_row cl
        → k < n → mine j (r k) ≡ true → Same late b w → Going T w.state → guards k b ≡ true → go (suc pc) (begun k b) ≡ Some c
        → Leads b w go c (real.called m (input_words cl.inputs (word_in w.state (j / 2))) (nk + k) cl.work cl.output cl.duration j pc w)
    on_call k pc go b c w cl ex lk mi al g gd h =
        inr (
          pc + 1,
          begun k b,
          real.answered m (nk + k) cl.work rd.words cl.output cl.duration j w,
          performed,
          next_address pc go (begun k b) c h,
          alike,
          record { granted = g.granted; going = g.going },
        )
      where
        rk : r k ≡ as_row (call_row cl)
        rk = ap as_row ex

        sf : (r k).sends ≡ false
        sf = ap (λ (x : Planned). x.sends) rk

        cu : (is_line j ≡ false) × ((r k).st ≡ j / 2)
        cu = call-unit j (r k) sf mi

        st : j / 2 ≡ cl.station
        st = sym cu.1 ∙ ap (λ (x : Planned). x.st) rk

        ow : owns m r n L (keeps_of rows) nk j k ≡ true
        ow = let e = even j cu.0 in let z : cond {A = ℕ} (r k).sends 1 0 ≡ 0 = ap (λ (d : Bool). cond {A = ℕ} d 1 0) sf in let q = cu.1 in eq-eqb _ _ (omega arith)

        gp : (is_none (b.units j).busy ≡ true) × (owns m r n L (keeps_of rows) nk j k ≡ true → (present (r k) b.places ≡ true) × (cond (r k).sends (is_none b.line) (m.known (r k).st (r k).work (r k).count) ≡ true))
        gp = both-parts (is_none (b.units j).busy) (owns m r n L (keeps_of rows) nk j k) (present (r k) b.places) _ gd

        kn : m.known (r k).st (r k).work (r k).count ≡ true
        kn = sym (cond-false _ _ _ sf) ∙ (gp.1 ow).1

        rd : Ready cl cl.inputs (word_in w.state (j / 2)) b.places
        rd = ready cl cl.inputs (word_in w.state (j / 2)) b.places
            (λ x l. al.places (j / 2) x ls l ∙ ap (λ (z : ℕ). b.places z x) st)
            (subst (λ (x : Planned). 0 < x.count → x.one < 64) rk (row_fine k lk).first)
            (subst (λ (x : Planned). 1 < x.count → x.two < 64) rk (row_fine k lk).second)
            (sym (ap (λ (x : Planned). present x b.places) rk) ∙ (gp.1 ow).0)

        free : is_busy w.state j ≡ false
        free = idle (b.units j).busy (unit_in w.state j).job (al.units j lj).job gp.0

        known : m.known (j / 2) cl.work (count_of rd.words) ≡ true
        known = ap₂ (λ (x y : ℕ). m.known x cl.work y) st rd.count ∙ sym (ap (λ (x : Planned). m.known x.st x.work x.count) rk) ∙ kn

        performed : real.called m (input_words cl.inputs (word_in w.state (j / 2))) (nk + k) cl.work cl.output cl.duration j pc w
            ≡ onto (pc + 1) (real.answered m (nk + k) cl.work rd.words cl.output cl.duration j w)
        performed = ap (λ (o : Option Words). real.called m o (nk + k) cl.work cl.output cl.duration j pc w) rd.is
            ∙ cond-false _ _ _ free ∙ cond-true _ _ _ known

        asks : asked (j / 2) (r k).work rd.words ≡ asked_of (r k) b.places
        asks = ap₂ (λ (x y : ℕ). asked x y rd.words) st (ap (λ (x : Planned). x.work) rk) ∙ rd.asks ∙ sym (ap (λ (x : Planned). asked_of x b.places) rk)

        alike : Same late (begun k b) (real.answered m (nk + k) cl.work rd.words cl.output cl.duration j w)
        alike = as-begun k b _ true false ow sf
            (subst (λ (x : Planned). Same late (begun_by m r n L (keeps_of rows) nk true false j k T b) (real.answered m (nk + k) x.work rd.words x.out x.dur j w)) rk
            (call-alike m r n L (keeps_of rows) nk late b w j k T rd.words lj lk (row_fine k lk).row g.granted cu.0 asks
            (rd.first ∙ sym (ap (λ (x : Planned). said (ltb 0 x.count) (word1 x b.places)) rk))
            (rd.second ∙ sym (ap (λ (x : Planned). said (ltb 1 x.count) (word2 x b.places)) rk)) kn al))

    on-send : (k pc : ℕ) (go : ℕ → Bench S → Option (Bench S)) (b c : Bench S) (w : World S) (s : Send Condition) → row_at rows (nk + k) ≡ send_row s
        → k < n → mine j (r k) ≡ true → Same late b w → Going T w.state → guards k b ≡ true → go (suc pc) (begun k b) ≡ Some c
        → Leads b w go c (real.performed m (act j (nk + k) (send_row s)) j pc w)
    on-send k pc go b c w s ex lk mi al g gd h = way (eqb s.station (j / 2)) refl
      where
        rk : r k ≡ as_row (send_row s)
        rk = ap as_row ex

        sf : (r k).sends ≡ true
        sf = ap (λ (x : Planned). x.sends) rk

        st : (r k).st ≡ s.station
        st = ap (λ (x : Planned). x.st) rk

        il : is_line j ≡ true
        il = send-unit j (r k) sf mi

        one_more : cond {A = ℕ} (r k).sends 1 0 ≡ 1
        one_more = ap (λ (d : Bool). cond {A = ℕ} d 1 0) sf

        gp : (is_none (b.units j).busy ≡ true) × (owns m r n L (keeps_of rows) nk j k ≡ true → (present (r k) b.places ≡ true) × (cond (r k).sends (is_none b.line) (m.known (r k).st (r k).work (r k).count) ≡ true))
        gp = both-parts (is_none (b.units j).busy) (owns m r n L (keeps_of rows) nk j k) (present (r k) b.places) _ gd

        free : is_busy w.state j ≡ false
        free = idle (b.units j).busy (unit_in w.state j).job (al.units j lj).job gp.0

        quiet : (o : Option PlannedMessage) (v : ℕ) → is_none o ≡ true → real.on_line m (as_line o) (nk + k) v s.duration j pc w ≡ onto (pc + 1) (real.carried m (nk + k) v s.duration j w)
        quiet None v e = refl
        quiet (Some x) v e = absurd (both_ways false refl e)

        sending : owns m r n L (keeps_of rows) nk j k ≡ true → j / 2 ≡ s.station → (o p : Option ℕ) → o ≡ p → b.places s.station s.variable ≡ p
            → Leads b w go c (real.sent m o (nk + k) s.duration j pc w)
        sending ow sj None p e f = absurd (both_ways true (sym (sym (ap (λ (x : Planned). present x b.places) rk) ∙ (gp.1 ow).0) ∙ ap (λ (z : Option ℕ). (false || not (is_none z)) && true) (f ∙ sym e)) refl)
        sending ow sj (Some v) p e f =
            inr (pc + 1, begun k b, real.carried m (nk + k) v s.duration j w, performed, next_address pc go (begun k b) c h, alike, record { granted = g.granted; going = g.going })
          where
            line : is_none b.line ≡ true
            line = sym (cond-true _ _ _ sf) ∙ (gp.1 ow).1

            performed : real.sent m (Some v) (nk + k) s.duration j pc w ≡ onto (pc + 1) (real.carried m (nk + k) v s.duration j w)
            performed = cond-false _ _ _ free ∙ ap (λ (x : Option Message). real.on_line m x (nk + k) v s.duration j pc w) al.line ∙ quiet b.line v line

            word : v ≡ word1 (r k) b.places
            word = ap word_of (e ∙ sym f) ∙ sym (ap (λ (x : Planned). word1 x b.places) rk)

            alike : Same late (begun k b) (real.carried m (nk + k) v s.duration j w)
            alike = as-begun k b _ true true ow sf
                (subst (λ (x : Planned). Same late (begun_by m r n L (keeps_of rows) nk true true j k T b) (real.carried m (nk + k) v x.dur j w)) rk
                (send-alike m r n L (keeps_of rows) nk late b w j k T v lj lk (row_fine k lk).row g.granted il ow word
                (ap Some word ∙ sym (ap (λ (x : Planned). said (ltb 0 x.count) (word1 (r k) b.places)) rk))
                (sym (ap (λ (x : Planned). said (ltb 1 x.count) (word2 (r k) b.places)) rk)) al))

        hearing : owns m r n L (keeps_of rows) nk j k ≡ false → Leads b w go c (real.listening m s.variable s.duration j pc w)
        hearing ow =
            inr (pc + 1, begun k b, real.at w (with_job w.state j (Listen (w.state.granted + s.duration) s.variable pc)), cond-false _ _ _ free, next_address pc go (begun k b) c h, alike, record { granted = g.granted; going = g.going })
          where
            alike : Same late (begun k b) (real.at w (with_job w.state j (Listen (w.state.granted + s.duration) s.variable pc)))
            alike = as-begun k b _ false true ow sf
                (subst (λ (x : Planned). Same late (begun_by m r n L (keeps_of rows) nk false true j k T b) (real.at w (with_job w.state j (Listen (w.state.granted + x.dur) x.out pc)))) rk
                (listen-alike m r n L (keeps_of rows) nk late b w j k T pc lj lk g.granted il ow al))

        way : (q : Bool) → eqb s.station (j / 2) ≡ q → Leads b w go c (real.performed m (cond q (send_step (nk + k) s.variable s.duration) (receive_step s.variable s.duration)) j pc w)
        way true e =
            let z : s.station ≡ j / 2 = eqb-true _ _ e in let o = odd j il in
            sending (eq-eqb _ _ (omega (arith, st, one_more))) (sym z) (word_in w.state (j / 2) s.variable) (b.places s.station s.variable)
            (al.places (j / 2) s.variable ls (subst (λ (x : Planned). x.out < 64) rk (row_fine k lk).output) ∙ ap (λ (q : ℕ). b.places q s.variable) (sym z)) refl
        way false e = let o = odd j il in hearing (ne_eqb _ _ (λ q. eqb-false s.station (j / 2) e (other q)))
          where
            other : owner (r k) ≡ j → s.station ≡ j / 2
            other q = let o = odd j il in omega (arith, st, one_more)

    on-act : (k pc : ℕ) (go : ℕ → Bench S → Option (Bench S)) (b c : Bench S) (w : World S) → k < n → mine j (r k) ≡ true → Same late b w → Going T w.state
        → one e (PlannedStep.act k) pc go b ≡ Some c
        → Leads b w go c (real.performed m (concrete rows j (PlannedStep.act k)) j pc w)
    on-act k pc go b c w lk mi al g h = split (guards k b) refl h
      where
        kinds : guards k b ≡ true → go (suc pc) (begun k b) ≡ Some c → (x : Row) → row_at rows (nk + k) ≡ x → Leads b w go c (real.performed m (act j (nk + k) x) j pc w)
        kinds gd hc (keep_row x) ex = absurd ((row_fine k lk).call (subst IsKeep (sym ex) tt))
        kinds gd hc (call_row x) ex = on_call k pc go b c w x ex lk mi al g gd hc
        kinds gd hc (send_row x) ex = on-send k pc go b c w x ex lk mi al g gd hc

        split : (q : Bool) → guards k b ≡ q → acted e (cond q (Some (begun k b)) None) pc go ≡ Some c → Leads b w go c (real.performed m (concrete rows j (PlannedStep.act k)) j pc w)
        split true gd hc = kinds gd hc (row_at rows (nk + k)) refl
        split false gd hc = never c hc

    -- Any step.
    leads : (x : PlannedStep) (pc : ℕ) (go : ℕ → Bench S → Option (Bench S)) (b c : Bench S) (w : World S) → Fine j x → Same late b w → Going T w.state
        → one e x pc go b ≡ Some c → Leads b w go c (real.performed m (concrete rows j x) j pc w)
    leads (PlannedStep.test t a) pc go b c w f al g h = on_test t a pc go b c w f al g h
    leads (PlannedStep.future ticks a) pc go b c w f al g h =
        inr (pc + 1, _, real.later m ticks a j w, refl, next_address pc go _ c h, wait-alike m r n L (keeps_of rows) nk late b w j T ticks a lj g.granted al, record { granted = g.granted; going = g.going })
    leads PlannedStep.halt pc go b c w f al g h = inl (refl, some_same h)
      where
        some_same : ◌≡◌ {A = Option (Bench S)} (Some b) (Some c) → b ≡ c
        some_same q = cc
    leads (PlannedStep.act k) pc go b c w f al g h = on-act k pc go b c w f.0 f.1 al g h
    leads (PlannedStep.keep x y) pc go b c w f al g h =
        inr (pc + 1, _, _, refl, next_address pc go _ c h, keep-alike m r n L (keeps_of rows) nk late b w (j / 2) x y ls f.0 f.1 al, kept (word_in w.state (j / 2) x))
      where
        kept : (o : Option ℕ) → Going T (real.kept_from m o y w.state)
        kept None = g
        kept (Some v) = record { granted = g.granted; going = g.going }
    leads PlannedStep.clear pc go b c w f al g h =
        inr (pc + 1, _, _, refl, next_address pc go _ c h, clear-alike m r n L (keeps_of rows) nk late b w (j / 2) ls al, record { granted = g.granted; going = g.going })
    leads (PlannedStep.give y x v) pc go b c w f al g h =
        inr (pc + 1, _, _, refl, next_address pc go _ c h, give-alike m r n L (keeps_of rows) nk late b w (j / 2) y x v ls f.1 f.0 al, record { granted = g.granted; going = g.going })

    -- Steps up to HALT.
    pub steps_alike : (p : List PlannedStep) (code : List Step) → ((a : ℕ) → get_or code a Halt ≡ concrete rows j (get_or p a PlannedStep.halt)) → ((a : ℕ) → Fine j (get_or p a PlannedStep.halt))
        → (f pc : ℕ) (b c : Bench S) (w : World S) → Same late b w → Going T w.state → exec e p f pc b ≡ Some c
        → (v : World S) × (real.steps m f code j pc w ≡ Outcome.done v) × Same late c v × Going T v.state
    unfolding exec real.steps
    steps_alike p code same fine zero pc b c w al g h = never c h
    steps_alike p code same fine (suc f) pc b c w al g h =
        on (leads (get_or p pc PlannedStep.halt) pc (exec e p f) b c w (fine pc) al g h) (λ pc' b' w'. steps_alike p code same fine f pc' b' c w')
      where
        st : Stepped S
        st = real.performed m (concrete rows j (get_or p pc PlannedStep.halt)) j pc w

        here : real.steps m (suc f) code j pc w ≡ real.onward m st (real.steps m f code j)
        here = ap (λ (x : Step). real.onward m (real.performed m x j pc w) (real.steps m f code j)) (same pc)

        on : Leads b w (exec e p f) c st
            → ((pc' : ℕ) (b' : Bench S) (w' : World S) → Same late b' w' → Going T w'.state → exec e p f pc' b' ≡ Some c → (v : World S) × (real.steps m f code j pc' w' ≡ Outcome.done v) × Same late c v × Going T v.state)
            → (v : World S) × (real.steps m (suc f) code j pc w ≡ Outcome.done v) × Same late c v × Going T v.state
        on (inl (q, z)) ih = (w, here ∙ ap (λ (x : Stepped S). real.onward m x (real.steps m f code j)) q, subst (λ (x : Bench S). Same late x w) z al, g)
        on (inr (pc', b', w', q, k, al', g')) ih = end (ih pc' b' w' al' g' k)
          where
            end : (v : World S) × (real.steps m f code j pc' w' ≡ Outcome.done v) × Same late c v × Going T v.state → (v : World S) × (real.steps m (suc f) code j pc w ≡ Outcome.done v) × Same late c v × Going T v.state
            end (v, a, y, z) = (v, here ∙ ap (λ (x : Stepped S). real.onward m x (real.steps m f code j)) q ∙ a, y, z)
