-- A tick does the same on a run and on its schedule's bench, where the bench does not refuse it.
use Rattle.std.proofs.Common.{◌≡◌, ℕ, zero, suc, ◌+◌, ◌/◌, ◌<◌, ◌≤◌, Bool, true, false, cond, not, eqb, ltb, ◌⊎◌, List, [], map, length, get_or, Some, None, Option, sym, refl, ap, ◌∙◌, subst, ap₂, inl, inr, add-one, arith}
use Rattle.std.proofs.lemmas.List.{get_or-map, get_or_past, length-map}
use Rattle.std.proofs.lemmas.Bool.{cases_lt, ne_eqb, eqb-true, cond-true, cond-false, both_ways, lt-ltb, le-ltb}
use Rattle.fault.specs.declared.refusal.Refusal.TheVariants.{NoMessage}
use Rattle.sheet.specs.declared.row.Row.{Row}
use Rattle.netcode.specs.declared.step.Step.{Step}
use Rattle.netcode.specs.declared.step.Step.TheVariants.{Halt}
use Rattle.plant.specs.Model.{Model, leaves}
use Rattle.schedule.specs.Rows.{Row as Planned}
use Rattle.schedule.specs.Program.{Step as PlannedStep, exec}
use Rattle.schedule.specs.Machine.{Bench, Job as PlannedJob, Message as PlannedMessage, is_none, is_line, bind, program, engine, turn_at, first_to, store, release, heard, ended, settle_to, leave, tick}
use Rattle.translate.specs.Schedules.{keep_count, rows_of, row_total, keeps_of, concrete}
use Rattle.semantics.specs.declared.state.Job.{Job}
use Rattle.semantics.specs.declared.state.Job.TheVariants.{Idle, Store, Carry, Listen}
use Rattle.semantics.specs.declared.state.Message.{Message}
use Rattle.semantics.specs.Machine as real
use Rattle.semantics.specs.Machine.{World, Outcome, and_then, unit_in, is_idle, with_timer, with_job, with_granted, limit}
use Rattle.semantics.proofs.Guarded.{guarded}
use Rattle.semantics.proofs.Alike.{Alike, Timed, JobAlike, UnitAlike, owns, as_line, alike-up, spend-alike, store-alike, release-alike, leave-alike, granted-alike}
use Rattle.semantics.proofs.Stepping.{Going, Fine, RowFine, steps_alike}

never : {A : Type 0} {B : Type 0} (x : A) → ◌≡◌ {A = Option A} None (Some x) → B
never x e = absurd (let z : ◌≡◌ {A = ℕ} 0 1 = cc in omega arith)

module _ (m : Model) (rows : List Row) (L : ℕ) where
  abbrev r : ℕ → Planned
  r = rows_of rows

  abbrev n : ℕ
  n = row_total rows

  abbrev nk : ℕ
  nk = keep_count rows

  abbrev S : Type 0
  S = m.State

  abbrev Same : (ℕ → ℕ) → Bench S → World S → Type 0
  Same late b w = Alike m r n L (keeps_of rows) nk late b w

  abbrev plan : ℕ → List PlannedStep
  plan j = program r n L (keeps_of rows) nk j

  -- What a part of a tick comes to.
  abbrev pub Reached : (ℕ → ℕ) → ℕ → Bench S → Outcome S → Type 0
  Reached late T c o = (v : World S) × (o ≡ Outcome.done v) × Same late c v × Going T v.state

  module _ (row_fine : (k : ℕ) → k < n → RowFine m rows L k) (fine : (j a : ℕ) → j < 16 → Fine m rows L j (get_or (plan j) a PlannedStep.halt))
      (programs : List (List Step)) (few : length programs ≤ 16) (maps : (j : ℕ) → j < length programs → get_or programs j [] ≡ map (concrete rows j) (plan j)) where
    code_at : (j : ℕ) → j < length programs → (a : ℕ) → get_or (get_or programs j []) a Halt ≡ concrete rows j (get_or (plan j) a PlannedStep.halt)
    code_at j l a = ap (λ (c : List Step). get_or c a Halt) (maps j l) ∙ go (cases_lt a (length (plan j)))
      where
        go : (a < length (plan j)) ⊎ (length (plan j) ≤ a) → get_or (map (concrete rows j) (plan j)) a Halt ≡ concrete rows j (get_or (plan j) a PlannedStep.halt)
        go (inl q) = get_or-map (concrete rows j) (plan j) a PlannedStep.halt Halt q
        go (inr q) = get_or_past (map (concrete rows j) (plan j)) a Halt (let e = length-map (plan j) (concrete rows j) in omega arith)
            ∙ ap (concrete rows j) (sym (get_or_past (plan j) a PlannedStep.halt q))

    half : (j : ℕ) → j < 16 → j / 2 < 8
    half j l = omega arith

    -- Units that had their turn may have spent their timer in this tick.
    abbrev late_to : ℕ → ℕ → ℕ → ℕ
    late_to T k i = cond (ltb i k) (suc T) T

    late-up : (T k i : ℕ) → late_to T k i ≤ late_to T (suc k) i
    late-up T k i = go (cases_lt i k)
      where
        go : (i < k) ⊎ (k ≤ i) → late_to T k i ≤ late_to T (suc k) i
        go (inl q) = let e : late_to T k i ≡ suc T = cond-true _ _ _ (lt-ltb i k q) in let f : late_to T (suc k) i ≡ suc T = cond-true _ _ _ (lt-ltb i (suc k) (omega arith)) in omega arith
        go (inr q) = let e : late_to T k i ≡ T = cond-false _ _ _ (le-ltb i k q) in on (cases_lt i (suc k)) e
          where
            on : (i < suc k) ⊎ (suc k ≤ i) → late_to T k i ≡ T → late_to T k i ≤ late_to T (suc k) i
            on (inl p) e = let f : late_to T (suc k) i ≡ suc T = cond-true _ _ _ (lt-ltb i (suc k) p) in omega arith
            on (inr p) e = let f : late_to T (suc k) i ≡ T = cond-false _ _ _ (le-ltb i (suc k) p) in omega arith

    -- Whether a unit is due.
    due-same : (T late : ℕ) (timer : Option ℕ) (at : ℕ) → late ≤ T → Timed late timer at → real.due_at m timer T ≡ eqb at T
    due-same T late timer at l (inl e) = ap (λ (o : Option ℕ). real.due_at m o T) e
    due-same T late timer at l (inr (e, q)) = ap (λ (o : Option ℕ). real.due_at m o T) e ∙ sym (ne_eqb at T (λ z. omega arith))

    idle : (j : ℕ) (busy : Option PlannedJob) (job : Job) → JobAlike m r n L (keeps_of rows) nk j busy job → is_none busy ≡ true → not (is_idle job) ≡ false
    idle j None job al h = ap (λ (x : Job). not (is_idle x)) al
    idle j (Some q) job al h = absurd (both_ways false refl h)

    turn-alike : (j T : ℕ) (b c : Bench S) (w : World S) → j < length programs → Same (late_to T j) b w → Going T w.state
        → turn_at (leaves m) (guarded m) m.known r n L (keeps_of rows) nk j T b ≡ Some c
        → Reached (late_to T (suc j)) T c (real.turn m (get_or programs j []) j w)
    turn-alike j T b c w lp al g h = way (eqb (b.units j).at T) refl h
      where
        lj : j < 16
        lj = omega arith

        code : List Step
        code = get_or programs j []

        u : UnitAlike m r n L (keeps_of rows) nk (late_to T j j) j (b.units j) (unit_in w.state j)
        u = al.units j lj

        same : real.due_at m (unit_in w.state j).timer w.state.granted ≡ eqb (b.units j).at T
        same = ap (real.due_at m (unit_in w.state j).timer) g.granted
            ∙ due-same T (late_to T j j) (unit_in w.state j).timer (b.units j).at (let e : late_to T j j ≡ T = cond-false _ _ _ (le-ltb j j (omega arith)) in omega arith) u.timer

        spent : World S
        spent = real.at w (with_timer w.state j None (unit_in w.state j).address)

        run : is_none (b.units j).busy ≡ true → (b.units j).at ≡ T
            → exec (engine (leaves m) (guarded m) m.known r n L (keeps_of rows) nk j T) (plan j) (suc (length (plan j))) (b.units j).pc b ≡ Some c
            → Reached (late_to T (suc j)) T c (real.awake m code j w)
        run free at hc = end (steps_alike m rows L row_fine (late_to T (suc j)) j T lj (half j lj) (plan j) code (code_at j lp) (λ a. fine j a lj)
            (suc (length (plan j))) (b.units j).pc b c spent
            (spend-alike m r n L (keeps_of rows) nk (late_to T j) (late_to T (suc j)) b w j lj (late-up T j) (let e : late_to T (suc j) j ≡ suc T = cond-true _ _ _ (lt-ltb j (suc j) (omega arith)) in omega arith) al)
            (record { granted = g.granted; going = g.going }) hc)
          where
            long : length code + 1 ≡ suc (length (plan j))
            long = add-one (length code) ∙ ap suc (ap length (maps j lp) ∙ length-map (plan j) (concrete rows j))

            end : (v : World S) × (real.steps m (suc (length (plan j))) code j (b.units j).pc spent ≡ Outcome.done v) × Same (late_to T (suc j)) c v × Going T v.state
                → Reached (late_to T (suc j)) T c (real.awake m code j w)
            end (v, e, a, z) = (
              v,
              cond-false _ _ _ (idle j (b.units j).busy (unit_in w.state j).job u.job free)
                  ∙ ap₂ (λ (x y : ℕ). real.steps m x code j y spent) long u.address ∙ e,
              a,
              z,
            )

        way : (q : Bool) → eqb (b.units j).at T ≡ q
            → cond q (cond (is_none (b.units j).busy) (exec (engine (leaves m) (guarded m) m.known r n L (keeps_of rows) nk j T) (plan j) (suc (length (plan j))) (b.units j).pc b) None) (Some b) ≡ Some c
            → Reached (late_to T (suc j)) T c (real.turn m code j w)
        way false e hc = (w, cond-false _ _ _ (same ∙ e), alike-up m r n L (keeps_of rows) nk (late_to T j) (late_to T (suc j)) c w (late-up T j) (subst (λ (x : Bench S). Same (late_to T j) x w) (some_same hc) al), g)
          where
            some_same : ◌≡◌ {A = Option (Bench S)} (Some b) (Some c) → b ≡ c
            some_same q = cc
        way true e hc = on (is_none (b.units j).busy) refl hc
          where
            on : (q : Bool) → is_none (b.units j).busy ≡ q
                → cond q (exec (engine (leaves m) (guarded m) m.known r n L (keeps_of rows) nk j T) (plan j) (suc (length (plan j))) (b.units j).pc b) None ≡ Some c
                → Reached (late_to T (suc j)) T c (real.turn m code j w)
            on false f hc = never c hc
            on true f hc = back (run f (eqb-true _ _ e) hc)
              where
                back : Reached (late_to T (suc j)) T c (real.awake m code j w) → Reached (late_to T (suc j)) T c (real.turn m code j w)
                back (v, x, y, z) = (v, cond-true _ _ _ (same ∙ e) ∙ x, y, z)

    -- The first part of a tick.
    first_alike : (k T : ℕ) (b c : Bench S) (w : World S) → k ≤ length programs → Same (late_to T 0) b w → Going T w.state
        → first_to (leaves m) (guarded m) m.known r n L (keeps_of rows) nk T k b ≡ Some c
        → Reached (late_to T k) T c (real.first_part m programs k w)
    unfolding first_to real.first_part
    first_alike zero T b c w l al g h = (w, refl, subst (λ (x : Bench S). Same (late_to T 0) x w) (some_same h) al, g)
      where
        some_same : ◌≡◌ {A = Option (Bench S)} (Some b) (Some c) → b ≡ c
        some_same q = cc
    first_alike (suc k) T b c w l al g h = on (first_to (leaves m) (guarded m) m.known r n L (keeps_of rows) nk T k b) refl h (λ d e. first_alike k T b d w (omega arith) al g e)
      where
        on : (o : Option (Bench S)) → first_to (leaves m) (guarded m) m.known r n L (keeps_of rows) nk T k b ≡ o
            → bind o (turn_at (leaves m) (guarded m) m.known r n L (keeps_of rows) nk k T) ≡ Some c
            → ((d : Bench S) → first_to (leaves m) (guarded m) m.known r n L (keeps_of rows) nk T k b ≡ Some d → Reached (late_to T k) T d (real.first_part m programs k w))
            → Reached (late_to T (suc k)) T c (and_then (real.first_part m programs k w) (real.turn m (get_or programs k []) k))
        on None e hc ih = never c hc
        on (Some d) e hc ih = next (ih d e)
          where
            next : Reached (late_to T k) T d (real.first_part m programs k w) → Reached (late_to T (suc k)) T c (and_then (real.first_part m programs k w) (real.turn m (get_or programs k []) k))
            next (v, x, y, z) = back (turn-alike k T d c v l y z hc)
              where
                back : Reached (late_to T (suc k)) T c (real.turn m (get_or programs k []) k v) → Reached (late_to T (suc k)) T c (and_then (real.first_part m programs k w) (real.turn m (get_or programs k []) k))
                back (u, p, q, s) = (u, ap (λ (o : Outcome S). and_then o (real.turn m (get_or programs k []) k)) x ∙ p, q, s)

    -- The second part, for one unit.
    some-bench : (b c : Bench S) → ◌≡◌ {A = Option (Bench S)} (Some b) (Some c) → b ≡ c
    some-bench b c q = cc

    moved : (late : ℕ → ℕ) (b c : Bench S) (w : World S) → ◌≡◌ {A = Option (Bench S)} (Some b) (Some c) → Same late b w → Same late c w
    moved late b c w e al = subst (λ (x : Bench S). Same late x w) (some-bench b c e) al

    heard-alike : (late : ℕ → ℕ) (j T C k a : ℕ) (b c : Bench S) (w : World S) (o : Option PlannedMessage) → j < 16 → k < n → Same late b w → Going T w.state
        → heard (leaves m) (guarded m) m.known r n L (keeps_of rows) nk o C j k b ≡ Some c
        → Reached late T c (real.heard m (as_line o) C j (r k).out a w)
    heard-alike late j T C k a b c w None lj lk al g h = never c h
    heard-alike late j T C k a b c w (Some x) lj lk al g h = way (eqb x.stop C) h
      where
        way : (q : Bool) → cond q (Some (store (leaves m) (guarded m) m.known r n L (keeps_of rows) nk j k x.word b)) None ≡ Some c
            → Reached late T c (cond q (Outcome.done (real.stored m j (r k).out x.word w)) (Outcome.refused (real.fault_at NoMessage j a) w))
        way true e = (
          real.stored m j (r k).out x.word w,
          refl,
          moved late _ c _ e (store-alike m r n L (keeps_of rows) nk late b w j k x.word lj (half j lj) (row_fine k lk).output al),
          record { granted = g.granted; going = g.going },
        )
        way false e = never c e

    ended-alike : (late : ℕ → ℕ) (j T C : ℕ) (b c : Bench S) (w : World S) (busy : Option PlannedJob) (job : Job) → j < 16 → Same late b w → Going T w.state
        → JobAlike m r n L (keeps_of rows) nk j busy job → ended (leaves m) (guarded m) m.known r n L (keeps_of rows) nk busy C j b ≡ Some c
        → Reached late T c (real.ended m job C j w)
    ended-alike late j T C b c w None job lj al g ja h =
        subst (λ (x : Job). Reached late T c (real.ended m x C j w)) (sym ja) (w, refl, moved late b c w h al, g)
    ended-alike late j T C b c w (Some q) job lj al g (a, lk, ja) h =
        subst (λ (x : Job). Reached late T c (real.ended m x C j w)) (sym ja) (split (is_line j) (owns m r n L (keeps_of rows) nk j q.row) h)
      where
        k : ℕ
        k = q.row

        Released : Bench S
        Released = release (leaves m) (guarded m) m.known r n L (keeps_of rows) nk j b

        Stored : Bench S
        Stored = store (leaves m) (guarded m) m.known r n L (keeps_of rows) nk j k q.word b

        Heard : Option (Bench S)
        Heard = heard (leaves m) (guarded m) m.known r n L (keeps_of rows) nk b.line C j k b

        storing : (t : Bool) → cond t (Some Stored) (Some b) ≡ Some c → Reached late T c (cond t (Outcome.done (real.stored m j (r k).out q.word w)) (Outcome.done w))
        storing true e = (
          real.stored m j (r k).out q.word w,
          refl,
          moved late Stored c _ e (store-alike m r n L (keeps_of rows) nk late b w j k q.word lj (half j lj) (row_fine k lk).output al),
          record { granted = g.granted; going = g.going },
        )
        storing false e = (w, refl, moved late b c w e al, g)

        releasing : (t : Bool) → cond t (Some Released) (Some b) ≡ Some c → Reached late T c (cond t (Outcome.done (real.at w (with_job w.state j Idle))) (Outcome.done w))
        releasing true e = (
          real.at w (with_job w.state j Idle),
          refl,
          moved late Released c _ e (release-alike m r n L (keeps_of rows) nk late b w j lj al),
          record { granted = g.granted; going = g.going },
        )
        releasing false e = (w, refl, moved late b c w e al, g)

        hearing : (t : Bool) → cond t Heard (Some b) ≡ Some c → Reached late T c (cond t (real.heard m w.state.line C j (r k).out a w) (Outcome.done w))
        hearing true e = subst (λ (x : Option Message). Reached late T c (real.heard m x C j (r k).out a w)) (sym al.line) (heard-alike late j T C k a b c w b.line lj lk al g e)
        hearing false e = (w, refl, moved late b c w e al, g)

        split : (l o : Bool) → cond (eqb q.stop C) (cond l (cond o (Some Released) Heard) (Some Stored)) (Some b) ≡ Some c
            → Reached late T c (real.ended m (cond l (cond o (Carry q.stop) (Listen q.stop (r k).out a)) (Store q.stop (r k).out q.word)) C j w)
        split true true e = releasing (eqb q.stop C) e
        split true false e = hearing (eqb q.stop C) e
        split false o e = storing (eqb q.stop C) e

    settle-alike : (late : ℕ → ℕ) (k T C : ℕ) (b c : Bench S) (w : World S) → k ≤ length programs → Same late b w → Going T w.state
        → settle_to (leaves m) (guarded m) m.known r n L (keeps_of rows) nk C k b ≡ Some c
        → Reached late T c (real.second_part m programs C k w)
    unfolding settle_to real.second_part
    settle-alike late zero T C b c w l al g h = (w, refl, moved late b c w h al, g)
    settle-alike late (suc k) T C b c w l al g h = on (settle_to (leaves m) (guarded m) m.known r n L (keeps_of rows) nk C k b) refl h (λ d e. settle-alike late k T C b d w (omega arith) al g e)
      where
        step : World S → Outcome S
        step v = real.ended m (unit_in v.state k).job C k v

        on : (o : Option (Bench S)) → settle_to (leaves m) (guarded m) m.known r n L (keeps_of rows) nk C k b ≡ o
            → bind o (λ d. ended (leaves m) (guarded m) m.known r n L (keeps_of rows) nk (d.units k).busy C k d) ≡ Some c
            → ((d : Bench S) → settle_to (leaves m) (guarded m) m.known r n L (keeps_of rows) nk C k b ≡ Some d → Reached late T d (real.second_part m programs C k w))
            → Reached late T c (and_then (real.second_part m programs C k w) step)
        on None e hc ih = never c hc
        on (Some d) e hc ih = next (ih d e)
          where
            next : Reached late T d (real.second_part m programs C k w) → Reached late T c (and_then (real.second_part m programs C k w) step)
            next (v, x, y, z) = back (ended-alike late k T C d c v (d.units k).busy (unit_in v.state k).job (omega arith) y z (y.units k (omega arith)).job hc)
              where
                back : Reached late T c (step v) → Reached late T c (and_then (real.second_part m programs C k w) step)
                back (u, p, q, s) = (u, ap (λ (o : Outcome S). and_then o step) x ∙ p, q, s)

    -- A tick, below the limit.
    pub tick-alike : (T : ℕ) (b c : Bench S) (w : World S) → T < limit → Same (λ _. T) b w → Going T w.state
        → tick (leaves m) (guarded m) m.known r n L (keeps_of rows) nk (length programs) T b ≡ Some c
        → Reached (λ _. suc T) (suc T) c (real.tick m programs w)
    tick-alike T b c w lt al g h = one (first_to (leaves m) (guarded m) m.known r n L (keeps_of rows) nk T (length programs) b) refl h
      where
        N : ℕ
        N = length programs

        start : Same (late_to T 0) b w
        start = alike-up m r n L (keeps_of rows) nk (λ _. T) (late_to T 0) b w (λ i. let e : late_to T 0 i ≡ T = cond-false _ _ _ (le-ltb i 0 (omega arith)) in omega arith) al

        top : (i : ℕ) → late_to T N i ≤ suc T
        top i = go (ltb i N)
          where
            go : (t : Bool) → cond t (suc T) T ≤ suc T
            go true = omega arith
            go false = omega arith

        second : World S → Outcome S
        second v = and_then (real.second_part m programs (w.state.granted + 1) N v) (λ u. Outcome.done (real.leaves m (w.state.granted + 1) u))

        clock : w.state.granted + 1 ≡ suc T
        clock = add-one w.state.granted ∙ ap suc g.granted

        whole : (o : Outcome S) → real.parts m programs w ≡ o → real.tick m programs w ≡ real.counted m programs w.state.granted o
        whole o e = cond-false _ _ _ g.going ∙ cond-true _ _ _ (ap (λ (z : ℕ). ltb z limit) g.granted ∙ lt-ltb T limit lt) ∙ ap (real.counted m programs w.state.granted) e

        finish : (d f : Bench S) (v u : World S) → real.first_part m programs N w ≡ Outcome.done v → real.second_part m programs (suc T) N v ≡ Outcome.done u
            → leave (leaves m) (guarded m) m.known r n L (keeps_of rows) nk (suc T) f ≡ c → Same (late_to T N) f u → Going T u.state → Reached (λ _. suc T) (suc T) c (real.tick m programs w)
        finish d f v u e1 e2 e3 al2 g2 = (real.at u2 (with_granted u2.state (w.state.granted + 1)), whole (Outcome.done u2) parts, alike, record { granted = clock; going = g2.going })
          where
            u2 : World S
            u2 = real.leaves m (suc T) u

            parts : real.parts m programs w ≡ Outcome.done u2
            parts = ap (λ (o : Outcome S). and_then o second) e1
                ∙ ap (λ (z : ℕ). and_then (real.second_part m programs z N v) (λ u. Outcome.done (real.leaves m z u))) clock
                ∙ ap (λ (o : Outcome S). and_then o (λ u. Outcome.done (real.leaves m (suc T) u))) e2

            alike : Same (λ _. suc T) c (real.at u2 (with_granted u2.state (w.state.granted + 1)))
            alike = granted-alike m r n L (keeps_of rows) nk (λ _. suc T) c u2 (w.state.granted + 1)
                (alike-up m r n L (keeps_of rows) nk (late_to T N) (λ _. suc T) c u2 top
                (subst (λ (x : Bench S). Same (late_to T N) x u2) e3 (leave-alike m r n L (keeps_of rows) nk (late_to T N) f u (suc T) al2)))

        two : (d : Bench S) (v : World S) → real.first_part m programs N w ≡ Outcome.done v → Same (late_to T N) d v → Going T v.state
            → (o : Option (Bench S)) → settle_to (leaves m) (guarded m) m.known r n L (keeps_of rows) nk (suc T) N d ≡ o
            → bind o (λ f. Some (leave (leaves m) (guarded m) m.known r n L (keeps_of rows) nk (suc T) f)) ≡ Some c
            → Reached (λ _. suc T) (suc T) c (real.tick m programs w)
        two d v e1 al1 g1 None e hc = never c hc
        two d v e1 al1 g1 (Some f) e hc = end (settle-alike (late_to T N) N T (suc T) d f v (omega arith) al1 g1 e)
          where
            end : Reached (late_to T N) T f (real.second_part m programs (suc T) N v) → Reached (λ _. suc T) (suc T) c (real.tick m programs w)
            end (u, x, y, z) = finish d f v u e1 x (some-bench _ c hc) y z

        one : (o : Option (Bench S)) → first_to (leaves m) (guarded m) m.known r n L (keeps_of rows) nk T N b ≡ o
            → bind o (λ d. bind (settle_to (leaves m) (guarded m) m.known r n L (keeps_of rows) nk (suc T) N d) (λ f. Some (leave (leaves m) (guarded m) m.known r n L (keeps_of rows) nk (suc T) f))) ≡ Some c
            → Reached (λ _. suc T) (suc T) c (real.tick m programs w)
        one None e hc = never c hc
        one (Some d) e hc = end (first_alike N T b d w (omega arith) start g e)
          where
            end : Reached (late_to T N) T d (real.first_part m programs N w) → Reached (λ _. suc T) (suc T) c (real.tick m programs w)
            end (v, x, y, z) = two d v x y z (settle_to (leaves m) (guarded m) m.known r n L (keeps_of rows) nk (suc T) N d) refl hc
