-- What holds of every run lasts.
use Rattle.std.proofs.Common.{◌≡◌, ℕ, zero, suc, ◌+◌, ◌*◌, ◌<◌, ◌≤◌, Bool, true, false, cond, not, eqb, ltb, List, length, get_or, take, replicate, Some, None, Ok, Err, Option, Result, sym, refl, ap, ◌∙◌, subst, inl, inr, arith}
use Rattle.std.proofs.lemmas.List.{length-take, get_or_past}
use Rattle.std.proofs.lemmas.Bool.{cases_lt}
use Rattle.fault.specs.declared.refusal.Fault.{Fault}
use Rattle.fault.specs.declared.refusal.Refusal.TheVariants.{NoMessage, Stopped, LimitReached}
use Rattle.fault.specs.declared.place.TickPlace.{TickPlace}
use Rattle.netcode.specs.declared.step.Step.{Step}
use Rattle.netcode.specs.declared.step.Layout.{Layout}
use Rattle.netcode.specs.Layouts.{program_count, programs_of}
use Rattle.netcode.proofs.Cuts.{length-cuts}
use Rattle.plant.specs.Model.{Model}
use Rattle.semantics.specs.declared.state.State.{State}
use Rattle.semantics.specs.declared.state.Mark.{Mark}
use Rattle.semantics.specs.declared.state.UnitState.{UnitState}
use Rattle.semantics.specs.declared.state.Job.{Job}
use Rattle.semantics.specs.declared.state.Job.TheVariants.{Idle, Store, Carry, Listen}
use Rattle.semantics.specs.declared.state.Message.{Message}
use Rattle.semantics.specs.Machine.{World, Outcome, at, new_state, limit, blank_mark, new_unit, is_idle, fault_at, of_the_run, mark_in, unit_in, is_busy, with_job, stored, heard, ended, leaves, and_then, first_part, second_part, parts, counted, tick}
use Rattle.bench.specs.Shown.{Room, Counted, outcome}
use Rattle.bench.proofs.Kept.{out_state, Turned, turned-first}

-- There are as many programs as the stations have.
pub length-programs : (layout : Layout) (steps : List Step) → length layout.lengths ≡ 16 → length (programs_of layout steps) ≡ program_count layout.stations
length-programs layout steps h =
    length-cuts (take (program_count layout.stations) layout.lengths) steps ∙ simp length-take (omega arith)

-- The second part changes neither marks nor clock.
record Same (s t : State) : Type 0 where
  granted : t.granted ≡ s.granted
  marks : t.marks ≡ s.marks

same : (s : State) → Same s s
same s = record { granted = refl; marks = refl }

same_then : (s t u : State) → Same s t → Same t u → Same s u
same_then s t u a b = record { granted = b.granted ∙ a.granted; marks = b.marks ∙ a.marks }

module _ (m : Model) where
  same-stored : (program variable word : ℕ) (w : World m.State) → Same w.state (stored m program variable word w).state
  same-stored program variable word w = record { granted = refl; marks = refl }

  same-heard : (o : Option Message) (clock program variable address : ℕ) (w : World m.State) → Same w.state (out_state (heard m o clock program variable address w))
  same-heard None clock program variable address w = same w.state
  same-heard (Some message) clock program variable address w =
      elim (eqb message.end clock) as (λ b. Same w.state (out_state (cond b (Outcome.done (stored m program variable message.word w)) (Outcome.refused (fault_at NoMessage program address) w)))) [
        | true ↦ same-stored program variable message.word w
        | false ↦ same w.state
      ]

  same_ended : (j : Job) (clock program : ℕ) (w : World m.State) → Same w.state (out_state (ended m j clock program w))
  same_ended Idle clock program w = same w.state
  same_ended (Store end variable word) clock program w =
      elim (eqb end clock) as (λ b. Same w.state (out_state (cond b (Outcome.done (stored m program variable word w)) (Outcome.done w)))) [
        | true ↦ same-stored program variable word w
        | false ↦ same w.state
      ]
  same_ended (Carry end) clock program w =
      elim (eqb end clock) as (λ b. Same w.state (out_state (cond b (Outcome.done (at w (with_job w.state program Idle))) (Outcome.done w)))) [
        | true ↦ record { granted = refl; marks = refl }
        | false ↦ same w.state
      ]
  same_ended (Listen end variable address) clock program w =
      elim (eqb end clock) as (λ b. Same w.state (out_state (cond b (heard m w.state.line clock program variable address w) (Outcome.done w)))) [
        | true ↦ same-heard w.state.line clock program variable address w
        | false ↦ same w.state
      ]

  same_second : (programs : List (List Step)) (clock n : ℕ) (w : World m.State) → Same w.state (out_state (second_part m programs clock n w))
  unfolding second_part
  same_second programs clock zero w = same w.state
  same_second programs clock (suc n) w = go (second_part m programs clock n w) (same_second programs clock n w)
    where
      go : (o : Outcome m.State) → Same w.state (out_state o) → Same w.state (out_state (and_then o (λ v. ended m (unit_in v.state n).job clock n v)))
      go (Outcome.done v) k = same_then _ _ _ k (same_ended (unit_in v.state n).job clock n v)
      go (Outcome.refused fault v) k = k

  -- After both parts no row was counted more than sixteen times more.
  record Ends (s t : State) : Type 0 where
    granted : t.granted ≡ s.granted
    counts : (row : ℕ) → (mark_in t row).count ≤ 16 * s.granted + 16

  ends-turned : (n : ℕ) (s t u : State) → n ≤ 16 → length s.units ≡ 16 → Turned n s t → Same t u → Ends s u
  ends-turned n s t u h units r e = record {
    granted = e.granted ∙ r.granted;
    counts = λ row.
        let p : mark_in u row ≡ mark_in t row = ap (λ (xs : List Mark). get_or xs row blank_mark) e.marks in
        subst (λ (x : Mark). x.count ≤ 16 * s.granted + 16) (sym p) (elim (cases_lt n 16) [ inl l ↦ go (is_busy t n) row l (r.room row) | inr l ↦ last row l (r.room row) ]);
  }
    where
      go : (b : Bool) (row : ℕ) → n < 16 → (mark_in t row).count ≤ 16 * t.granted + n + cond b 1 0 → (mark_in t row).count ≤ 16 * s.granted + 16
      go true row l k = omega (arith, k, r.granted)
      go false row l k = omega (arith, k, r.granted)

      last : (row : ℕ) → 16 ≤ n → (mark_in t row).count ≤ 16 * t.granted + n + cond (is_busy t n) 1 0 → (mark_in t row).count ≤ 16 * s.granted + 16
      last row l k =
          let f : is_busy t n ≡ false = ap (λ (x : UnitState). not (is_idle x.job)) (get_or_past t.units n new_unit (rw (r.units, units) l)) in
          let j = subst (λ (b : Bool). (mark_in t row).count ≤ 16 * t.granted + n + cond b 1 0) f k in
          omega (arith, j, r.granted)

  ends-parts : (programs : List (List Step)) (w : World m.State) → length programs ≤ 16 → length w.state.units ≡ 16 → Room w.state 0 → Ends w.state (out_state (parts m programs w))
  ends-parts programs w h units r = go (first_part m programs (length programs) w) (turned-first m programs (length programs) w (rw units h) r)
    where
      second : (v : World m.State) (o : Outcome m.State) → Turned (length programs) w.state v.state → Same v.state (out_state o)
          → Ends w.state (out_state (and_then o (λ u. Outcome.done (leaves m (w.state.granted + 1) u))))
      second v (Outcome.done u) k e = let x = ends-turned (length programs) w.state v.state u.state h units k e in record { granted = x.granted; counts = x.counts }
      second v (Outcome.refused fault u) k e = ends-turned (length programs) w.state v.state u.state h units k e

      go : (o : Outcome m.State) → Turned (length programs) w.state (out_state o)
          → Ends w.state (out_state (and_then o (λ v. and_then (second_part m programs (w.state.granted + 1) (length programs) v) (λ u. Outcome.done (leaves m (w.state.granted + 1) u)))))
      go (Outcome.done v) k = second v (second_part m programs (w.state.granted + 1) (length programs) v) k (same_second programs (w.state.granted + 1) (length programs) v)
      go (Outcome.refused fault v) k = ends-turned (length programs) w.state v.state v.state h units k (same v.state)

  ends-counted : (s : State) (o : Outcome m.State) (programs : List (List Step)) → Ends s (out_state o) → Counted (out_state (counted m programs s.granted o))
  ends-counted s (Outcome.done w) programs e row = go w.state.stopped (e.counts row)
    where
      go : (b : Bool) → (mark_in w.state row).count ≤ 16 * s.granted + 16 → (mark_in w.state row).count ≤ 16 * (s.granted + 1) + cond b 16 0
      go true k = omega (arith, k)
      go false k = omega (arith, k)
  ends-counted s (Outcome.refused fault w) programs e row = rw e.granted (e.counts row)

  -- Before a tick that is tried, the first unit can take its turn.
  room-counted : (s : State) → s.stopped ≡ false → Counted s → Room s 0
  room-counted s h l row = go (is_busy s 0) (subst (λ (b : Bool). (mark_in s row).count ≤ 16 * s.granted + cond b 16 0) h (l row))
    where
      go : (b : Bool) → (mark_in s row).count ≤ 16 * s.granted + 0 → (mark_in s row).count ≤ 16 * s.granted + 0 + cond b 1 0
      go true k = omega (arith, k)
      go false k = omega (arith, k)

  -- A tick keeps the bound on the counts.
  counted-tick : (programs : List (List Step)) (w : World m.State) → length programs ≤ 16 → length w.state.units ≡ 16 → Counted w.state → Counted (out_state (tick m programs w))
  counted-tick programs w h units l = go w.state.stopped refl (ltb w.state.granted limit)
    where
      go : (b : Bool) → w.state.stopped ≡ b → (c : Bool)
          → Counted (out_state (cond b (Outcome.refused (of_the_run Stopped) w) (cond c (counted m programs w.state.granted (parts m programs w)) (Outcome.refused (of_the_run LimitReached) w))))
      go true e c = l
      go false e true = ends-counted w.state (parts m programs w) programs (ends-parts programs w h units (room-counted w.state e l))
      go false e false = l

  pub counted-after : (programs : List (List Step)) (w v : World m.State) (r : Result (Unit {0}) (Fault TickPlace)) → length programs ≤ 16 → length w.state.units ≡ 16 → Counted w.state
      → outcome r v ≡ tick m programs w → Counted v.state
  counted-after programs w v (Ok x) h units l e = subst (λ (o : Outcome m.State). Counted (out_state o)) (sym e) (counted-tick programs w h units l)
  counted-after programs w v (Err f) h units l e = subst (λ (o : Outcome m.State). Counted (out_state o)) (sym e) (counted-tick programs w h units l)

same-everywhere : {X : Type 0} (n i : ℕ) (x : X) → get_or (replicate n x) i x ≡ x
same-everywhere zero i x = refl
same-everywhere (suc n) zero x = refl
same-everywhere (suc n) (suc i) x = same-everywhere n i x

-- It holds at making.
pub counted-new : Counted new_state
counted-new row = let e : (mark_in new_state row).count ≡ 0 = ap (λ (x : Mark). x.count) (same-everywhere 128 row blank_mark) in omega arith
