-- In a turn a unit performs at most one call or send, for any programs.
use Rattle.std.proofs.Common.{◌≡◌, ℕ, zero, suc, ◌+◌, ◌<◌, ◌≤◌, Bool, true, false, cond, not, eqb, ltb, ◌⊎◌, List, [], length, get_or, set, Some, None, Option, sym, refl, ap, ◌∙◌, subst, inl, inr, arith}
use Rattle.std.proofs.lemmas.List.{length-set, set_past, get_or-set_same}
use Rattle.std.proofs.lemmas.Bool.{cases_lt, both_ways}
use Rattle.fault.specs.declared.refusal.Refusal.TheVariants.{UnitBusy, NoMessage, LimitReached, Stopped}
use Rattle.netcode.specs.declared.step.Step.{Step}
use Rattle.netcode.specs.declared.step.Step.TheVariants.{Test, Future, Halt, Call, Send, Receive, Keep, Clear, Give}
use Rattle.netcode.specs.Layouts.{station_of}
use Rattle.plant.specs.Model.{Model}
use Rattle.plant.specs.Replies.{count_of}
use Rattle.plant.specs.declared.works.Words.{Words}
use Rattle.semantics.specs.declared.state.Mark.{Mark}
use Rattle.semantics.specs.declared.state.Job.{Job}
use Rattle.semantics.specs.declared.state.Job.TheVariants.{Idle, Store, Carry, Listen}
use Rattle.semantics.specs.declared.state.UnitState.{UnitState}
use Rattle.semantics.specs.declared.state.Message.{Message}
use Rattle.semantics.specs.declared.state.State.{State}
use Rattle.semantics.specs.Machine as real
use Rattle.semantics.specs.Machine.{World, Stepped, Outcome, onto, halted, input_words, word_in, mark_in, marked, blank_mark, new_unit, unit_in, is_busy, is_idle}
use Rattle.semantics.specs.Bounds.{CountsWithin}
use Rattle.semantics.proofs.Lists.{set-read}

written : (s : State) (row c : ℕ) (f g : Option ℕ) (v : ℕ) → CountsWithin c s → CountsWithin (c + 1) (marked s row f g v)
written s row c f g v h k = go (cases_lt row (length s.marks))
  where
    x : Mark
    x = record { count = (mark_in s row).count + 1; tick = s.granted; first = f; second = g; given = Some v }

    on : (b : Bool) → (cond b x (mark_in s k)).count ≤ c + 1
    on true = omega (arith, h row)
    on false = omega (arith, h k)

    go : (row < length s.marks) ⊎ (length s.marks ≤ row) → (get_or (set s.marks row x) k blank_mark).count ≤ c + 1
    go (inl l) = subst (λ (y : Mark). y.count ≤ c + 1) (sym (set-read s.marks row k x blank_mark l)) (on (eqb row k))
    go (inr l) = subst (λ (xs : List Mark). (get_or xs k blank_mark).count ≤ c + 1) (sym (set_past s.marks row x l)) (omega (arith, h k))

-- What a turn or a tick comes to, granted or refused.
abbrev pub world_of : (m : Model) → Outcome m.State → World m.State
world_of m (Outcome.done v) = v
world_of m (Outcome.refused f v) = v

-- There are sixteen units, and no row was performed more than c times.
pub record Fits (m : Model) (c : ℕ) (w : World m.State) : Type 0 where
  pub size : length w.state.units ≡ 16
  pub within : CountsWithin c w.state

pub fits-up : (m : Model) (c d : ℕ) (w : World m.State) → c ≤ d → Fits m c w → Fits m d w
fits-up m c d w l f = record { size = f.size; within = λ k. omega (arith, f.within k) }

module _ (m : Model) (j c : ℕ) (lj : j < 16) where
  abbrev S : Type 0
  S = m.State

  -- Unit j has performed nothing yet, or it is busy.
  pub record Once (w : World S) : Type 0 where
    pub size : length w.state.units ≡ 16
    pub within : CountsWithin c w.state ⊎ ((is_busy w.state j ≡ true) × CountsWithin (c + 1) w.state)

  unit-here : (s : State) (u : UnitState) → length s.units ≡ 16 → unit_in (real.with_unit s j u) j ≡ u
  unit-here s u l = get_or-set_same s.units j u new_unit (omega arith)

  -- Units and marks as they were.
  kept : (w v : World S) → v.state.units ≡ w.state.units → v.state.marks ≡ w.state.marks → Once w → Once v
  kept w v e f o = record { size = ap length e ∙ o.size; within = go o.within }
    where
      go : CountsWithin c w.state ⊎ ((is_busy w.state j ≡ true) × CountsWithin (c + 1) w.state) → CountsWithin c v.state ⊎ ((is_busy v.state j ≡ true) × CountsWithin (c + 1) v.state)
      go (inl h) = inl (λ k. subst (λ (xs : List Mark). (get_or xs k blank_mark).count ≤ c) (sym f) (h k))
      go (inr (b, h)) = inr (ap (λ (xs : List UnitState). not (is_idle (get_or xs j new_unit).job)) e ∙ b, λ k. subst (λ (xs : List Mark). (get_or xs k blank_mark).count ≤ c + 1) (sym f) (h k))

  abbrev StepOnce : Stepped S → Type 0
  StepOnce (onto a v) = Once v
  StepOnce (halted v) = Once v
  StepOnce (Stepped.refused f v) = Once v

  idle-within : (w : World S) → Once w → is_busy w.state j ≡ false → CountsWithin c w.state
  idle-within w o e = go o.within
    where
      go : CountsWithin c w.state ⊎ ((is_busy w.state j ≡ true) × CountsWithin (c + 1) w.state) → CountsWithin c w.state
      go (inl h) = h
      go (inr (b, h)) = absurd (both_ways (is_busy w.state j) e b)

  unit_size : (s : State) (u : UnitState) → length s.units ≡ 16 → length (set s.units j u) ≡ 16
  unit_size s u l = length-set s.units j u ∙ l

  on_call : (o : Option Words) (row work output duration address : ℕ) (w : World S) → Once w → StepOnce (real.called m o row work output duration j address w)
  on_call None row work output duration address w o = o
  on_call (Some words) row work output duration address w o = go (is_busy w.state j) refl (m.known (station_of j) work (count_of words))
    where
      go : (b : Bool) → is_busy w.state j ≡ b → (k : Bool) → StepOnce (cond b (Stepped.refused (real.fault_at UnitBusy j address) w) (cond k (onto (address + 1) (real.answered m row work words output duration j w)) (Stepped.refused (real.unknown_at (station_of j) work j address) w)))
      go true e k = o
      go false e false = o
      go false e true = record {
        size = unit_size w.state _ o.size;
        within = inr (ap (λ (u : UnitState). not (is_idle u.job)) (unit-here w.state _ o.size), written w.state row c _ _ _ (idle-within w o e));
      }

  on-send : (o : Option ℕ) (row duration address : ℕ) (w : World S) → Once w → StepOnce (real.sent m o row duration j address w)
  on-send None row duration address w o = o
  on-send (Some word) row duration address w o = go (is_busy w.state j) refl
    where
      line : is_busy w.state j ≡ false → (x : Option Message) → StepOnce (real.on_line m x row word duration j address w)
      line e (Some message) = o
      line e None = record {
        size = unit_size w.state _ o.size;
        within = inr (ap (λ (u : UnitState). not (is_idle u.job)) (unit-here w.state _ o.size), written w.state row c _ _ _ (idle-within w o e));
      }

      go : (b : Bool) → is_busy w.state j ≡ b → StepOnce (cond b (Stepped.refused (real.fault_at UnitBusy j address) w) (real.on_line m w.state.line row word duration j address w))
      go true e = o
      go false e = line e w.state.line

  step-once : (x : Step) (address : ℕ) (w : World S) → Once w → StepOnce (real.performed m x j address w)
  step-once (Test variable relation word to) address w o = held (word_in w.state (station_of j) variable)
    where
      way : (b : Bool) → StepOnce (cond b (onto (address + 1) w) (onto to w))
      way true = o
      way false = o

      held : (x : Option ℕ) → StepOnce (real.tested m x relation word to j address w)
      held None = o
      held (Some v) = way _
  step-once (Future ticks to) address w o = record { size = unit_size w.state _ o.size; within = go o.within }
    where
      v : World S
      v = real.later m ticks to j w

      go : CountsWithin c w.state ⊎ ((is_busy w.state j ≡ true) × CountsWithin (c + 1) w.state) → CountsWithin c v.state ⊎ ((is_busy v.state j ≡ true) × CountsWithin (c + 1) v.state)
      go (inl h) = inl h
      go (inr (b, h)) = inr (ap (λ (u : UnitState). not (is_idle u.job)) (unit-here w.state _ o.size) ∙ b, h)
  step-once Halt address w o = o
  step-once (Call row work inputs output duration) address w o = on_call (input_words inputs (word_in w.state (station_of j))) row work output duration address w o
  step-once (Send row variable duration) address w o = on-send (word_in w.state (station_of j) variable) row duration address w o
  step-once (Receive variable duration) address w o = go (is_busy w.state j) refl
    where
      go : (b : Bool) → is_busy w.state j ≡ b → StepOnce (cond b (Stepped.refused (real.fault_at UnitBusy j address) w) (onto (address + 1) (real.at w (real.with_job w.state j (Listen (w.state.granted + duration) variable address)))))
      go true e = o
      go false e = record { size = unit_size w.state _ o.size; within = inl (idle-within w o e) }
  step-once (Keep variable cell) address w o = go (word_in w.state (station_of j) variable)
    where
      go : (x : Option ℕ) → Once (real.at w (real.kept_from m x cell w.state))
      go None = o
      go (Some v) = kept w _ refl refl o
  step-once Clear address w o = kept w _ refl refl o
  step-once (Give cell variable word) address w o = kept w _ refl refl o

  pub steps-once : (n : ℕ) (code : List Step) (address : ℕ) (w : World S) → Once w → Once (world_of m (real.steps m n code j address w))
  unfolding real.steps
  steps-once zero code address w o = o
  steps-once (suc n) code address w o = go (real.performed m (get_or code address Halt) j address w) (step-once (get_or code address Halt) address w o) (λ a v. steps-once n code a v)
    where
      go : (st : Stepped S) → StepOnce st → ((a : ℕ) (v : World S) → Once v → Once (world_of m (real.steps m n code j a v))) → Once (world_of m (real.onward m st (real.steps m n code j)))
      go (onto a v) t ih = ih a v t
      go (halted v) t ih = t
      go (Stepped.refused f v) t ih = t

  once_more : (w : World S) → Once w → Fits m (c + 1) w
  once_more w o = record { size = o.size; within = λ k. go k o.within }
    where
      go : (k : ℕ) → CountsWithin c w.state ⊎ ((is_busy w.state j ≡ true) × CountsWithin (c + 1) w.state) → (mark_in w.state k).count ≤ c + 1
      go k (inl h) = omega (arith, h k)
      go k (inr (b, h)) = h k

  pub turn-once : (code : List Step) (w : World S) → Fits m c w → Fits m (c + 1) (world_of m (real.turn m code j w))
  turn-once code w f = go (real.due_at m (unit_in w.state j).timer w.state.granted) (is_busy w.state j)
    where
      a : ℕ
      a = (unit_in w.state j).address

      u : World S
      u = real.at w (real.with_timer w.state j None a)

      go : (d b : Bool) → Fits m (c + 1) (world_of m (cond d (cond b (Outcome.refused (real.fault_at UnitBusy j a) w) (real.steps m (length code + 1) code j a u)) (Outcome.done w)))
      go false b = fits-up m c (c + 1) w (omega arith) f
      go true true = fits-up m c (c + 1) w (omega arith) f
      go true false = once_more _ (steps-once (length code + 1) code a u (record { size = unit_size w.state _ f.size; within = inl f.within }))

module _ (m : Model) where
  ended-fits : (c : ℕ) (job : Job) (clock j : ℕ) (w : World m.State) → Fits m c w → Fits m c (world_of m (real.ended m job clock j w))
  ended-fits c Idle clock j w f = f
  ended-fits c (Store end variable word) clock j w f = go (eqb end clock)
    where
      go : (b : Bool) → Fits m c (world_of m (cond b (Outcome.done (real.stored m j variable word w)) (Outcome.done w)))
      go true = record { size = length-set w.state.units j _ ∙ f.size; within = f.within }
      go false = f
  ended-fits c (Carry end) clock j w f = go (eqb end clock)
    where
      go : (b : Bool) → Fits m c (world_of m (cond b (Outcome.done (real.at w (real.with_job w.state j Idle))) (Outcome.done w)))
      go true = record { size = length-set w.state.units j _ ∙ f.size; within = f.within }
      go false = f
  ended-fits c (Listen end variable address) clock j w f = go (eqb end clock)
    where
      heard : (o : Option Message) → Fits m c (world_of m (real.heard m o clock j variable address w))
      heard None = f
      heard (Some x) = on (eqb x.end clock)
        where
          on : (b : Bool) → Fits m c (world_of m (cond b (Outcome.done (real.stored m j variable x.word w)) (Outcome.refused (real.fault_at NoMessage j address) w)))
          on true = record { size = length-set w.state.units j _ ∙ f.size; within = f.within }
          on false = f

      go : (b : Bool) → Fits m c (world_of m (cond b (real.heard m w.state.line clock j variable address w) (Outcome.done w)))
      go true = heard w.state.line
      go false = f

  module _ (programs : List (List Step)) where
    pub first_fits : (n c : ℕ) (w : World m.State) → n ≤ 16 → Fits m c w → Fits m (c + n) (world_of m (real.first_part m programs n w))
    unfolding real.first_part
    first_fits zero c w l f = fits-up m c (c + 0) w (omega arith) f
    first_fits (suc n) c w l f = go (real.first_part m programs n w) (first_fits n c w (omega arith) f)
      where
        go : (o : Outcome m.State) → Fits m (c + n) (world_of m o) → Fits m (c + suc n) (world_of m (real.and_then o (real.turn m (get_or programs n []) n)))
        go (Outcome.done v) t = fits-up m (c + n + 1) (c + suc n) _ (omega arith) (turn-once m n (c + n) l (get_or programs n []) v t)
        go (Outcome.refused x v) t = fits-up m (c + n) (c + suc n) v (omega arith) t

    pub second_fits : (clock n c : ℕ) (w : World m.State) → Fits m c w → Fits m c (world_of m (real.second_part m programs clock n w))
    unfolding real.second_part
    second_fits clock zero c w f = f
    second_fits clock (suc n) c w f = go (real.second_part m programs clock n w) (second_fits clock n c w f)
      where
        go : (o : Outcome m.State) → Fits m c (world_of m o) → Fits m c (world_of m (real.and_then o (λ v. real.ended m (unit_in v.state n).job clock n v)))
        go (Outcome.done v) t = ended-fits c (unit_in v.state n).job clock n v t
        go (Outcome.refused x v) t = t

    -- A tick, granted or refused.
    pub tick-fits : (c : ℕ) (w : World m.State) → length programs ≤ 16 → Fits m c w → Fits m (c + length programs) (world_of m (real.tick m programs w))
    tick-fits c w few f = go w.state.stopped (ltb w.state.granted real.limit)
      where
        N : ℕ
        N = length programs

        t : ℕ
        t = w.state.granted + 1

        more : World m.State → Outcome m.State
        more v = real.and_then (real.second_part m programs t N v) (λ u. Outcome.done (real.leaves m t u))

        last : (o : Outcome m.State) → Fits m (c + N) (world_of m o) → Fits m (c + N) (world_of m (real.and_then o (λ u. Outcome.done (real.leaves m t u))))
        last (Outcome.done u) x = record { size = x.size; within = x.within }
        last (Outcome.refused y u) x = x

        two : (o : Outcome m.State) → Fits m (c + N) (world_of m o) → Fits m (c + N) (world_of m (real.and_then o more))
        two (Outcome.done v) x = last (real.second_part m programs t N v) (second_fits t N (c + N) v x)
        two (Outcome.refused y v) x = x

        count : (o : Outcome m.State) → Fits m (c + N) (world_of m o) → Fits m (c + N) (world_of m (real.counted m programs w.state.granted o))
        count (Outcome.done v) x = record { size = x.size; within = x.within }
        count (Outcome.refused y v) x = record { size = x.size; within = x.within }

        go : (s l : Bool) → Fits m (c + N) (world_of m (cond s (Outcome.refused (real.of_the_run Stopped) w) (cond l (real.counted m programs w.state.granted (real.parts m programs w)) (Outcome.refused (real.of_the_run LimitReached) w))))
        go true l = fits-up m c (c + N) w (omega arith) f
        go false false = fits-up m c (c + N) w (omega arith) f
        go false true = count (real.parts m programs w) (two (real.first_part m programs N w) (first_fits N c w few f))
