-- What steps keep: the clock, how many units there are, and the room in marks.
use Rattle.std.proofs.Common.{◌≡◌, ℕ, zero, suc, ◌+◌, ◌*◌, ◌<◌, ◌≤◌, Bool, true, false, cond, not, List, [], ◌∷◌, length, get_or, set, Some, None, Option, sym, refl, ap, ◌∙◌, subst, add-one, arith, length-set, get_or-set_same}
use Rattle.fault.specs.declared.refusal.Refusal.TheVariants.{UnitBusy}
use Rattle.sheet.specs.declared.row.Relation.{Relation}
use Rattle.netcode.specs.declared.step.Step.{Step}
use Rattle.netcode.specs.declared.step.Step.TheVariants.{Test, Future, Halt, Call, Send, Receive, Keep, Clear, Give}
use Rattle.netcode.specs.Layouts.{station_of}
use Rattle.plant.specs.Model.{Model}
use Rattle.plant.specs.declared.works.Words.{Words}
use Rattle.plant.specs.Replies.{count_of}
use Rattle.semantics.specs.Reading.{passes}
use Rattle.semantics.specs.declared.state.State.{State}
use Rattle.semantics.specs.declared.state.Mark.{Mark}
use Rattle.semantics.specs.declared.state.Job.{Job}
use Rattle.semantics.specs.declared.state.Job.TheVariants.{Carry, Listen}
use Rattle.semantics.specs.declared.state.UnitState.{UnitState}
use Rattle.semantics.specs.declared.state.Message.{Message}
use Rattle.semantics.specs.Machine.{World, Stepped, Outcome, at, fault_at, unknown_at, blank_mark, mark_in, unit_in, word_in, is_idle, is_busy, with_job, with_timer, with_unit, marked, input_words, tested, called, answered, sent, on_line, listening, kept_from, performed, onward, steps, due_at, turn, and_then, first_part}
use Rattle.semantics.specs.Machine.Stepped.{onto, halted}
use Rattle.bench.specs.Shown.{Room}

pub record Kept (program : ℕ) (s t : State) : Type 0 where
  pub granted : t.granted ≡ s.granted
  pub units : length t.units ≡ length s.units
  pub room : Room s program → Room t program

abbrev pub state_of : {S : Type 0} → Stepped S → State
state_of (onto address w) = w.state
state_of (halted w) = w.state
state_of (Stepped.refused fault w) = w.state

kept-all : (program : ℕ) (s : State) → Kept program s s
kept-all program s = record { granted = refl; units = refl; room = λ r. r }

-- The unit of a program after it was changed.
own-unit : (program : ℕ) (s : State) (u : UnitState) → program < length s.units → unit_in (with_unit s program u) program ≡ u
own-unit program s u h = rw get_or-set_same

busy-job : (program : ℕ) (s : State) (j : Job) → program < length s.units → is_busy (with_job s program j) program ≡ not (is_idle j)
busy-job program s j h = ap (λ (u : UnitState). not (is_idle u.job)) (own-unit program s _ h)

-- A row's count grows at most by one.
count_set : (xs : List Mark) (i j : ℕ) (v : Mark) (n : ℕ) → v.count ≤ n → (get_or xs j blank_mark).count ≤ n → (get_or (set xs i v) j blank_mark).count ≤ n
count_set [] i j v n a b = b
count_set (x ∷ xs) zero zero v n a b = a
count_set (x ∷ xs) zero (suc j) v n a b = b
count_set (x ∷ xs) (suc i) zero v n a b = b
count_set (x ∷ xs) (suc i) (suc j) v n a b = count_set xs i j v n a b

-- A mark written in the turn of a unit that was free, which is busy then.
kept-start : (program row : ℕ) (s : State) (a b : Option ℕ) (v : ℕ) (j : Job) → program < length s.units → is_busy s program ≡ false → is_idle j ≡ false
    → Kept program s (with_job (marked s row a b v) program j)
kept-start program row s a b v j h free busy = record {
  granted = refl;
  units = length-set s.units program _;
  room = λ room k.
      let e : is_busy (with_job (marked s row a b v) program j) program ≡ true = busy-job program (marked s row a b v) j h ∙ ap not busy in
      let old : (r : ℕ) → (mark_in s r).count ≤ 16 * s.granted + program + 0 = λ r. subst (λ (x : Bool). (mark_in s r).count ≤ 16 * s.granted + program + cond x 1 0) free (room r) in
      subst (λ (x : Bool). (mark_in (marked s row a b v) k).count ≤ 16 * s.granted + program + cond x 1 0) (sym e)
      (count_set s.marks row k _ (16 * s.granted + program + 1) (omega (arith, old row)) (omega (arith, old k)));
}

-- A job that begins, with no mark.
kept-job : (program : ℕ) (s : State) (j : Job) → program < length s.units → is_idle j ≡ false → Kept program s (with_job s program j)
kept-job program s j h busy = record {
  granted = refl;
  units = length-set s.units program _;
  room = λ room k.
      let e : is_busy (with_job s program j) program ≡ true = busy-job program s j h ∙ ap not busy in
      subst (λ (x : Bool). (mark_in s k).count ≤ 16 * s.granted + program + cond x 1 0) (sym e) (at_most (is_busy s program) k (room k));
}
  where
    at_most : (b : Bool) (k : ℕ) → (mark_in s k).count ≤ 16 * s.granted + program + cond b 1 0 → (mark_in s k).count ≤ 16 * s.granted + program + 1
    at_most true k r = r
    at_most false k r = omega (arith, r)

kept-timer : (program : ℕ) (s : State) (t : Option ℕ) (to : ℕ) → program < length s.units → Kept program s (with_timer s program t to)
kept-timer program s t to h = record {
  granted = refl;
  units = length-set s.units program _;
  room = λ room k.
      let e : is_busy (with_timer s program t to) program ≡ is_busy s program = ap (λ (u : UnitState). not (is_idle u.job)) (own-unit program s _ h) in
      subst (λ (x : Bool). (mark_in s k).count ≤ 16 * s.granted + program + cond x 1 0) (sym e) (room k);
}

module _ (m : Model) where
  kept-tested : (o : Option ℕ) (r : Relation) (word to program address : ℕ) (w : World m.State)
      → Kept program w.state (state_of (tested m o r word to program address w))
  kept-tested None r word to program address w = kept-all program w.state
  kept-tested (Some held) r word to program address w =
      elim (passes r held word) as (λ b. Kept program w.state (state_of (cond b (onto (address + 1) w) (onto to w)))) [
        | true ↦ kept-all program w.state
        | false ↦ kept-all program w.state
      ]

  kept-called : (o : Option Words) (row work output duration program address : ℕ) (w : World m.State) → program < length w.state.units
      → Kept program w.state (state_of (called m o row work output duration program address w))
  kept-called None row work output duration program address w h = kept-all program w.state
  kept-called (Some words) row work output duration program address w h = go (is_busy w.state program) refl (m.known (station_of program) work (count_of words))
    where
      go : (b : Bool) → is_busy w.state program ≡ b → (k : Bool)
          → Kept program w.state (state_of (cond b (Stepped.refused (fault_at UnitBusy program address) w)
          (cond k (onto (address + 1) (answered m row work words output duration program w))
          (Stepped.refused (unknown_at (station_of program) work program address) w))))
      go true e k = kept-all program w.state
      go false e true = kept-start program row w.state _ _ _ _ h e refl
      go false e false = kept-all program w.state

  kept_line : (o : Option Message) (row word duration program address : ℕ) (w : World m.State) → program < length w.state.units
      → is_busy w.state program ≡ false → Kept program w.state (state_of (on_line m o row word duration program address w))
  kept_line None row word duration program address w h e =
      let k = kept-start program row w.state (Some word) None word (Carry (w.state.granted + duration)) h e refl in
      record { granted = k.granted; units = k.units; room = k.room }
  kept_line (Some message) row word duration program address w h e = kept-all program w.state

  kept-sent : (o : Option ℕ) (row duration program address : ℕ) (w : World m.State) → program < length w.state.units
      → Kept program w.state (state_of (sent m o row duration program address w))
  kept-sent None row duration program address w h = kept-all program w.state
  kept-sent (Some word) row duration program address w h = go (is_busy w.state program) refl
    where
      go : (b : Bool) → is_busy w.state program ≡ b
          → Kept program w.state (state_of (cond b (Stepped.refused (fault_at UnitBusy program address) w) (on_line m w.state.line row word duration program address w)))
      go true e = kept-all program w.state
      go false e = kept_line w.state.line row word duration program address w h e

  kept-listening : (variable duration program address : ℕ) (w : World m.State) → program < length w.state.units
      → Kept program w.state (state_of (listening m variable duration program address w))
  kept-listening variable duration program address w h =
      elim (is_busy w.state program) as (λ b. Kept program w.state (state_of (cond b (Stepped.refused (fault_at UnitBusy program address) w)
      (onto (address + 1) (at w (with_job w.state program (Listen (w.state.granted + duration) variable address))))))) [
        | true ↦ kept-all program w.state
        | false ↦ kept-job program w.state _ h refl
      ]

  kept-cell : (o : Option ℕ) (cell program : ℕ) (s : State) → Kept program s (kept_from m o cell s)
  kept-cell None cell program s = kept-all program s
  kept-cell (Some word) cell program s = record { granted = refl; units = refl; room = λ r. r }

  -- What a step keeps.
  pub kept-performed : (step : Step) (program address : ℕ) (w : World m.State) → program < length w.state.units
      → Kept program w.state (state_of (performed m step program address w))
  kept-performed (Test v r x t) program address w h = kept-tested (word_in w.state (station_of program) v) r x t program address w
  kept-performed (Future n t) program address w h = kept-timer program w.state _ t h
  kept-performed Halt program address w h = kept-all program w.state
  kept-performed (Call r k i o d) program address w h = kept-called (input_words i (word_in w.state (station_of program))) r k o d program address w h
  kept-performed (Send r v d) program address w h = kept-sent (word_in w.state (station_of program) v) r d program address w h
  kept-performed (Receive v d) program address w h = kept-listening v d program address w h
  kept-performed (Keep v c) program address w h = kept-cell (word_in w.state (station_of program) v) c program w.state
  kept-performed Clear program address w h = record { granted = refl; units = refl; room = λ r. r }
  kept-performed (Give c v x) program address w h = record { granted = refl; units = refl; room = λ r. r }

kept_then : (program : ℕ) (s t u : State) → Kept program s t → Kept program t u → Kept program s u
kept_then program s t u a b = record { granted = b.granted ∙ a.granted; units = b.units ∙ a.units; room = λ r. b.room (a.room r) }

abbrev pub out_state : {S : Type 0} → Outcome S → State
out_state (Outcome.done w) = w.state
out_state (Outcome.refused fault w) = w.state

-- A turn may be followed by the next unit's.
room-next : (program : ℕ) (s : State) → Room s program → Room s (program + 1)
room-next program s r k = go (is_busy s program) (is_busy s (program + 1)) k (r k)
  where
    go : (a b : Bool) (k : ℕ) → (mark_in s k).count ≤ 16 * s.granted + program + cond a 1 0 → (mark_in s k).count ≤ 16 * s.granted + (program + 1) + cond b 1 0
    go true true k h = omega (arith, h)
    go true false k h = omega (arith, h)
    go false true k h = omega (arith, h)
    go false false k h = omega (arith, h)

-- What the turns of the first programs keep.
pub record Turned (n : ℕ) (s t : State) : Type 0 where
  pub granted : t.granted ≡ s.granted
  pub units : length t.units ≡ length s.units
  pub room : Room t n

module _ (m : Model) where
  -- What a whole turn keeps.
  kept-steps : (n : ℕ) (code : List Step) (program address : ℕ) (w : World m.State) → program < length w.state.units
      → Kept program w.state (out_state (steps m n code program address w))
  unfolding steps
  kept-steps zero code program address w h = kept-all program w.state
  kept-steps (suc n) code program address w h =
      go (performed m (get_or code address Halt) program address w) (kept-performed m (get_or code address Halt) program address w h) (λ a v. kept-steps n code program a v)
    where
      go : (r : Stepped m.State) → Kept program w.state (state_of r)
          → ((a : ℕ) (v : World m.State) → program < length v.state.units → Kept program v.state (out_state (steps m n code program a v)))
          → Kept program w.state (out_state (onward m r (steps m n code program)))
      go (onto a v) k more = kept_then program _ _ _ k (more a v (rw k.units h))
      go (halted v) k more = k
      go (Stepped.refused fault v) k more = k

  kept-turn : (code : List Step) (program : ℕ) (w : World m.State) → program < length w.state.units → Kept program w.state (out_state (turn m code program w))
  kept-turn code program w h = go (due_at m (unit_in w.state program).timer w.state.granted) (is_busy w.state program)
    where
      go : (due busy : Bool) → Kept program w.state (out_state (cond due
          (cond busy (Outcome.refused (fault_at UnitBusy program (unit_in w.state program).address) w)
          (steps m (length code + 1) code program (unit_in w.state program).address (at w (with_timer w.state program None (unit_in w.state program).address))))
          (Outcome.done w)))
      go false busy = kept-all program w.state
      go true true = kept-all program w.state
      go true false =
          let k = kept-timer program w.state None (unit_in w.state program).address h in
          kept_then program _ _ _ k (kept-steps (length code + 1) code program (unit_in w.state program).address (at w (with_timer w.state program None (unit_in w.state program).address)) (rw k.units h))

  pub room-turn : (code : List Step) (program : ℕ) (w : World m.State) → program < length w.state.units → Room w.state program → Room (out_state (turn m code program w)) (program + 1)
  room-turn code program w h r = room-next program (out_state (turn m code program w)) ((kept-turn code program w h).room r)

  pub turned-first : (programs : List (List Step)) (n : ℕ) (w : World m.State) → n ≤ length w.state.units → Room w.state 0 → Turned n w.state (out_state (first_part m programs n w))
  unfolding first_part
  turned-first programs zero w h r = record { granted = refl; units = refl; room = r }
  turned-first programs (suc n) w h r =
      subst (λ j. Turned j w.state (out_state (first_part m programs (suc n) w))) (add-one n)
      (go (first_part m programs n w) (turned-first programs n w (omega arith) r))
    where
      go : (o : Outcome m.State) → Turned n w.state (out_state o) → Turned (n + 1) w.state (out_state (and_then o (turn m (get_or programs n []) n)))
      go (Outcome.done v) k =
          let t = kept-turn (get_or programs n []) n v (rw k.units (omega arith)) in
          record { granted = t.granted ∙ k.granted; units = t.units ∙ k.units; room = room-next n (out_state (turn m (get_or programs n []) n v)) (t.room k.room) }
      go (Outcome.refused fault v) k = record { granted = k.granted; units = k.units; room = room-next n v.state k.room }
