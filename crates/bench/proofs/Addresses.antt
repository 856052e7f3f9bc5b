-- One step more of a turn.
use Rattle.std.proofs.Common.{◌≡◌, ℕ, zero, suc, ◌+◌, ◌<◌, ◌≤◌, Bool, true, false, cond, List, length, Some, None, Option, Result, sym, refl, ap, ◌∙◌, subst, arith}
use Rattle.std.proofs.lemmas.List.{get_or_default, get_or_past}
use Rattle.fault.specs.declared.refusal.Fault.{Fault}
use Rattle.fault.specs.declared.refusal.Refusal.TheVariants.{UnitBusy}
use Rattle.fault.specs.declared.place.TickPlace.{TickPlace}
use Rattle.sheet.specs.declared.row.Relation.{Relation}
use Rattle.netcode.specs.declared.step.Step.{Step}
use Rattle.netcode.specs.declared.step.Step.TheVariants.{Test, Future, Halt, Call, Send, Receive, Keep, Clear, Give}
use Rattle.netcode.specs.Layouts.{station_of}
use Rattle.netcode.specs.Laws.{Within, Lawful}
use Rattle.netcode.specs.Steps.{no_step, step_in}
use Rattle.plant.specs.Model.{Model}
use Rattle.plant.specs.declared.works.Words.{Words}
use Rattle.plant.specs.Replies.{count_of}
use Rattle.semantics.specs.Reading.{passes}
use Rattle.semantics.specs.declared.state.Job.TheVariants.{Listen}
use Rattle.semantics.specs.declared.state.Message.{Message}
use Rattle.semantics.specs.Machine.{World, Stepped, Outcome, at, fault_at, unknown_at, word_in, is_busy, with_job, input_words, tested, called, answered, sent, on_line, listening, performed, onward, steps}
use Rattle.semantics.specs.Machine.Stepped.{onto, halted}
use Rattle.bench.specs.Shown.{stepped_to}

-- A step that goes on goes to a later address.
abbrev Later : {S : Type 0} → ℕ → Stepped S → Type 0
Later address (onto to w) = address < to
Later address (halted w) = Unit {0}
Later address (Stepped.refused fault w) = Unit {0}

module _ (m : Model) where
  later-tested : (o : Option ℕ) (r : Relation) (word to program address : ℕ) (w : World m.State) → address < to → Later address (tested m o r word to program address w)
  later-tested None r word to program address w h = tt
  later-tested (Some held) r word to program address w h =
      elim (passes r held word) as (λ b. Later address (cond b (onto (address + 1) w) (onto to w))) [ true ↦ omega arith | false ↦ h ]

  later-called : (o : Option Words) (row work output duration program address : ℕ) (w : World m.State) → Later address (called m o row work output duration program address w)
  later-called None row work output duration program address w = tt
  later-called (Some words) row work output duration program address w = go (is_busy w.state program) (m.known (station_of program) work (count_of words))
    where
      go : (b k : Bool) → Later address (cond b (Stepped.refused (fault_at UnitBusy program address) w)
          (cond k (onto (address + 1) (answered m row work words output duration program w))
          (Stepped.refused (unknown_at (station_of program) work program address) w)))
      go true k = tt
      go false true = omega arith
      go false false = tt

  later-line : (o : Option Message) (row word duration program address : ℕ) (w : World m.State) → Later address (on_line m o row word duration program address w)
  later-line None row word duration program address w = omega arith
  later-line (Some message) row word duration program address w = tt

  later-sent : (o : Option ℕ) (row duration program address : ℕ) (w : World m.State) → Later address (sent m o row duration program address w)
  later-sent None row duration program address w = tt
  later-sent (Some word) row duration program address w =
      elim (is_busy w.state program) as (λ b. Later address (cond b (Stepped.refused (fault_at UnitBusy program address) w) (on_line m w.state.line row word duration program address w))) [
        | true ↦ tt
        | false ↦ later-line w.state.line row word duration program address w
      ]

  later-listening : (variable duration program address : ℕ) (w : World m.State) → Later address (listening m variable duration program address w)
  later-listening variable duration program address w =
      elim (is_busy w.state program) as (λ b. Later address (cond b (Stepped.refused (fault_at UnitBusy program address) w)
      (onto (address + 1) (at w (with_job w.state program (Listen (w.state.granted + duration) variable address)))))) [
        | true ↦ tt
        | false ↦ omega arith
      ]

  later-performed : (count : ℕ) (step : Step) (program address : ℕ) (w : World m.State) → Within count address step → Later address (performed m step program address w)
  later-performed count (Test v r x t) program address w h = later-tested (word_in w.state (station_of program) v) r x t program address w h.1
  later-performed count (Future n t) program address w h = omega arith
  later-performed count Halt program address w h = tt
  later-performed count (Call r k i o d) program address w h = later-called (input_words i (word_in w.state (station_of program))) r k o d program address w
  later-performed count (Send r v d) program address w h = later-sent (word_in w.state (station_of program) v) r d program address w
  later-performed count (Receive v d) program address w h = later-listening v d program address w
  later-performed count (Keep v c) program address w h = omega arith
  later-performed count Clear program address w h = omega arith
  later-performed count (Give c v x) program address w h = omega arith

module _ (m : Model) (code : List Step) (program : ℕ) where
  -- A turn that comes to `all` stands at an address, with as many steps left as its program may have from there.
  pub record Standing (all : Outcome m.State) (address : ℕ) (w : World m.State) : Type 0 where
    pub left : ℕ
    pub enough : length code < left + address
    pub same : all ≡ steps m left code program address w

  -- What a step comes to, in a turn that comes to `all`.
  abbrev pub Performs : Outcome m.State → Stepped m.State → Type 0
  Performs all (onto to v) = Standing all to v
  Performs all (halted v) = all ≡ Outcome.done v
  Performs all (Stepped.refused fault v) = all ≡ Outcome.refused fault v

  pub begins : (address : ℕ) (w : World m.State) → Standing (steps m (length code + 1) code program address w) address w
  begins address w = record { left = length code + 1; enough = omega arith; same = refl }

  pub performs : {all : Outcome m.State} {address : ℕ} {w : World m.State} → Lawful code → address < length code → Standing all address w
      → (step : Step) → step ≡ step_in code address → (r : Result (Option ℕ) (Fault TickPlace)) (v : World m.State) → stepped_to r v ≡ performed m step program address w
      → Performs all (stepped_to r v)
  unfolding steps
  performs {all} {address} {w} lawful inside stands step here r v e =
      subst (Performs all) (ap (λ (x : Step). performed m x program address w) (sym here) ∙ sym e) (go stands.left stands.enough stands.same)
    where
      next : (n : ℕ) → length code < suc n + address → (s : Stepped m.State) → Later address s → all ≡ onward m s (steps m n code program) → Performs all s
      next n enough (onto to v) later same = record { left = n; enough = omega arith; same = same }
      next n enough (halted v) later same = same
      next n enough (Stepped.refused fault v) later same = same

      go : (n : ℕ) → length code < n + address → all ≡ steps m n code program address w → Performs all (performed m (step_in code address) program address w)
      go zero enough same = absurd (omega arith)
      go (suc n) enough same =
          next n enough (performed m (step_in code address) program address w) (later-performed m (length code) (step_in code address) program address w (lawful.steps address inside))
          (same ∙ ap (λ (s : Step). onward m (performed m s program address w) (steps m n code program)) (get_or_default code address Halt no_step inside))

  -- Outside the program the turn ends.
  pub past : {all : Outcome m.State} {address : ℕ} {w : World m.State} → length code ≤ address → Standing all address w → all ≡ Outcome.done w
  unfolding steps
  past {all} {address} {w} outside stands = go stands.left stands.same
    where
      go : (n : ℕ) → all ≡ steps m n code program address w → all ≡ Outcome.done w
      go zero same = same
      go (suc n) same = same ∙ ap (λ (s : Step). onward m (performed m s program address w) (steps m n code program)) (get_or_past code address Halt outside)
