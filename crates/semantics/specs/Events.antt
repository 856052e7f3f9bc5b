-- What was performed: the calls and sends of a run, in order, for any programs.
use Rattle.std.specs.Prelude.{ℕ, zero, suc, ◌+◌, cond, List, [], ◌∷◌, ◌++◌, length, Some, None, Option, ◌==◌, nat_lt, slice_index_or}
use Rattle.netcode.specs.declared.step.Step.{Step}
use Rattle.netcode.specs.declared.step.Step.TheVariants.{Test, Future, Halt, Call, Send, Receive, Keep, Clear, Give}
use Rattle.netcode.specs.Layouts.{station_of}
use Rattle.plant.specs.Model.{Model, Work}
use Rattle.plant.specs.Replies.{asked}
use Rattle.plant.specs.declared.works.Words.{Words}
use Rattle.semantics.specs.declared.state.State.{State}
use Rattle.semantics.specs.declared.state.Request.{Request}
use Rattle.semantics.specs.declared.state.Request.TheVariants.{Tick, Rehearse, WordAt, MarkAt}
use Rattle.semantics.specs.Machine.{World, Stepped, Outcome, onto, halted, input_words, word_in, unit_in, at, with_timer, is_busy, due_at, performed, first_part, limit, tick}
use Rattle.semantics.specs.Requests.{served}

-- A performed CALL, by its row and the work that the plant did; a performed SEND, by its row.
pub data Event : Type 0 where
  called : ℕ → Work → Event
  sent : ℕ → Event

abbrev pub row_of : Event → ℕ
row_of (called row work) = row
row_of (sent row) = row

-- The state that the events leave a plant in, and how often they are of a row.
abbrev pub plant_after : (m : Model) → m.State → List Event → m.State
plant_after m s [] = s
plant_after m s (called row work ∷ es) = plant_after m (m.next s work) es
plant_after m s (sent row ∷ es) = plant_after m s es

abbrev pub times_of : ℕ → List Event → ℕ
times_of row [] = 0
times_of row (e ∷ es) = cond (row_of e == row) (times_of row es + 1) (times_of row es)

abbrev pub call_event : Option Words → ℕ → ℕ → ℕ → List Event
call_event None row station work = []
call_event (Some words) row station work = called row (asked station work words) ∷ []

-- What a step performs, if it is not refused.
abbrev pub event_of : Step → ℕ → State → List Event
event_of (Test variable relation word to) program s = []
event_of (Future ticks to) program s = []
event_of Halt program s = []
event_of (Call row work inputs output duration) program s = call_event (input_words inputs (word_in s (station_of program))) row (station_of program) work
event_of (Send row variable duration) program s = sent row ∷ []
event_of (Receive variable duration) program s = []
event_of (Keep variable cell) program s = []
event_of Clear program s = []
event_of (Give cell variable word) program s = []

module _ (m : Model) where
  abbrev pub events_on : List Event → Stepped m.State → (ℕ → World m.State → List Event) → List Event
  events_on es (onto address w) more = es ++ more address w
  events_on es (halted w) more = []
  events_on es (Stepped.refused fault w) more = []

  -- Of steps up to HALT, of a turn, of the first part of a tick, and of a tick.
  unfoldable pub step_events : ℕ → List Step → ℕ → ℕ → World m.State → List Event
  step_events zero code program address w = []
  step_events (suc n) code program address w =
      events_on (event_of (slice_index_or code address Halt) program w.state) (performed m (slice_index_or code address Halt) program address w) (step_events n code program)

  abbrev pub turn_events : List Step → ℕ → World m.State → List Event
  turn_events code program w =
      cond (due_at m (unit_in w.state program).timer w.state.granted)
      (cond (is_busy w.state program) []
      (step_events (length code + 1) code program (unit_in w.state program).address (at w (with_timer w.state program None (unit_in w.state program).address))))
      []

  abbrev pub events_then : Outcome m.State → (World m.State → List Event) → List Event
  events_then (Outcome.done w) more = more w
  events_then (Outcome.refused fault w) more = []

  module _ (programs : List (List Step)) where
    unfoldable pub first_events : ℕ → World m.State → List Event
    first_events zero w = []
    first_events (suc n) w = first_events n w ++ events_then (first_part m programs n w) (turn_events (slice_index_or programs n []) n)

    abbrev pub tick_events : World m.State → List Event
    tick_events w = cond w.state.stopped [] (cond (nat_lt w.state.granted limit) (first_events (length programs) w) [])

    unfoldable pub rehearsal_events : ℕ → World m.State → List Event
    rehearsal_events zero w = []
    rehearsal_events (suc n) w = tick_events w ++ events_then (tick m programs w) (rehearsal_events n)

    abbrev pub request_events : Request → World m.State → List Event
    request_events Tick w = tick_events w
    request_events (Rehearse n) w = rehearsal_events n w
    request_events (WordAt station variable) w = []
    request_events (MarkAt row) w = []

    -- Of a list of requests.
    unfoldable pub events : List Request → World m.State → List Event
    events [] w = []
    events (r ∷ rs) w = request_events r w ++ events rs (served m programs r w).world
