-- The machine: what programs do to a run and a plant, tick by tick. Programs are numbered from 0, two to a station: its
-- work program and then its line program. The definitions take any programs.
use Rattle.std.specs.Prelude.{ℕ, zero, suc, ◌+◌, ◌*◌, Bool, true, false, cond, not, List, [], length, replicate, Some, None, Option, ◌==◌, nat_lt, slice_index_or, slice_set}
use Rattle.fault.specs.declared.refusal.Fault.{Fault}
use Rattle.fault.specs.declared.refusal.Refusal.{Refusal}
use Rattle.fault.specs.declared.refusal.Refusal.TheVariants.{UnknownWork, LineCarrying, NoMessage, EmptyPlace, UnitBusy, LimitReached, Stopped}
use Rattle.fault.specs.declared.place.TickPlace.{TickPlace}
use Rattle.fault.specs.declared.place.TickPlace.TheVariants.{Step as at_step, Work as at_work, Run as of_run}
use Rattle.sheet.specs.declared.row.Relation.{Relation}
use Rattle.sheet.specs.declared.row.Inputs.{Inputs}
use Rattle.sheet.specs.declared.row.Inputs.TheVariants.{Nothing as no_input, Single as one_input, Pair as two_inputs}
use Rattle.netcode.specs.declared.step.Step.{Step}
use Rattle.netcode.specs.declared.step.Step.TheVariants.{Test, Future, Halt, Call, Send, Receive, Keep, Clear, Give}
use Rattle.netcode.specs.Layouts.{station_of}
use Rattle.plant.specs.Model.{Model}
use Rattle.plant.specs.Replies.{asked, count_of}
use Rattle.plant.specs.declared.works.Words.{Words}
use Rattle.plant.specs.declared.works.Words.TheVariants.{Nothing, Single, Pair}
use Rattle.semantics.specs.Reading.{passes, or_first}
use Rattle.semantics.specs.declared.state.Mark.{Mark}
use Rattle.semantics.specs.declared.state.Job.{Job}
use Rattle.semantics.specs.declared.state.Job.TheVariants.{Idle, Store, Carry, Listen}
use Rattle.semantics.specs.declared.state.UnitState.{UnitState}
use Rattle.semantics.specs.declared.state.Message.{Message}
use Rattle.semantics.specs.declared.state.State.{State}

-- Most ticks that a run grants.
abbrev pub limit : ℕ
limit = 16777215

-- A station has 64 places.
abbrev pub places_each : ℕ
places_each = 64

abbrev pub place_of : ℕ → ℕ → ℕ
place_of station variable = places_each * station + variable

abbrev pub blank_mark : Mark
blank_mark = record { count = 0; tick = 0; first = None; second = None; given = None }

abbrev pub new_unit : UnitState
new_unit = record { timer = Some 0; address = 0; job = Idle }

-- At making all places and cells are empty, and every unit is due at address 0.
abbrev pub new_state : State
new_state = record {
  places = replicate 512 None;
  cells = replicate 16 None;
  marks = replicate 128 blank_mark;
  units = replicate 16 new_unit;
  line = None;
  granted = 0;
  stopped = false;
}

-- What stands at a place, in a cell, in a mark, and of a unit.
abbrev pub word_in : State → ℕ → ℕ → Option ℕ
word_in s station variable = slice_index_or s.places (place_of station variable) None

abbrev pub cell_in : State → ℕ → Option ℕ
cell_in s cell = slice_index_or s.cells cell None

abbrev pub mark_in : State → ℕ → Mark
mark_in s row = slice_index_or s.marks row blank_mark

abbrev pub unit_in : State → ℕ → UnitState
unit_in s program = slice_index_or s.units program new_unit

-- A state with one part changed.
abbrev pub with_word : State → ℕ → ℕ → Option ℕ → State
with_word s station variable word = record {
  places = slice_set s.places (place_of station variable) word;
  cells = s.cells;
  marks = s.marks;
  units = s.units;
  line = s.line;
  granted = s.granted;
  stopped = s.stopped;
}

abbrev pub with_cell : State → ℕ → Option ℕ → State
with_cell s cell word = record {
  places = s.places;
  cells = slice_set s.cells cell word;
  marks = s.marks;
  units = s.units;
  line = s.line;
  granted = s.granted;
  stopped = s.stopped;
}

abbrev pub with_mark : State → ℕ → Mark → State
with_mark s row mark = record {
  places = s.places;
  cells = s.cells;
  marks = slice_set s.marks row mark;
  units = s.units;
  line = s.line;
  granted = s.granted;
  stopped = s.stopped;
}

abbrev pub with_unit : State → ℕ → UnitState → State
with_unit s program unit = record {
  places = s.places;
  cells = s.cells;
  marks = s.marks;
  units = slice_set s.units program unit;
  line = s.line;
  granted = s.granted;
  stopped = s.stopped;
}

abbrev pub with_line : State → Option Message → State
with_line s line = record {
  places = s.places;
  cells = s.cells;
  marks = s.marks;
  units = s.units;
  line = line;
  granted = s.granted;
  stopped = s.stopped;
}

abbrev pub with_granted : State → ℕ → State
with_granted s granted = record {
  places = s.places;
  cells = s.cells;
  marks = s.marks;
  units = s.units;
  line = s.line;
  granted = granted;
  stopped = s.stopped;
}

abbrev pub with_stopped : State → State
with_stopped s = record {
  places = s.places;
  cells = s.cells;
  marks = s.marks;
  units = s.units;
  line = s.line;
  granted = s.granted;
  stopped = true;
}

abbrev pub with_job : State → ℕ → Job → State
with_job s program job =
    with_unit s program record { timer = (unit_in s program).timer; address = (unit_in s program).address; job = job }

abbrev pub with_timer : State → ℕ → Option ℕ → ℕ → State
with_timer s program timer address =
    with_unit s program record { timer = timer; address = address; job = (unit_in s program).job }

-- The first n places of a station are emptied.
unfoldable pub emptied : ℕ → ℕ → List (Option ℕ) → List (Option ℕ)
emptied station zero places = places
emptied station (suc n) places = slice_set (emptied station n places) (place_of station n) None

abbrev pub with_cleared : State → ℕ → State
with_cleared s station = record {
  places = emptied station places_each s.places;
  cells = s.cells;
  marks = s.marks;
  units = s.units;
  line = s.line;
  granted = s.granted;
  stopped = s.stopped;
}

abbrev pub is_idle : Job → Bool
is_idle Idle = true
is_idle (Store end variable word) = false
is_idle (Carry end) = false
is_idle (Listen end variable address) = false

abbrev pub is_busy : State → ℕ → Bool
is_busy s program = not (is_idle (unit_in s program).job)

-- The input words of a CALL, or nothing where a place is empty.
abbrev pub one_word : Option ℕ → Option Words
one_word None = None
one_word (Some a) = Some (Single a)

abbrev pub two_words : Option ℕ → Option ℕ → Option Words
two_words None q = None
two_words (Some a) None = None
two_words (Some a) (Some b) = Some (Pair a b)

abbrev pub input_words : Inputs → (ℕ → Option ℕ) → Option Words
input_words no_input at = Some Nothing
input_words (one_input a) at = one_word (at a)
input_words (two_inputs a b) at = two_words (at a) (at b)

abbrev pub first_word : Words → Option ℕ
first_word Nothing = None
first_word (Single a) = Some a
first_word (Pair a b) = Some a

abbrev pub second_word : Words → Option ℕ
second_word Nothing = None
second_word (Single a) = None
second_word (Pair a b) = Some b

-- CALL and SEND write their row's mark: count plus one, the ticks granted before, the words read and the word given.
abbrev pub marked : State → ℕ → Option ℕ → Option ℕ → ℕ → State
marked s row first second given =
    with_mark s row record { count = (mark_in s row).count + 1; tick = s.granted; first = first; second = second; given = Some given }

-- A run with its plant.
pub record World (S : Type 0) : Type 0 where
  pub state : State
  pub plant : S

abbrev pub at : {S : Type 0} → World S → State → World S
at w s = record { state = s; plant = w.plant }

-- What a step comes to: the next address, HALT, or a refusal. What was done stays done.
pub data Stepped (S : Type 0) : Type 0 where
  onto : ℕ → World S → Stepped S
  halted : World S → Stepped S
  refused : Fault TickPlace → World S → Stepped S

-- What a turn, a part of a tick, or a tick comes to.
pub data Outcome (S : Type 0) : Type 0 where
  done : World S → Outcome S
  refused : Fault TickPlace → World S → Outcome S

abbrev pub and_then : {S : Type 0} → Outcome S → (World S → Outcome S) → Outcome S
and_then (done w) more = more w
and_then (refused fault w) more = refused fault w

abbrev pub fault_at : Refusal → ℕ → ℕ → Fault TickPlace
fault_at refusal program address = record { refusal = refusal; place = at_step program address }

abbrev pub unknown_at : ℕ → ℕ → ℕ → ℕ → Fault TickPlace
unknown_at station work program address = record { refusal = UnknownWork; place = at_work station work program address }

abbrev pub of_the_run : Refusal → Fault TickPlace
of_the_run refusal = record { refusal = refusal; place = of_run }

module _ (m : Model) where
  -- THE NINE STEPS of a program, at an address. The clock is the number of ticks granted.

  -- TEST reads a word, else 16; where it fails it goes to the address it names.
  abbrev pub tested : Option ℕ → Relation → ℕ → ℕ → ℕ → ℕ → World m.State → Stepped m.State
  tested None relation word to program address w = Stepped.refused (fault_at EmptyPlace program address) w
  tested (Some held) relation word to program address w = cond (passes relation held word) (onto (address + 1) w) (onto to w)

  -- FUTURE sets the unit's timer, and the address at which it is then due.
  abbrev pub later : ℕ → ℕ → ℕ → World m.State → World m.State
  later ticks to program w = at w (with_timer w.state program (Some (w.state.granted + ticks)) to)

  -- CALL tries 16, 17, 12; then the plant works now, and the answer is stored after the duration.
  abbrev pub answered : ℕ → ℕ → Words → ℕ → ℕ → ℕ → World m.State → World m.State
  answered row work words output duration program w =
      let asks = asked (station_of program) work words in
      let answer = m.answer w.plant asks in
      record {
        state = with_job (marked w.state row (first_word words) (second_word words) answer) program
            (Store (w.state.granted + duration) output answer);
        plant = m.next w.plant asks;
      }

  abbrev pub called : Option Words → ℕ → ℕ → ℕ → ℕ → ℕ → ℕ → World m.State → Stepped m.State
  called None row work output duration program address w = Stepped.refused (fault_at EmptyPlace program address) w
  called (Some words) row work output duration program address w =
      cond (is_busy w.state program) (Stepped.refused (fault_at UnitBusy program address) w)
      (cond (m.known (station_of program) work (count_of words))
      (onto (address + 1) (answered row work words output duration program w))
      (Stepped.refused (unknown_at (station_of program) work program address) w))

  -- SEND tries 16, 17, 14; then the line carries the word for the duration.
  abbrev pub carried : ℕ → ℕ → ℕ → ℕ → World m.State → World m.State
  carried row word duration program w =
      at w (with_line
      (with_job (marked w.state row (Some word) None word) program (Carry (w.state.granted + duration)))
      (Some record { end = w.state.granted + duration; word = word }))

  abbrev pub on_line : Option Message → ℕ → ℕ → ℕ → ℕ → ℕ → World m.State → Stepped m.State
  on_line None row word duration program address w = onto (address + 1) (carried row word duration program w)
  on_line (Some message) row word duration program address w = Stepped.refused (fault_at LineCarrying program address) w

  abbrev pub sent : Option ℕ → ℕ → ℕ → ℕ → ℕ → World m.State → Stepped m.State
  sent None row duration program address w = Stepped.refused (fault_at EmptyPlace program address) w
  sent (Some word) row duration program address w =
      cond (is_busy w.state program) (Stepped.refused (fault_at UnitBusy program address) w)
      (on_line w.state.line row word duration program address w)

  -- RECEIVE tries 17; what it hears is stored after its duration.
  abbrev pub listening : ℕ → ℕ → ℕ → ℕ → World m.State → Stepped m.State
  listening variable duration program address w =
      cond (is_busy w.state program) (Stepped.refused (fault_at UnitBusy program address) w)
      (onto (address + 1) (at w (with_job w.state program (Listen (w.state.granted + duration) variable address))))

  -- KEEP puts a word that is held in the cell.
  abbrev pub kept_from : Option ℕ → ℕ → State → State
  kept_from None cell s = s
  kept_from (Some word) cell s = with_cell s cell (Some word)

  abbrev pub performed : Step → ℕ → ℕ → World m.State → Stepped m.State
  performed (Test variable relation word to) program address w =
      tested (word_in w.state (station_of program) variable) relation word to program address w
  performed (Future ticks to) program address w = onto (address + 1) (later ticks to program w)
  performed Halt program address w = halted w
  performed (Call row work inputs output duration) program address w =
      called (input_words inputs (word_in w.state (station_of program))) row work output duration program address w
  performed (Send row variable duration) program address w =
      sent (word_in w.state (station_of program) variable) row duration program address w
  performed (Receive variable duration) program address w = listening variable duration program address w
  performed (Keep variable cell) program address w =
      onto (address + 1) (at w (kept_from (word_in w.state (station_of program) variable) cell w.state))
  performed Clear program address w = onto (address + 1) (at w (with_cleared w.state (station_of program)))
  performed (Give cell variable word) program address w =
      onto (address + 1) (at w (with_word w.state (station_of program) variable (Some (or_first (cell_in w.state cell) word))))

  abbrev pub onward : Stepped m.State → (ℕ → World m.State → Outcome m.State) → Outcome m.State
  onward (onto address w) more = more address w
  onward (halted w) more = done w
  onward (Stepped.refused fault w) more = Outcome.refused fault w

  -- Steps up to HALT, so many at most. An address outside the program halts; a program that keeps the rules has none
  -- such, and comes to HALT within its length.
  unfoldable pub steps : ℕ → List Step → ℕ → ℕ → World m.State → Outcome m.State
  steps zero code program address w = done w
  steps (suc n) code program address w = onward (performed (slice_index_or code address Halt) program address w) (steps n code program)

  -- A unit that is due while busy is refused 17; otherwise coming due spends its timer, and it performs steps.
  abbrev pub awake : List Step → ℕ → World m.State → Outcome m.State
  awake code program w =
      cond (is_busy w.state program) (Outcome.refused (fault_at UnitBusy program (unit_in w.state program).address) w)
      (steps (length code + 1) code program (unit_in w.state program).address
      (at w (with_timer w.state program None (unit_in w.state program).address)))

  abbrev pub due_at : Option ℕ → ℕ → Bool
  due_at None clock = false
  due_at (Some tick) clock = tick == clock

  abbrev pub turn : List Step → ℕ → World m.State → Outcome m.State
  turn code program w =
      cond (due_at (unit_in w.state program).timer w.state.granted) (awake code program w) (done w)

  -- THE SECOND PART of a tick for one unit, at the clock moved on: what ends is stored. A listener stores the word of the
  -- message that ends with it, or is refused 15 at its own step.
  abbrev pub stored : ℕ → ℕ → ℕ → World m.State → World m.State
  stored program variable word w =
      at w (with_job (with_word w.state (station_of program) variable (Some word)) program Idle)

  abbrev pub heard : Option Message → ℕ → ℕ → ℕ → ℕ → World m.State → Outcome m.State
  heard None clock program variable address w = Outcome.refused (fault_at NoMessage program address) w
  heard (Some message) clock program variable address w =
      cond (message.end == clock) (done (stored program variable message.word w))
      (Outcome.refused (fault_at NoMessage program address) w)

  abbrev pub ended : Job → ℕ → ℕ → World m.State → Outcome m.State
  ended Idle clock program w = done w
  ended (Store end variable word) clock program w = cond (end == clock) (done (stored program variable word w)) (done w)
  ended (Carry end) clock program w = cond (end == clock) (done (at w (with_job w.state program Idle))) (done w)
  ended (Listen end variable address) clock program w =
      cond (end == clock) (heard w.state.line clock program variable address w) (done w)

  abbrev pub left : Option Message → ℕ → Option Message
  left None clock = None
  left (Some message) clock = cond (message.end == clock) None (Some message)

  abbrev pub leaves : ℕ → World m.State → World m.State
  leaves clock w = at w (with_line w.state (left w.state.line clock))

  -- A TICK of programs.
  module _ (programs : List (List Step)) where
    -- The first n units have had their turn, rising: stations rising, and work unit before line unit.
    unfoldable pub first_part : ℕ → World m.State → Outcome m.State
    first_part zero w = done w
    first_part (suc n) w = and_then (first_part n w) (turn (slice_index_or programs n []) n)

    unfoldable pub second_part : ℕ → ℕ → World m.State → Outcome m.State
    second_part clock zero w = done w
    second_part clock (suc n) w = and_then (second_part clock n w) (λ v. ended (unit_in v.state n).job clock n v)

    abbrev pub parts : World m.State → Outcome m.State
    parts w =
        and_then (first_part (length programs) w) (λ v.
        and_then (second_part (w.state.granted + 1) (length programs) v) (λ u. done (leaves (w.state.granted + 1) u)))

    -- A granted tick is counted; a refused one is not, keeps what its earlier steps did, and stops the run.
    abbrev pub counted : ℕ → Outcome m.State → Outcome m.State
    counted granted (done w) = done (at w (with_granted w.state (granted + 1)))
    counted granted (Outcome.refused fault w) = Outcome.refused fault (at w (with_stopped w.state))

    -- A tick tries 19, 18, then the rest.
    abbrev pub tick : World m.State → Outcome m.State
    tick w =
        cond w.state.stopped (Outcome.refused (of_the_run Stopped) w)
        (cond (nat_lt w.state.granted limit) (counted w.state.granted (parts w))
        (Outcome.refused (of_the_run LimitReached) w))
