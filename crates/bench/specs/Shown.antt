-- What the code's answers and what stands then come to, as the machine says it.
use Rattle.std.specs.Prelude.{ℕ, ◌+◌, ◌*◌, ◌<◌, ◌≤◌, cond, Some, None, Ok, Err, Option, Result}
use Rattle.fault.specs.declared.refusal.Fault.{Fault}
use Rattle.fault.specs.declared.place.TickPlace.{TickPlace}
use Rattle.netcode.specs.declared.step.Step.{Step}
use Rattle.netcode.specs.declared.step.Step.TheVariants.{Test, Future, Halt, Call, Send, Receive, Keep, Clear, Give}
use Rattle.netcode.specs.Laws.{InputsWithin}
use Rattle.semantics.specs.declared.state.State.{State}
use Rattle.semantics.specs.Machine.{World, Stepped, Outcome, mark_in, is_busy}
use Rattle.semantics.specs.Machine.Stepped.{onto, halted}

-- A state with the plant's meaning.
abbrev pub world : {S : Type 0} → State → S → World S
world s p = record { state = s; plant = p }

-- The next address, or nothing at HALT, or a refusal.
abbrev pub stepped_to : {S : Type 0} → Result (Option ℕ) (Fault TickPlace) → World S → Stepped S
stepped_to (Ok (Some address)) w = onto address w
stepped_to (Ok None) w = halted w
stepped_to (Err fault) w = Stepped.refused fault w

abbrev pub outcome : {S : Type 0} → Result (Unit {0}) (Fault TickPlace) → World S → Outcome S
outcome (Ok _) w = Outcome.done w
outcome (Err fault) w = Outcome.refused fault w

-- The limits of a step's fields, as far as the machine goes by them.
abbrev pub Fits : Step → Type 0
Fits (Test variable relation word to) = variable < 64
Fits (Future ticks to) = ticks ≤ 65535
Fits Halt = Unit {0}
Fits (Call row work inputs output duration) = (row < 128) × InputsWithin inputs × (output < 64) × (duration ≤ 65535)
Fits (Send row variable duration) = (row < 128) × (variable < 64) × (duration ≤ 65535)
Fits (Receive variable duration) = (variable < 64) × (duration ≤ 65535)
Fits (Keep variable cell) = (variable < 64) × (cell < 16)
Fits Clear = Unit {0}
Fits (Give cell variable word) = (cell < 16) × (variable < 64)

-- No row was counted more than once for each unit and tick granted, nor more than once in the turn of a program.
abbrev pub Room : State → ℕ → Type 0
Room s program = (row : ℕ) → (mark_in s row).count ≤ 16 * s.granted + program + cond (is_busy s program) 1 0

-- No row was counted more than once for each unit and tick granted, where a refused tick counts too. So it is between the
-- ticks of a run.
abbrev pub Counted : State → Type 0
Counted s = (row : ℕ) → (mark_in s row).count ≤ 16 * s.granted + cond s.stopped 16 0
