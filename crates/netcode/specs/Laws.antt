use Rattle.std.specs.Prelude.{◌≡◌, ℕ, ◌+◌, ◌-◌, ◌<◌, ◌≤◌, ◌⊎◌, List, [], length, Some, None, Option, slice_index_or}
use Rattle.fault.specs.declared.refusal.Fault.{Fault}
use Rattle.fault.specs.declared.refusal.Refusal.TheVariants.{BrokenProgram}
use Rattle.fault.specs.declared.place.StepPlace.{StepPlace}
use Rattle.sheet.specs.declared.row.Inputs.{Inputs}
use Rattle.sheet.specs.declared.row.Inputs.TheVariants.{Nothing, Single, Pair}
use Rattle.netcode.specs.declared.step.Step.{Step}
use Rattle.netcode.specs.declared.step.Step.TheVariants.{Test, Future, Halt, Call, Send, Receive, Keep, Clear, Give}
use Rattle.netcode.specs.Steps.{step_in}
use Rattle.netcode.specs.Layouts.{work_program, line_program, station_of, program_count}
use Rattle.netcode.specs.Rules.{broken_at, broken_program, first_broken}

-- Ticks and durations are 1 to 65,535.
abbrev pub Ticks : ℕ → Type 0
Ticks n = (1 ≤ n) × (n ≤ 65535)

-- The variables that a call reads are below 64.
abbrev pub InputsWithin : Inputs → Type 0
InputsWithin Nothing = Unit {0}
InputsWithin (Single a) = a < 64
InputsWithin (Pair a b) = (a < 64) × (b < 64)

-- The limits of the step at `address` of a program of `count` steps. TEST goes to a later address of the
-- program, FUTURE to any. Variables are below 64, cells below 16, rows below 128 and works below 256.
abbrev pub Within : ℕ → ℕ → Step → Type 0
Within count address (Test variable relation word to) = (variable < 64) × (address < to) × (to < count)
Within count address (Future ticks to) = Ticks ticks × (to < count)
Within count address Halt = Unit {0}
Within count address (Call row work inputs output duration) =
    (row < 128) × (work < 256) × InputsWithin inputs × (output < 64) × Ticks duration
Within count address (Send row variable duration) = (row < 128) × (variable < 64) × Ticks duration
Within count address (Receive variable duration) = (variable < 64) × Ticks duration
Within count address (Keep variable cell) = (variable < 64) × (cell < 16)
Within count address Clear = Unit {0}
Within count address (Give cell variable word) = (cell < 16) × (variable < 64)

-- A program that keeps the rules: 1 to 2,048 steps, each within its limits, and HALT the last.
pub record Lawful (program : List Step) : Type 0 where
  pub some : 1 ≤ length program
  pub few : length program ≤ 2048
  pub steps : (address : ℕ) → address < length program → Within (length program) address (step_in program address)
  pub halts : step_in program (length program - 1) ≡ Halt

-- The step at `address` keeps the rules: it is within its limits, and if it is the last it is HALT.
abbrev pub Keeps : List Step → ℕ → Type 0
Keeps program address =
    Within (length program) address (step_in program address)
    × (address + 1 ≡ length program → step_in program address ≡ Halt)

-- Where a program first breaks the rules: at address 0 for its length; if that is right, at the lowest
-- step that does not keep them.
abbrev pub FirstBreach : List Step → ℕ → Type 0
FirstBreach program address =
    (((length program ≡ 0) ⊎ (2048 < length program)) × (address ≡ 0))
    ⊎ ((1 ≤ length program) × (length program ≤ 2048) × (address < length program)
    × (Keeps program address → ⊥) × ((k : ℕ) → k < address → Keeps program k))

-- What the verdict on one program says.
abbrev pub Judged : ℕ → List Step → Option (Fault StepPlace) → Type 0
Judged number program None = Lawful program
Judged number program (Some fault) = (fault ≡ broken_at number fault.place.address) × FirstBreach program fault.place.address

abbrev pub program_in : List (List Step) → ℕ → List Step
program_in programs number = slice_index_or programs number []

-- The programs before `n` keep the rules.
abbrev pub LawfulBefore : List (List Step) → ℕ → Type 0
LawfulBefore programs n = (number : ℕ) → number < n → Lawful (program_in programs number)

-- What the verdict on all programs says: that all keep the rules, or which is the first that does not, and where.
abbrev pub Verdict : List (List Step) → Option (Fault StepPlace) → Type 0
Verdict programs None = LawfulBefore programs (length programs)
Verdict programs (Some fault) =
    (fault.refusal ≡ BrokenProgram)
    × (fault.place.program < length programs)
    × FirstBreach (program_in programs fault.place.program) fault.place.address
    × LawfulBefore programs fault.place.program

-- The verdicts are those of the rules, and a program or programs that keep the rules have no fault.
pub record RulesStand : Type 0 where
  pub program : (number : ℕ) (program : List Step) → Judged number program (broken_program number program)
  pub programs : (programs : List (List Step)) → Verdict programs (first_broken 0 programs)
  pub lawful : (number : ℕ) (program : List Step) → Lawful program → broken_program number program ≡ None
  pub all_lawful : (programs : List (List Step)) → LawfulBefore programs (length programs) → first_broken 0 programs ≡ None

-- A station's programs are numbered after those of the stations before it, and are the station's.
abbrev pub ProgramsNumbered : Type 0
ProgramsNumbered =
    (station : ℕ) → (station_of (work_program station) ≡ station) × (station_of (line_program station) ≡ station)
    × (line_program station ≡ work_program station + 1) × (work_program (station + 1) ≡ line_program station + 1)
    × (station ≤ 8 → program_count station ≡ work_program station)
