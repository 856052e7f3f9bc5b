use Rattle.std.specs.Prelude.{ℕ, ◌+◌, Bool, true, false, cond, ◌&&◌, ◌||◌, List, [], ◌∷◌, length, take, Some, None, Option, nat_lt}
use Rattle.fault.specs.declared.refusal.Fault.{Fault}
use Rattle.fault.specs.declared.refusal.Refusal.TheVariants.{BrokenProgram}
use Rattle.fault.specs.declared.place.StepPlace.{StepPlace}
use Rattle.fault.specs.Scan.{first_bad}
use Rattle.sheet.specs.declared.row.Inputs.{Inputs}
use Rattle.sheet.specs.declared.row.Inputs.TheVariants.{Nothing, Single, Pair}
use Rattle.netcode.specs.declared.step.Step.{Step}
use Rattle.netcode.specs.declared.step.Step.TheVariants.{Test, Future, Halt, Call, Send, Receive, Keep, Clear, Give}

-- Ticks and durations are 1 to 65,535.
abbrev pub tick_count : ℕ → Bool
tick_count n = nat_lt 0 n && nat_lt n 65536

abbrev pub inputs_within : Inputs → Bool
inputs_within Nothing = true
inputs_within (Single a) = nat_lt a 64
inputs_within (Pair a b) = nat_lt a 64 && nat_lt b 64

-- Whether the fields of the step at `address` of a program of `count` steps are within their limits.
abbrev pub fields_within : ℕ → ℕ → Step → Bool
fields_within count address (Test variable relation word to) = nat_lt variable 64 && (nat_lt address to && nat_lt to count)
fields_within count address (Future ticks to) = tick_count ticks && nat_lt to count
fields_within count address Halt = true
fields_within count address (Call row work inputs output duration) =
    nat_lt row 128 && (nat_lt work 256 && (inputs_within inputs && (nat_lt output 64 && tick_count duration)))
fields_within count address (Send row variable duration) = nat_lt row 128 && (nat_lt variable 64 && tick_count duration)
fields_within count address (Receive variable duration) = nat_lt variable 64 && tick_count duration
fields_within count address (Keep variable cell) = nat_lt variable 64 && nat_lt cell 16
fields_within count address Clear = true
fields_within count address (Give cell variable word) = nat_lt cell 16 && nat_lt variable 64

abbrev pub is_halt : Step → Bool
is_halt (Test variable relation word to) = false
is_halt (Future ticks to) = false
is_halt Halt = true
is_halt (Call row work inputs output duration) = false
is_halt (Send row variable duration) = false
is_halt (Receive variable duration) = false
is_halt (Keep variable cell) = false
is_halt Clear = false
is_halt (Give cell variable word) = false

-- The same, and that the last step is HALT.
abbrev pub step_stands : ℕ → ℕ → Step → Bool
step_stands count address step = fields_within count address step && (nat_lt (address + 1) count || is_halt step)

-- The rule of a step, over its program's length and the steps above it.
abbrev pub broken_step : ℕ → List Step → Step → Option (Unit {0})
broken_step count above step = cond (step_stands count (length above) step) None (Some tt)

abbrev pub broken_at : ℕ → ℕ → Fault StepPlace
broken_at program address = record { refusal = BrokenProgram; place = record { program = program; address = address } }

abbrev pub at_address : ℕ → Option (ℕ × Unit {0}) → Option (Fault StepPlace)
at_address program None = None
at_address program (Some found) = Some (broken_at program found.0)

-- The verdict on a program: its length first, at address 0, and then the first step that breaks its rule.
abbrev pub broken_program : ℕ → List Step → Option (Fault StepPlace)
broken_program program steps =
    cond (nat_lt 0 (length steps) && nat_lt (length steps) 2049)
    (at_address program (first_bad (λ i x. broken_step (length steps) (take i steps) x) 0 steps))
    (Some (broken_at program 0))

abbrev pub or_next : Option (Fault StepPlace) → Option (Fault StepPlace) → Option (Fault StepPlace)
or_next (Some fault) next = Some fault
or_next None next = next

-- The verdict on programs that are numbered from `number`: that of the first that has a fault.
abbrev pub first_broken : ℕ → List (List Step) → Option (Fault StepPlace)
first_broken number [] = None
first_broken number (program ∷ programs) = or_next (broken_program number program) (first_broken (number + 1) programs)
