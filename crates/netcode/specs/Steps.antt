use Rattle.std.specs.Prelude.{ℕ, List, [], ◌∷◌, ◌++◌, slice_index_or}
use Rattle.wire.specs.Bytes.{spelled}
use Rattle.sheet.specs.declared.row.Relation.TheVariants.{Equal}
use Rattle.sheet.specs.Rows.{relation_code}
use Rattle.sheet.specs.Parts.{inputs_numbers}
use Rattle.netcode.specs.declared.step.Step.{Step}
use Rattle.netcode.specs.declared.step.Step.TheVariants.{Test, Future, Halt, Call, Send, Receive, Keep, Clear, Give}

-- The number of each step.
abbrev pub code_of : Step → ℕ
code_of (Test variable relation word address) = 0
code_of (Future ticks address) = 1
code_of Halt = 2
code_of (Call row work inputs output duration) = 3
code_of (Send row variable duration) = 4
code_of (Receive variable duration) = 5
code_of (Keep variable cell) = 6
code_of Clear = 7
code_of (Give cell variable word) = 8

-- The fields of a step, in the order in which they are written.
abbrev pub fields_of : Step → List ℕ
fields_of (Test variable relation word address) = variable ∷ relation_code relation ∷ word ∷ address ∷ []
fields_of (Future ticks address) = ticks ∷ address ∷ []
fields_of Halt = []
fields_of (Call row work inputs output duration) = row ∷ work ∷ (inputs_numbers inputs ++ output ∷ duration ∷ [])
fields_of (Send row variable duration) = row ∷ variable ∷ duration ∷ []
fields_of (Receive variable duration) = variable ∷ duration ∷ []
fields_of (Keep variable cell) = variable ∷ cell ∷ []
fields_of Clear = []
fields_of (Give cell variable word) = cell ∷ variable ∷ word ∷ []

-- The numbers that a step is written as.
abbrev pub numbers_of : Step → List ℕ
numbers_of step = code_of step ∷ fields_of step

-- The byte form of a step.
abbrev pub step_bytes : Step → List ℕ
step_bytes step = spelled (numbers_of step)

-- What is read where a list of steps has ended: the first case with zeros.
abbrev pub no_step : Step
no_step = Test 0 Equal 0 0

abbrev pub step_in : List Step → ℕ → Step
step_in steps address = slice_index_or steps address no_step
