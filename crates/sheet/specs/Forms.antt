use Rattle.std.specs.Prelude.{◌≡◌, ℕ, ◌^◌, ◌<◌, true, List, [], ◌∷◌, ◌++◌, length}
use Rattle.wire.specs.Bytes.{spelled}
use Rattle.std.specs.List.{AllByRecursion}
use Rattle.sheet.specs.declared.row.Head.{Head}
use Rattle.sheet.specs.declared.row.Test.{Test}
use Rattle.sheet.specs.declared.row.Condition.{Condition}
use Rattle.sheet.specs.declared.row.Row.{Row}
use Rattle.sheet.specs.declared.row.Row.TheVariants.{Keep as keep_row, Call as call_row, Send as send_row}
use Rattle.sheet.specs.Rows.{tests_of, relation_code, kind_code, head_within}
use Rattle.sheet.specs.Parts.{inputs_numbers}

-- The numbers that a sheet and its parts are written as.
abbrev pub test_numbers : Test → List ℕ
test_numbers t = t.variable ∷ relation_code t.relation ∷ t.word ∷ []

abbrev pub tests_numbers : List Test → List ℕ
tests_numbers [] = []
tests_numbers (t ∷ ts) = test_numbers t ++ tests_numbers ts

-- The count of the tests, and the tests.
abbrev pub condition_numbers : Condition → List ℕ
condition_numbers c = length (tests_of c) ∷ tests_numbers (tests_of c)

-- The kind of a row, and its fields.
abbrev pub row_numbers : Row → List ℕ
row_numbers (keep_row k) = kind_code (keep_row k) ∷ k.station ∷ k.taken ∷ k.given ∷ k.first ∷ []
row_numbers (call_row c) =
    kind_code (call_row c) ∷ c.station ∷ c.work ∷ (inputs_numbers c.inputs ++ c.output ∷ c.date ∷ c.duration ∷ condition_numbers c.condition)
row_numbers (send_row s) =
    kind_code (send_row s) ∷ s.station ∷ s.variable ∷ s.listeners ∷ s.date ∷ s.duration ∷ condition_numbers s.condition

abbrev pub rows_numbers : List Row → List ℕ
rows_numbers [] = []
rows_numbers (r ∷ rs) = row_numbers r ++ rows_numbers rs

abbrev pub head_numbers : Head → List ℕ
head_numbers h = 1 ∷ h.stations ∷ h.variables ∷ h.cycle ∷ h.rows ∷ []

abbrev pub sheet_numbers : Head → List Row → List ℕ
sheet_numbers h rows = head_numbers h ++ rows_numbers rows

-- The one byte form of a sheet.
abbrev pub sheet_form : Head → List Row → List ℕ
sheet_form h rows = spelled (sheet_numbers h rows)

-- A sheet: a head within its limits that counts the rows, and fields of 32 bits.
pub record IsSheet (h : Head) (rows : List Row) : Type 0 where
  pub within : head_within h ≡ true
  pub counts : h.rows ≡ length rows
  pub words : AllByRecursion (λ n. n < 2 ^ 32) (sheet_numbers h rows)
