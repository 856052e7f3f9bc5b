use Rattle.std.specs.Prelude.{◌≡◌, ℕ, ◌+◌, zero, suc, Bool, cond, ◌&&◌, ◌==◌, nat_lt, Option, Some, None, List, [], ◌∷◌, ◌++◌, length}
use Rattle.std.specs.List.{filter, sum_by}
use Rattle.sheet.specs.declared.row.Keep.{Keep}
use Rattle.sheet.specs.declared.row.Row.{Row}
use Rattle.sheet.specs.declared.row.Row.TheVariants.{Keep as keep_row, Call as call_row, Send as send_row}
use Rattle.sheet.specs.Rows.{row_at}
use Rattle.netcode.specs.declared.step.Step.{Step}
use Rattle.netcode.specs.Layouts.{station_of}
use Rattle.translate.specs.declared.code.Code.{Code}
use Rattle.translate.specs.declared.program.Program.{Program}
use Rattle.translate.specs.Stores.{stored}
use Rattle.translate.specs.Translation.{tests_in, date_of, belongs, is_date, first_date, rows_length, address, wait_for, rows_code, preparation, opening_length, opening, program_code}

-- The parts of the translation, of a program that is handed about as one value.
abbrev pub first_date_of : Program → ℕ → ℕ
first_date_of p = first_date p.cycle p.rows.now p.number

abbrev pub is_date_of : Program → ℕ → Bool
is_date_of p = is_date p.cycle p.rows.now p.number

abbrev pub rows_length_of : Program → ℕ → ℕ
rows_length_of p date = rows_length p.cycle p.rows.now p.number date 0 (length p.rows.now)

-- How many steps a row has in a block, and how many all rows of program p with an earlier date have.
abbrev pub steps_in : Row → ℕ
steps_in row = length (tests_in row) + 3

abbrev pub early : ℕ → ℕ → Row → Bool
early p date row = belongs p row && nat_lt (date_of row) date

abbrev pub early_steps : ℕ → List Row → ℕ → ℕ
early_steps p rows date = sum_by steps_in (filter (early p date) rows)

abbrev pub preparation_of : Program → List Step
preparation_of p = preparation p.rows.now p.number

abbrev pub opening_length_of : Program → ℕ
opening_length_of p = opening_length p.cycle p.rows.now p.number

abbrev pub opening_of : Program → List Step
opening_of p = opening p.cycle p.rows.now p.number

abbrev pub address_of : Program → ℕ → ℕ
address_of p = address p.cycle p.rows.now p.number (opening_length_of p)

abbrev pub wait_of : Program → ℕ → ℕ → Step
wait_of p = wait_for p.cycle p.rows.now p.number (opening_length_of p)

abbrev pub block_of : Program → ℕ → ℕ → List Step
block_of p date = rows_code p.cycle p.rows.now p.number (opening_length_of p) date 0 (length p.rows.now)

abbrev pub code_of : Program → List Step
code_of p = program_code p.cycle p.rows.now p.number

-- A keep row of program p's station.
abbrev pub kept_in : ℕ → Row → Option Keep
kept_in p (keep_row k) = cond (k.station == station_of p) (Some k) None
kept_in p (call_row c) = None
kept_in p (send_row s) = None

-- What `made` makes of a number and a keep row.
abbrev pub made_of : (ℕ → Keep → Step) → ℕ → Option Keep → List Step
made_of made n None = []
made_of made n (Some k) = made n k ∷ []

-- The same of each of the first n rows that is a keep row of program p's station.
unfoldable pub kept_to : (ℕ → Keep → Step) → List Row → ℕ → ℕ → List Step
kept_to made rows p zero = []
kept_to made rows p (suc n) = kept_to made rows p n ++ made_of made n (kept_in p (row_at rows n))

-- What is written in a list of steps that is filled: the new steps stand where it ended, and it ends after them.
-- The list keeps its length.
pub record Writes (before after : Code) (new : List Step) : Type 0 where
  pub same : after.steps.ghost_name ≡ before.steps.ghost_name
  pub list : after.steps.now ≡ stored before.steps.now before.end new
  pub end : after.end ≡ before.end + length new
  pub room : length after.steps.now ≡ length before.steps.now
