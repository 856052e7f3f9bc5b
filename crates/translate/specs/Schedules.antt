use Rattle.std.specs.Prelude.{ℕ, suc, ◌+◌, ◌-◌, Bool, true, false, List, [], ◌∷◌, length}
use Rattle.sheet.specs.declared.row.Relation.{Relation}
use Rattle.sheet.specs.declared.row.Relation.TheVariants.{Equal, Unequal}
use Rattle.sheet.specs.declared.row.Test.{Test}
use Rattle.sheet.specs.declared.row.Inputs.{Inputs}
use Rattle.sheet.specs.declared.row.Inputs.TheVariants.{Nothing, Single, Pair}
use Rattle.sheet.specs.declared.row.Row.{Row}
use Rattle.sheet.specs.declared.row.Row.TheVariants.{Keep as keep_row, Call as call_row, Send as send_row}
use Rattle.sheet.specs.Rows.{tests_of, row_at}
use Rattle.judge.specs.Verdict.{listens}
use Rattle.schedule.specs.Rows.{Test as Asked, Row as Planned}
use Rattle.schedule.specs.Machine.{Keep as Kept}
use Rattle.schedule.specs.Program.{Step as PlannedStep}
use Rattle.netcode.specs.declared.step.Step.{Step}
use Rattle.netcode.specs.declared.step.Step.TheVariants.{Test as test_step, Future, Halt, Keep, Clear, Give}
use Rattle.translate.specs.Translation.{act}

-- A sheet as a schedule: its keep rows, and after them its calls and sends, numbered from 0 again.

-- How many keep rows stand at the front.
abbrev pub keep_count : List Row → ℕ
keep_count [] = 0
keep_count (keep_row k ∷ rows) = suc (keep_count rows)
keep_count (call_row c ∷ rows) = 0
keep_count (send_row s ∷ rows) = 0

abbrev pub is_equal : Relation → Bool
is_equal Equal = true
is_equal Unequal = false

abbrev pub as_test : Test → Asked
as_test t = record { var = t.variable; equal = is_equal t.relation; word = t.word }

abbrev pub as_tests : List Test → List Asked
as_tests [] = []
as_tests (t ∷ ts) = as_test t ∷ as_tests ts

-- How many inputs a call has, and which; 0 where there is none.
abbrev pub input_count : Inputs → ℕ
input_count Nothing = 0
input_count (Single a) = 1
input_count (Pair a b) = 2

abbrev pub first_input : Inputs → ℕ
first_input Nothing = 0
first_input (Single a) = a
first_input (Pair a b) = a

abbrev pub second_input : Inputs → ℕ
second_input Nothing = 0
second_input (Single a) = 0
second_input (Pair a b) = b

-- A call or a send; of a keep row nothing is asked.
abbrev pub as_row : Row → Planned
as_row (call_row c) = record {
  sends = false;
  st = c.station;
  work = c.work;
  count = input_count c.inputs;
  one = first_input c.inputs;
  two = second_input c.inputs;
  out = c.output;
  listeners = λ n. false;
  date = c.date;
  dur = c.duration;
  tests = as_tests (tests_of c.condition);
}
as_row (send_row s) = record {
  sends = true;
  st = s.station;
  work = 0;
  count = 1;
  one = s.variable;
  two = 0;
  out = s.variable;
  listeners = listens s.listeners;
  date = s.date;
  dur = s.duration;
  tests = as_tests (tests_of s.condition);
}
as_row (keep_row k) = record
    { sends = false; st = 0; work = 0; count = 0; one = 0; two = 0; out = 0; listeners = λ n. false; date = 0; dur = 0; tests = [] }

-- A keep row; of another row nothing is asked.
abbrev pub as_keep : Row → Kept
as_keep (keep_row k) = record { st = k.station; from = k.taken; into = k.given; first = k.first }
as_keep (call_row c) = record { st = 0; from = 0; into = 0; first = 0 }
as_keep (send_row s) = record { st = 0; from = 0; into = 0; first = 0 }

-- The calls and sends of a sheet, how many they are, and its keep rows.
abbrev pub rows_of : List Row → ℕ → Planned
rows_of rows i = as_row (row_at rows (keep_count rows + i))

abbrev pub row_total : List Row → ℕ
row_total rows = length rows - keep_count rows

abbrev pub keeps_of : List Row → ℕ → Kept
keeps_of rows m = as_keep (row_at rows m)

-- A step of a schedule's program p as a step of the sheet's: `act k` is what the program does of row k, whose
-- number in the sheet is counted from the first keep row.
abbrev pub relation_from : Bool → Relation
relation_from true = Equal
relation_from false = Unequal

abbrev pub concrete : List Row → ℕ → PlannedStep → Step
concrete rows p (PlannedStep.test t a) = test_step t.var (relation_from t.equal) t.word a
concrete rows p (PlannedStep.future n a) = Future n a
concrete rows p PlannedStep.halt = Halt
concrete rows p (PlannedStep.act k) = act p (keep_count rows + k) (row_at rows (keep_count rows + k))
concrete rows p (PlannedStep.keep x m) = Keep x m
concrete rows p PlannedStep.clear = Clear
concrete rows p (PlannedStep.give m x w) = Give m x w
