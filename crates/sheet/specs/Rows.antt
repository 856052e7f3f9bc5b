use Rattle.std.specs.Prelude.{ℕ, Bool, true, ◌&&◌, List, [], ◌∷◌, nat_lt, slice_index_or}
use Rattle.sheet.specs.declared.row.Head.{Head}
use Rattle.sheet.specs.declared.row.Relation.{Relation}
use Rattle.sheet.specs.declared.row.Relation.TheVariants.{Equal, Unequal}
use Rattle.sheet.specs.declared.row.Test.{Test}
use Rattle.sheet.specs.declared.row.Condition.{Condition}
use Rattle.sheet.specs.declared.row.Condition.TheVariants.{Always, One, Two, Three, Four}
use Rattle.sheet.specs.declared.row.Inputs.{Inputs}
use Rattle.sheet.specs.declared.row.Inputs.TheVariants.{Nothing, Single, Pair}
use Rattle.sheet.specs.declared.row.Row.{Row}
use Rattle.sheet.specs.declared.row.Row.TheVariants.{Keep as keep_row, Call as call_row, Send as send_row}

-- The tests of a condition, in their order.
abbrev pub tests_of : Condition → List Test
tests_of Always = []
tests_of (One a) = a ∷ []
tests_of (Two a b) = a ∷ b ∷ []
tests_of (Three a b c) = a ∷ b ∷ c ∷ []
tests_of (Four a b c d) = a ∷ b ∷ c ∷ d ∷ []

-- The variables that a call reads, in their order.
abbrev pub inputs_of : Inputs → List ℕ
inputs_of Nothing = []
inputs_of (Single a) = a ∷ []
inputs_of (Pair a b) = a ∷ b ∷ []

-- Whether each variable is below a limit.
abbrev pub all_below : ℕ → List ℕ → Bool
all_below n [] = true
all_below n (v ∷ vs) = nat_lt v n && all_below n vs

-- The condition of a row; a keep row has none.
abbrev pub condition_of : Row → Condition
condition_of (keep_row k) = Always
condition_of (call_row c) = c.condition
condition_of (send_row s) = s.condition

-- The number of each relation, and of each kind of row.
abbrev pub relation_code : Relation → ℕ
relation_code Equal = 0
relation_code Unequal = 1

abbrev pub kind_code : Row → ℕ
kind_code (keep_row k) = 0
kind_code (call_row c) = 1
kind_code (send_row s) = 2

-- A head within its limits: 1 to 8 stations, 1 to 64 variables, 1 to 65,535 ticks, at most 128 rows.
abbrev pub head_within : Head → Bool
head_within h =
    (nat_lt 0 h.stations && nat_lt h.stations 9) && (nat_lt 0 h.variables && nat_lt h.variables 65)
    && ((nat_lt 0 h.cycle && nat_lt h.cycle 65536) && nat_lt h.rows 129)

-- What is read where a list of rows or tests has ended: the list's element type's first case with zeros.
abbrev pub no_row : Row
no_row = keep_row record { station = 0; taken = 0; given = 0; first = 0 }

abbrev pub row_at : List Row → ℕ → Row
row_at rows i = slice_index_or rows i no_row

abbrev pub no_test : Test
no_test = record { variable = 0; relation = Equal; word = 0 }

abbrev pub test_at : List Test → ℕ → Test
test_at ts i = slice_index_or ts i no_test
