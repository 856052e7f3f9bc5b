use Rattle.std.specs.Prelude.{ℕ, ◌+◌, ◌-◌, ◌/◌, ◌%◌, ◌^◌, cond, List, [], ◌∷◌, ◌++◌, length, replicate, decimal, codes, ◌==◌, nat_lt}
use Rattle.sheet.specs.declared.row.Head.{Head}
use Rattle.sheet.specs.declared.row.Relation.{Relation}
use Rattle.sheet.specs.declared.row.Relation.TheVariants.{Equal, Unequal}
use Rattle.sheet.specs.declared.row.Test.{Test}
use Rattle.sheet.specs.declared.row.Condition.{Condition}
use Rattle.sheet.specs.declared.row.Condition.TheVariants.{Always, One, Two, Three, Four}
use Rattle.sheet.specs.declared.row.Inputs.{Inputs}
use Rattle.sheet.specs.declared.row.Inputs.TheVariants.{Nothing, Single, Pair}
use Rattle.sheet.specs.declared.row.Row.{Row}
use Rattle.sheet.specs.declared.row.Row.TheVariants.{Keep as keep_row, Call as call_row, Send as send_row}

-- A number in a column: blanks before it, none where it is longer.
unfoldable pub column : ℕ → ℕ → List ℕ
column width n = replicate (width - length (decimal n)) 32 ++ decimal n

abbrev pub three : ℕ → List ℕ
three n = column 3 n

abbrev pub five : ℕ → List ℕ
five n = column 5 n

-- A test: its variable, = or #, and its word.
abbrev pub relation_text : Relation → List ℕ
relation_text Equal = codes "="
relation_text Unequal = codes "#"

abbrev pub test_text : Test → List ℕ
test_text t = decimal t.variable ++ (relation_text t.relation ++ decimal t.word)

-- "  if" and the tests, a blank before each; nothing where there is no test.
abbrev pub condition_text : Condition → List ℕ
condition_text Always = []
condition_text (One a) = codes "  if " ++ test_text a
condition_text (Two a b) = codes "  if " ++ (test_text a ++ (codes " " ++ test_text b))
condition_text (Three a b c) = codes "  if " ++ (test_text a ++ (codes " " ++ (test_text b ++ (codes " " ++ test_text c))))
condition_text (Four a b c d) = codes "  if " ++ (test_text a ++ (codes " " ++ (test_text b ++ (codes " " ++ (test_text c ++ (codes " " ++ test_text d))))))

-- The inputs of a call in a column of twelve: "from" and one or two variables.
abbrev pub inputs_text : Inputs → List ℕ
inputs_text Nothing = codes "            "
inputs_text (Single a) = codes "from " ++ (three a ++ codes "    ")
inputs_text (Pair a b) = codes "from " ++ (three a ++ (codes "," ++ three b))

-- A blank and the station's number, where it listens.
abbrev pub listener_text : ℕ → ℕ → List ℕ
listener_text listeners n = cond (listeners / 2 ^ n % 2 == 1) (codes " " ++ decimal n) []

-- The stations that listen, 0 to 7 rising; " beyond" where one above is named.
abbrev pub beyond_text : ℕ → List ℕ
beyond_text listeners = cond (nat_lt listeners 256) [] (codes " beyond")

abbrev pub listeners_text : ℕ → List ℕ
listeners_text l =
    listener_text l 0 ++ (listener_text l 1 ++ (listener_text l 2 ++ (listener_text l 3 ++ (listener_text l 4 ++ (listener_text l 5 ++ (listener_text l 6 ++ (listener_text l 7 ++ beyond_text l)))))))

-- The line of a row: its number and station, what it does, from which tick to which, who listens, and its tests.
abbrev pub begin_text : ℕ → ℕ → List ℕ
begin_text n station = codes "row " ++ (three n ++ (codes "  station " ++ (decimal station ++ codes "  ")))

abbrev pub ticks_text : ℕ → ℕ → List ℕ
ticks_text date duration = codes "  ticks " ++ (five date ++ (codes " to " ++ five (date + duration)))

abbrev pub row_text : ℕ → Row → List ℕ
row_text n (keep_row k) = begin_text n k.station ++ (codes "keep  variable " ++ (three k.taken ++ (codes " as variable " ++ (three k.given ++ (codes ", at first " ++ decimal k.first)))))
row_text n (call_row c) =
    begin_text n c.station
    ++ (codes "call  work " ++ (three c.work ++ (codes " " ++ (inputs_text c.inputs ++ (codes " into " ++ (three c.output ++ (ticks_text c.date c.duration ++ condition_text c.condition)))))))
row_text n (send_row s) =
    begin_text n s.station
    ++ (codes "send  variable " ++ (three s.variable ++ (codes "                  " ++ (ticks_text s.date s.duration ++ (codes "  heard by" ++ (listeners_text s.listeners ++ condition_text s.condition))))))

-- The line of the head.
abbrev pub head_text : Head → List ℕ
head_text h =
    decimal h.stations ++ (codes " stations, " ++ (decimal h.variables ++ (codes " variables, a cycle of " ++ (decimal h.cycle ++ (codes " ticks, " ++ (decimal h.rows ++ codes " rows"))))))

-- The line that says how much was read.
abbrev pub found_text : ℕ → ℕ → List ℕ
found_text rows bytes = codes "read " ++ (decimal rows ++ (codes " rows, " ++ (decimal bytes ++ codes " bytes")))
