use Rattle.std.specs.Prelude.{◌≡◌, ℕ, ◌+◌, ◌/◌, ◌%◌, ◌^◌, ◌<◌, ◌≤◌, ◌⊎◌, List, [], ◌∷◌, length, take, ◌≢◌}
use Rattle.std.specs.List.{AllByRecursion}
use Rattle.sheet.specs.declared.row.Head.{Head}
use Rattle.sheet.specs.declared.row.Relation.{Relation}
use Rattle.sheet.specs.declared.row.Relation.TheVariants.{Equal, Unequal}
use Rattle.sheet.specs.declared.row.Test.{Test}
use Rattle.sheet.specs.declared.row.Row.{Row}
use Rattle.sheet.specs.declared.row.Row.TheVariants.{Keep as keep_row, Call as call_row, Send as send_row}
use Rattle.sheet.specs.Rows.{tests_of, inputs_of, row_at, test_at}

-- When a sheet is accepted. Rows and stations are counted from 0, rows from the top.

-- Some element of the list is so.
abbrev pub Any : {X : Type 0} → (X → Type 0) → List X → Type 0
Any P [] = ⊥
Any P (x ∷ xs) = P x ⊎ Any P xs

-- The listeners of a send are bits: bit n, worth 2 to the power n, names station n.
abbrev pub Listens : ℕ → ℕ → Type 0
Listens listeners station = listeners / 2 ^ station % 2 ≡ 1

-- A row lasts, and ends within the cycle.
abbrev pub WithinCycle : Head → ℕ → ℕ → Type 0
WithinCycle h date duration = (0 < duration) × (date + duration ≤ h.cycle)

abbrev pub TestsWithin : Head → List Test → Type 0
TestsWithin h ts = AllByRecursion (λ t. t.variable < h.variables) ts

-- Every field of a row is within its limits. The listeners exist, are not none, and omit the sender.
abbrev pub FieldsWithin : Head → Row → Type 0
FieldsWithin h (keep_row k) = (k.station < h.stations) × ((k.taken < h.variables) × (k.given < h.variables))
FieldsWithin h (call_row c) =
    (c.station < h.stations)
    × ((c.work ≤ 255)
    × (AllByRecursion (λ v. v < h.variables) (inputs_of c.inputs)
    × ((c.output < h.variables)
    × (WithinCycle h c.date c.duration
    × TestsWithin h (tests_of c.condition)))))
FieldsWithin h (send_row s) =
    (s.station < h.stations)
    × ((s.variable < h.variables)
    × ((0 < s.listeners)
    × (((n : ℕ) → Listens s.listeners n → n < h.stations)
    × ((Listens s.listeners s.station → ⊥)
    × (WithinCycle h s.date s.duration
    × TestsWithin h (tests_of s.condition))))))

abbrev pub IsKeep : Row → Type 0
IsKeep (keep_row k) = Unit {0}
IsKeep (call_row c) = ⊥
IsKeep (send_row s) = ⊥

-- A keep row is one of the first sixteen rows, and only keep rows stand above it.
abbrev pub Placed : List Row → ℕ → Row → Type 0
Placed rows r (keep_row k) = (r < 16) × ((u : ℕ) → u < r → IsKeep (row_at rows u))
Placed rows r (call_row c) = Unit {0}
Placed rows r (send_row s) = Unit {0}

-- No variable stands twice in one condition.
abbrev pub NoneTwice : List Test → Type 0
NoneTwice ts = (i j : ℕ) → i < j → j < length ts → (test_at ts i).variable ≢ (test_at ts j).variable

abbrev pub TestedOnce : Row → Type 0
TestedOnce (keep_row k) = Unit {0}
TestedOnce (call_row c) = NoneTwice (tests_of c.condition)
TestedOnce (send_row s) = NoneTwice (tests_of s.condition)

-- Two tests that no word meets: equal to two different words, or equal to a word and unequal to it.
abbrev pub OpposedWords : Relation → ℕ → Relation → ℕ → Type 0
OpposedWords Equal v Equal w = v ≡ w → ⊥
OpposedWords Equal v Unequal w = v ≡ w
OpposedWords Unequal v Equal w = v ≡ w
OpposedWords Unequal v Unequal w = ⊥

abbrev pub Opposed : Test → Test → Type 0
Opposed s t = (s.variable ≡ t.variable) × OpposedWords s.relation s.word t.relation t.word

-- Two conditions exclude each other: some test of the one is opposed to some test of the other.
abbrev pub Exclude : List Test → List Test → Type 0
Exclude ss ts = Any (λ s. Any (λ t. Opposed s t) ts) ss

-- A variable given by a keep row is given by no other keep row and written by no call; two calls that
-- write one variable exclude each other.
abbrev pub SingleWriter : Row → Row → Type 0
SingleWriter (keep_row k) (keep_row l) = k.given ≡ l.given → ⊥
SingleWriter (keep_row k) (call_row c) = k.given ≡ c.output → ⊥
SingleWriter (keep_row k) (send_row s) = Unit {0}
SingleWriter (call_row c) (keep_row k) = c.output ≡ k.given → ⊥
SingleWriter (call_row c) (call_row d) = c.output ≡ d.output → Exclude (tests_of c.condition) (tests_of d.condition)
SingleWriter (call_row c) (send_row s) = Unit {0}
SingleWriter (send_row s) x = Unit {0}

-- Of two calls at one station the upper ends no later than the lower starts, and of any two sends one ends
-- no later than the other starts, unless they exclude each other.
abbrev pub NoOverlap : Row → Row → Type 0
NoOverlap (keep_row k) x = Unit {0}
NoOverlap (call_row c) (keep_row k) = Unit {0}
NoOverlap (call_row c) (call_row d) =
    c.station ≡ d.station
    → Exclude (tests_of c.condition) (tests_of d.condition) ⊎ (c.date + c.duration ≤ d.date)
NoOverlap (call_row c) (send_row s) = Unit {0}
NoOverlap (send_row s) (keep_row k) = Unit {0}
NoOverlap (send_row s) (call_row c) = Unit {0}
NoOverlap (send_row s) (send_row t) =
    Exclude (tests_of s.condition) (tests_of t.condition)
    ⊎ ((s.date + s.duration ≤ t.date) ⊎ (t.date + t.duration ≤ s.date))

-- Each of the tests `ss` is one of `ts`: the very same variable, relation and word.
abbrev pub Among : List Test → List Test → Type 0
Among ss ts = AllByRecursion (λ s. Any (λ t. s ≡ t) ts) ss

-- A row provides a variable at a station to a row of that date, after the tests `ts`: a keep row of the
-- station that gives it, a call there that writes it, or a send of it to which the station listens. A call
-- or send provides only if it ends no later than that date and each of its tests is one of `ts`.
abbrev pub Provides : Row → ℕ → ℕ → ℕ → List Test → Type 0
Provides (keep_row k) station variable date ts = (k.station ≡ station) × (k.given ≡ variable)
Provides (call_row c) station variable date ts =
    (c.station ≡ station) × ((c.output ≡ variable) × ((c.date + c.duration ≤ date) × Among (tests_of c.condition) ts))
Provides (send_row s) station variable date ts =
    Listens s.listeners station
    × ((s.variable ≡ variable) × ((s.date + s.duration ≤ date) × Among (tests_of s.condition) ts))

-- A variable is available for the row at `r`, of that date: a row above provides it.
abbrev pub Available : List Row → ℕ → ℕ → ℕ → ℕ → List Test → Type 0
Available rows r station variable date ts = (u : ℕ) × (u < r) × Provides (row_at rows u) station variable date ts

-- At a station each test variable is available after the tests before it.
abbrev pub TestsAvailable : List Row → ℕ → ℕ → ℕ → List Test → Type 0
TestsAvailable rows r station date ts =
    (i : ℕ) → i < length ts → Available rows r station (test_at ts i).variable date (take i ts)

-- What a row reads is available: at its station each test variable, and after all tests its inputs or the
-- variable that it sends; at every listener each test variable likewise.
abbrev pub ReadsAvailable : List Row → ℕ → Row → Type 0
ReadsAvailable rows r (keep_row k) = Unit {0}
ReadsAvailable rows r (call_row c) =
    TestsAvailable rows r c.station c.date (tests_of c.condition)
    × AllByRecursion (λ v. Available rows r c.station v c.date (tests_of c.condition)) (inputs_of c.inputs)
ReadsAvailable rows r (send_row s) =
    TestsAvailable rows r s.station s.date (tests_of s.condition)
    × (Available rows r s.station s.variable s.date (tests_of s.condition)
    × ((n : ℕ) → Listens s.listeners n → TestsAvailable rows r n s.date (tests_of s.condition)))

-- The row at `r` keeps the rules, below the rows above it.
pub record RowRules (h : Head) (rows : List Row) (r : ℕ) : Type 0 where
  pub fields : FieldsWithin h (row_at rows r)
  pub placed : Placed rows r (row_at rows r)
  pub tested : TestedOnce (row_at rows r)
  pub writers : (u : ℕ) → u < r → SingleWriter (row_at rows u) (row_at rows r)
  pub overlaps : (u : ℕ) → u < r → NoOverlap (row_at rows u) (row_at rows r)
  pub reads : ReadsAvailable rows r (row_at rows r)

-- A sheet is accepted when every row keeps them.
abbrev pub Rules : Head → List Row → Type 0
Rules h rows = (r : ℕ) → r < length rows → RowRules h rows r
