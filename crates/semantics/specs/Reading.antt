-- The untimed reading: what a sheet means to people. Rows are numbered from the top, from 0, and so are cycles.
use Rattle.std.specs.Prelude.{ℕ, zero, suc, ◌/◌, ◌%◌, ◌^◌, Bool, true, false, cond, not, ◌&&◌, List, [], ◌∷◌, length, Some, None, Option, ◌==◌, nat_lt}
use Rattle.sheet.specs.declared.row.Relation.{Relation}
use Rattle.sheet.specs.declared.row.Relation.TheVariants.{Equal, Unequal}
use Rattle.sheet.specs.declared.row.Test.{Test}
use Rattle.sheet.specs.declared.row.Inputs.{Inputs}
use Rattle.sheet.specs.declared.row.Inputs.TheVariants.{Nothing, Single, Pair}
use Rattle.sheet.specs.declared.row.Condition.{Condition}
use Rattle.sheet.specs.declared.row.Call.{Call}
use Rattle.sheet.specs.declared.row.Send.{Send}
use Rattle.sheet.specs.declared.row.Row.{Row}
use Rattle.sheet.specs.declared.row.Row.TheVariants.{Keep as keep_row, Call as call_row, Send as send_row}
use Rattle.sheet.specs.Rows.{tests_of, row_at}
use Rattle.plant.specs.Model.{Model, Work}

-- Each station has a place for each variable, empty or holding a word. Each keep row has a cell, by its number.
abbrev pub Places : Type 0
Places = ℕ → ℕ → Option ℕ

abbrev pub Cells : Type 0
Cells = ℕ → Option ℕ

-- What stands between two cycles, and between two rows.
pub record Reading (S : Type 0) : Type 0 where
  pub places : Places
  pub cells : Cells
  pub plant : S

pub record Now (S : Type 0) : Type 0 where
  pub places : Places
  pub plant : S

-- 1. Each keep row whose taken variable is held at its station puts that word in its cell.
abbrev pub filled : Option ℕ → Option ℕ → Option ℕ
filled None cell = cell
filled (Some word) cell = Some word

abbrev pub keeps : Row → Places → Option ℕ → Option ℕ
keeps (keep_row k) places cell = filled (places k.station k.taken) cell
keeps (call_row c) places cell = cell
keeps (send_row s) places cell = cell

abbrev pub kept_cells : List Row → Places → Cells → Cells
kept_cells rows places cells m = cond (nat_lt m (length rows)) (keeps (row_at rows m) places (cells m)) (cells m)

-- 2. All places are emptied; then each keep row puts its cell's word, or its first word if the cell is empty, in
-- the variable that it gives. Here the rows above row n have done so.
abbrev pub or_first : Option ℕ → ℕ → ℕ
or_first None first = first
or_first (Some word) first = word

abbrev pub gives : Row → Option ℕ → Places → Places
gives (keep_row k) cell places s x =
    cond (k.station == s && k.given == x) (Some (or_first cell k.first)) (places s x)
gives (call_row c) cell places s x = places s x
gives (send_row c) cell places s x = places s x

unfoldable pub given_by : List Row → Cells → ℕ → Places
given_by rows cells zero s x = None
given_by rows cells (suc n) s x = gives (row_at rows n) (cells n) (given_by rows cells n) s x

-- A test on an empty place does not hold.
abbrev pub passes : Relation → ℕ → ℕ → Bool
passes Equal held word = held == word
passes Unequal held word = not (held == word)

abbrev pub holds : Test → Option ℕ → Bool
holds t None = false
holds t (Some held) = passes t.relation held t.word

unfoldable pub all_hold : List Test → (ℕ → Option ℕ) → Bool
all_hold [] at = true
all_hold (t ∷ ts) at = holds t (at t.variable) && all_hold ts at

-- The word of a place, 0 where it is empty.
abbrev pub word_of : Option ℕ → ℕ
word_of None = 0
word_of (Some word) = word

-- The work that a call asks for, with its input words.
abbrev pub work_of : Call Condition → Inputs → (ℕ → Option ℕ) → Work
work_of c Nothing at = record { station = c.station; number = c.work; count = 0; first = 0; second = 0 }
work_of c (Single a) at = record { station = c.station; number = c.work; count = 1; first = word_of (at a); second = 0 }
work_of c (Pair a b) at = record { station = c.station; number = c.work; count = 2; first = word_of (at a); second = word_of (at b) }

-- Station n listens to a send.
abbrev pub listens : Send Condition → ℕ → Bool
listens s n = s.listeners / 2 ^ n % 2 == 1

abbrev pub asks : Call Condition → Places → Work
asks c places = work_of c c.inputs (places c.station)

-- 3. Calls and sends are taken from the top. One is performed if every test holds at its station.
abbrev pub is_performed : Row → Places → Bool
is_performed (keep_row k) places = false
is_performed (call_row c) places = all_hold (tests_of c.condition) (places c.station)
is_performed (send_row s) places = all_hold (tests_of s.condition) (places s.station)

-- The words of a performed row, read and given: a call's inputs and answer; a send's word, twice.
pub record Words : Type 0 where
  pub first : Option ℕ
  pub second : Option ℕ
  pub given : Option ℕ

abbrev pub first_read : Inputs → (ℕ → Option ℕ) → Option ℕ
first_read Nothing at = None
first_read (Single a) at = Some (word_of (at a))
first_read (Pair a b) at = Some (word_of (at a))

abbrev pub second_read : Inputs → (ℕ → Option ℕ) → Option ℕ
second_read Nothing at = None
second_read (Single a) at = None
second_read (Pair a b) at = Some (word_of (at b))

module _ (m : Model) where
  -- A call asks the plant and puts the answer in its output; a send copies its word to each listener.
  abbrev pub performed : Row → Now m.State → Now m.State
  performed (keep_row k) a = a
  performed (call_row c) a = record {
    places = λ s x. cond (c.station == s && c.output == x) (Some (m.answer a.plant (asks c a.places))) (a.places s x);
    plant = m.next a.plant (asks c a.places);
  }
  performed (send_row t) a = record {
    places = λ s x. cond (listens t s && t.variable == x) (Some (word_of (a.places t.station t.variable))) (a.places s x);
    plant = a.plant;
  }

  abbrev pub words_of : Row → Now m.State → Words
  words_of (keep_row k) a = record { first = None; second = None; given = None }
  words_of (call_row c) a = record {
    first = first_read c.inputs (a.places c.station);
    second = second_read c.inputs (a.places c.station);
    given = Some (m.answer a.plant (asks c a.places));
  }
  words_of (send_row s) a = record {
    first = Some (word_of (a.places s.station s.variable));
    second = None;
    given = Some (word_of (a.places s.station s.variable));
  }

  abbrev pub taken : Row → Now m.State → Now m.State
  taken row a = cond (is_performed row a.places) (performed row a) a

  module _ (rows : List Row) where
    -- What stands when the rows above row n have been taken.
    unfoldable pub read_to : Now m.State → ℕ → Now m.State
    read_to a zero = a
    read_to a (suc n) = taken (row_at rows n) (read_to a n)

    -- What a cycle begins with, and a cycle.
    abbrev pub begins : Reading m.State → Now m.State
    begins x = record { places = given_by rows (kept_cells rows x.places x.cells) (length rows); plant = x.plant }

    abbrev pub cycle : Reading m.State → Reading m.State
    cycle x = record {
      places = (read_to (begins x) (length rows)).places;
      cells = kept_cells rows x.places x.cells;
      plant = (read_to (begins x) (length rows)).plant;
    }

    -- At first every place and every cell is empty, and the plant is as it starts.
    unfoldable pub after_cycles : m.State → ℕ → Reading m.State
    after_cycles start zero = record { places = λ s x. None; cells = λ n. None; plant = start }
    after_cycles start (suc q) = cycle (after_cycles start q)

    -- In cycle q: what stands before row n, whether the row is performed, and its words.
    abbrev pub before : m.State → ℕ → ℕ → Now m.State
    before start q n = read_to (begins (after_cycles start q)) n

    abbrev pub performs : m.State → ℕ → ℕ → Bool
    performs start q n = is_performed (row_at rows n) (before start q n).places

    abbrev pub words : m.State → ℕ → ℕ → Words
    words start q n = words_of (row_at rows n) (before start q n)
