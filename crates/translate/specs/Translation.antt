use Rattle.std.specs.Prelude.{ℕ, zero, suc, ◌+◌, ◌-◌, min, Bool, false, cond, not, ◌&&◌, ◌||◌, List, [], ◌∷◌, ◌++◌, length, ◌==◌, nat_le, nat_lt}
use Rattle.sheet.specs.declared.row.Head.{Head}
use Rattle.sheet.specs.declared.row.Test.{Test}
use Rattle.sheet.specs.declared.row.Row.{Row}
use Rattle.sheet.specs.declared.row.Row.TheVariants.{Keep as keep_row, Call as call_row, Send as send_row}
use Rattle.sheet.specs.Rows.{tests_of, row_at}
use Rattle.judge.specs.Verdict.{listens}
use Rattle.netcode.specs.declared.step.Step.{Step}
use Rattle.netcode.specs.declared.step.Step.TheVariants.{Test as test_step, Future, Halt, Call, Send, Receive, Keep, Clear, Give}
use Rattle.netcode.specs.Layouts.{line_program, station_of, program_count}

-- THE TRANSLATION of a sheet into programs. Rows are numbered from 0 from the top, addresses from 0.

-- The tests, the date and the end of a call or a send. A keep row has none: it stands in no block.
abbrev pub tests_in : Row → List Test
tests_in (keep_row k) = []
tests_in (call_row c) = tests_of c.condition
tests_in (send_row s) = tests_of s.condition

abbrev pub date_of : Row → ℕ
date_of (keep_row k) = 0
date_of (call_row c) = c.date
date_of (send_row s) = s.date

abbrev pub end_of : Row → ℕ
end_of (keep_row k) = 0
end_of (call_row c) = c.date + c.duration
end_of (send_row s) = s.date + s.duration

-- Whether program p is its station's line program; else it is the work program.
abbrev pub is_line : ℕ → Bool
is_line p = p == line_program (station_of p)

-- Whether a row is one of program p's: a work program's rows are the calls of its station, and a line
-- program's are the sends in which its station sends or listens.
abbrev pub belongs : ℕ → Row → Bool
belongs p (keep_row k) = false
belongs p (call_row c) = not (is_line p) && c.station == station_of p
belongs p (send_row s) = is_line p && (s.station == station_of p || listens s.listeners (station_of p))

-- What program p does of row i: the station's own call or send, or the receipt of what another station sends.
-- Of a keep row nothing is asked.
abbrev pub act : ℕ → ℕ → Row → Step
act p i (keep_row k) = Clear
act p i (call_row c) = Call i c.work c.inputs c.output c.duration
act p i (send_row s) = cond (s.station == station_of p) (Send i s.variable s.duration) (Receive s.variable s.duration)

-- TESTs that go to address b where they fail.
abbrev pub tests_code : List Test → ℕ → List Step
tests_code [] b = []
tests_code (t ∷ ts) b = test_step t.variable t.relation t.word b ∷ tests_code ts b

-- KEEP and GIVE of row n, if it is a keep row of program p's station; its cell has the row's own number.
abbrev pub keep_step : ℕ → ℕ → Row → List Step
keep_step p n (keep_row k) = cond (k.station == station_of p) (Keep k.taken n ∷ []) []
keep_step p n (call_row c) = []
keep_step p n (send_row s) = []

abbrev pub give_step : ℕ → ℕ → Row → List Step
give_step p n (keep_row k) = cond (k.station == station_of p) (Give n k.given k.first ∷ []) []
give_step p n (call_row c) = []
give_step p n (send_row s) = []

-- KEEPs and GIVEs of the first n rows, for program p.
unfoldable pub keeps_to : List Row → ℕ → ℕ → List Step
keeps_to rows p zero = []
keeps_to rows p (suc n) = keeps_to rows p n ++ keep_step p n (row_at rows n)

unfoldable pub gives_to : List Row → ℕ → ℕ → List Step
gives_to rows p zero = []
gives_to rows p (suc n) = gives_to rows p n ++ give_step p n (row_at rows n)

-- A work program begins with a KEEP for each keep row of its station, CLEAR, and a GIVE for each.
abbrev pub preparation : List Row → ℕ → List Step
preparation rows p = cond (is_line p) [] (keeps_to rows p (length rows) ++ (Clear ∷ gives_to rows p (length rows)))

-- One program: the cycle's length, the rows of the sheet, and the program's number.
module _ (cycle : ℕ) (rows : List Row) (p : ℕ) where
  -- Whether row i is the program's and has the date d.
  abbrev pub is_due : ℕ → ℕ → Bool
  is_due d i = belongs p (row_at rows i) && date_of (row_at rows i) == d

  -- Whether one of the first n rows is.
  unfoldable pub some_due : ℕ → ℕ → Bool
  some_due d zero = false
  some_due d (suc n) = is_due d n || some_due d n

  -- Whether d is one of the program's dates.
  abbrev pub is_date : ℕ → Bool
  is_date d = some_due d (length rows)

  -- The first of the dates of the first n rows that is not before d, or the end of the cycle.
  unfoldable pub first_among : ℕ → ℕ → ℕ
  first_among d zero = cycle
  first_among d (suc n) =
      cond (belongs p (row_at rows n) && nat_le d (date_of (row_at rows n))) (min (date_of (row_at rows n)) (first_among d n)) (first_among d n)

  abbrev pub first_date : ℕ → ℕ
  first_date d = first_among d (length rows)

  -- A row has its TESTs, a FUTURE, what it does, and HALT.
  abbrev pub row_length : ℕ → ℕ
  row_length i = length (tests_in (row_at rows i)) + 3

  -- How many steps the rows of date d have, from row i on, m rows.
  unfoldable pub rows_length : ℕ → ℕ → ℕ → ℕ
  rows_length d i zero = 0
  rows_length d i (suc m) = cond (is_due d i) (row_length i) 0 + rows_length d (suc i) m

  -- The block of a date is its rows' steps and the tail of two.
  abbrev pub block_length : ℕ → ℕ
  block_length d = cond (is_date d) (rows_length d 0 (length rows) + 2) 0

  -- Where the block of date d begins, after an opening of o steps and the blocks of the dates before d.
  unfoldable pub address : ℕ → ℕ → ℕ
  address o zero = o
  address o (suc d) = address o d + block_length d

  -- At date d, the wait for the first date not before `end`, at that date's block; or for the end of the
  -- cycle, at address 0.
  abbrev pub wait_for : ℕ → ℕ → ℕ → Step
  wait_for o d end = Future (first_date end - d) (cond (nat_lt (first_date end) cycle) (address o (first_date end)) 0)

  -- The code of row i, which stands at address b: its failed tests go to what stands after it.
  abbrev pub row_code : ℕ → ℕ → ℕ → ℕ → List Step
  row_code o d i b =
      tests_code (tests_in (row_at rows i)) (b + row_length i) ++ (wait_for o d (end_of (row_at rows i)) ∷ act p i (row_at rows i) ∷ Halt ∷ [])

  -- The tail: the wait for the next date.
  abbrev pub tail_code : ℕ → ℕ → List Step
  tail_code o d = wait_for o d (suc d) ∷ Halt ∷ []

  -- The rows of date d from the top, from row i on, m rows, and the tail.
  unfoldable pub rows_code : ℕ → ℕ → ℕ → ℕ → ℕ → List Step
  rows_code o d i zero b = tail_code o d
  rows_code o d i (suc m) b = cond (is_due d i) (row_code o d i b ++ rows_code o d (suc i) m (b + row_length i)) (rows_code o d (suc i) m b)

  -- The block of date d, if it is one of the program's.
  abbrev pub block_code : ℕ → ℕ → List Step
  block_code o d = cond (is_date d) (rows_code o d 0 (length rows) (address o d)) []

  -- The blocks of the dates before d, after the opening.
  unfoldable pub code_to : List Step → ℕ → List Step
  code_to opening zero = opening
  code_to opening (suc d) = code_to opening d ++ block_code (length opening) d

  -- The opening: the preparation, and unless 0 is a date the wait for the first one.
  abbrev pub opening_length : ℕ
  opening_length = length (preparation rows p) + cond (is_date 0) 0 2

  abbrev pub opening : List Step
  opening = preparation rows p ++ cond (is_date 0) [] (wait_for opening_length 0 0 ∷ Halt ∷ [])

  -- The whole program.
  abbrev pub program_code : List Step
  program_code = code_to opening cycle

-- The programs from number p on, m of them.
unfoldable pub programs_from : ℕ → List Row → ℕ → ℕ → List (List Step)
programs_from cycle rows p zero = []
programs_from cycle rows p (suc m) = program_code cycle rows p ∷ programs_from cycle rows (suc p) m

-- The programs of a sheet: of each station the work program and the line program.
abbrev pub translated : Head → List Row → List (List Step)
translated h rows = programs_from h.cycle rows 0 (program_count h.stations)
