-- Worked cases, computed from the definitions.
use Rattle.std.specs.Prelude.{◌≡◌, ℕ, List, [], ◌∷◌, Some, None, Ok}
use Rattle.sheet.specs.declared.row.Head.{Head}
use Rattle.sheet.specs.declared.row.Condition.TheVariants.{Always}
use Rattle.sheet.specs.declared.row.Inputs.TheVariants.{Nothing, Single}
use Rattle.sheet.specs.declared.row.Row.{Row}
use Rattle.sheet.specs.declared.row.Row.TheVariants.{Keep as keep_row, Call as call_row}
use Rattle.sheet.specs.Sheets.{sheet_in}
use Rattle.wire.specs.Bytes.{WorkedNumbers}
use Rattle.judge.specs.Verdict.{verdict}
use Rattle.judge.specs.Worked.{worked_head, worked_sheet, WorkedSheetAccepted, WorkedSheetRefused, WorkedSends}
use Rattle.netcode.specs.Rules.{first_broken}
use Rattle.plant.specs.Fit.{fit_from}
use Rattle.plant.specs.Script.{script, script_read}
use Rattle.translate.specs.Translation.{translated}
use Rattle.translate.specs.Worked.{WorkedPrograms}
use Rattle.semantics.specs.declared.state.State.{State}
use Rattle.semantics.specs.Machine.{mark_in}
use Rattle.semantics.specs.Reading.{words}
use Rattle.semantics.specs.Requests.{at_making, rehearsed}

-- The worked sheet as 32 bytes, and its script as 3: station 0's only word is 1.
abbrev pub table_bytes : List ℕ
table_bytes =
    0x01 ∷ 0x02 ∷ 0x02 ∷ 0x0A ∷ 0x03
    ∷ 0x01 ∷ 0x00 ∷ 0x14 ∷ 0x00 ∷ 0x00 ∷ 0x00 ∷ 0x03 ∷ 0x00
    ∷ 0x02 ∷ 0x00 ∷ 0x00 ∷ 0x02 ∷ 0x03 ∷ 0x02 ∷ 0x00
    ∷ 0x01 ∷ 0x01 ∷ 0x01 ∷ 0x01 ∷ 0x00 ∷ 0x01 ∷ 0x05 ∷ 0x04 ∷ 0x01 ∷ 0x00 ∷ 0x00 ∷ 0x01 ∷ []

abbrev pub script_bytes : List ℕ
script_bytes = 0x01 ∷ 0x00 ∷ 0x01 ∷ []

abbrev pub first_words : List (List ℕ)
first_words = (1 ∷ []) ∷ [] ∷ [] ∷ [] ∷ [] ∷ [] ∷ [] ∷ [] ∷ []

-- What stands after n ticks of a sheet's programs above a script.
abbrev pub scripted : Head → List Row → List (List ℕ) → ℕ → State
scripted h rows unused n = (rehearsed script (translated h rows) n (at_making script (translated h rows) unused)).world.state

-- The table and the script are read; the sheet is accepted, its works are known, its programs keep the rules; and
-- after two cycles the marks of its three rows are these.
pub record WorkedRun : Type 0 where
  pub table : sheet_in table_bytes 128 ≡ Ok (worked_head, worked_sheet 5)
  pub words : script_read script_bytes ≡ Ok first_words
  pub fits : fit_from script 0 (worked_sheet 5) ≡ Ok tt
  pub making : first_broken 0 (translated worked_head (worked_sheet 5)) ≡ None
  pub ticks : (rehearsed script (translated worked_head (worked_sheet 5)) 20 (at_making script (translated worked_head (worked_sheet 5)) first_words)).count ≡ 20
  pub row0 : mark_in (scripted worked_head (worked_sheet 5) first_words 20) 0 ≡ record { count = 2; tick = 10; first = None; second = None; given = Some 0 }
  pub row1 : mark_in (scripted worked_head (worked_sheet 5) first_words 20) 1 ≡ record { count = 2; tick = 13; first = Some 0; second = None; given = Some 0 }
  pub row2 : mark_in (scripted worked_head (worked_sheet 5) first_words 20) 2 ≡ record { count = 1; tick = 5; first = Some 1; second = None; given = Some 1 }

-- A keep row gives in variable 1 what variable 0 held at the end of the cycle before, and at first 7. A call writes
-- variable 0, and one copies variable 1.
abbrev pub keep_head : Head
keep_head = record { stations = 1; variables = 3; cycle = 2; rows = 3 }

abbrev pub keep_sheet : List Row
keep_sheet =
    keep_row record { station = 0; taken = 0; given = 1; first = 7 }
    ∷ call_row record { station = 0; work = 20; inputs = Nothing; output = 0; date = 0; duration = 1; condition = Always }
    ∷ call_row record { station = 0; work = 1; inputs = Single 1; output = 2; date = 1; duration = 1; condition = Always }
    ∷ []

abbrev pub answers : List (List ℕ)
answers = (3 ∷ 0 ∷ []) ∷ [] ∷ [] ∷ [] ∷ [] ∷ [] ∷ [] ∷ [] ∷ []

-- Over the answers 3, 0 the kept variable is 7, 3, 0: by the machine, and by the reading.
pub record WorkedKeep : Type 0 where
  pub accepted : verdict keep_head keep_sheet ≡ None
  pub cycle0 : (mark_in (scripted keep_head keep_sheet answers 2) 2).first ≡ Some 7
  pub cycle1 : (mark_in (scripted keep_head keep_sheet answers 4) 2).first ≡ Some 3
  pub cycle2 : (mark_in (scripted keep_head keep_sheet answers 6) 2).first ≡ Some 0
  pub read0 : (words script keep_sheet answers 0 2).first ≡ Some 7
  pub read1 : (words script keep_sheet answers 1 2).first ≡ Some 3
  pub read2 : (words script keep_sheet answers 2 2).first ≡ Some 0

pub record WorkedCases : Type 0 where
  pub numbers : WorkedNumbers
  pub accepted : WorkedSheetAccepted
  pub refused : WorkedSheetRefused
  pub sends : WorkedSends
  pub programs : WorkedPrograms
  pub run : WorkedRun
  pub keep : WorkedKeep
