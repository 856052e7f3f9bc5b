use Rattle.std.specs.Prelude.{◌≡◌, ℕ, List, [], ◌∷◌, Some, None}
use Rattle.fault.specs.declared.place.RowPlace.TheVariants.{Row as of_row, Rows as of_rows, Variable as of_variable}
use Rattle.fault.specs.declared.refusal.Refusal.TheVariants.{Outside, Clash, Unavailable}
use Rattle.sheet.specs.declared.row.Head.{Head}
use Rattle.sheet.specs.declared.row.Relation.TheVariants.{Equal}
use Rattle.sheet.specs.declared.row.Condition.TheVariants.{Always, One}
use Rattle.sheet.specs.declared.row.Inputs.TheVariants.{Nothing, Single}
use Rattle.sheet.specs.declared.row.Row.{Row}
use Rattle.sheet.specs.declared.row.Row.TheVariants.{Call as call_row, Send as send_row}
use Rattle.judge.specs.Verdict.{verdict}

-- Two stations, two variables, ten ticks, three rows.
abbrev pub worked_head : Head
worked_head = record { stations = 2; variables = 2; cycle = 10; rows = 3 }

-- Station 0 does work 20, for 3 ticks from date 0, and writes variable 0.
abbrev pub worked_call : Row
worked_call =
    call_row record { station = 0; work = 20; inputs = Nothing; output = 0; date = 0; duration = 3; condition = Always }

-- Station 0 sends variable 0 to station 1.
abbrev pub worked_send : ℕ → ℕ → Row
worked_send date duration =
    send_row record { station = 0; variable = 0; listeners = 2; date = date; duration = duration; condition = Always }

-- Station 1 does work 1 on variable 0, for 4 ticks, if that is 1, and writes variable 1.
abbrev pub worked_reply : ℕ → Row
worked_reply date =
    call_row record { station = 1; work = 1; inputs = Single 0; output = 1; date = date; duration = 4; condition = One record { variable = 0; relation = Equal; word = 1 } }

-- The worked sheet, with the date of its last row.
abbrev pub worked_sheet : ℕ → List Row
worked_sheet date = worked_call ∷ worked_send 3 2 ∷ worked_reply date ∷ []

-- Two sends, the second for one tick from the date given.
abbrev pub two_sends : ℕ → List Row
two_sends date = worked_call ∷ worked_send 3 2 ∷ worked_send date 1 ∷ []

abbrev pub WorkedSheetAccepted : Type 0
WorkedSheetAccepted = (verdict worked_head (worked_sheet 5) ≡ None) × (verdict worked_head (worked_sheet 6) ≡ None)

-- The last row starts before the send has ended, or ends after the cycle.
abbrev pub WorkedSheetRefused : Type 0
WorkedSheetRefused =
    (verdict worked_head (worked_sheet 4) ≡ Some record { refusal = Unavailable; place = of_variable 2 0 })
    × (verdict worked_head (worked_sheet 7) ≡ Some record { refusal = Outside; place = of_row 2 })

-- Sends may touch and not overlap.
abbrev pub WorkedSends : Type 0
WorkedSends =
    (verdict worked_head (two_sends 5) ≡ None)
    × (verdict worked_head (two_sends 4) ≡ Some record { refusal = Clash; place = of_rows 2 1 })
