use Rattle.std.specs.Prelude.{◌≡◌, ℕ, ◌≤◌, Bool, cond, ◌&&◌, List, ◌++◌, length, take, drop, Ok, Result, ◌==◌, nat_lt}
use Rattle.fault.specs.declared.refusal.Fault.{Fault}
use Rattle.fault.specs.declared.place.BytesPlace.{BytesPlace}
use Rattle.sheet.specs.declared.row.Head.{Head}
use Rattle.sheet.specs.declared.row.Row.{Row}
use Rattle.sheet.specs.Rows.{head_within}
use Rattle.sheet.specs.Sheets.{sheet_in, too_short, head_outside}
use Rattle.sheet.specs.Forms.{IsSheet, sheet_form}

-- A head that describes the rows: it is within its limits, and counts them.
abbrev pub describes : Head → List Row → Bool
describes h rows = head_within h && h.rows == length rows

-- Where a sheet that is written ends, in a list of `room` bytes.
abbrev pub written_end : Head → List Row → ℕ → Result ℕ (Fault BytesPlace)
written_end h rows room =
    cond (describes h rows)
    (cond (nat_lt room (length (sheet_form h rows))) (too_short (length (sheet_form h rows))) (Ok (length (sheet_form h rows))))
    head_outside

-- The list after that: the sheet's form at its front, whose rest stays; or as it was.
abbrev pub written_bytes : Head → List Row → List ℕ → List ℕ
written_bytes h rows out =
    cond (describes h rows)
    (cond (nat_lt (length out) (length (sheet_form h rows))) out (sheet_form h rows ++ drop (length (sheet_form h rows)) out))
    out

-- Every sheet is written, given room, and read back equal.
abbrev pub WrittenBack : Type 0
WrittenBack =
    (h : Head) (rows : List Row) (out : List ℕ) (room : ℕ) → IsSheet h rows → length (sheet_form h rows) ≤ length out → length rows ≤ room
    → (written_end h rows (length out) ≡ Ok (length (sheet_form h rows)))
    × (sheet_in (take (length (sheet_form h rows)) (written_bytes h rows out)) room ≡ Ok (h, rows))
