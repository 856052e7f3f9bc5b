use Rattle.std.proofs.Common.{◌≡◌, ◌+◌, ◌++◌, length, take, drop}
use Rattle.sheet.proofs.RowSizes.{form}
use Rattle.sheet.proofs.writing.put_rows.Given as goal

-- The rows written so far stand in their place.
abbrev pub invariant-loop-row : goal.invariant-loop-row
invariant-loop-row l =
    (l.next ≡ l.at + length (form (take l.row-index l.rows)))
    × (l.out ≡ take l.at l.initial.out ++ (form (take l.row-index l.rows) ++ drop (l.at + length (form (take l.row-index l.rows))) l.initial.out))
