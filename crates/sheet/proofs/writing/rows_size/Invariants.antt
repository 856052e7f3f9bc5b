use Rattle.std.proofs.Common.{◌≡◌, ◌*◌, ◌≤◌, length, take}
use Rattle.sheet.proofs.RowSizes.{form}
use Rattle.sheet.proofs.writing.rows_size.Given as goal

abbrev pub invariant-loop-row : goal.invariant-loop-row
invariant-loop-row l = (l.size ≡ length (form (take l.row-index l.rows))) × (l.size ≤ 110 * l.row-index)
