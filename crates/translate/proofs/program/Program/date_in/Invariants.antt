use Rattle.std.proofs.Common.{◌≡◌, min}
use Rattle.translate.specs.Translation.{first_among}
use Rattle.translate.proofs.program.Program.date_in.Given as goal

-- The first date among the rows so far, if it lies before `until`.
abbrev pub invariant-loop-row : goal.invariant-loop-row
invariant-loop-row l = l.first ≡ min l.until (first_among l.self.cycle l.self.rows.now l.self.number l.from l.row-index)
