use Rattle.std.proofs.Common.{vec_items}
use Rattle.stages.specs.Sheets.{rows_in}
use Rattle.judge.proofs.Theorem.{accepted-rules}
use Rattle.stages.proofs.stage.Draft.front.Goals as goal

pub returns-clause-kept : goal.returns-clause-kept
returns-clause-kept c =
    let d = c.args.self.now in
    λ found. rw c.as_slice.ensures.value (accepted-rules d.head (rows_in d.head (vec_items d.rows)) found)
