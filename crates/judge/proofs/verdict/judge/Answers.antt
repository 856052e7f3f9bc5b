use Rattle.std.proofs.Common.{◌≡◌, rules}
use Rattle.judge.specs.Verdict.{verdict}
use Rattle.judge.proofs.Theorem.{right-at}
use Rattle.judge.proofs.verdict.judge.Goals as goal

pub returns-clause-right : goal.returns-clause-right
returns-clause-right c =
    let e : c.map.result ≡ verdict c.args.head.now c.args.rows.now = search rules in
    right-at c.args.head.now c.args.rows.now c.map.result e
