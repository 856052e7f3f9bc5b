use Rattle.judge.proofs.Theorem.{accepts-exactly, names-first}
use Rattle.judge.proofs.verdict.verdict_stands.Goals as goal

pub returns : goal.returns
returns c = record { exactly = accepts-exactly; names = names-first }
