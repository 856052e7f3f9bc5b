use Rattle.std.proofs.Common.{refl}
use Rattle.judge.proofs.verdict.worked_verdicts.Goals as goal

pub returns : goal.returns
returns c = record { accepted = (refl, refl); refused = (refl, refl); sends = (refl, refl) }
