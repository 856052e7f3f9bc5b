use Rattle.netcode.proofs.Verdicts.{rules-stand}
use Rattle.netcode.proofs.laws.rules_stand.Goals as goal

pub returns : goal.returns
returns c = rules-stand
