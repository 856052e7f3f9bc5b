use Rattle.translate.proofs.Woken.{turns-stand}
use Rattle.translate.proofs.laws.turns_stand.Goals as goal

pub returns : goal.returns
returns c = turns-stand
