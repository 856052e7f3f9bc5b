use Rattle.semantics.proofs.Ending.{laws-stand}
use Rattle.semantics.proofs.laws.laws_stand.Goals as goal

pub returns : goal.returns
returns g c = laws-stand g.P.Plant.model
