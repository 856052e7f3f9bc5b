use Rattle.translate.proofs.Lawfulness.{programs-lawful}
use Rattle.translate.proofs.laws.programs_lawful.Goals as goal

pub returns : goal.returns
returns c = programs-lawful
