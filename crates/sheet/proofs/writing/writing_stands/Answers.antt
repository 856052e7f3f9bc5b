use Rattle.sheet.proofs.Writes.{written_back}
use Rattle.sheet.proofs.writing.writing_stands.Goals as goal

pub returns : goal.returns
returns c = written_back
