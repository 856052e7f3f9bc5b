use Rattle.programs.proofs.Exact.{read-exactly, one-file-form}
use Rattle.programs.proofs.Returned.{written-reads-back}
use Rattle.programs.proofs.laws.files_stand.Goals as goal

pub returns : goal.returns
returns c = record { exactly = read-exactly; one = one-file-form; back = written-reads-back }
