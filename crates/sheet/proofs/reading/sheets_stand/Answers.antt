use Rattle.sheet.proofs.Exact.{read-exactly, one-sheet-form}
use Rattle.sheet.proofs.Offsets.{offsets-tell}
use Rattle.sheet.proofs.reading.sheets_stand.Goals as goal

pub returns : goal.returns
returns c = record { exact = read-exactly; one = one-sheet-form; offsets = offsets-tell }
