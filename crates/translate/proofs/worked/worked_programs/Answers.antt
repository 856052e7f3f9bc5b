use Rattle.std.proofs.Common.{refl}
use Rattle.translate.specs.Translation.{some_due, first_among, rows_length, address, rows_code, code_to, keeps_to, gives_to, programs_from}
use Rattle.translate.proofs.worked.worked_programs.Goals as goal

pub returns : goal.returns
unfolding some_due first_among rows_length address rows_code code_to keeps_to gives_to programs_from
returns c = refl
