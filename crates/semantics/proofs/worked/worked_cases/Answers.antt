use Rattle.std.proofs.Common.{refl}
use Rattle.translate.specs.Translation.{some_due, first_among, rows_length, address, rows_code, code_to, keeps_to, gives_to, programs_from}
use Rattle.semantics.specs.Reading.{given_by, all_hold, read_to, after_cycles}
use Rattle.semantics.specs.Machine.{emptied, steps, first_part, second_part}
use Rattle.semantics.specs.Requests.{rehearsed}
use Rattle.semantics.proofs.worked.worked_cases.Goals as goal

pub returns : goal.returns
unfolding some_due first_among rows_length address rows_code code_to keeps_to gives_to programs_from given_by all_hold read_to after_cycles emptied steps first_part second_part rehearsed
returns c = record {
  numbers = (refl, refl, refl, refl, refl);
  accepted = (refl, refl);
  refused = (refl, refl);
  sends = (refl, refl);
  programs = refl;
  run = record { table = refl; words = refl; fits = refl; making = refl; ticks = refl; row0 = refl; row1 = refl; row2 = refl };
  keep = record { accepted = refl; cycle0 = refl; cycle1 = refl; cycle2 = refl; read0 = refl; read1 = refl; read2 = refl };
}
