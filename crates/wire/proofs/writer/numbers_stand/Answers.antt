use Rattle.wire.proofs.Forms.{reads-back, one_form, same_bytes}
use Rattle.wire.proofs.writer.numbers_stand.Goals as goal

pub returns : goal.returns
returns c = record { back = reads-back; one = one_form; same = same_bytes }
