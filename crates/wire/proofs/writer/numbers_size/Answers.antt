use Rattle.std.proofs.Common.{length, get_or, take, ap, ◌∙◌, arith, length-append}
use Rattle.wire.specs.Bytes.{spelled, bytes_of}
use Rattle.wire.proofs.Laid.{spelled-more}
use Rattle.wire.proofs.writer.numbers_size.Goals as goal

pub loop-n-preserved : goal.loop-n-preserved
loop-n-preserved c =
    let ns = c.args.numbers.now in
    let i = c.loop-n.n-index in
    let e = ap length (spelled-more ns i c.loop-n-test.true) ∙ length-append (spelled (take i ns)) (bytes_of (get_or ns i 0)) in
    (omega (arith, e, c.loop-n.invariant.0, ap length c.number_bytes.ensures), omega (arith, c.loop-n.invariant.1))
