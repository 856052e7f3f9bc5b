use Rattle.std.proofs.Common.{◌≡◌, ◌*◌, ◌≤◌, length, take}
use Rattle.wire.specs.Bytes.{spelled}
use Rattle.wire.proofs.writer.numbers_size.Given as goal

abbrev pub invariant-loop-n : goal.invariant-loop-n
invariant-loop-n l = (l.size ≡ length (spelled (take l.n-index l.numbers))) × (l.size ≤ 5 * l.n-index)
