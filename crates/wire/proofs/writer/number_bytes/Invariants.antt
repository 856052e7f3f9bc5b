use Rattle.std.proofs.Common.{◌≡◌, ◌-◌, ◌*◌, ◌^◌, ◌<◌, ◌≤◌, ◌++◌, length}
use Rattle.wire.specs.Bytes.{groups_of}
use Rattle.wire.proofs.writer.number_bytes.Given as goal

-- The groups so far, and those of what is left, are those of the number.
abbrev pub invariant-loop-rest : goal.invariant-loop-rest
invariant-loop-rest l = record {
  same : l.bytes.items ++ groups_of (4 - length l.bytes.items) l.rest ≡ groups_of 4 l.n;
  few : length l.bytes.items ≤ 4;
  left : l.rest < 16 * 128 ^ (4 - length l.bytes.items);
}

abbrev pub decreases-loop-rest : goal.decreases-loop-rest
decreases-loop-rest l = l.rest
