use Rattle.std.proofs.Common.{◌≡◌, ◌+◌, ◌++◌, length, take, drop}
use Rattle.wire.specs.Bytes.{spelled}
use Rattle.wire.proofs.writer.lay.Given as goal

-- What was written so far stands in its place.
abbrev pub invariant-loop-n : goal.invariant-loop-n
invariant-loop-n l =
    (l.next ≡ l.at + length (spelled (take l.n-index l.numbers)))
    × (l.out ≡ take l.at l.initial.out ++ (spelled (take l.n-index l.numbers) ++ drop (l.at + length (spelled (take l.n-index l.numbers))) l.initial.out))
