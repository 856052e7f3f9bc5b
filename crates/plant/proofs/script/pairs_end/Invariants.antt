use Rattle.std.proofs.Common.{◌≡◌, ◌-◌}
use Rattle.plant.specs.Script.{pairs_end}
use Rattle.plant.proofs.script.pairs_end.Given as goal

-- What is left of the pairs ends where all of them do.
abbrev pub invariant-loop : goal.invariant-loop
invariant-loop l =
    (l.reader.bytes.now ≡ l.initial.reader.bytes.now)
    × (pairs_end l.count l.initial.reader.bytes.now l.initial.reader.pos
    ≡ pairs_end (l.count - l.counter) l.initial.reader.bytes.now l.reader.pos)
