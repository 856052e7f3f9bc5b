use Rattle.std.proofs.Common.{◌≡◌, ◌+◌, ◌-◌}
use Rattle.programs.specs.Steps.{steps_from}
use Rattle.programs.specs.Stores.{storing}
use Rattle.programs.proofs.load.read_steps.Given as goal

-- The steps read so far are stored, and the others follow.
abbrev pub invariant-loop-place : goal.invariant-loop-place
invariant-loop-place l =
    (storing l.initial.list l.at (steps_from l.count l.initial.reader.bytes.now l.initial.reader.pos)
    ≡ storing l.list l.place (steps_from (l.at + l.count - l.place) l.initial.reader.bytes.now l.reader.pos))
    × (l.reader.bytes ≡ l.initial.reader.bytes)
