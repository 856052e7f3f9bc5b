use Rattle.std.proofs.Common.{◌≡◌, ◌+◌, ◌*◌, ◌≤◌, drop}
use Rattle.std.specs.List.{flat_map}
use Rattle.netcode.specs.Steps.{numbers_of}
use Rattle.programs.specs.Stores.{putting}
use Rattle.programs.proofs.encode.put_steps.Given as goal

-- The steps so far are written, and the others follow.
abbrev pub invariant-loop-step : goal.invariant-loop-step
invariant-loop-step l =
    (putting l.initial.out l.at (flat_map numbers_of l.steps) ≡ putting l.out l.end (flat_map numbers_of (drop l.step-index l.steps)))
    × (l.end ≤ l.at + 40 * l.step-index)
