use Rattle.std.proofs.Common.{◌≡◌, ◌+◌, ◌*◌, ◌≤◌, drop}
use Rattle.programs.specs.Stores.{putting}
use Rattle.programs.proofs.encode.put_numbers.Given as goal

-- The numbers so far are written, and the others follow.
abbrev pub invariant-loop-n : goal.invariant-loop-n
invariant-loop-n l =
    (putting l.initial.out l.at l.numbers ≡ putting l.out l.end (drop l.n-index l.numbers))
    × (l.end ≤ l.at + 5 * l.n-index)
