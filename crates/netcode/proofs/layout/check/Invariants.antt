use Rattle.std.proofs.Common.{◌≡◌, ◌≤◌, ◌+◌, length}
use Rattle.netcode.specs.Layouts.{programs_of}
use Rattle.netcode.specs.Programs.{programs_left}
use Rattle.netcode.specs.Rules.{first_broken}
use Rattle.netcode.proofs.layout.check.Given as goal

-- The programs passed so far keep the rules, so the first that does not is among the others.
abbrev pub invariant-loop-number : goal.invariant-loop-number
invariant-loop-number l =
    (first_broken 0 (programs_of l.layout l.steps) ≡ first_broken l.number-iterator.count (programs_left l.number-iterator.iter))
    × (l.number-iterator.count + length (programs_left l.number-iterator.iter) ≤ 16)
