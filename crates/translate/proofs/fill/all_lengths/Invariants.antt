use Rattle.std.proofs.Common.{◌≡◌, ◌+◌, ◌-◌, ◌*◌, ◌≤◌, length}
use Rattle.netcode.specs.Layouts.{program_count}
use Rattle.translate.specs.Stores.{steps_of}
use Rattle.translate.specs.Translation.{programs_from}
use Rattle.translate.proofs.fill.all_lengths.Given as goal

-- The programs so far, and those that follow.
abbrev pub invariant-loop-number : goal.invariant-loop-number
invariant-loop-number l =
    (l.sum + length (steps_of (programs_from l.head.cycle l.rows l.number (program_count l.head.stations - l.number))) ≡ length (steps_of (programs_from l.head.cycle l.rows 0 (program_count l.head.stations))))
    × (l.sum ≤ l.number * 60000000)
