use Rattle.std.proofs.Common.{◌≡◌, ◌+◌, ◌*◌, ◌^◌, ◌≤◌, length}
use Rattle.std.specs.List.{flat_map}
use Rattle.netcode.specs.Layouts.{programs_of}
use Rattle.netcode.specs.Programs.{programs_left}
use Rattle.programs.specs.Files.{program_numbers}
use Rattle.programs.specs.Stores.{putting}
use Rattle.programs.proofs.Lengths.{Short}
use Rattle.programs.proofs.save.put_programs.Given as goal

-- The programs so far are written, and the others, which are short enough, follow.
abbrev pub invariant-loop-program : goal.invariant-loop-program
invariant-loop-program l =
    (putting l.initial.out l.at (flat_map program_numbers (programs_of l.layout l.steps))
    ≡ putting l.out l.end (flat_map program_numbers (programs_left l.program-iterator)))
    × Short (programs_left l.program-iterator)
    × (l.end + length (programs_left l.program-iterator) * 2 ^ 40 ≤ 10 + 16 * 2 ^ 40)
