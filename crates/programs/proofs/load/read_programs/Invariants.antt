use Rattle.std.proofs.Common.{◌≡◌, ◌-◌, ◌*◌, ◌^◌, ◌≤◌, ◌++◌, length, drop, replicate}
use Rattle.wire.specs.Numbers.{number_at, after_number}
use Rattle.netcode.specs.Layouts.{program_count}
use Rattle.programs.specs.Files.{some_programs}
use Rattle.programs.specs.Stores.{storing_programs}
use Rattle.programs.proofs.load.read_programs.Given as goal

-- The programs read so far are stored, and the others follow.
abbrev pub invariant-loop-length : goal.invariant-loop-length
invariant-loop-length l =
    (storing_programs (replicate 16 0) 0 l.initial.list 0 (some_programs (number_at l.initial.reader.bytes.now) (after_number l.initial.reader.bytes.now) l.room (program_count l.stations) 0 l.initial.reader.pos)
    ≡ storing_programs (l.length-items ++ drop (program_count l.stations) (replicate 16 0)) l.length-index l.list l.before (some_programs (number_at l.initial.reader.bytes.now) (after_number l.initial.reader.bytes.now) l.room (program_count l.stations - l.length-index) l.before l.reader.pos))
    × (l.reader.bytes ≡ l.initial.reader.bytes)
    × (l.before ≤ l.length-index * 2 ^ 32)
    × (length l.length-items ≡ program_count l.stations)
