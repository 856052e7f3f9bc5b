use Rattle.std.proofs.Common.{◌≡◌, ◌+◌, ◌-◌, ◌≤◌, map, length, replicate}
use Rattle.netcode.specs.Layouts.{program_count}
use Rattle.translate.specs.Stores.{stored, steps_of}
use Rattle.translate.specs.Translation.{programs_from, translated}
use Rattle.translate.proofs.fill.put_programs.Given as goal

-- The programs so far are written, and the others follow.
abbrev pub invariant-loop-number : goal.invariant-loop-number
invariant-loop-number l = record {
  list : stored l.initial.steps 0 (steps_of (translated l.head l.rows))
      ≡ stored l.steps l.at (steps_of (programs_from l.head.cycle l.rows l.number (program_count l.head.stations - l.number)));
  lengths : stored (replicate 16 0) 0 (map length (translated l.head l.rows))
      ≡ stored l.lengths l.number (map length (programs_from l.head.cycle l.rows l.number (program_count l.head.stations - l.number)));
  long : length l.lengths ≡ 16;
  room : l.at + length (steps_of (programs_from l.head.cycle l.rows l.number (program_count l.head.stations - l.number))) ≤ length l.steps;
}
