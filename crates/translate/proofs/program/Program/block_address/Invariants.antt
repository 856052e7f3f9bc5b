use Rattle.std.proofs.Common.{◌≡◌, ◌+◌, ◌*◌, ◌≤◌}
use Rattle.translate.specs.Programs.{early_steps, address_of}
use Rattle.translate.proofs.program.Program.block_address.Given as goal

-- The blocks before the iterator's next date, and the rows of all dates before the one asked for.
abbrev pub invariant-loop : goal.invariant-loop
invariant-loop l = record {
  can : (goal.iterator-loop).can_next l.iterator';
  finite : (goal.iterator-loop).is_finite l.iterator';
  same : l.iterator'.program ≡ l.self;
  until : l.iterator'.until ≡ l.date;
  at : l.place + early_steps l.self.number l.self.rows.now l.iterator'.from ≡ address_of l.self l.iterator'.from + early_steps l.self.number l.self.rows.now l.date;
  few : l.place ≤ 259 + early_steps l.self.number l.self.rows.now l.date + 2 * l.iterator'.from;
  within : l.iterator'.from ≤ l.date;
}
