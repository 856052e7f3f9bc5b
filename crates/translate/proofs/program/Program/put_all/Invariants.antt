use Rattle.std.proofs.Common.{◌≡◌, ◌+◌, ◌*◌, ◌≤◌}
use Rattle.translate.specs.Programs.{opening_of, address_of, Writes}
use Rattle.translate.specs.Translation.{code_to}
use Rattle.translate.proofs.program.Program.put_all.Given as goal

-- The blocks before the iterator's next date are written.
abbrev pub invariant-loop-date : goal.invariant-loop-date
invariant-loop-date l = record {
  can : (goal.iterator-loop-date).can_next l.date-iterator;
  finite : (goal.iterator-loop-date).is_finite l.date-iterator;
  same : l.date-iterator.program ≡ l.self;
  until : l.date-iterator.until ≡ l.self.cycle;
  written : Writes l.fn.code l.code (code_to l.self.cycle l.self.rows.now l.self.number (opening_of l.self) l.date-iterator.from);
  end : l.code.end ≡ address_of l.self l.date-iterator.from;
  few : l.code.end ≤ 259 + 898 * l.date-iterator.from;
  within : l.date-iterator.from ≤ l.self.cycle;
}
