use Rattle.std.proofs.Common.{◌≡◌, ◌+◌, ◌-◌, length}
use Rattle.translate.specs.declared.code.Code.{Code}
use Rattle.translate.specs.Programs.{rows_length_of, opening_length_of, block_of, Writes}
use Rattle.translate.specs.Translation.{rows_length, rows_code}
use Rattle.translate.proofs.program.Program.put_block.Given as goal

-- What follows the rows so far completes the block.
abbrev pub invariant-loop-number : goal.invariant-loop-number
invariant-loop-number l = record {
  whole : (last : Code) → Writes l.code last (rows_code l.self.cycle l.self.rows.now l.self.number (opening_length_of l.self) l.date l.number (length l.self.rows.now - l.number) l.code.end)
      → Writes l.initial.code last (block_of l.self l.date l.initial.code.end);
  left : l.code.end + rows_length l.self.cycle l.self.rows.now l.self.number l.date l.number (length l.self.rows.now - l.number) ≡ l.initial.code.end + rows_length_of l.self l.date;
  room : length l.code.steps.now ≡ length l.initial.code.steps.now;
}
