use Rattle.std.proofs.Common.{◌≡◌, ◌-◌, length, take}
use Rattle.sheet.specs.Sheets.{rows_from}
use Rattle.sheet.proofs.Gathered.{before}
use Rattle.sheet.proofs.reading.gather.Given as goal

-- The rows read so far stand at the front, and the others follow.
abbrev pub invariant-loop-row : goal.invariant-loop-row
invariant-loop-row l = record {
  read :
      rows_from l.count l.initial.reader.bytes.now l.initial.reader.pos
      ≡ before (take l.row-index l.row-items) (rows_from (l.count - l.row-index) l.initial.reader.bytes.now l.reader.pos);
  all : length l.row-items ≡ l.count;
  same : l.reader.bytes ≡ l.initial.reader.bytes;
}
