use Rattle.std.proofs.Common.{◌≡◌, ℕ, ◌+◌, ◌-◌, ◌<◌, List, length, take, sym, ap, ◌∙◌, arith, Bor}
use Rattle.std.proofs.lemmas.Result.{err_from_is_err_and}
use Rattle.std.proofs.lemmas.List.{take_more_set}
use Rattle.std.proofs.Math.ListN.{length-set}
use Rattle.sheet.specs.Sheets.{row_from}
use Rattle.sheet.proofs.Gathered.{rows_more, rows-refused}
use Rattle.sheet.proofs.reading.gather.Goals as goal

pub returns-in_err-row : goal.returns-in_err-row
returns-in_err-row c =
    let p = err_from_is_err_and c.from_residual.result c.from_residual.ensures.1 in
    let i = c.loop-row.invariant in
    let at-bytes = ap (λ (r : Bor (List ℕ)). row_from r.now c.loop-row.reader.pos) i.same in
    rw (p.1, p.2)
    (rows-refused (take c.loop-row.row-index c.loop-row.row-items) (c.args.count - c.loop-row.row-index) c.args.reader.now.bytes.now c.loop-row.reader.pos _ (omega arith) (c.in_err-row.ensures.value ∙ at-bytes)
    ∙ sym i.read)

pub loop-row-preserved : goal.loop-row-preserved
loop-row-preserved c =
    let v = c.in_ok-row.ensures in
    let i = c.loop-row.invariant in
    let at-bytes = ap (λ (r : Bor (List ℕ)). row_from r.now c.loop-row.reader.pos) i.same in
    let h : c.loop-row.row-index < length c.loop-row.row-items = omega arith in
    let m : c.args.count - (c.loop-row.row-index + 1) ≡ (c.args.count - c.loop-row.row-index) - 1 = omega arith in
    record {
      read =
          i.read
          ∙ rw (take_more_set, m) (rows_more (take c.loop-row.row-index c.loop-row.row-items) (c.args.count - c.loop-row.row-index) c.args.reader.now.bytes.now c.loop-row.reader.pos _ _ (omega arith) (v.value ∙ at-bytes));
      all = rw length-set (omega arith);
      same = v.same ∙ i.same;
    }
