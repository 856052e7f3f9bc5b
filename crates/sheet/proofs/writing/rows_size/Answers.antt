use Rattle.std.proofs.Common.{arith}
use Rattle.sheet.proofs.RowSizes.{length_more}
use Rattle.sheet.proofs.writing.rows_size.Goals as goal

pub loop-row-preserved : goal.loop-row-preserved
loop-row-preserved c =
    let e = length_more c.args.rows.now c.loop-row.row-index c.loop-row-test.true in (
      omega (arith, e, c.loop-row.invariant.0, c.row_size-size.ensures.size),
      omega (arith, c.loop-row.invariant.1, c.row_size-size.ensures.few),
    )
