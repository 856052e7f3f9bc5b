use Rattle.std.proofs.Common.{◌+◌, Ok, Err, arith}
use Rattle.std.proofs.lemmas.Result.{err_from_is_err_and}
use Rattle.bench.specs.Shown.{world}
use Rattle.bench.proofs.Loops.{second_none, end_on, second-ends}
use Rattle.bench.proofs.machine.Machine.second_part.Goals as goal

pub loop-number-init : goal.loop-number-init
loop-number-init g c ps p = second_none g.P.Plant.model ps c.args.clock _

pub returns-in_err-finish : goal.returns-in_err-finish
returns-in_err-finish g c ps p =
    let m = g.P.Plant.model in
    let e = err_from_is_err_and c.from_residual.result c.from_residual.ensures.1 in
    rw (e.1, e.2) (second-ends m ps c.args.clock (c.loop-number.number + 1) c.args.count _ _ _ (omega arith)
    (end_on m ps c.args.clock c.loop-number.number _ (world c.loop-number.self.state p) _ (Err _) (c.loop-number.invariant ps p) (c.in_err-finish.ensures p)))

pub loop-number-preserved : goal.loop-number-preserved
loop-number-preserved g c ps p =
    end_on g.P.Plant.model ps c.args.clock c.loop-number.number _ (world c.loop-number.self.state p) _ (Ok tt) (c.loop-number.invariant ps p) (c.in_ok-finish.ensures p)
