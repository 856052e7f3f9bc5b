use Rattle.std.proofs.Common.{sym, ap, ◌∙◌}
use Rattle.std.proofs.lemmas.Result.{err_from_is_err_and}
use Rattle.plant.proofs.Pairs.{end_on, end-stops}
use Rattle.plant.proofs.script.pairs_end.Goals as goal

pub returns-in_err-read_pair : goal.returns-in_err-read_pair
returns-in_err-read_pair c =
    let p = err_from_is_err_and c.from_residual.result c.from_residual.ensures.1 in
    rw (p.1, p.2) (sym (c.loop.invariant.1 ∙ end-stops _ _ c.args.count c.loop.counter _ c.loop.invariant.0 c.loop-test.true _ c.in_err-read_pair.ensures.value))

pub loop-preserved : goal.loop-preserved
loop-preserved c = (
  ap (λ x. x.now) c.read_pair.ensures.same ∙ c.loop.invariant.0,
  c.loop.invariant.1 ∙ end_on _ _ c.args.count c.loop.counter _ c.loop.invariant.0 c.loop-test.true _ _ c.in_ok-read_pair.ensures.value c.read_pair.ensures.next,
)
