use Rattle.std.proofs.Common.{◌<◌, ◌≤◌, Some, None, sym, ◌∙◌, inl, inr, ⊎_elim, arith}
use Rattle.std.proofs.lemmas.Bool.{cases_lt}
use Rattle.std.proofs.lemmas.Result.{err_from_is_err_and}
use Rattle.judge.proofs.Unavailables.{heard, heard-rest}
use Rattle.judge.proofs.availability.require_at_listeners.Goals as goal

pub returns-in_err-require_at : goal.returns-in_err-require_at
returns-in_err-require_at c =
    let p = err_from_is_err_and c.from_residual.result c.from_residual.ensures.1 in
    rw (p.1, p.2)
    (sym (c.loop-n.invariant ∙ heard c.args.above.now c.args.s c.args.stations c.loop-n.n (Some c.in_err-require_at.field-0.0.variable) (omega arith) c.in_err-require_at.ensures))

pub loop-n-preserved : goal.loop-n-preserved
loop-n-preserved c =
    c.loop-n.invariant ∙ heard c.args.above.now c.args.s c.args.stations c.loop-n.n None (omega arith) c.in_ok-require_at.ensures

pub returns : goal.returns
returns c =
    sym (c.loop-n.invariant ∙ heard-rest c.args.above.now c.args.s c.args.stations c.loop-n.n (omega arith) (⊎_elim (λ (h : c.loop-n.n < 32). inl (omega arith)) (λ (h : 32 ≤ c.loop-n.n). inr h) (cases_lt c.loop-n.n 32)))
