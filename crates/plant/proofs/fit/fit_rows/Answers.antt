use Rattle.std.proofs.Common.{◌≡◌, Ok, Err, sym, ◌∙◌, arith}
use Rattle.std.proofs.lemmas.List.{at_drop_all}
use Rattle.std.proofs.lemmas.Result.{err_from_is_err_and}
use Rattle.plant.specs.Fit.{fit_from}
use Rattle.plant.proofs.Fits.{fit-more, fit-means}
use Rattle.plant.proofs.fit.fit_rows.Goals as goal

pub returns-in_err-fit_row : goal.returns-in_err-fit_row
returns-in_err-fit_row g c =
    let m = g.P.Plant.model in
    let p = err_from_is_err_and c.from_residual.result c.from_residual.ensures.1 in
    let e : Err c.in_err-fit_row.field-0.0 ≡ fit_from m 0 c.args.rows.now =
    sym (c.loop-at.invariant ∙ fit-more m c.args.rows.now c.loop-at.at _ _ (omega (arith, c.loop-at-test.true)) c.in_err-fit_row.ensures) in
    rw (p.1, p.2) record { value = e; means = fit-means m c.args.rows.now _ e }

pub returns : goal.returns
returns g c =
    let m = g.P.Plant.model in
    let e : Ok tt ≡ fit_from m 0 c.args.rows.now =
    sym (c.loop-at.invariant ∙ at_drop_all (fit_from m c.loop-at.at) c.args.rows.now c.loop-at.at (omega (arith, c.loop-at-test.false))) in
    record { value = e; means = fit-means m c.args.rows.now _ e }
