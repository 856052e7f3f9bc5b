use Rattle.std.proofs.Common.{◌≡◌, drop}
use Rattle.plant.specs.Fit.{fit_from}
use Rattle.plant.proofs.fit.fit_rows.Given as goal

-- The works of the rows passed so far are known, so the rest decides.
abbrev pub invariant-loop-at : goal.invariant-loop-at
invariant-loop-at g l = fit_from g.P.Plant.model 0 l.rows ≡ fit_from g.P.Plant.model l.at (drop l.at l.rows)
