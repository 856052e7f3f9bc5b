use Rattle.semantics.proofs.Kept.{run-promise}
use Rattle.semantics.proofs.promise.run_promise_stands.Goals as goal

pub returns : goal.returns
returns g c = run-promise g.P.Plant.model g.P.Plant.apart
