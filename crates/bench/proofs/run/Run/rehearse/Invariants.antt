use Rattle.std.proofs.Common.{◌≡◌, ◌-◌}
use Rattle.semantics.specs.Requests.{rehearsed}
use Rattle.bench.specs.Runs.{programs_in, world_in, SamePrograms}
use Rattle.bench.proofs.Rehearsals.{after}
use Rattle.bench.proofs.run.Run.rehearse.Given as goal

abbrev pub invariant-loop-count : goal.invariant-loop-count
invariant-loop-count g l =
    SamePrograms l.initial.self l.self
    × (rehearsed g.P.Plant.model (programs_in l.initial.self) l.n (world_in l.initial.self (g.P.Plant.meaning l.initial.plant))
    ≡ after l.count (rehearsed g.P.Plant.model (programs_in l.initial.self) (l.n - l.count) (world_in l.self (g.P.Plant.meaning l.plant))))
