use Rattle.std.proofs.Common.{◌≡◌}
use lib.Seq.{paste}
use Rattle.semantics.specs.Requests.{served_all}
use Rattle.bench.specs.Runs.{programs_in, world_in, SamePrograms}
use Rattle.bench.proofs.Lists.{Left}
use Rattle.bench.proofs.run.Run.serve_all.Given as goal

abbrev pub invariant-loop-i : goal.invariant-loop-i
invariant-loop-i g l =
    SamePrograms l.initial.self l.self
    × Left g.P.Plant.model (programs_in l.initial.self) l.requests (world_in l.initial.self (g.P.Plant.meaning l.initial.plant)) l.i (world_in l.self (g.P.Plant.meaning l.plant))
    × (l.replies ≡ paste l.initial.replies 0 (served_all g.P.Plant.model (programs_in l.initial.self) l.requests (world_in l.initial.self (g.P.Plant.meaning l.initial.plant))).replies l.i)
