use Rattle.std.proofs.Common.{◌+◌, ◌-◌, length}
use Rattle.semantics.specs.Machine.{steps}
use Rattle.bench.specs.Shown.{world, Room}
use Rattle.bench.proofs.Addresses.{Standing}
use Rattle.bench.proofs.machine.Machine.run.Given as goal

abbrev pub invariant-loop-step : goal.invariant-loop-step
invariant-loop-step g l =
    let m = g.P.Plant.model in
    let program = l.program.number in record {
      room : Room l.self.state program;
      stands : Standing m l.code program (steps m (length l.code + 1) l.code program l.start (world l.initial.self.state (g.P.Plant.meaning l.initial.plant))) l.address (world l.self.state (g.P.Plant.meaning l.plant));
    }

abbrev pub decreases-loop-step : goal.decreases-loop-step
decreases-loop-step g l = length l.code - l.address
