use Rattle.netcode.specs.Layouts.{programs_of}
use Rattle.bench.specs.Shown.{world}
use Rattle.bench.proofs.Facts.{programs-few}
use Rattle.bench.proofs.Lasting.{counted-after}
use Rattle.bench.proofs.run.Run.tick.Goals as goal

pub invariant_of-self : goal.invariant_of-self
invariant_of-self g c =
    let run = c.args.self.now in
    record {
      lawful = run.lawful;
      shape = run.shape;
      counted =
          counted-after g.P.Plant.model (programs_of run.layout c.as_slice.result.now) (world run.machine.state (g.P.Plant.meaning c.args.plant.now))
          (world c.tick.new.self.state (g.P.Plant.meaning c.tick.new.plant)) c.tick.result (programs-few run.layout c.as_slice.result.now run.shape) run.machine.units run.counted c.tick.ensures.outcome;
      quiet = c.tick.ensures.quiet;
    }
