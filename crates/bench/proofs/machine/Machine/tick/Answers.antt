use Rattle.std.proofs.Common.{arith}
use Rattle.netcode.specs.Layouts.{programs_of}
use Rattle.bench.specs.Shown.{world}
use Rattle.bench.proofs.Facts.{programs-few}
use Rattle.bench.proofs.Still.{quiet-tick}
use Rattle.bench.proofs.machine.Machine.tick.Goals as goal

pub returns-then-granted-self-clause-outcome : goal.returns-then-granted-self-clause-outcome
returns-then-granted-self-clause-outcome g c =
    quiet-tick g.P.Plant.model (programs_of c.args.code.layout.now c.args.code.steps.now) c.args.self.now.quiet
    (world c.args.self.now.state (g.P.Plant.meaning c.args.plant.now)) c.requires.quiet (omega arith)
    (programs-few c.args.code.layout.now c.args.code.steps.now c.args.code.shape) c.if-self.false (omega arith)
