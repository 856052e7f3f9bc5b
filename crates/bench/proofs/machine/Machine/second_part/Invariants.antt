use Rattle.std.proofs.Common.{◌≡◌, List}
use Rattle.netcode.specs.declared.step.Step.{Step}
use Rattle.semantics.specs.Machine.{Outcome, second_part}
use Rattle.bench.specs.Shown.{world}
use Rattle.bench.proofs.machine.Machine.second_part.Given as goal

abbrev pub invariant-loop-number : goal.invariant-loop-number
invariant-loop-number g l =
    (programs : List (List Step)) (p : g.P.Plant.model.State) → Outcome.done (world l.self.state p)
    ≡ second_part g.P.Plant.model programs l.clock l.number (world l.initial.self.state p)
