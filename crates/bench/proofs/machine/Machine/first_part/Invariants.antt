use Rattle.std.proofs.Common.{◌≡◌, ◌+◌, length, drop}
use Rattle.netcode.specs.Layouts.{programs_of}
use Rattle.netcode.specs.Programs.{programs_left}
use Rattle.semantics.specs.Machine.{Outcome, first_part}
use Rattle.bench.specs.Shown.{world, Room}
use Rattle.bench.proofs.machine.Machine.first_part.Given as goal

abbrev pub invariant-loop-number : goal.invariant-loop-number
invariant-loop-number g l =
    let programs = programs_of l.code.layout.now l.code.steps.now in
    let n = l.number-iterator.count in record {
      room : Room l.self.state n;
      left : drop n programs ≡ programs_left l.number-iterator.iter;
      all : n + length (programs_left l.number-iterator.iter) ≡ length programs;
      done : Outcome.done (world l.self.state (g.P.Plant.meaning l.plant)) ≡ first_part g.P.Plant.model programs n (world l.initial.self.state (g.P.Plant.meaning l.initial.plant));
    }
