use Rattle.std.proofs.Common.{◌≡◌, ℕ, ◌<◌, true}
use Rattle.semantics.specs.Machine.{unit_in}
use Rattle.bench.specs.Quiet.{quiet_unit, quiet_line}
use Rattle.bench.proofs.machine.Machine.rests.Given as goal

abbrev pub invariant-loop-unit : goal.invariant-loop-unit
invariant-loop-unit l =
    (quiet_line l.until l.self.state.line ≡ true)
    × ((p : ℕ) → p < l.unit-index → quiet_unit l.until (unit_in l.self.state p) ≡ true)
