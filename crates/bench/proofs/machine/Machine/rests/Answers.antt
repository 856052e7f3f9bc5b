use Rattle.std.proofs.Common.{◌≡◌, ◌≤◌, true, subst, arith, rules, below_more}
use Rattle.semantics.specs.declared.state.UnitState.{UnitState}
use Rattle.std.proofs.lemmas.List.{get_or_default}
use Rattle.semantics.specs.Machine.{unit_in, new_unit}
use Rattle.bench.specs.Quiet.{quiet_unit}
use Rattle.bench.proofs.Still.{less-unit, less-line}
use Rattle.bench.proofs.machine.Machine.rests.Goals as goal

pub loop-unit-preserved : goal.loop-unit-preserved
loop-unit-preserved c =
    let a = c.min-until.result in
    let e = c.min-until.ensures in
    let first : a ≤ c.loop-unit.until = omega (arith, e) in
    let second : a ≤ c.unit_rests.result = omega (arith, e) in
    let new : quiet_unit c.unit_rests.result (unit_in c.args.self.now.state c.loop-unit.unit-index) ≡ true =
    subst (λ (u : UnitState). quiet_unit c.unit_rests.result u ≡ true) (get_or_default c.args.self.now.state.units c.loop-unit.unit-index _ new_unit (search rules)) c.unit_rests.ensures in (
      less-line a c.loop-unit.until c.args.self.now.state.line first c.loop-unit.invariant.0,
      below_more _ _ (λ p h. less-unit a c.loop-unit.until (unit_in c.args.self.now.state p) first (c.loop-unit.invariant.1 p h))
          (less-unit a c.unit_rests.result (unit_in c.args.self.now.state c.loop-unit.unit-index) second new),
    )
