use Rattle.std.proofs.Common.{◌+◌, [], length, Ok, Err, sym, refl, ap, ◌∙◌, subst, zero-add, arith}
use Rattle.std.proofs.lemmas.Result.{err_from_is_err_and}
use Rattle.netcode.specs.Layouts.{programs_of}
use Rattle.netcode.specs.Laws.{Lawful}
use Rattle.semantics.specs.Machine.{World, Outcome, turn}
use Rattle.bench.specs.Shown.{world, Room}
use Rattle.bench.proofs.Facts.{programs-lawful, programs-few}
use Rattle.bench.proofs.Kept.{out_state, room-turn}
use Rattle.bench.proofs.Left.{head-is, tail-is}
use Rattle.bench.proofs.Loops.{turn_on, first_ends, first-none}
use Rattle.bench.proofs.machine.Machine.first_part.Goals as goal

pub loop-number-init : goal.loop-number-init
loop-number-init g c =
    let given = c.enumerate-number-items.ensures in
    rw (c.into_iter-number-iterator.ensures.into_iter_gives, given.count, given.source, c.programs.ensures.programs)
    (record { room = c.requires; left = refl; all = zero-add _; done = first-none g.P.Plant.model _ _ })

pub turn-requires-clause-lawful : goal.turn-requires-clause-lawful
turn-requires-clause-lawful g c =
    let code = c.args.code in
    let ps = programs_of code.layout.now code.steps.now in
    let n = c.loop-number.number-iterator.count in
    let left = c.loop-number.invariant.left ∙ c.in-Some.ensures.steps.0 in
    subst Lawful (head-is ps n _ _ left []) (programs-lawful ps code.lawful n (omega (arith, c.loop-number.invariant.all, ap length c.in-Some.ensures.steps.0)))

pub loop-number-preserved : goal.loop-number-preserved
loop-number-preserved g c =
    let m = g.P.Plant.model in
    let ps = programs_of c.args.code.layout.now c.args.code.steps.now in
    let given = c.in-Some.ensures.steps in
    let inv = c.loop-number.invariant in
    let n = c.loop-number.number-iterator.count in
    let w : World m.State = world c.loop-number.self.state (g.P.Plant.meaning c.loop-number.plant) in
    let left = inv.left ∙ given.0 in
    let few = programs-few c.args.code.layout.now c.args.code.steps.now c.args.code.shape in
    let e = c.in_ok-turn.ensures ∙ ap (λ k. turn m c.in-Some.steps.now k w) given.1 in
    rw given.2
    record {
      room = subst (λ (o : Outcome m.State). Room (out_state o) (n + 1)) (sym e) (room-turn m _ n w (rw c.loop-number.self.units (omega (arith, few, inv.all, ap length given.0))) inv.room);
      left = tail-is ps n _ _ left;
      all = omega (arith, inv.all, ap length given.0);
      done = turn_on m ps n _ _ w _ _ _ (Ok tt) inv.done left given.1 c.in_ok-turn.ensures;
    }

pub returns-in_err-turn : goal.returns-in_err-turn
returns-in_err-turn g c =
    let m = g.P.Plant.model in
    let ps = programs_of c.args.code.layout.now c.args.code.steps.now in
    let given = c.in-Some.ensures.steps in
    let inv = c.loop-number.invariant in
    let n = c.loop-number.number-iterator.count in
    let e = err_from_is_err_and c.from_residual.result c.from_residual.ensures.1 in
    rw (e.1, e.2)
    (first_ends m ps (n + 1) (length ps) _ _ c.in_err-turn.field-0.0 (omega (arith, inv.all, ap length given.0))
    (turn_on m ps n _ _ _ _ _ _ (Err c.in_err-turn.field-0.0) inv.done (inv.left ∙ given.0) given.1 c.in_err-turn.ensures))
