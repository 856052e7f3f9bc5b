use Rattle.std.proofs.Common.{ℕ, Some, None, Ok, Err, Option, sym, ap, ◌∙◌, subst}
use Rattle.std.proofs.lemmas.Result.{err_from_is_err_and}
use Rattle.netcode.specs.Steps.{no_step}
use Rattle.semantics.specs.Machine.{World, Stepped}
use Rattle.bench.specs.Shown.{world, stepped_to, Room}
use Rattle.bench.proofs.Kept.{state_of, kept-performed}
use Rattle.bench.proofs.Addresses.{performs, past}
use Rattle.bench.proofs.machine.Machine.run.Goals as goal

pub returns-in_err-perform : goal.returns-in_err-perform
returns-in_err-perform g c =
    let found = c.in-Some.ensures.lookup.3 in
    let e = err_from_is_err_and c.from_residual.result c.from_residual.ensures.1 in
    rw (e.1, e.2)
    (sym (performs g.P.Plant.model c.args.code.now c.args.program.number c.requires.lawful found.0 c.loop-step.invariant.stands c.in-Some.step.now (found.1 no_step)
    (Err c.in_err-perform.field-0.0) _ c.in_err-perform.ensures))

pub returns-in-None : goal.returns-in-None
returns-in-None g c =
    let m = g.P.Plant.model in
    let v : World m.State = world c.perform.new.self.state (g.P.Plant.meaning c.perform.new.plant) in
    let found = c.in-Some.ensures.lookup.3 in
    let e = ap (λ (o : Option ℕ). stepped_to (Ok o) v) (sym c.in-None.is) ∙ c.in_ok-perform.ensures in
    sym (performs m c.args.code.now c.args.program.number c.requires.lawful found.0 c.loop-step.invariant.stands c.in-Some.step.now (found.1 no_step) (Ok None) v e)

pub loop-step-preserved : goal.loop-step-preserved
loop-step-preserved g c =
    let m = g.P.Plant.model in
    let program = c.args.program in
    let v : World m.State = world c.perform.new.self.state (g.P.Plant.meaning c.perform.new.plant) in
    let found = c.in-Some.ensures.lookup.3 in
    let e = ap (λ (o : Option ℕ). stepped_to (Ok o) v) (sym c.in-Some-2.is) ∙ c.in_ok-perform.ensures in
    record {
      room =
          subst (λ (s : Stepped m.State). Room (state_of s) program.number) (sym e)
          ((kept-performed m c.in-Some.step.now program.number c.loop-step.address _ (rw c.loop-step.self.units program.known)).room c.loop-step.invariant.room);
      stands = performs m c.args.code.now program.number c.requires.lawful found.0 c.loop-step.invariant.stands c.in-Some.step.now (found.1 no_step) (Ok (Some c.in-Some-2.to)) v e;
    }

pub returns : goal.returns
returns g c = sym (past g.P.Plant.model c.args.code.now c.args.program.number c.in_default.ensures.lookup.3 c.loop-step.invariant.stands)
