use Rattle.std.proofs.Common.{List, sym, ap, ◌∙◌, arith}
use Rattle.netcode.specs.declared.step.Step.{Step}
use Rattle.semantics.specs.Machine.{World, tick}
use Rattle.bench.specs.Runs.{programs_in, world_in}
use Rattle.bench.proofs.Rehearsals.{same_then, same-programs, tick-made, tick-refused, all_made}
use Rattle.bench.proofs.run.Run.rehearse.Goals as goal

pub returns-in-Err-clause-rehearsal : goal.returns-in-Err-clause-rehearsal
returns-in-Err-clause-rehearsal g c =
    let m = g.P.Plant.model in
    let w : World m.State = world_in c.loop-count.self (g.P.Plant.meaning c.loop-count.plant) in
    let e = c.in-Err.ensures.outcome ∙ ap (λ (ps : List (List Step)). tick m ps w) (same-programs _ _ c.loop-count.invariant.0) in
    sym (tick-refused m (programs_in c.args.self.now) c.args.n c.loop-count.count w _ c.in-Err.fault _ c.loop-count.invariant.1 c.loop-count-test.true e)

pub loop-count-preserved : goal.loop-count-preserved
loop-count-preserved g c =
    let m = g.P.Plant.model in
    let h = c.in_default.ensures in
    let w : World m.State = world_in c.loop-count.self (g.P.Plant.meaning c.loop-count.plant) in
    let e = h.outcome ∙ ap (λ (ps : List (List Step)). tick m ps w) (same-programs _ _ c.loop-count.invariant.0) in
    (same_then _ _ _ c.loop-count.invariant.0 h.programs, tick-made m (programs_in c.args.self.now) c.args.n c.loop-count.count w _ _ c.loop-count.invariant.1 c.loop-count-test.true e)

pub returns-clause-rehearsal : goal.returns-clause-rehearsal
returns-clause-rehearsal g c =
    sym (all_made g.P.Plant.model (programs_in c.args.self.now) c.args.n c.loop-count.count _ _ c.loop-count.invariant.1 (omega arith))
