use Rattle.std.proofs.Common.{◌≡◌, List, get_or, ap, ◌∙◌, arith}
use Rattle.netcode.specs.declared.step.Step.{Step}
use Rattle.semantics.specs.declared.state.Request.TheVariants.{Tick}
use Rattle.semantics.specs.Machine.{World}
use Rattle.semantics.specs.Requests.{served}
use Rattle.bench.specs.Replies.{replied}
use Rattle.bench.specs.Runs.{programs_in, world_in}
use Rattle.bench.proofs.Rehearsals.{same_then, same-programs}
use Rattle.bench.proofs.Lists.{left-more, pasted-more, all-served}
use Rattle.bench.proofs.run.Run.serve_all.Goals as goal

pub loop-i-preserved : goal.loop-i-preserved
loop-i-preserved g c =
    let m = g.P.Plant.model in
    let ps = programs_in c.args.self.now in
    let qs = c.args.requests.now in
    let i = c.loop-i.i in
    let w : World m.State = world_in c.args.self.now (g.P.Plant.meaning c.args.plant.now) in
    let v : World m.State = world_in c.loop-i.self (g.P.Plant.meaning c.loop-i.plant) in
    let u : World m.State = world_in c.serve.new.self (g.P.Plant.meaning c.serve.new.plant) in
    let e : replied c.serve.result u ≡ served m ps (get_or qs i Tick) v =
    c.serve.ensures.served ∙ ap (λ (xs : List (List Step)). served m xs (get_or qs i Tick) v) (same-programs _ _ c.loop-i.invariant.0) in (
      same_then _ _ _ c.loop-i.invariant.0 c.serve.ensures.programs,
      left-more m ps qs w v u i c.serve.result c.loop-i-test.true c.loop-i.invariant.1 e,
      pasted-more m ps qs w v u i c.serve.result c.args.replies.now c.loop-i.replies c.loop-i-test.true (omega arith) c.loop-i.invariant.1 e c.loop-i.invariant.2,
    )

pub returns-clause-served : goal.returns-clause-served
returns-clause-served g c =
    let m = g.P.Plant.model in
    let w : World m.State = world_in c.args.self.now (g.P.Plant.meaning c.args.plant.now) in
    let v : World m.State = world_in c.loop-i.self (g.P.Plant.meaning c.loop-i.plant) in
    all-served m (programs_in c.args.self.now) c.args.requests.now w v c.loop-i.i c.args.replies.now c.loop-i.replies (omega arith) (omega arith) c.loop-i.invariant.1 c.loop-i.invariant.2
