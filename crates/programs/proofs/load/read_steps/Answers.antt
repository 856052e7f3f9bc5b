use Rattle.std.proofs.Common.{◌≡◌, ℕ, ◌+◌, ◌-◌, List, sym, ap, ◌∙◌, arith, Bor}
use Rattle.std.proofs.lemmas.Result.{err_from_is_err_and}
use Rattle.programs.specs.Steps.{step_from, steps_from}
use Rattle.programs.specs.Stores.{storing}
use Rattle.programs.proofs.Stored.{steps-more, steps-refused}
use Rattle.programs.proofs.load.read_steps.Goals as goal

pub returns-in_err-step : goal.returns-in_err-step
returns-in_err-step c =
    let p = err_from_is_err_and c.from_residual.result c.from_residual.ensures.1 in
    let v = c.in_err-step.ensures in
    let b = c.loop-place.invariant.1 in
    let at-bytes = ap (λ (r : Bor (List ℕ)). step_from r.now c.loop-place.reader.pos) b in
    rw (p.1, p.2)
    record {
      value =
          steps-refused c.loop-place.list c.loop-place.place (c.args.at + c.args.count - c.loop-place.place) c.args.reader.now.bytes.now c.loop-place.reader.pos _ (omega arith) (v.value ∙ at-bytes)
          ∙ sym c.loop-place.invariant.0;
      same = v.same ∙ b;
    }

pub loop-place-preserved : goal.loop-place-preserved
loop-place-preserved c =
    let v = c.in_ok-step.ensures in
    let b = c.loop-place.invariant.1 in
    let at-bytes = ap (λ (r : Bor (List ℕ)). step_from r.now c.loop-place.reader.pos) b in
    let m : c.args.at + c.args.count - (c.loop-place.place + 1) ≡ (c.args.at + c.args.count - c.loop-place.place) - 1 = omega arith in (
      c.loop-place.invariant.0
          ∙ rw (c.put.ensures, m) (steps-more c.loop-place.list c.loop-place.place (c.args.at + c.args.count - c.loop-place.place) c.args.reader.now.bytes.now c.loop-place.reader.pos _ _ (omega arith) (v.value ∙ at-bytes)),
      v.same ∙ b,
    )

pub returns : goal.returns
returns c =
    let l = c.loop-place in
    let z : c.args.at + c.args.count - l.place ≡ 0 = omega arith in
    record {
      value = sym (l.invariant.0 ∙ ap (λ (n : ℕ). storing l.list l.place (steps_from n c.args.reader.now.bytes.now l.reader.pos)) z);
      same = l.invariant.1;
    }
