use Rattle.std.proofs.Common.{ℕ, List, ap, ◌∙◌, arith, Bor}
use Rattle.programs.specs.Steps.{steps_from}
use Rattle.programs.specs.Stores.{storing}
use Rattle.programs.proofs.Stored.{program-more}
use Rattle.programs.proofs.load.read_program.Goals as goal

pub returns : goal.returns
returns c =
    let v = c.in_ok-count.ensures in
    let w = c.in_ok-read_steps.ensures in
    let b = c.in_ok-count.ensures.same in
    let bs = c.args.reader.now.bytes.now in
    record {
      value =
          program-more c.args.list.now c.args.before c.args.room bs c.args.reader.now.pos c.in_ok-count.count _ _ v.value (omega arith)
          (w.value
          ∙ ap (λ (r : Bor (List ℕ)). storing c.args.list.now c.args.before (steps_from c.in_ok-count.count r.now c.number.new.self.pos)) b
          ∙ ap (λ (p : ℕ). storing c.args.list.now c.args.before (steps_from c.in_ok-count.count bs p)) v.next);
      same = w.same ∙ b;
    }
