use Rattle.std.proofs.Common.{◌≡◌, true, arith}
use Rattle.plant.specs.Model.{knows}
use Rattle.plant.specs.Replies.{asked}
use Rattle.plant.specs.Script.{script}
use Rattle.plant.proofs.Pairs.{word-taken, word-used}
use Rattle.plant.proofs.script.ScriptPlant.perform.Goals as goal

pub returns : goal.returns
returns c =
    let w = asked c.args.station c.args.work c.args.inputs in
    let known : knows script w ≡ true = grind (arith, c.in_ok-admit.ensures) in
    record {
      answer = word-taken _ c.args.self.now.from w known c.if-work-eq1.false _ c.next_word-word.ensures.word;
      word = omega arith;
      state = word-used c.args.self.now.bytes.now c.args.self.now.from w known c.if-work-eq1.false _ c.next_word-word.ensures.later;
    }
