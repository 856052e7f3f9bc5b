use Rattle.std.proofs.Common.{◌-◌, arith}
use Rattle.wire.proofs.Steps.{limit-more, limit-some, limit-most}
use Rattle.wire.proofs.reader.+groups.Goals as goal
use Rattle.wire.proofs.reader.+groups.Goals.{then-left-eq0, else-left-eq0}

pub returns-then-first-clause-bound : goal.returns-then-first-clause-bound
returns-then-first-clause-bound t c = (omega (arith, limit-some c.args.left), omega arith)

pub returns-then-b-lt128-clause-bound : goal.returns-then-b-lt128-clause-bound
returns-then-b-lt128-clause-bound t c =
    elim c.if-left-eq0.branch [
      | then-left-eq0 w ↦ (omega (arith, limit-some c.args.left), omega arith)
      | else-left-eq0 w ↦ (omega (arith, limit-some (c.args.left - 1), limit-more c.args.left (omega arith)), omega arith)
    ]

pub overflow_mul-result : goal.overflow_mul-result
overflow_mul-result t c = omega (arith, c.in_ok-high.ensures.bound, limit-most (c.args.left - 1) (omega arith))

pub overflow_add-result : goal.overflow_add-result
overflow_add-result t c = omega (arith, c.in_ok-high.ensures.bound, limit-most (c.args.left - 1) (omega arith))
