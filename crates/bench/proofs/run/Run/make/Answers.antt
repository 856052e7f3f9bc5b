use Rattle.std.proofs.Common.{ℕ, sym, subst}
use Rattle.bench.specs.Quiet.{Quiet}
use Rattle.bench.specs.Shown.{Counted}
use Rattle.bench.proofs.Lasting.{counted-new}
use Rattle.bench.proofs.Still.{quiet_none}
use Rattle.bench.proofs.run.Run.make.Goals as goal

pub invariant_of-result-clause-counted : goal.invariant_of-result-clause-counted
invariant_of-result-clause-counted c = subst Counted (sym c.new.ensures.state) counted-new

pub invariant_of-result-clause-quiet : goal.invariant_of-result-clause-quiet
invariant_of-result-clause-quiet c =
    subst (λ (n : ℕ). Quiet n c.new.result.state) (sym c.new.ensures.quiet) (quiet_none c.new.result.state)
