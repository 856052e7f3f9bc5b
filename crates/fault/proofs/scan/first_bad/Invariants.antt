use Rattle.std.proofs.Common.{◌≡◌, take, drop}
use Rattle.fault.specs.Scan.{first_bad}
use Rattle.fault.proofs.scan.first_bad.Given as goal

-- The records passed so far keep their rules, so the search goes on in the rest.
abbrev pub invariant-loop-i : goal.invariant-loop-i
invariant-loop-i g l =
    first_bad (λ i x. g.R.Rule.broken l.ctx (take i l.records) x) 0 l.records
    ≡ first_bad (λ i x. g.R.Rule.broken l.ctx (take i l.records) x) l.i (drop l.i l.records)
