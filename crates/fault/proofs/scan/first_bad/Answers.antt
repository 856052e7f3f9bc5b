use Rattle.std.proofs.Common.{take, sym, ◌∙◌}
use Rattle.std.proofs.lemmas.List.{at_drop_all}
use Rattle.fault.specs.Scan.{first_bad}
use Rattle.fault.proofs.Scans.{bad-here, first-is}
use Rattle.fault.proofs.scan.first_bad.Goals as goal

pub returns-in-Some : goal.returns-in-Some
returns-in-Some g c =
    let e = sym (c.loop-i.invariant ∙ bad-here (λ i x. g.R.Rule.broken c.args.ctx.now (take i c.args.records.now) x) c.args.records.now c.loop-i.i c.index-records-i.result _ c.loop-i-test.true c.index-records-i.is c.in-Some.ensures) in
    record { value = e; first = first-is (λ i x. g.R.Rule.broken c.args.ctx.now (take i c.args.records.now) x) c.args.records.now _ e }

pub returns : goal.returns
returns g c =
    let e = sym (c.loop-i.invariant ∙ at_drop_all (first_bad (λ i x. g.R.Rule.broken c.args.ctx.now (take i c.args.records.now) x) c.loop-i.i) c.args.records.now c.loop-i.i c.loop-i-test.false) in
    record { value = e; first = first-is (λ i x. g.R.Rule.broken c.args.ctx.now (take i c.args.records.now) x) c.args.records.now _ e }
