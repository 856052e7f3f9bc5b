use Rattle.std.proofs.Common.{filter, rules, tests}
use Rattle.std.proofs.lemmas.Iterator.{YieldsList-from_slice, YieldsList-from_map}
use Rattle.std.proofs.lemmas.Iterator.Consumers.{YieldsList-at, YieldsList-from_filter, sum_by_from_yields_List}
use Rattle.translate.specs.Programs.{steps_in, early}
use Rattle.translate.proofs.program.Program.steps_before.Goals as goal

pub returns : goal.returns
returns c =
    let p = c.args.self.now in
    let rows = filter (early p.number c.args.date) p.rows.now in
    sum_by_from_yields_List steps_in rows c.map.result _ c.sum.ensures.ran (YieldsList-from_map _ steps_in (YieldsList-at c.map.ensures.source (YieldsList-from_filter _ (early p.number c.args.date) (YieldsList-at c.filter.ensures.source (YieldsList-from_slice p.rows.now c.iter.ensures.rest)) c.filter.ensures.closure (λ x r q k. search (rules, tests)))) c.map.ensures.closure (λ x r q k. search (rules, tests)))
