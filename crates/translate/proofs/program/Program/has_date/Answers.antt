use Rattle.std.proofs.Common.{rules, tests, ◌∙◌}
use Rattle.std.proofs.lemmas.Iterator.{YieldsList-from_slice}
use Rattle.std.proofs.lemmas.Iterator.Search.{any_from_yields_List}
use Rattle.translate.proofs.Counts.{due, dated}
use Rattle.translate.proofs.program.Program.has_date.Goals as goal

pub returns : goal.returns
returns c =
    let p = c.args.self.now in
    any_from_yields_List (due p.number c.args.date) _ _ _ c.any.ensures.ran (YieldsList-from_slice p.rows.now c.iter.ensures.rest) (λ x r q k. search (rules, tests))
    ∙ dated p.cycle p.rows.now p.number c.args.date
