use Rattle.std.proofs.Common.{◌≡◌, rules, count_by, ◌∙◌}
use Rattle.translate.proofs.Counts.{is_kept, kept-count}
use Rattle.translate.proofs.program.Program.keep_count.Goals as goal

pub returns-clause-kept : goal.returns-clause-kept
returns-clause-kept c =
    let p = c.args.self.now in
    let count : c.count.result ≡ count_by (is_kept p.number) p.rows.now = search rules in
    λ made. count ∙ kept-count made p.rows.now p.number
