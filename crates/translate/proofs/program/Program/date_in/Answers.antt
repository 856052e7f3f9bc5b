use Rattle.std.proofs.Common.{◌≡◌, ℕ, min, cond, ◌&&◌, leb, ltb, length, sym, ap, ◌∙◌, add-one, arith}
use Rattle.std.specs.Bool.{then_some}
use Rattle.sheet.specs.Rows.{row_at}
use Rattle.translate.specs.Translation.{belongs, date_of, first_among, first_date}
use Rattle.translate.proofs.Dates.{first-none, first_more}
use Rattle.translate.proofs.Earliest.{one-more, cut-off, found}
use Rattle.translate.proofs.program.Program.date_in.Goals as goal

pub loop-row-init : goal.loop-row-init
loop-row-init c =
    let p = c.args.self.now in
    let none = first-none p.cycle p.rows.now p.number c.args.from in
    omega arith

pub loop-row-preserved : goal.loop-row-preserved
loop-row-preserved c =
    let p = c.args.self.now in
    let i = c.loop-row.row-index in
    let row = row_at p.rows.now i in
    let more = c.args.from in
    c.earlier-first.ensures
    ∙ ap (λ (f : ℕ). cond (belongs p.number row && leb more (date_of row)) (min f (date_of row)) f) c.loop-row.invariant
    ∙ one-more c.args.until (date_of row) (first_among p.cycle p.rows.now p.number more i) (belongs p.number row && leb more (date_of row))
    ∙ sym (ap (min c.args.until) (ap (first_among p.cycle p.rows.now p.number more) (add-one i) ∙ first_more p.cycle p.rows.now p.number more i))

pub returns : goal.returns
returns c =
    let p = c.args.self.now in
    let n : c.loop-row.row-index ≡ length p.rows.now = omega arith in
    let F = first_date p.cycle p.rows.now p.number c.args.from in
    let e : c.loop-row.first ≡ min c.args.until F = c.loop-row.invariant ∙ ap (λ (k : ℕ). min c.args.until (first_among p.cycle p.rows.now p.number c.args.from k)) n in
    found p c.args.from c.args.until c.then_some.result c.requires
    (c.then_some.ensures ∙ ap (λ (f : ℕ). then_some (ltb f c.args.until) f) e ∙ cut-off c.args.until F)
