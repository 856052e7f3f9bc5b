use Rattle.std.proofs.Common.{ℕ, ◌≤◌, List, length, vec_items, vec_len, ap, ◌∙◌, arith}
use Rattle.std.proofs.lemmas.List.{with_items_is}
use Rattle.std.proofs.lemmas.Result.{IfOk-weaker}
use Rattle.sheet.specs.declared.row.Row.{Row}
use Rattle.sheet.specs.Sheets.{sheet_in, head_of, laid_rows}
use Rattle.stages.proofs.Whole.{whole}
use Rattle.stages.proofs.stage.read_into.Goals as goal

pub returns : goal.returns
returns c =
    let e = c.read.ensures in
    let l = c.as_mut_slice.ensures.len in
    let v = c.as_mut_slice.ensures.value in
    let bs = c.args.bytes.now in
    let rows = c.args.rows.now in
    let head = e.head ∙ ap (λ (k : ℕ). head_of (sheet_in bs k)) l in
    let list = with_items_is rows c.read.new.rows (omega arith)
    ∙ e.list ∙ ap (λ (k : ℕ). laid_rows (sheet_in bs k) c.as_mut_slice.result.now) l
    ∙ ap (λ (xs : List Row). laid_rows (sheet_in bs (vec_len rows)) xs) v in
    record {
      sheet = whole bs (vec_len rows) (vec_items rows) _ c.read.result head list;
      within = IfOk-weaker c.read.result (λ h. h.rows ≤ length c.as_mut_slice.result.now) (λ h. h.rows ≤ vec_len rows) (λ h p. omega (arith, l)) e.within;
      limits = e.limits;
    }
