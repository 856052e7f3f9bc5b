use Rattle.std.proofs.Common.{◌≡◌, ℕ, Ok, Result, sym, ap, ◌∙◌, subst}
use Rattle.std.proofs.lemmas.Result.{err_from_is_err_and}
use Rattle.fault.specs.declared.refusal.Fault.{Fault}
use Rattle.fault.specs.declared.place.Offset.{Offset}
use Rattle.sheet.specs.declared.row.Row.{Row}
use Rattle.sheet.specs.Parts.{Read, shown}
use Rattle.sheet.specs.Sheets.{row_from}
use Rattle.sheet.specs.Borrowed.{RowForm, form_of, decoded, borrowed_from}
use Rattle.sheet.proofs.Decoding.{Matches, row-matches}
use Rattle.sheet.proofs.reading.read_whole_row.Goals as goal

matched : (x : Read RowForm) (y : Read Row) (z : Read RowForm) → z ≡ x → Matches x y → Matches z y
matched x y z e m = subst (λ (w : Read RowForm). Matches w y) (sym e) m

decoded-row : (form : RowForm) (next : ℕ) (r : Result Row (Fault Offset)) (y : Read Row) → r ≡ decoded form → Matches (Ok (form, next)) y
    → shown r next ≡ y
decoded-row form next r y e (row, d, q) = ap (λ (x : Result Row (Fault Offset)). shown x next) (e ∙ d) ∙ sym q

pub returns-in_err-read_row : goal.returns-in_err-read_row
returns-in_err-read_row c =
    let bs = c.args.reader.now.bytes.now in
    let pos = c.args.reader.now.pos in
    let p = err_from_is_err_and c.from_residual.result c.from_residual.ensures.1 in
    let v = c.in_err-read_row.ensures in
    let m = matched (borrowed_from bs pos) (row_from bs pos) _ v.value (row-matches bs pos) in
    rw (p.1, p.2) record { value = sym m; same = v.same }

pub returns : goal.returns
returns c =
    let bs = c.args.reader.now.bytes.now in
    let pos = c.args.reader.now.pos in
    let v = c.in_ok-read_row.ensures in
    let m = matched (borrowed_from bs pos) (row_from bs pos) _ v.value (row-matches bs pos) in
    record { value = decoded-row (form_of c.in_ok-read_row.field-0) c.read_row.new.reader.pos c.decode.result (row_from bs pos) c.decode.ensures m; same = v.same }
