use Rattle.std.proofs.Common.{◌≡◌, ℕ, ◌+◌, ◌≤◌, List, ◌++◌, length, take, drop, sym, ap, ◌∙◌, arith, length-append}
use Rattle.wire.specs.Bytes.{spelled, placed}
use Rattle.wire.proofs.Laid.{placed-more, placed-room}
use Rattle.sheet.specs.Rows.{row_at}
use Rattle.sheet.specs.Forms.{row_numbers}
use Rattle.sheet.proofs.RowSizes.{form, form-more, form-split, form-first}
use Rattle.sheet.proofs.writing.put_rows.Goals as goal

pub put_row-next-requires : goal.put_row-next-requires
put_row-next-requires c =
    let rs = c.args.rows.now in
    let i = c.loop-row.row-index in
    let o : length c.loop-row.out ≡ length c.args.out.now = omega arith in
    omega (arith, c.loop-row.invariant.0, form-split rs i, form-first rs i c.loop-row-test.true, c.requires)

pub loop-row-preserved : goal.loop-row-preserved
loop-row-preserved c =
    let rs = c.args.rows.now in
    let i = c.loop-row.row-index in
    let at = c.args.at in
    let out = c.args.out.now in
    let xs = form (take i rs) in
    let ys = spelled (row_numbers (row_at rs i)) in
    let e : form (take (i + 1) rs) ≡ xs ++ ys = form-more rs i c.loop-row-test.true in
    let room : at + length xs + length ys ≤ length out = omega (arith, form-split rs i, form-first rs i c.loop-row-test.true, c.requires) in
    let f = c.put_row-next.ensures in
    let l : length (take at out ++ (xs ++ drop (at + length xs) out)) ≡ length c.loop-row.out = sym (ap length c.loop-row.invariant.1) in
    let o : length c.loop-row.out ≡ length out = omega arith in
    let step : c.put_row-next.new.out ≡ placed (take at out ++ (xs ++ drop (at + length xs) out)) (at + length xs) ys =
    f.bytes
    ∙ ap (λ (zs : List ℕ). take c.loop-row.next zs ++ (ys ++ drop (c.loop-row.next + length ys) zs)) c.loop-row.invariant.1
    ∙ ap (λ (k : ℕ). take k (take at out ++ (xs ++ drop (at + length xs) out)) ++ (ys ++ drop (k + length ys) (take at out ++ (xs ++ drop (at + length xs) out)))) c.loop-row.invariant.0
    ∙ sym (placed-room (take at out ++ (xs ++ drop (at + length xs) out)) (at + length xs) ys (omega arith)) in (
      omega (arith, f.end, c.loop-row.invariant.0, ap length e, length-append xs ys),
      step ∙ placed-more out at xs ys room ∙ ap (λ (zs : List ℕ). take at out ++ (zs ++ drop (at + length zs) out)) (sym e),
    )
