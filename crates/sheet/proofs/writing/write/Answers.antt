use Rattle.std.proofs.Common.{◌≡◌, ℕ, ◌+◌, ◌≤◌, true, ◌++◌, length, take, drop, Ok, Result, sym, ap, ◌∙◌, arith, rules}
use Rattle.std.specs.Result.{result_unwrap_or}
use Rattle.wire.specs.Bytes.{spelled, end_of, placed}
use Rattle.wire.proofs.Laid.{placed-room, end-room as put-room}
use Rattle.sheet.specs.Rows.{head_within}
use Rattle.sheet.specs.Forms.{head_numbers, rows_numbers, sheet_form}
use Rattle.sheet.specs.Written.{describes}
use Rattle.sheet.proofs.Writes.{form-length, describing, bytes-room, sheet-put}
use Rattle.sheet.proofs.writing.write.Goals as goal

pub returns-clause-bytes : goal.returns-clause-bytes
returns-clause-bytes c =
    let h = c.args.head.now in
    let rows = c.args.rows.now in
    let out = c.args.out.now in
    let w : head_within h ≡ true = search rules in
    let n : h.rows ≡ length rows = omega (arith, c.if-head-rows.false) in
    let d : describes h rows ≡ true = describing h rows w n in
    let l : length (sheet_form h rows) ≤ length out = omega (arith, c.if-out-size.false, form-length h rows, c.numbers_size.ensures, c.rows_size.ensures.size) in
    let a = c.put_numbers.ensures in
    let f : end_of (length out) 0 (spelled (head_numbers h)) ≡ Ok (0 + length (spelled (head_numbers h))) = put-room (length out) 0 (spelled (head_numbers h)) (omega (arith, form-length h rows)) in
    let n : c.unwrap_or-next.result ≡ 0 + length (spelled (head_numbers h)) = c.unwrap_or-next.ensures ∙ ap (λ (r : Result ℕ ℕ). result_unwrap_or r 0) (a.end ∙ f) in
    let b = c.put_rows.ensures in
    let room : 0 + length (spelled (head_numbers h)) + length (spelled (rows_numbers rows)) ≤ length c.put_numbers.new.out = omega (arith, form-length h rows) in
    let last : c.put_rows.new.out ≡ placed c.put_numbers.new.out (0 + length (spelled (head_numbers h))) (spelled (rows_numbers rows)) =
    b.bytes
    ∙ ap (λ (k : ℕ). take k c.put_numbers.new.out ++ (spelled (rows_numbers rows) ++ drop (k + length (spelled (rows_numbers rows))) c.put_numbers.new.out)) n
    ∙ sym (placed-room c.put_numbers.new.out (0 + length (spelled (head_numbers h))) (spelled (rows_numbers rows)) room) in
    sheet-put h rows out _ _ l a.bytes last ∙ sym (bytes-room h rows out d l)
