-- A sheet that is written is its byte form, and is read back.
use Rattle.std.proofs.Common.{◌≡◌, ℕ, ◌+◌, ◌<◌, ◌≤◌, Bool, true, cond, ltb, List, ◌++◌, length, take, drop, Ok, sym, refl, ap, ◌∙◌, zero-add, arith, length-append}
use Rattle.std.proofs.lemmas.List.{take_at}
use Rattle.std.proofs.lemmas.Bool.{le-ltb, lt-ltb, eq-eqb}
use Rattle.wire.specs.Bytes.{spelled, placed}
use Rattle.wire.proofs.Laid.{spelled-append, placed-two}
use Rattle.sheet.specs.declared.row.Head.{Head}
use Rattle.sheet.specs.declared.row.Row.{Row}
use Rattle.sheet.specs.Rows.{head_within}
use Rattle.sheet.specs.Sheets.{sheet_in, too_short, head_outside}
use Rattle.sheet.specs.Forms.{head_numbers, rows_numbers, sheet_form}
use Rattle.sheet.specs.Written.{describes, written_end, written_bytes, WrittenBack}
use Rattle.sheet.proofs.Exact.{form-read}

pub form-parts : (h : Head) (rows : List Row) → sheet_form h rows ≡ spelled (head_numbers h) ++ spelled (rows_numbers rows)
form-parts h rows = spelled-append (head_numbers h) (rows_numbers rows)

pub form-length : (h : Head) (rows : List Row) → length (sheet_form h rows) ≡ length (spelled (head_numbers h)) + length (spelled (rows_numbers rows))
form-length h rows = ap length (form-parts h rows) ∙ length-append (spelled (head_numbers h)) (spelled (rows_numbers rows))

-- A head that describes its rows does so by computation.
pub describing : (h : Head) (rows : List Row) → head_within h ≡ true → h.rows ≡ length rows → describes h rows ≡ true
describing h rows w e = rw (w, eq-eqb h.rows (length rows) e)

pub end-room : (h : Head) (rows : List Row) (room : ℕ) → describes h rows ≡ true → length (sheet_form h rows) ≤ room → written_end h rows room ≡ Ok (length (sheet_form h rows))
end-room h rows room d l = go (describes h rows) d (length (sheet_form h rows)) l
  where
    go : (b : Bool) → b ≡ true → (n : ℕ) → n ≤ room → cond b (cond (ltb room n) (too_short n) (Ok n)) head_outside ≡ Ok n
    go b e n h = rw (e, le-ltb room n h)

pub end_short : (h : Head) (rows : List Row) (room : ℕ) → describes h rows ≡ true → room < length (sheet_form h rows) → written_end h rows room ≡ too_short (length (sheet_form h rows))
end_short h rows room d l = go (describes h rows) d (length (sheet_form h rows)) l
  where
    go : (b : Bool) → b ≡ true → (n : ℕ) → room < n → cond b (cond (ltb room n) (too_short n) (Ok n)) head_outside ≡ too_short n
    go b e n h = rw (e, lt-ltb room n h)

front : (b : Bool) (out form : List ℕ) → List ℕ
front b out form = cond b (cond (ltb (length out) (length form)) out (form ++ drop (length form) out)) out

pub bytes-room : (h : Head) (rows : List Row) (out : List ℕ) → describes h rows ≡ true → length (sheet_form h rows) ≤ length out
    → written_bytes h rows out ≡ sheet_form h rows ++ drop (length (sheet_form h rows)) out
bytes-room h rows out d l = go (describes h rows) d (sheet_form h rows) l
  where
    go : (b : Bool) → b ≡ true → (form : List ℕ) → length form ≤ length out
        → cond b (cond (ltb (length out) (length form)) out (form ++ drop (length form) out)) out ≡ form ++ drop (length form) out
    go b e form h = rw (e, le-ltb (length out) (length form) h)

pub bytes-short : (h : Head) (rows : List Row) (out : List ℕ) → describes h rows ≡ true → length out < length (sheet_form h rows) → written_bytes h rows out ≡ out
bytes-short h rows out d l = go (describes h rows) d (sheet_form h rows) l
  where
    go : (b : Bool) → b ≡ true → (form : List ℕ) → length out < length form
        → cond b (cond (ltb (length out) (length form)) out (form ++ drop (length form) out)) out ≡ out
    go b e form h = rw (e, lt-ltb (length out) (length form) h)

-- The head and then the rows, put from the front on.
pub sheet-put : (h : Head) (rows : List Row) (out mid last : List ℕ) → length (sheet_form h rows) ≤ length out
    → mid ≡ placed out 0 (spelled (head_numbers h)) → last ≡ placed mid (0 + length (spelled (head_numbers h))) (spelled (rows_numbers rows))
    → last ≡ sheet_form h rows ++ drop (length (sheet_form h rows)) out
sheet-put h rows out mid last l e f =
    go (spelled (head_numbers h)) (spelled (rows_numbers rows)) (sheet_form h rows) (form-parts h rows) l e f
  where
    go : (xs ys form : List ℕ) → form ≡ xs ++ ys → length form ≤ length out → mid ≡ placed out 0 xs → last ≡ placed mid (0 + length xs) ys
        → last ≡ form ++ drop (length form) out
    go xs ys form q l e f =
        placed-two out 0 xs ys mid last (omega (arith, ap length q, length-append xs ys)) e f
        ∙ ap (λ (zs : List ℕ). zs ++ drop (0 + length zs) out) (sym q) ∙ ap (λ (k : ℕ). form ++ drop k out) (zero-add (length form))

pub written_back : WrittenBack
written_back h rows out room s l fit =
    let d = describing h rows s.within s.counts in (
      end-room h rows (length out) d l,
      ap (λ (xs : List ℕ). sheet_in xs room)
          (ap (take (length (sheet_form h rows))) (bytes-room h rows out d l) ∙ take_at (sheet_form h rows) (drop (length (sheet_form h rows)) out) _ refl)
          ∙ form-read h rows room s fit,
    )
