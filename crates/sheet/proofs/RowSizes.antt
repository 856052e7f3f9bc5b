-- The bytes of rows one after the other.
use Rattle.std.proofs.Common.{◌≡◌, ℕ, ◌+◌, ◌<◌, List, [], ◌∷◌, ◌++◌, length, take, drop, sym, refl, ap, ◌∙◌, append_assoc, append-nil, length-append, take-append-drop}
use Rattle.std.proofs.lemmas.List.{take_more, drop_more}
use Rattle.wire.specs.Bytes.{spelled}
use Rattle.wire.proofs.Laid.{spelled-append}
use Rattle.sheet.specs.declared.row.Row.{Row}
use Rattle.sheet.specs.Rows.{no_row, row_at}
use Rattle.sheet.specs.Forms.{row_numbers, rows_numbers}

rows_append : (rs qs : List Row) → rows_numbers (rs ++ qs) ≡ rows_numbers rs ++ rows_numbers qs
rows_append [] qs = refl
rows_append (r ∷ rs) qs = ap (λ (xs : List ℕ). row_numbers r ++ xs) (rows_append rs qs) ∙ sym (append_assoc (row_numbers r) (rows_numbers rs) (rows_numbers qs))

-- The bytes of some rows.
abbrev pub form : List Row → List ℕ
form rs = spelled (rows_numbers rs)

pub form-append : (rs qs : List Row) → form (rs ++ qs) ≡ form rs ++ form qs
form-append rs qs = ap spelled (rows_append rs qs) ∙ spelled-append (rows_numbers rs) (rows_numbers qs)

pub form-one : (r : Row) → form (r ∷ []) ≡ spelled (row_numbers r)
form-one r = ap spelled (append-nil (row_numbers r))

pub form-more : (rs : List Row) (i : ℕ) → i < length rs → form (take (i + 1) rs) ≡ form (take i rs) ++ spelled (row_numbers (row_at rs i))
form-more rs i h =
    ap form (take_more rs i no_row h) ∙ form-append (take i rs) (row_at rs i ∷ []) ∙ ap (λ (xs : List ℕ). form (take i rs) ++ xs) (form-one (row_at rs i))

pub length_more : (rs : List Row) (i : ℕ) → i < length rs → length (form (take (i + 1) rs)) ≡ length (form (take i rs)) + length (spelled (row_numbers (row_at rs i)))
length_more rs i h = ap length (form-more rs i h) ∙ length-append (form (take i rs)) (spelled (row_numbers (row_at rs i)))

pub form-split : (rs : List Row) (i : ℕ) → length (form (take i rs)) + length (form (drop i rs)) ≡ length (form rs)
form-split rs i =
    sym (length-append (form (take i rs)) (form (drop i rs))) ∙ ap length (sym (form-append (take i rs) (drop i rs))) ∙ ap (λ (xs : List Row). length (form xs)) (take-append-drop i rs)

pub form-first : (rs : List Row) (i : ℕ) → i < length rs → length (spelled (row_numbers (row_at rs i))) + length (form (drop (i + 1) rs)) ≡ length (form (drop i rs))
form-first rs i h =
    sym (ap (λ (xs : List Row). length (form xs)) (drop_more rs i no_row h)
    ∙ ap length (spelled-append (row_numbers (row_at rs i)) (rows_numbers (drop (i + 1) rs)))
    ∙ length-append (spelled (row_numbers (row_at rs i))) (form (drop (i + 1) rs)))
