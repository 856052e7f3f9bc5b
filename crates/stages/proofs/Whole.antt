use Rattle.std.proofs.Common.{◌≡◌, ℕ, zero, suc, Bool, true, false, cond, ltb, List, ◌∷◌, ◌++◌, length, take, drop, IfOk, Ok, Err, Result, refl, ap, ◌∙◌, MatchResult}
use Rattle.std.proofs.lemmas.List.{take_at, drop_at}
use Rattle.fault.specs.declared.refusal.Fault.{Fault}
use Rattle.fault.specs.declared.place.Offset.{Offset}
use Rattle.fault.specs.declared.place.BytesPlace.{BytesPlace}
use Rattle.wire.specs.Numbers.{number_at, after_number, and_then}
use Rattle.sheet.specs.declared.row.Head.{Head}
use Rattle.sheet.specs.declared.row.Row.{Row}
use Rattle.sheet.specs.Rows.{head_within}
use Rattle.sheet.specs.Sheets.{some_rows, one_row, rows_from, head_from, up_then, sheet_in, head_of, laid_rows}
use Rattle.stages.specs.Sheets.{rows_in}

-- What holds of every answer of what follows holds of the answer.
then-made : {A B E : Type 0} (P : B → Type 0) (r : Result A E) (k : A → Result B E) → ((a : A) → IfOk (k a) P) → IfOk (and_then r k) P
then-made P (Ok a) k f = f a
then-made P (Err e) k f = tt

up-made : {A B : Type 0} (P : B → Type 0) (r : Result A (Fault Offset)) (k : A → Result B (Fault BytesPlace))
    → ((a : A) → IfOk (k a) P) → IfOk (up_then r k) P
up-made P (Ok a) k f = f a
up-made P (Err e) k f = tt

cond-made : {B E : Type 0} (P : B → Type 0) (b : Bool) (x y : Result B E) → IfOk x P → IfOk y P → IfOk (cond b x y) P
cond-made P true x y p q = p
cond-made P false x y p q = q

-- As many rows are read as the head says.
one_more : (n : ℕ) (x : Row) (q : Result (List Row × ℕ) (Fault Offset)) → IfOk {T = List Row × ℕ} q (λ p. length p.0 ≡ n)
    → IfOk {T = List Row × ℕ} (and_then q (λ rs. Ok (x ∷ rs.0, rs.1))) (λ p. length p.0 ≡ suc n)
one_more n x (Ok rs) e = ap suc e
one_more n x (Err f) e = tt

rows-count : (num : ℕ → Result ℕ (Fault Offset)) (aft : ℕ → ℕ) (n pos : ℕ) → IfOk {T = List Row × ℕ} (some_rows num aft n pos) (λ p. length p.0 ≡ n)
rows-count num aft zero pos = refl
rows-count num aft (suc n) pos =
    then-made (λ p. length p.0 ≡ suc n) (one_row num aft pos) _
    (λ r. one_more n r.0 (some_rows num aft n r.1) (rows-count num aft n r.1))

counted : (bs : List ℕ) (f : ℕ → Fault BytesPlace) (h : Head) (q : Result (List Row × ℕ) (Fault Offset)) → IfOk {T = List Row × ℕ} q (λ p. length p.0 ≡ h.rows)
    → IfOk {T = Head × List Row} (up_then q (λ rs. cond (ltb rs.1 (length bs)) (Err (f rs.1)) (Ok (h, rs.0)))) (λ s. length s.1 ≡ s.0.rows)
counted bs f h (Ok rs) e = cond-made (λ s. length s.1 ≡ s.0.rows) (ltb rs.1 (length bs)) (Err (f rs.1)) (Ok (h, rs.0)) tt e
counted bs f h (Err g) e = tt

sheet-count : (bs : List ℕ) (room : ℕ) → IfOk (sheet_in bs room) (λ s. length s.1 ≡ s.0.rows)
sheet-count bs room =
    up-made (λ s. length s.1 ≡ s.0.rows) (head_from bs 0) _ (λ h.
    cond-made (λ s. length s.1 ≡ s.0.rows) (ltb room h.0.rows) _ _ tt
    (cond-made (λ s. length s.1 ≡ s.0.rows) (head_within h.0) _ _
    (counted bs _ h.0 (rows_from h.0.rows bs h.1) (rows-count (number_at bs) (after_number bs) h.0.rows h.1)) tt))

-- What reading answers and leaves in the list: the head and the rows of the sheet, and beyond them what was
-- there; or the fault, and the list as it was.
abbrev Whole : Result (Head × List Row) (Fault BytesPlace) → List Row → List Row → Result Head (Fault BytesPlace) → Type 0
Whole sheet old new r =
    MatchResult r (λ h. (sheet ≡ Ok (h, rows_in h new)) × (drop h.rows new ≡ drop h.rows old)) (λ f. (sheet ≡ Err f) × (new ≡ old))

whole_from : (sheet : Result (Head × List Row) (Fault BytesPlace)) (old : List Row) → IfOk sheet (λ s. length s.1 ≡ s.0.rows)
    → Whole sheet old (laid_rows sheet old) (head_of sheet)
whole_from (Ok s) old e =
    let t : take s.0.rows (s.1 ++ drop (length s.1) old) ≡ s.1 = take_at s.1 (drop (length s.1) old) s.0.rows e in
    let d : drop s.0.rows (s.1 ++ drop (length s.1) old) ≡ drop (length s.1) old = drop_at s.1 (drop (length s.1) old) s.0.rows e in
    (rw t, d ∙ ap (λ (n : ℕ). drop n old) e)
whole_from (Err f) old e = (refl, refl)

pub whole : (bs : List ℕ) (room : ℕ) (old new : List Row) (r : Result Head (Fault BytesPlace)) → r ≡ head_of (sheet_in bs room)
    → new ≡ laid_rows (sheet_in bs room) old → Whole (sheet_in bs room) old new r
whole bs room old new r e l = rw (e, l) (whole_from (sheet_in bs room) old (sheet-count bs room))
