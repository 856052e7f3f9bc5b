-- What is counted over the rows of a sheet, from the first row on.
use Rattle.std.proofs.Common.{◌≡◌, ℕ, zero, suc, ◌+◌, ◌<◌, ◌≤◌, Bool, true, false, cond, ◌&&◌, ◌||◌, eqb, List, [], ◌∷◌, ◌++◌, filter, length, take, count_by, sum_by, Option, Some, None, sym, refl, ap, ◌∙◌, ap₂, add-one, zero-add, arith, length-append}
use Rattle.std.specs.List.{list_any}
use Rattle.std.specs.Option.{is_some}
use Rattle.std.proofs.Math.Bool.{or_comm}
use Rattle.std.proofs.Math.Seq.{take-length}
use Rattle.std.proofs.lemmas.List.{take_more}
use Rattle.std.proofs.lemmas.List.Elements.{filter-append}
use Rattle.std.proofs.lemmas.List.Folds.{list_any-append}
use Rattle.std.proofs.lemmas.List.Sums.{sum_by-append}
use Rattle.sheet.specs.declared.row.Keep.{Keep}
use Rattle.sheet.specs.declared.row.Row.{Row}
use Rattle.sheet.specs.Rows.{row_at, no_row}
use Rattle.netcode.specs.declared.step.Step.{Step}
use Rattle.translate.specs.Programs.{steps_in, kept_in, made_of, kept_to}
use Rattle.translate.specs.Translation.{belongs, date_of, is_date, some_due, row_length, rows_length}
use Rattle.translate.proofs.Dates.{rows-push}

-- One row more.
pub take-row : (rows : List Row) (n : ℕ) → n < length rows → take (suc n) rows ≡ take n rows ++ row_at rows n ∷ []
take-row rows n l = ap (λ (k : ℕ). take k rows) (sym (add-one n)) ∙ take_more rows n no_row l

-- Whether a row is the program's and has a date.
abbrev pub due : ℕ → ℕ → Row → Bool
due p date row = belongs p row && eqb (date_of row) date

module _ (cycle : ℕ) (rows : List Row) (p date : ℕ) where
  dated-so-far : (n : ℕ) → n ≤ length rows → list_any (due p date) (take n rows) ≡ some_due cycle rows p date n
  unfolding some_due
  dated-so-far zero l = refl
  dated-so-far (suc n) l =
      ap (list_any (due p date)) (take-row rows n l) ∙ list_any-append (due p date) (take n rows) (row_at rows n ∷ [])
      ∙ or_comm (list_any (due p date) (take n rows)) (due p date (row_at rows n) || false) ∙ ap₂ (λ (a b : Bool). a || b) (last (due p date (row_at rows n))) (dated-so-far n (omega arith))
    where
      last : (b : Bool) → (b || false) ≡ b
      last true = refl
      last false = refl

  pub dated : list_any (due p date) rows ≡ is_date cycle rows p date
  dated = ap (list_any (due p date)) (sym (take-length rows)) ∙ dated-so-far (length rows) (omega arith)

  steps-so-far : (n : ℕ) → n ≤ length rows → sum_by steps_in (filter (due p date) (take n rows)) ≡ rows_length cycle rows p date 0 n
  unfolding rows_length
  steps-so-far zero l = refl
  steps-so-far (suc n) l =
      ap (λ (xs : List Row). sum_by steps_in (filter (due p date) xs)) (take-row rows n l)
      ∙ ap (sum_by steps_in) (filter-append (due p date) (take n rows) (row_at rows n ∷ []))
      ∙ sum_by-append steps_in (filter (due p date) (take n rows)) (filter (due p date) (row_at rows n ∷ []))
      ∙ ap₂ (λ (a b : ℕ). a + b) (steps-so-far n (omega arith)) (last (due p date (row_at rows n)))
      ∙ sym (rows-push cycle rows p date n 0 ∙ ap (λ (k : ℕ). rows_length cycle rows p date 0 n + cond (due p date (row_at rows k)) (row_length cycle rows p k) 0) (zero-add n))
    where
      last : (b : Bool) → sum_by steps_in (cond b (row_at rows n ∷ []) []) ≡ cond b (steps_in (row_at rows n)) 0
      last true = zero-add _
      last false = refl

  pub steps-of-date : sum_by steps_in (filter (due p date) rows) ≡ rows_length cycle rows p date 0 (length rows)
  steps-of-date = ap (λ (xs : List Row). sum_by steps_in (filter (due p date) xs)) (sym (take-length rows)) ∙ steps-so-far (length rows) (omega arith)

-- A keep row of a program's station makes one step.
abbrev pub is_kept : ℕ → Row → Bool
is_kept p row = is_some (kept_in p row)

module _ (made : ℕ → Keep → Step) (rows : List Row) (p : ℕ) where
  made-length : (n : ℕ) (k : Option Keep) → length (made_of made n k) ≡ cond (is_some k) 1 0
  made-length n None = refl
  made-length n (Some k) = refl

  kept-so-far : (n : ℕ) → n ≤ length rows → count_by (is_kept p) (take n rows) ≡ length (kept_to made rows p n)
  unfolding kept_to
  kept-so-far zero l = refl
  kept-so-far (suc n) l =
      ap (count_by (is_kept p)) (take-row rows n l)
      ∙ sum_by-append (λ (row : Row). cond (is_kept p row) 1 0) (take n rows) (row_at rows n ∷ [])
      ∙ ap₂ (λ (a b : ℕ). a + b) (kept-so-far n (omega arith)) (zero-add _ ∙ sym (made-length n (kept_in p (row_at rows n))))
      ∙ sym (length-append (kept_to made rows p n) (made_of made n (kept_in p (row_at rows n))))

  pub kept-count : count_by (is_kept p) rows ≡ length (kept_to made rows p (length rows))
  kept-count = ap (count_by (is_kept p)) (sym (take-length rows)) ∙ kept-so-far (length rows) (omega arith)
