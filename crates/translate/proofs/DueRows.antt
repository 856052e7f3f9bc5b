-- The code of a date's rows, row by row.
use Rattle.std.proofs.Common.{◌≡◌, ℕ, suc, ◌+◌, ◌-◌, ◌<◌, ◌≤◌, true, false, cond, List, ◌++◌, sym, ap, ◌∙◌, subst, zero-add, arith}
use Rattle.std.proofs.lemmas.Bool.{cond-true, cond-false}
use Rattle.sheet.specs.declared.row.Row.{Row}
use Rattle.translate.specs.declared.code.Code.{Code}
use Rattle.translate.specs.Programs.{Writes}
use Rattle.translate.specs.Translation.{is_due, row_length, rows_length, row_code, tail_code, rows_code}
use Rattle.translate.proofs.Lengths.{row-length, length-step}
use Rattle.translate.proofs.Writing.{writes_append}

module _ (cycle : ℕ) (rows : List Row) (p o d : ℕ) where
  rows-step : (i n b : ℕ) → i < n
      → rows_code cycle rows p o d i (n - i) b
      ≡ cond (is_due cycle rows p d i) (row_code cycle rows p o d i b ++ rows_code cycle rows p o d (i + 1) (n - (i + 1)) (b + row_length cycle rows p i)) (rows_code cycle rows p o d (i + 1) (n - (i + 1)) b)
  unfolding rows_code
  rows-step i n b l =
      let z : n - i ≡ suc (n - (i + 1)) = omega arith in
      let y : suc i ≡ i + 1 = omega arith in
      ap (λ (k : ℕ). rows_code cycle rows p o d i k b) z
      ∙ ap (λ (k : ℕ). cond (is_due cycle rows p d i) (row_code cycle rows p o d i b ++ rows_code cycle rows p o d k (n - (i + 1)) (b + row_length cycle rows p i)) (rows_code cycle rows p o d k (n - (i + 1)) b)) y

  pub tail-is : (i n b : ℕ) → n ≤ i → rows_code cycle rows p o d i (n - i) b ≡ tail_code cycle rows p o d
  unfolding rows_code
  tail-is i n b l = let z : n - i ≡ 0 = omega arith in ap (λ (k : ℕ). rows_code cycle rows p o d i k b) z

  -- A row that is due, and one that is not.
  pub writes-due : (i n : ℕ) (a b last : Code) → i < n → is_due cycle rows p d i ≡ true → Writes a b (row_code cycle rows p o d i a.end)
      → Writes b last (rows_code cycle rows p o d (i + 1) (n - (i + 1)) b.end) → Writes a last (rows_code cycle rows p o d i (n - i) a.end)
  writes-due i n a b last l q w v =
      let end : b.end ≡ a.end + row_length cycle rows p i = w.end ∙ ap (λ (k : ℕ). a.end + k) (row-length cycle rows p o d i a.end) in
      let rest = subst (λ (k : ℕ). Writes b last (rows_code cycle rows p o d (i + 1) (n - (i + 1)) k)) end v in
      subst (Writes a last) (sym (rows-step i n a.end l ∙ cond-true _ _ _ q))
      (writes_append a b last (row_code cycle rows p o d i a.end) (rows_code cycle rows p o d (i + 1) (n - (i + 1)) (a.end + row_length cycle rows p i)) w rest)

  pub writes-other : (i n : ℕ) (a last : Code) → i < n → is_due cycle rows p d i ≡ false
      → Writes a last (rows_code cycle rows p o d (i + 1) (n - (i + 1)) a.end) → Writes a last (rows_code cycle rows p o d i (n - i) a.end)
  writes-other i n a last l q w = subst (Writes a last) (sym (rows-step i n a.end l ∙ cond-false _ _ _ q)) w

  pub length-due : (i n : ℕ) → i < n → is_due cycle rows p d i ≡ true
      → rows_length cycle rows p d i (n - i) ≡ row_length cycle rows p i + rows_length cycle rows p d (i + 1) (n - (i + 1))
  length-due i n l q = length-step cycle rows p d i n l ∙ ap (λ (k : ℕ). k + rows_length cycle rows p d (i + 1) (n - (i + 1))) (cond-true _ _ _ q)

  pub length-other : (i n : ℕ) → i < n → is_due cycle rows p d i ≡ false → rows_length cycle rows p d i (n - i) ≡ rows_length cycle rows p d (i + 1) (n - (i + 1))
  length-other i n l q = length-step cycle rows p d i n l ∙ ap (λ (k : ℕ). k + rows_length cycle rows p d (i + 1) (n - (i + 1))) (cond-false _ _ _ q) ∙ zero-add _
