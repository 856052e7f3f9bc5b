-- The next date of a unit.
use Rattle.std.proofs.Common.{◌≡◌, ℕ, zero, suc, ◌+◌, ◌-◌, ◌<◌, ◌≤◌, true, false, cond, ◌⊎◌, ap, ◌∙◌, inl, inr, arith}
use Rattle.std.proofs.lemmas.Bool.{cases_Bool, cond-true, cond-false, lt-ltb, cases_eq}
use Rattle.schedule.specs.Program.{Share, due, row_len, rows_len, is_date, search_date, wake}

module _ (h : Share) where
  search-le : (m d : ℕ) → d ≤ search_date h m d
  unfolding search_date
  search-le zero d = omega arith
  search-le (suc m) d = go (cases_Bool (is_date h d)) (search-le m (suc d))
    where
      go : (is_date h d ≡ true) ⊎ (is_date h d ≡ false) → suc d ≤ search_date h m (suc d) → d ≤ cond (is_date h d) d (search_date h m (suc d))
      go (inl q) l = rw (cond-true (is_date h d) d (search_date h m (suc d)) q) (omega arith)
      go (inr q) l = rw (cond-false (is_date h d) d (search_date h m (suc d)) q) (omega arith)

  search-end : (m d : ℕ) → (is_date h (search_date h m d) ≡ true) ⊎ (search_date h m d ≡ d + m)
  unfolding search_date
  search-end zero d = inr (omega arith)
  search-end (suc m) d = go (cases_Bool (is_date h d)) (search-end m (suc d))
    where
      go : (is_date h d ≡ true) ⊎ (is_date h d ≡ false) → (is_date h (search_date h m (suc d)) ≡ true) ⊎ (search_date h m (suc d) ≡ suc d + m)
          → (is_date h (search_date h (suc m) d) ≡ true) ⊎ (search_date h (suc m) d ≡ d + suc m)
      go (inl q) e = inl (ap (is_date h) (cond-true (is_date h d) d (search_date h m (suc d)) q) ∙ q)
      go (inr q) (inl e) = inl (ap (is_date h) (cond-false (is_date h d) d (search_date h m (suc d)) q) ∙ e)
      go (inr q) (inr e) = inr (cond-false (is_date h d) d (search_date h m (suc d)) q ∙ e ∙ omega arith)

  pub wake-le : (d : ℕ) → d ≤ wake h d
  wake-le d = search-le (h.cycle - d) d

  pub wake-most : (d : ℕ) → d ≤ h.cycle → (is_date h (wake h d) ≡ true) ⊎ (wake h d ≡ h.cycle)
  wake-most d l = go (search-end (h.cycle - d) d)
    where
      go : (is_date h (wake h d) ≡ true) ⊎ (wake h d ≡ d + (h.cycle - d)) → (is_date h (wake h d) ≡ true) ⊎ (wake h d ≡ h.cycle)
      go (inl q) = inl q
      go (inr q) = inr (omega arith)

  one_more : (d : ℕ) → d < h.cycle → wake h d ≡ cond (is_date h d) d (wake h (suc d))
  unfolding search_date
  one_more d l = let e : h.cycle - d ≡ suc (h.cycle - suc d) = omega arith in ap (λ m. search_date h m d) e

  pub wake-date : (d : ℕ) → d < h.cycle → is_date h d ≡ true → wake h d ≡ d
  wake-date d l q = one_more d l ∙ cond-true (is_date h d) _ _ q

  pub wake-skip : (d : ℕ) → d < h.cycle → is_date h d ≡ false → wake h d ≡ wake h (suc d)
  wake-skip d l q = one_more d l ∙ cond-false (is_date h d) _ _ q

  pub wake-end : wake h h.cycle ≡ h.cycle
  unfolding search_date
  wake-end = let e : h.cycle - h.cycle ≡ 0 = omega arith in ap (λ m. search_date h m h.cycle) e

  rows-pos : (d m i k : ℕ) → i ≤ k → k < i + m → due h d k ≡ true → 0 < rows_len h d i m
  unfolding rows_len
  rows-pos d zero i k a b e = absurd (omega arith)
  rows-pos d (suc m) i k a b e = go (cases_eq i k) (rows-pos d m (suc i) k)
    where
      go : (i ≡ k) ⊎ (i ≡ k → ⊥) → (suc i ≤ k → k < suc i + m → due h d k ≡ true → 0 < rows_len h d (suc i) m) → 0 < cond (due h d i) (row_len h i) 0 + rows_len h d (suc i) m
      go (inl z) ih = let c : cond (due h d i) (row_len h i) 0 ≡ row_len h i = cond-true _ _ _ (ap (due h d) z ∙ e) in omega arith
      go (inr z) ih = let c = ih (omega arith) (omega arith) e in omega arith

  pub due-date : (d k : ℕ) → k < h.rows → due h d k ≡ true → is_date h d ≡ true
  due-date d k l e = lt-ltb 0 _ (rows-pos d h.rows 0 k (omega arith) (omega arith) e)
