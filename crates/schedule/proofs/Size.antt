-- A program of n rows of at most four tests has at most 9 steps a row besides its opening.
use Rattle.std.proofs.Common.{◌≡◌, ℕ, zero, suc, ◌+◌, ◌*◌, ◌<◌, ◌≤◌, Bool, true, false, cond, ltb, ◌⊎◌, List, length, refl, inl, inr, arith}
use Rattle.std.proofs.lemmas.Bool.{cases_Bool, cond-true, cond-false, ltb-true, and_parts, eqb-true, lt-ltb, le-ltb}
use Rattle.schedule.specs.Program.{Step, Share, row_len, due, rows_len, is_date, addr, code_to, Sized}
use Rattle.schedule.proofs.Blocks.{length-code}

module _ (h : Share) (small : (k : ℕ) → k < h.rows → length (h.tests k) ≤ 4) where
  heavy : ℕ → ℕ → ℕ → ℕ
  heavy d i zero = 0
  heavy d i (suc m) = cond (due h d i) 9 0 + heavy d (suc i) m

  weight : (d m i : ℕ) → i + m ≤ h.rows → (rows_len h d i m ≤ heavy d i m) × (0 < rows_len h d i m → rows_len h d i m + 2 ≤ heavy d i m)
  unfolding heavy rows_len
  weight d zero i b = (omega arith, λ l. absurd (omega arith))
  weight d (suc m) i within = go (cases_Bool (due h d i)) (weight d m (suc i) (omega arith))
    where
      R : ℕ
      R = rows_len h d (suc i) m

      H : ℕ
      H = heavy d (suc i) m

      go : (due h d i ≡ true) ⊎ (due h d i ≡ false) → (R ≤ H) × (0 < R → R + 2 ≤ H)
          → (cond (due h d i) (row_len h i) 0 + R ≤ cond (due h d i) 9 0 + H) × (0 < cond (due h d i) (row_len h i) 0 + R → cond (due h d i) (row_len h i) 0 + R + 2 ≤ cond (due h d i) 9 0 + H)
      go (inl q) (a, b) =
          let c : cond (due h d i) (row_len h i) 0 ≡ row_len h i = cond-true _ _ _ q in
          let e : ◌≡◌ {A = ℕ} (cond (due h d i) 9 0) 9 = cond-true _ _ _ q in
          (omega (arith, small i (omega arith)), λ l. omega (arith, small i (omega arith)))
      go (inr q) (a, b) =
          let c : cond (due h d i) (row_len h i) 0 ≡ 0 = cond-false _ _ _ q in
          let e : ◌≡◌ {A = ℕ} (cond (due h d i) 9 0) 0 = cond-false _ _ _ q in
          (omega arith, λ l. let w = b (omega arith) in omega arith)

  sum_to : (ℕ → ℕ) → ℕ → ℕ
  sum_to f zero = 0
  sum_to f (suc d) = sum_to f d + f d

  addr-sum : (o d : ℕ) → addr h o d ≤ o + sum_to (λ d. heavy d 0 h.rows) d
  unfolding addr sum_to
  addr-sum o zero = omega arith
  addr-sum o (suc d) = go (cases_Bool (is_date h d)) (addr-sum o d) (weight d h.rows 0 (omega arith))
    where
      go : (is_date h d ≡ true) ⊎ (is_date h d ≡ false) → addr h o d ≤ o + sum_to (λ d. heavy d 0 h.rows) d → (rows_len h d 0 h.rows ≤ heavy d 0 h.rows) × (0 < rows_len h d 0 h.rows → rows_len h d 0 h.rows + 2 ≤ heavy d 0 h.rows)
          → addr h o d + cond (is_date h d) (rows_len h d 0 h.rows + 2) 0 ≤ o + (sum_to (λ d. heavy d 0 h.rows) d + heavy d 0 h.rows)
      go (inl q) a (w, x) = let c : cond (is_date h d) (rows_len h d 0 h.rows + 2) 0 ≡ rows_len h d 0 h.rows + 2 = cond-true _ _ _ q in let y = x (ltb-true _ _ q) in omega arith
      go (inr q) a w = let c : cond (is_date h d) (rows_len h d 0 h.rows + 2) 0 ≡ 0 = cond-false _ _ _ q in omega arith

  sum-add : (f g : ℕ → ℕ) (d : ℕ) → sum_to (λ d. f d + g d) d ≡ sum_to f d + sum_to g d
  unfolding sum_to
  sum-add f g zero = refl
  sum-add f g (suc d) = let e = sum-add f g d in omega arith

  -- a row stands at one date
  once : (i D : ℕ) → sum_to (λ d. cond (due h d i) 9 0) D ≤ cond (ltb (h.date i) D) 9 0
  unfolding sum_to
  once i zero = omega arith
  once i (suc D) = go (cases_Bool (due h D i)) (once i D)
    where
      go : (due h D i ≡ true) ⊎ (due h D i ≡ false) → sum_to (λ d. cond (due h d i) 9 0) D ≤ cond (ltb (h.date i) D) 9 0 → sum_to (λ d. cond (due h d i) 9 0) D + cond (due h D i) 9 0 ≤ cond (ltb (h.date i) (suc D)) 9 0
      go (inl q) ih =
          let at : h.date i ≡ D = eqb-true _ _ (and_parts (h.mine i) _ q).1 in
          let a : ◌≡◌ {A = ℕ} (cond (due h D i) 9 0) 9 = cond-true _ _ _ q in
          let b : ◌≡◌ {A = ℕ} (cond (ltb (h.date i) D) 9 0) 0 = cond-false _ _ _ (le-ltb (h.date i) D (omega arith)) in
          let c : ◌≡◌ {A = ℕ} (cond (ltb (h.date i) (suc D)) 9 0) 9 = cond-true _ _ _ (lt-ltb (h.date i) (suc D) (omega arith)) in
          omega arith
      go (inr q) ih = up (cases_Bool (ltb (h.date i) D))
        where
          up : (ltb (h.date i) D ≡ true) ⊎ (ltb (h.date i) D ≡ false) → sum_to (λ d. cond (due h d i) 9 0) D + cond (due h D i) 9 0 ≤ cond (ltb (h.date i) (suc D)) 9 0
          up (inl z) =
              let a : ◌≡◌ {A = ℕ} (cond (due h D i) 9 0) 0 = cond-false _ _ _ q in
              let b : ◌≡◌ {A = ℕ} (cond (ltb (h.date i) D) 9 0) 9 = cond-true _ _ _ z in
              let c : ◌≡◌ {A = ℕ} (cond (ltb (h.date i) (suc D)) 9 0) 9 = cond-true _ _ _ (lt-ltb (h.date i) (suc D) (omega (arith, ltb-true _ _ z))) in
              omega arith
          up (inr z) =
              let a : ◌≡◌ {A = ℕ} (cond (due h D i) 9 0) 0 = cond-false _ _ _ q in
              let b : ◌≡◌ {A = ℕ} (cond (ltb (h.date i) D) 9 0) 0 = cond-false _ _ _ z in
              omega arith

  nine : (b : Bool) → cond b 9 0 ≤ 9
  nine true = omega arith
  nine false = omega arith

  zeros : (D : ℕ) → sum_to (λ d. 0) D ≤ 0
  unfolding sum_to
  zeros zero = omega arith
  zeros (suc D) = let a = zeros D in omega arith

  per-row : (D m i : ℕ) → sum_to (λ d. heavy d i m) D ≤ 9 * m
  unfolding heavy
  per-row D zero i = let a = zeros D in omega arith
  per-row D (suc m) i = let a = sum-add (λ d. cond (due h d i) 9 0) (λ d. heavy d (suc i) m) D in let b = once i D in let c = per-row D m (suc i) in let d = nine (ltb (h.date i) D) in omega arith

  pub size : (pre : List Step) → length (code_to h pre h.cycle) ≤ length pre + 9 * h.rows
  size pre = let a = length-code h pre h.cycle in let b = addr-sum (length pre) h.cycle in let c = per-row h.cycle h.rows 0 in omega arith

pub sized : Sized
sized h pre small = size h small pre
