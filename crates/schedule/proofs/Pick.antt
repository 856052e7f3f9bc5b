-- The last index below n that passes a test, with what stands there.
use Rattle.std.proofs.Common.{◌≡◌, ℕ, zero, suc, ◌<◌, Bool, true, false, cond, ◌⊎◌, Some, None, sym, refl, ap, ◌∙◌, inl, inr, arith}
use Rattle.schedule.specs.Pick.{pick}
use Rattle.std.proofs.lemmas.Bool.{cases_Bool, cond-true, cond-false, both_ways}

pub pick-none : {A : Type 0} (P : ℕ → Bool) (f : ℕ → A) (n : ℕ) → ((k : ℕ) → k < n → P k ≡ false) → pick P f n ≡ None
unfolding pick
pick-none P f zero h = refl
pick-none P f (suc n) h = cond-false (P n) _ _ (h n (omega arith)) ∙ pick-none P f n (λ k l. h k (omega arith))

pub pick_same : {A : Type 0} (P Q : ℕ → Bool) (f : ℕ → A) (n : ℕ) → ((k : ℕ) → k < n → P k ≡ Q k) → pick P f n ≡ pick Q f n
unfolding pick
pick_same P Q f zero h = refl
pick_same P Q f (suc n) h =
    let e : P n ≡ Q n = h n (omega arith) in
    let i : pick P f n ≡ pick Q f n = pick_same P Q f n (λ k l. h k (omega arith)) in
    cc

pub pick_inv : {A : Type 0} (P : ℕ → Bool) (f : ℕ → A) (n : ℕ) (a : A) → pick P f n ≡ Some a → (j : ℕ) × (j < n) × (P j ≡ true) × (f j ≡ a)
unfolding pick
pick_inv P f zero a e = let z : ◌≡◌ {A = ℕ} 0 1 = cc in absurd (omega arith)
pick_inv P f (suc n) a e = go (cases_Bool (P n)) (pick_inv P f n a)
  where
    go : (P n ≡ true) ⊎ (P n ≡ false) → (pick P f n ≡ Some a → (j : ℕ) × (j < n) × (P j ≡ true) × (f j ≡ a)) → (j : ℕ) × (j < suc n) × (P j ≡ true) × (f j ≡ a)
    go (inl p) ih = (n, omega arith, p, cc)
    go (inr p) ih = let q = ih (cc) in (q.0, omega (arith, q.1), q.2, q.3)

pub pick_some : {A : Type 0} (P : ℕ → Bool) (f : ℕ → A) (n j : ℕ) → j < n → P j ≡ true → ((k : ℕ) → k < n → P k ≡ true → k ≡ j) → pick P f n ≡ Some (f j)
unfolding pick
pick_some P f zero j l p u = absurd (omega arith)
pick_some P f (suc n) j l p u = go (cases_Bool (P n)) (λ m. pick_some P f n j m p (λ k h q. u k (omega arith) q))
  where
    go : (P n ≡ true) ⊎ (P n ≡ false) → (j < n → pick P f n ≡ Some (f j)) → cond (P n) (Some (f n)) (pick P f n) ≡ Some (f j)
    go (inl q) ih = let e : n ≡ j = u n (omega arith) q in cc
    go (inr q) ih = cond-false (P n) _ _ q ∙ ih (low (λ e. both_ways (P n) q (ap P e ∙ p)))
      where
        low : (n ≡ j → ⊥) → j < n
        low d = omega arith

pub find : (P : ℕ → Bool) (n : ℕ) → ((j : ℕ) × (j < n) × (P j ≡ true)) ⊎ ((k : ℕ) → k < n → P k ≡ false)
find P zero = inr (λ k l. absurd (omega arith))
find P (suc n) = go (cases_Bool (P n)) (find P n)
  where
    go : (P n ≡ true) ⊎ (P n ≡ false) → ((j : ℕ) × (j < n) × (P j ≡ true)) ⊎ ((k : ℕ) → k < n → P k ≡ false) → ((j : ℕ) × (j < suc n) × (P j ≡ true)) ⊎ ((k : ℕ) → k < suc n → P k ≡ false)
    go (inl p) r = inl (n, omega arith, p)
    go (inr p) (inl q) = inl (q.0, omega (arith, q.1), q.2)
    go (inr p) (inr q) = inr (λ k l. grind (arith, q, p))

-- the same where several pass, all with one word
pub pick_word : {A : Type 0} (P : ℕ → Bool) (f : ℕ → A) (n j : ℕ) → j < n → P j ≡ true → ((k : ℕ) → k < n → P k ≡ true → f k ≡ f j) → pick P f n ≡ Some (f j)
unfolding pick
pick_word P f zero j l p u = absurd (omega arith)
pick_word P f (suc n) j l p u = go (cases_Bool (P n)) (λ m. pick_word P f n j m p (λ k h q. u k (omega arith) q))
  where
    go : (P n ≡ true) ⊎ (P n ≡ false) → (j < n → pick P f n ≡ Some (f j)) → cond (P n) (Some (f n)) (pick P f n) ≡ Some (f j)
    go (inl q) ih = cond-true (P n) _ _ q ∙ ap Some (u n (omega arith) q)
    go (inr q) ih = cond-false (P n) _ _ q ∙ ih (low (λ e. both_ways (P n) q (ap P e ∙ p)))
      where
        low : (n ≡ j → ⊥) → j < n
        low d = omega arith

pub pick-cong : {A : Type 0} (P : ℕ → Bool) (f g : ℕ → A) (n : ℕ) → ((k : ℕ) → k < n → P k ≡ true → f k ≡ g k) → pick P f n ≡ pick P g n
unfolding pick
pick-cong P f g zero h = refl
pick-cong P f g (suc n) h = go (cases_Bool (P n)) (pick-cong P f g n (λ k l q. h k (omega arith) q))
  where
    go : (P n ≡ true) ⊎ (P n ≡ false) → pick P f n ≡ pick P g n → cond (P n) (Some (f n)) (pick P f n) ≡ cond (P n) (Some (g n)) (pick P g n)
    go (inl q) ih = cond-true _ _ _ q ∙ ap Some (h n (omega arith) q) ∙ sym (cond-true _ _ _ q)
    go (inr q) ih = cond-false _ _ _ q ∙ ih ∙ sym (cond-false _ _ _ q)
