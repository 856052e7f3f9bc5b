-- Works of different stations may be taken in another order.
use Rattle.std.proofs.Common.{◌≡◌, ℕ, zero, suc, ◌+◌, ◌-◌, ◌<◌, ◌≤◌, Bool, true, false, cond, ◌⊎◌, List, [], ◌∷◌, sym, refl, ap, ◌∙◌, ap₂, inl, inr, add-zero, add-suc, arith}
use Rattle.std.proofs.lemmas.Bool.{cases_Bool, cond-true, cond-false, cases_eq, both_ways}
use Rattle.plant.specs.Model.{Work}
use Rattle.plant.specs.Order.{Lawful, after_begun, AnyOrder}

abbrev AllAt : ℕ → List Work → Type 0
AllAt i [] = Unit {0}
AllAt i (v ∷ l) = (v.station ≡ i) × AllAt i l

module _ {S R : Type 0} (next : S → Work → S) (reply : S → Work → R) (law : Lawful next reply) where
  runs : S → List Work → S
  runs s [] = s
  runs s (v ∷ l) = runs (next s v) l

  -- no works of station i tell the two states apart
  Like : ℕ → S → S → Type 0
  Like i s u = (l : List Work) (w : Work) → AllAt i l → w.station ≡ i → reply (runs s l) w ≡ reply (runs u l) w

  like-refl : (i : ℕ) (s : S) → Like i s s
  unfolding Like
  like-refl i s l w a e = refl

  like-trans : (i : ℕ) (s u v : S) → Like i s u → Like i u v → Like i s v
  unfolding Like
  like-trans i s u v p q l w a e = p l w a e ∙ q l w a e

  like-next : (i : ℕ) (v : Work) (s u : S) → v.station ≡ i → Like i s u → Like i (next s v) (next u v)
  unfolding Like runs
  like-next i v s u k h l w a e = h (v ∷ l) w (k, a) e

  runs_other : (i : ℕ) (v : Work) → (v.station ≡ i → ⊥) → (l : List Work) → AllAt i l → (s : S) → runs (next s v) l ≡ next (runs s l) v
  unfolding runs
  runs_other i v ne [] a s = refl
  runs_other i v ne (w ∷ l) (k, a) s = ap (λ u. runs u l) (law.swap s v w (λ z. ne (z ∙ k))) ∙ runs_other i v ne l a (next s w)

  like-other : (i : ℕ) (v : Work) (s : S) → (v.station ≡ i → ⊥) → Like i (next s v) s
  unfolding Like
  like-other i v s ne l w a e = ap (λ u. reply u w) (runs_other i v ne l a s) ∙ law.quiet (runs s l) v w (λ z. ne (z ∙ e))

  module _ (w : ℕ → Work) where
    -- one more work, begun or not
    stop : (D : ℕ → Bool) (s : S) (k : ℕ) → D k ≡ false → after_begun next w D s (suc k) ≡ after_begun next w D s k
    unfolding after_begun
    stop D s k e = cond-false (D k) _ _ e

    step : (D : ℕ → Bool) (s : S) (k : ℕ) → D k ≡ true → after_begun next w D s (suc k) ≡ next (after_begun next w D s k) (w k)
    unfolding after_begun
    step D s k e = cond-true (D k) _ _ e

    -- a work of another station, begun or not, is not noticed
    past : (D : ℕ → Bool) (s : S) (i k : ℕ) → ((w k).station ≡ i → ⊥) ⊎ (D k ≡ false) → Like i (after_begun next w D s (suc k)) (after_begun next w D s k)
    past D s i k h = go h (cases_Bool (D k))
      where
        still : D k ≡ false → Like i (after_begun next w D s (suc k)) (after_begun next w D s k)
        still e = rw (stop D s k e) (like-refl i _)

        go : ((w k).station ≡ i → ⊥) ⊎ (D k ≡ false) → (D k ≡ true) ⊎ (D k ≡ false) → Like i (after_begun next w D s (suc k)) (after_begun next w D s k)
        go (inr e) q = still e
        go (inl ne) (inr e) = still e
        go (inl ne) (inl e) = rw (step D s k e) (like-other i (w k) (after_begun next w D s k) ne)

    flip-like : (i : ℕ) (s u : S) → Like i s u → Like i u s
    unfolding Like
    flip-like i s u h l w a e = sym (h l w a e)

    -- sets that agree at station i are alike to it
    agree : (D E : ℕ → Bool) (s : S) (i m : ℕ) → ((k : ℕ) → k < m → (w k).station ≡ i → D k ≡ E k) → Like i (after_begun next w D s m) (after_begun next w E s m)
    unfolding after_begun
    agree D E s i zero h = like-refl i s
    agree D E s i (suc k) h = go (cases_eq (w k).station i) (agree D E s i k (λ m l e. h m (omega arith) e))
      where
        go : ((w k).station ≡ i) ⊎ ((w k).station ≡ i → ⊥) → Like i (after_begun next w D s k) (after_begun next w E s k) → Like i (after_begun next w D s (suc k)) (after_begun next w E s (suc k))
        go (inr ne) ih = like-trans i _ _ _ (past D s i k (inl ne)) (like-trans i _ _ _ ih (flip-like i _ _ (past E s i k (inl ne))))
        go (inl e) ih = with-bool (cases_Bool (D k))
          where
            de : D k ≡ E k
            de = h k (omega arith) e

            with-bool : (D k ≡ true) ⊎ (D k ≡ false) → Like i (after_begun next w D s (suc k)) (after_begun next w E s (suc k))
            with-bool (inr q) = rw (stop D s k q, stop E s k (sym de ∙ q)) ih
            with-bool (inl q) = rw (step D s k q, step E s k (sym de ∙ q)) (like-next i (w k) _ _ e ih)

    -- from m on no work of station i
    quiet-on : (D : ℕ → Bool) (s : S) (i m d : ℕ) → ((k : ℕ) → k < m + d → m ≤ k → (w k).station ≡ i → D k ≡ false) → Like i (after_begun next w D s (m + d)) (after_begun next w D s m)
    quiet-on D s i m zero h = rw add-zero (like-refl i _)
    quiet-on D s i m (suc d) h = rw add-suc (like-trans i _ _ _ (past D s i (m + d) (go (cases_eq (w (m + d)).station i))) (quiet-on D s i m d (λ k l g e. h k (omega arith) g e)))
      where
        go : ((w (m + d)).station ≡ i) ⊎ ((w (m + d)).station ≡ i → ⊥) → ((w (m + d)).station ≡ i → ⊥) ⊎ (D (m + d) ≡ false)
        go (inl e) = inr (h (m + d) (omega arith) (omega arith) e)
        go (inr ne) = inl ne

    pub same_set : (D E : ℕ → Bool) (s : S) (m : ℕ) → ((k : ℕ) → k < m → D k ≡ E k) → after_begun next w D s m ≡ after_begun next w E s m
    unfolding after_begun
    same_set D E s zero h = refl
    same_set D E s (suc k) h =
        let a : after_begun next w D s k ≡ after_begun next w E s k = same_set D E s k (λ m l. h m (omega arith)) in
        let b : D k ≡ E k = h k (omega arith) in
        ap₂ (λ (c : Bool) (p : S). cond c (next p (w k)) p) b a

    module _ (D D' : ℕ → Bool) (s : S) (j : ℕ) (off : D j ≡ false) (on : D' j ≡ true) (rest : (k : ℕ) → (k ≡ j → ⊥) → D' k ≡ D k) where
      joined : (d : ℕ) → ((k : ℕ) → k < suc j + d → (w k).station ≡ (w j).station → j < k → D k ≡ false) → next (after_begun next w D s (suc j + d)) (w j) ≡ after_begun next w D' s (suc j + d)
      joined zero h = rw add-zero (ap (λ p. next p (w j)) (stop D s j off ∙ same_set D D' s j (λ k l. sym (rest k (λ e. omega arith)))) ∙ sym (step D' s j on))
      joined (suc d) h = rw add-suc (go (cases_Bool (D (suc j + d))) (joined d (λ k l e g. h k (omega arith) e g)))
        where
          m : ℕ
          m = suc j + d

          ne : m ≡ j → ⊥
          ne e = omega (arith, e)

          go : (D m ≡ true) ⊎ (D m ≡ false) → next (after_begun next w D s m) (w j) ≡ after_begun next w D' s m → next (after_begun next w D s (suc m)) (w j) ≡ after_begun next w D' s (suc m)
          go (inr e) ih = ap (λ p. next p (w j)) (stop D s m e) ∙ ih ∙ sym (stop D' s m (rest m ne ∙ e))
          go (inl e) ih =
              ap (λ p. next p (w j)) (step D s m e)
              ∙ law.swap (after_begun next w D s m) (w m) (w j) (λ q. both_ways (D m) (h m (omega arith) q (omega arith)) e)
              ∙ ap (λ p. next p (w m)) ih
              ∙ sym (step D' s m (rest m ne ∙ e))

    like-reply : (v : Work) (s u : S) → Like v.station s u → reply s v ≡ reply u v
    unfolding Like runs
    like-reply v s u h = h [] v tt refl

  pub any_order : AnyOrder next reply
  any_order w D D' E s n j l above below off on rest = (told, left)
    where
      e : j + (n - j) ≡ n
      e = omega arith

      e' : suc j + (n - suc j) ≡ n
      e' = omega arith

      told : reply (after_begun next w D s n) (w j) ≡ reply (after_begun next w E s j) (w j)
      told = like-reply w (w j) _ _ (like-trans (w j).station _ _ _ (rw e at (quiet-on w D s (w j).station j (n - j) late)) (agree w D E s (w j).station j (λ k m q. above k (omega arith) q m)))
        where
          late : (k : ℕ) → k < j + (n - j) → j ≤ k → (w k).station ≡ (w j).station → D k ≡ false
          late k m g q = go (cases_eq k j)
            where
              go : (k ≡ j) ⊎ (k ≡ j → ⊥) → D k ≡ false
              go (inl z) = ap D z ∙ off
              go (inr z) = below k (omega (arith, e)) q (omega arith)

      left : next (after_begun next w D s n) (w j) ≡ after_begun next w D' s n
      left = rw e' at (joined w D D' s j off on rest (n - suc j) (λ k m q g. below k (omega (arith, e')) q g))
