-- What a row meets on the bench at its date.
use Rattle.std.proofs.Common.{◌≡◌, ℕ, zero, suc, ◌<◌, ◌≤◌, Bool, true, false, cond, not, ◌&&◌, ◌||◌, eqb, ltb, leb, ◌⊎◌, List, [], ◌∷◌, ◌++◌, Some, None, Option, sym, refl, ap, ◌∙◌, ap₂, inl, inr, ⊎_elim, append_assoc, arith}
use Rattle.std.proofs.lemmas.Bool.{cases_Bool, cond-true, cond-false, both_ways, and_parts, and_from, eqb-true, eq-eqb, or_left, or_right, or_cases, le-leb, ltb-true}
use Rattle.schedule.specs.Rows.{Test, meets, all_meet, Row, ends, reaches, Places, word_of, word1, word2, Now, Concerns, Supply, Accepted}
use Rattle.plant.specs.Model.{Work}
use Rattle.schedule.specs.Program.{Engine, asks, onward}
use Rattle.schedule.specs.Machine.{is_none, present, answered}
use Rattle.schedule.proofs.Pick.{find}
use Rattle.schedule.proofs.Valuation.{at, did, word, val, did-final, word-final, coh-final, row_step, row_zero, held-later, held_by, supply-held, good, meet-up, meet-snoc, within-meet}

unfoldable pub anyb : (ℕ → Bool) → ℕ → Bool
anyb P zero = false
anyb P (suc n) = P n || anyb P n

pub any-hit : (P : ℕ → Bool) (n k : ℕ) → k < n → P k ≡ true → anyb P n ≡ true
unfolding anyb
any-hit P zero k l e = absurd (omega arith)
any-hit P (suc n) k l e = go (cases_Bool (P n)) (λ m. any-hit P n k m e)
  where
    go : (P n ≡ true) ⊎ (P n ≡ false) → (k < n → anyb P n ≡ true) → (P n || anyb P n) ≡ true
    go (inl q) ih = or_left _ _ q
    go (inr q) ih = or_right _ _ (ih (low (λ z. both_ways (P n) q (ap P z ∙ e))))
      where
        low : (n ≡ k → ⊥) → k < n
        low d = omega arith

pub any-miss : (P : ℕ → Bool) (n : ℕ) → ((k : ℕ) → k < n → P k ≡ false) → anyb P n ≡ false
unfolding anyb
any-miss P zero h = refl
any-miss P (suc n) h = let a : P n ≡ false = h n (omega arith) in let b : anyb P n ≡ false = any-miss P n (λ k l. h k (omega arith)) in cc

pub any_same : (P Q : ℕ → Bool) (n : ℕ) → ((k : ℕ) → k < n → P k ≡ Q k) → anyb P n ≡ anyb Q n
unfolding anyb
any_same P Q zero h = refl
any_same P Q (suc n) h = ap₂ ◌||◌ (h n (omega arith)) (any_same P Q n (λ k l. h k (omega arith)))

module _ {S : Type 0} (next : S → Work → S) (answer : S → Work → ℕ) (r : ℕ → Row) (a : Now S) (n L : ℕ) (basis : ℕ → Option ℕ) (ok : Accepted r n L a.places basis) where
  abbrev pub V : ℕ → Option ℕ
  V = val next answer r a n L basis ok n

  abbrev pub does : ℕ → Bool
  does k = did next answer r a k

  abbrev pub puts : ℕ → ℕ → ℕ → Bool
  puts s x k = does k && (reaches (r k) s && eqb (r k).out x)

  abbrev pub held : ℕ → ℕ → ℕ → Bool
  held t s x = not (is_none (a.places s x)) || anyb (λ k. puts s x k && leb (ends (r k)) t) n

  abbrev pub shown_at : ℕ → ℕ → ℕ → Option ℕ
  shown_at t s x = cond (held t s x) (V x) None

  some-not : (o : Option ℕ) (w : ℕ) → o ≡ Some w → not (is_none o) ≡ true
  some-not o w e = ap (λ z. not (is_none z)) e

  pub held_start : (t s x w : ℕ) → a.places s x ≡ Some w → held t s x ≡ true
  held_start t s x w e = or_left _ _ (some-not _ w e)

  pub held-row : (t s x k : ℕ) → k < n → puts s x k ≡ true → ends (r k) ≤ t → held t s x ≡ true
  held-row t s x k l p e = or_right _ _ (any-hit _ n k l (and_from _ _ p (le-leb _ _ e)))

  pub start-val : (s x w : ℕ) → a.places s x ≡ Some w → V x ≡ Some w
  start-val s x w e = coh-final next answer r a n L basis ok 0 s x w (omega arith) (row_zero next answer r a s x ∙ e)

  pub shown-some : (t s x w : ℕ) → held t s x ≡ true → V x ≡ Some w → shown_at t s x ≡ Some w
  shown-some t s x w h e = cond-true _ _ _ h ∙ e

  pub shown-up : (t s x w : ℕ) → shown_at t s x ≡ Some w → V x ≡ Some w
  shown-up t s x w e = go (held t s x) e
    where
      go : (b : Bool) → cond b (V x) None ≡ Some w → V x ≡ Some w
      go true q = q
      go false q = let z : ◌≡◌ {A = ℕ} 0 1 = cc in absurd (omega arith)

  -- at supply after met tests means held
  pub supply-shown : (i s : ℕ) (c : List Test) (x : ℕ) → i < n → Supply r a.places i s c x → all_meet c V ≡ true → (w : ℕ) × (shown_at (r i).date s x ≡ Some w)
  supply-shown i s c x l (inl (w, e)) m = (w, shown-some (r i).date s x w (held_start (r i).date s x w e) (start-val s x w e))
  supply-shown i s c x l (inr (j, lj, re, o, en, sub)) m =
      (word next answer r a j, shown-some (r i).date s x _ (held-row (r i).date s x j (omega arith) (and_from _ _ dj (and_from _ _ re (eq-eqb _ _ o))) en) (ap V (sym o) ∙ word-final next answer r a n L basis ok j (omega arith) dj))
    where
      dj : does j ≡ true
      dj = did-final next answer r a n L basis ok j (r j).st (omega arith) (inl refl) ∙ within-meet (r j).tests c V sub m

  -- the tests of a row in the order of its code
  asks-all : {E : Type 0} (e : Engine E) (b : E) (p : ℕ → Option ℕ) → ((t : Test) → e.ask t b ≡ answered t (p t.var)) → ((x w : ℕ) → p x ≡ Some w → V x ≡ Some w)
      → (c d : List Test) → all_meet c p ≡ true
      → ((q : List Test) (t : Test) (f : List Test) → c ++ d ≡ q ++ (t ∷ f) → all_meet q p ≡ true → (w : ℕ) × (p t.var ≡ Some w))
      → asks e d b ≡ Some (all_meet d V)
  unfolding asks all_meet
  asks-all e b p he up c [] m h = refl
  asks-all e b p he up c (t ∷ d) m h = go (h c t d refl m) (cases_Bool (meets t (p t.var))) (λ q. asks-all e b p he up (c ++ (t ∷ [])) d (meet-snoc c t p m q) (λ q u f z. h q u f (sym (append_assoc c (t ∷ []) d) ∙ z)))
    where
      go : (w : ℕ) × (p t.var ≡ Some w) → (meets t (p t.var) ≡ true) ⊎ (meets t (p t.var) ≡ false) → (meets t (p t.var) ≡ true → asks e d b ≡ Some (all_meet d V))
          → onward e (e.ask t b) (asks e d b) ≡ Some (meets t (V t.var) && all_meet d V)
      go (w, q) k ih = with-bool k
        where
          vq : V t.var ≡ Some w
          vq = up t.var w q

          aq : e.ask t b ≡ Some (meets t (p t.var))
          aq = he t ∙ ap (answered t) q ∙ ap (λ o. Some (meets t o)) (sym q)

          mv : meets t (V t.var) ≡ meets t (p t.var)
          mv = ap (meets t) (vq ∙ sym q)

          with-bool : (meets t (p t.var) ≡ true) ⊎ (meets t (p t.var) ≡ false) → onward e (e.ask t b) (asks e d b) ≡ Some (meets t (V t.var) && all_meet d V)
          with-bool (inl z) = ap (λ o. onward e o (asks e d b)) (aq ∙ ap Some z) ∙ ih z ∙ ap (λ o. Some (o && all_meet d V)) (sym z ∙ sym mv)
          with-bool (inr z) = ap (λ o. onward e o (asks e d b)) (aq ∙ ap Some z) ∙ ap (λ o. Some (o && all_meet d V)) (sym z ∙ sym mv)

  pub row-asks : {E : Type 0} (e : Engine E) (b : E) (i s : ℕ) (p : ℕ → Option ℕ) → i < n → Concerns (r i) s → ((t : Test) → e.ask t b ≡ answered t (p t.var))
      → ((x : ℕ) → p x ≡ shown_at (r i).date s x) → asks e (r i).tests b ≡ Some (does i)
  unfolding all_meet
  row-asks e b i s p l k he ps =
      asks-all e b p he up [] (r i).tests refl (λ q t f z m. avail q t f z m)
      ∙ ap Some (sym (did-final next answer r a n L basis ok i (r i).st l (inl refl)))
    where
      up : (x w : ℕ) → p x ≡ Some w → V x ≡ Some w
      up x w q = shown-up (r i).date s x w (sym (ps x) ∙ q)

      avail : (q : List Test) (t : Test) (f : List Test) → (r i).tests ≡ q ++ (t ∷ f) → all_meet q p ≡ true → (w : ℕ) × (p t.var ≡ Some w)
      avail q t f z m = let g = supply-shown i s q t.var l (ok.tested i s l k q t f z) (meet-up q p V up m) in (g.0, ps t.var ∙ g.1)

  -- inputs
  module _ (i : ℕ) (l : i < n) (d : does i ≡ true) (p : Places) (ps : (x : ℕ) → p (r i).st x ≡ shown_at (r i).date (r i).st x) where
    met : all_meet (r i).tests V ≡ true
    met = sym (did-final next answer r a n L basis ok i (r i).st l (inl refl)) ∙ d

    read_same : (x : ℕ) → Supply r a.places i (r i).st (r i).tests x → (w : ℕ) × (p (r i).st x ≡ Some w) × (at next answer r a i (r i).st x ≡ Some w)
    read_same x h = go (supply-shown i (r i).st (r i).tests x l h met) (supply-held next answer r a n L basis ok i l (good next answer r a n L basis ok i (omega arith)) (r i).st (r i).tests x h d)
      where
        go : (w : ℕ) × (shown_at (r i).date (r i).st x ≡ Some w) → (w : ℕ) × (at next answer r a i (r i).st x ≡ Some w) → (w : ℕ) × (p (r i).st x ≡ Some w) × (at next answer r a i (r i).st x ≡ Some w)
        go (w, e) (v, q) =
            let ww : V x ≡ Some w = shown-up (r i).date (r i).st x w e in
            let vv : V x ≡ Some v = coh-final next answer r a n L basis ok i (r i).st x v (omega arith) q in
            (w, ps x ∙ e, q ∙ sym vv ∙ ww)

    pub input1 : (not (ltb 0 (r i).count) || not (is_none (p (r i).st (r i).one)) ≡ true) × (word1 (r i) p ≡ word1 (r i) (at next answer r a i))
    input1 = go (cases_Bool (ltb 0 (r i).count))
      where
        go : (ltb 0 (r i).count ≡ true) ⊎ (ltb 0 (r i).count ≡ false) → (not (ltb 0 (r i).count) || not (is_none (p (r i).st (r i).one)) ≡ true) × (word1 (r i) p ≡ word1 (r i) (at next answer r a i))
        go (inr q) = (or_left _ _ (ap not q), cond-false _ _ _ q ∙ sym (cond-false _ _ _ q))
        go (inl q) = let g = read_same (r i).one (ok.first i l (ltb-true _ _ q)) in (or_right _ _ (some-not _ _ g.1), ap (λ o. cond (ltb 0 (r i).count) (word_of o) 0) (g.1 ∙ sym g.2))

    pub input2 : (not (ltb 1 (r i).count) || not (is_none (p (r i).st (r i).two)) ≡ true) × (word2 (r i) p ≡ word2 (r i) (at next answer r a i))
    input2 = go (cases_Bool (ltb 1 (r i).count))
      where
        go : (ltb 1 (r i).count ≡ true) ⊎ (ltb 1 (r i).count ≡ false) → (not (ltb 1 (r i).count) || not (is_none (p (r i).st (r i).two)) ≡ true) × (word2 (r i) p ≡ word2 (r i) (at next answer r a i))
        go (inr q) = (or_left _ _ (ap not q), cond-false _ _ _ q ∙ sym (cond-false _ _ _ q))
        go (inl q) = let g = read_same (r i).two (ok.second i l (ltb-true _ _ q)) in (or_right _ _ (some-not _ _ g.1), ap (λ o. cond (ltb 1 (r i).count) (word_of o) 0) (g.1 ∙ sym g.2))

    pub all-present : present (r i) p ≡ true
    all-present = and_from _ _ input1.0 input2.0

  -- at the cycle's end the places are the reading's
  from_some : (i s x w : ℕ) → i ≤ n → at next answer r a i s x ≡ Some w → held L s x ≡ true
  from_some zero s x w l e = held_start L s x w (sym (row_zero next answer r a s x) ∙ e)
  from_some (suc i) s x w l e = go (cases_Bool (puts s x i)) (from_some i s x w (omega arith))
    where
      go : (puts s x i ≡ true) ⊎ (puts s x i ≡ false) → (at next answer r a i s x ≡ Some w → held L s x ≡ true) → held L s x ≡ true
      go (inl q) ih = held-row L s x i l q (ok.inside i l)
      go (inr q) ih = ih (sym (row_step next answer r a i s x ∙ cond-false _ _ _ q) ∙ e)

  pub at-end : (s x : ℕ) → shown_at L s x ≡ at next answer r a n s x
  at-end s x = go (at next answer r a n s x) refl
    where
      none : at next answer r a n s x ≡ None → (w : ℕ) × (at next answer r a n s x ≡ Some w) → ⊥
      none e (w, q) = let z : ◌≡◌ {A = ℕ} 0 1 = cc in omega arith

      off : at next answer r a n s x ≡ None → held L s x ≡ true → ⊥
      off e h = parts (or_cases _ _ h)
        where
          from_start : (o : Option ℕ) → a.places s x ≡ o → not (is_none o) ≡ true → ⊥
          from_start None z q = both_ways false refl q
          from_start (Some w) z q = none e (held-later next answer r a 0 n s x (omega arith) (w, row_zero next answer r a s x ∙ z))

          from-any : ((j : ℕ) × (j < n) × (puts s x j && leb (ends (r j)) L ≡ true)) ⊎ ((k : ℕ) → k < n → puts s x k && leb (ends (r k)) L ≡ false) → anyb (λ k. puts s x k && leb (ends (r k)) L) n ≡ true → ⊥
          from-any (inr h) q = both_ways _ (any-miss _ n h) q
          from-any (inl (j, l, h)) q =
              let p = and_parts (does j) _ (and_parts (puts s x j) _ h).0 in
              let g = and_parts (reaches (r j) s) _ p.1 in
              let o : (r j).out ≡ x = eqb-true _ _ g.1 in
              none e (rw o at (held-later next answer r a (suc j) n s (r j).out l (held_by next answer r a j s p.0 g.0)))

          parts : (not (is_none (a.places s x)) ≡ true) ⊎ (anyb (λ k. puts s x k && leb (ends (r k)) L) n ≡ true) → ⊥
          parts (inl q) = from_start (a.places s x) refl q
          parts (inr q) = from-any (find _ n) q

      go : (o : Option ℕ) → at next answer r a n s x ≡ o → shown_at L s x ≡ o
      go (Some w) e = shown-some L s x w (from_some n s x w (omega arith) e) (coh-final next answer r a n L basis ok n s x w (omega arith) e)
      go None e = ⊎_elim (λ h. absurd (off e h)) (λ h. cond-false _ _ _ h) (cases_Bool (held L s x))
