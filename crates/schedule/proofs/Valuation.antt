-- One word for each variable in a cycle.
use Rattle.std.proofs.Common.{◌≡◌, ℕ, zero, suc, ◌+◌, ◌-◌, ◌<◌, ◌≤◌, Bool, true, false, cond, not, ◌&&◌, eqb, ltb, ◌⊎◌, List, [], ◌∷◌, ◌++◌, Some, None, Option, sym, refl, ap, ◌∙◌, ap₂, inl, inr, ⊎_elim, append_assoc, add-zero, add-suc, arith}
use Rattle.std.proofs.lemmas.Bool.{cases_Bool, cond-true, cond-false, both_ways, and_parts, and_from, and_left, eqb-true, eq-eqb, cases_order, not-true, not_from_false, lt-ltb}
use Rattle.schedule.specs.Rows.{Test, meets, all_meet, Row, reaches, Places, word_of, Now, given, read_to, Mem, Apart, Excludes, Within, Concerns, Supply, Accepted, OneValuation}
use Rattle.plant.specs.Model.{Work}
use Rattle.schedule.specs.Pick.{pick}
use Rattle.schedule.proofs.Pick.{pick-none, pick_inv, pick_some}

-- TESTS
apart-not : (t u : Test) (o : Option ℕ) → Apart t u → meets t o ≡ true → meets u o ≡ true → ⊥
apart-not t u None h a b = both_ways false refl a
apart-not t u (Some v) (_, inl (p, q, ne)) a b =
    ne (sym (eqb-true v t.word (sym (cond-true t.equal _ _ p) ∙ a)) ∙ eqb-true v u.word (sym (cond-true u.equal _ _ q) ∙ b))
apart-not t u (Some v) (_, inr (p, q)) a b = flip t.equal u.equal (eqb v t.word) q a (rw p b)
  where
    flip : (x y e : Bool) → x ≡ not y → cond x e (not e) ≡ true → cond y e (not e) ≡ true → ⊥
    flip x y e h a b = grind arith

mem-meets : (c : List Test) (p : ℕ → Option ℕ) (t : Test) → all_meet c p ≡ true → Mem t c → meets t (p t.var) ≡ true
unfolding all_meet
mem-meets [] p t h m = absurd m
mem-meets (u ∷ c) p t h (inl e) = ap (λ z. meets z (p z.var)) e ∙ (and_parts (meets u (p u.var)) (all_meet c p) h).0
mem-meets (u ∷ c) p t h (inr m) = mem-meets c p t (and_parts (meets u (p u.var)) (all_meet c p) h).1 m

all-meets : (c : List Test) (p : ℕ → Option ℕ) → ((t : Test) → Mem t c → meets t (p t.var) ≡ true) → all_meet c p ≡ true
unfolding all_meet
all-meets [] p h = refl
all-meets (u ∷ c) p h = and_from _ _ (h u (inl refl)) (all-meets c p (λ t m. h t (inr m)))

pub excl-not : (c d : List Test) (v : ℕ → Option ℕ) → Excludes c d → all_meet c v ≡ true → all_meet d v ≡ true → ⊥
excl-not c d v (t, u, m, k, z) a b = apart-not t u (v t.var) z (mem-meets c v t a m) (rw z.0 (mem-meets d v u b k))

-- a met test is met by what extends the places
meets-up : (t : Test) (o q : Option ℕ) → ((w : ℕ) → o ≡ Some w → q ≡ Some w) → meets t o ≡ true → meets t q ≡ true
meets-up t None q h e = absurd (both_ways false refl e)
meets-up t (Some v) q h e = ap (meets t) (h v refl) ∙ e

pub meet-up : (c : List Test) (p v : ℕ → Option ℕ) → ((x w : ℕ) → p x ≡ Some w → v x ≡ Some w) → all_meet c p ≡ true → all_meet c v ≡ true
meet-up c p v h e = all-meets c v (λ t m. meets-up t (p t.var) (v t.var) (h t.var) (mem-meets c p t e m))

pub within-meet : (c d : List Test) (v : ℕ → Option ℕ) → Within c d → all_meet d v ≡ true → all_meet c v ≡ true
within-meet c d v h e = all-meets c v (λ t m. mem-meets d v t e (h t m))

pub meet-snoc : (c : List Test) (t : Test) (p : ℕ → Option ℕ) → all_meet c p ≡ true → meets t (p t.var) ≡ true → all_meet (c ++ (t ∷ [])) p ≡ true
unfolding all_meet
meet-snoc [] t p a b = and_from _ _ b refl
meet-snoc (u ∷ c) t p a b = let q = and_parts (meets u (p u.var)) (all_meet c p) a in and_from _ _ q.0 (meet-snoc c t p q.1 b)

-- tests whose variables are at supply one after the other come out at the places as in the valuation
module _ (p v : ℕ → Option ℕ) (up : (x w : ℕ) → p x ≡ Some w → v x ≡ Some w) where
  same_tests : (c d : List Test) → all_meet c p ≡ true
      → ((b : List Test) (t : Test) (e : List Test) → c ++ d ≡ b ++ (t ∷ e) → all_meet b p ≡ true → (w : ℕ) × (p t.var ≡ Some w))
      → all_meet d p ≡ all_meet d v
  unfolding all_meet
  same_tests c [] m h = refl
  same_tests c (t ∷ d) m h = go (h c t d refl m) (cases_Bool (meets t (p t.var))) (λ q. same_tests (c ++ (t ∷ [])) d (meet-snoc c t p m q) (λ b u e z. h b u e (sym (append_assoc c (t ∷ []) d) ∙ z)))
    where
      go : (w : ℕ) × (p t.var ≡ Some w) → (meets t (p t.var) ≡ true) ⊎ (meets t (p t.var) ≡ false) → (meets t (p t.var) ≡ true → all_meet d p ≡ all_meet d v)
          → (meets t (p t.var) && all_meet d p) ≡ (meets t (v t.var) && all_meet d v)
      go (w, e) k ih = with-bool k
        where
          same : meets t (p t.var) ≡ meets t (v t.var)
          same = ap (meets t) (e ∙ sym (up t.var w e))

          with-bool : (meets t (p t.var) ≡ true) ⊎ (meets t (p t.var) ≡ false) → (meets t (p t.var) && all_meet d p) ≡ (meets t (v t.var) && all_meet d v)
          with-bool (inl q) = ap₂ ◌&&◌ same (ih q)
          with-bool (inr q) = and_left _ _ q ∙ sym (and_left _ _ (sym same ∙ q))

abbrev pub or_else : Option ℕ → Option ℕ → Option ℕ
or_else None y = y
or_else (Some v) y = Some v

module _ {S : Type 0} (next : S → Work → S) (answer : S → Work → ℕ) (r : ℕ → Row) (a : Now S) where
  abbrev pub at : ℕ → Places
  at i = (read_to next answer r a i).places

  abbrev pub did : ℕ → Bool
  did i = all_meet (r i).tests (at i (r i).st)

  abbrev pub word : ℕ → ℕ
  word i = given next answer (r i) (read_to next answer r a i)

  abbrev pub calls-it : ℕ → ℕ → Bool
  calls-it x j = (did j && not (r j).sends) && eqb (r j).out x

  pub row_step : (i s x : ℕ) → at (suc i) s x ≡ cond (did i && (reaches (r i) s && eqb (r i).out x)) (Some (word i)) (at i s x)
  unfolding read_to
  row_step i s x = refl

  pub row_zero : (s x : ℕ) → at 0 s x ≡ a.places s x
  unfolding read_to
  row_zero s x = refl

  abbrev pub Held : Places → ℕ → ℕ → Type 0
  Held p s x = (w : ℕ) × (p s x ≡ Some w)

  -- what is held stays held
  pub held_next : (i s x : ℕ) → Held (at i) s x → Held (at (suc i)) s x
  held_next i s x (w, e) = go (cases_Bool (did i && (reaches (r i) s && eqb (r i).out x)))
    where
      go : (did i && (reaches (r i) s && eqb (r i).out x) ≡ true) ⊎ (did i && (reaches (r i) s && eqb (r i).out x) ≡ false) → (v : ℕ) × (at (suc i) s x ≡ Some v)
      go (inl q) = (word i, row_step i s x ∙ cond-true _ _ _ q)
      go (inr q) = (w, row_step i s x ∙ cond-false _ _ _ q ∙ e)

  pub held_on : (i d s x : ℕ) → Held (at i) s x → Held (at (i + d)) s x
  held_on i zero s x h = rw add-zero h
  held_on i (suc d) s x h = rw add-suc (held_next (i + d) s x (held_on i d s x h))

  pub held-later : (i j s x : ℕ) → i ≤ j → Held (at i) s x → Held (at j) s x
  held-later i j s x l h = let e : i + (j - i) ≡ j = omega arith in rw e at (held_on i (j - i) s x h)

  pub held_by : (j s : ℕ) → did j ≡ true → reaches (r j) s ≡ true → Held (at (suc j)) s (r j).out
  held_by j s d e = (word j, row_step j s (r j).out ∙ cond-true _ _ _ (and_from _ _ d (and_from _ _ e (eq-eqb _ _ refl))))

  module _ (n L : ℕ) (basis : ℕ → Option ℕ) (ok : Accepted r n L a.places basis) where
    -- the word of a variable, from the rows above i
    abbrev pub val : ℕ → ℕ → Option ℕ
    val i x = or_else (pick (calls-it x) word i) (basis x)

    abbrev pub Alone : ℕ → Type 0
    Alone i = (j k : ℕ) → j < i → k < i → did j ≡ true → did k ≡ true → (r j).sends ≡ false → (r k).sends ≡ false → (r j).out ≡ (r k).out → j ≡ k

    pub record Good (i : ℕ) : Type 0 where
      pub alone : Alone i
      pub coh : (j : ℕ) → j ≤ i → (s x w : ℕ) → at j s x ≡ Some w → val i x ≡ Some w
      pub agree : (j s : ℕ) → j < i → Concerns (r j) s → (v : ℕ → Option ℕ) → ((x w : ℕ) → val j x ≡ Some w → v x ≡ Some w)
          → all_meet (r j).tests (at j s) ≡ all_meet (r j).tests v

    calls-parts : (x k : ℕ) → calls-it x k ≡ true → (did k ≡ true) × ((r k).sends ≡ false) × ((r k).out ≡ x)
    calls-parts x k e =
        let p = and_parts (did k && not (r k).sends) (eqb (r k).out x) e in
        let q = and_parts (did k) (not (r k).sends) p.0 in
        (q.0, not-true _ q.1, eqb-true _ _ p.1)

    calls-from : (k : ℕ) → did k ≡ true → (r k).sends ≡ false → calls-it (r k).out k ≡ true
    calls-from k d e = and_from _ _ (and_from _ _ d (not_from_false _ e)) (eq-eqb _ _ refl)

    -- a variable's word stays
    pub val-up : (i : ℕ) → i ≤ n → Alone i → (j : ℕ) → j ≤ i → (x w : ℕ) → val j x ≡ Some w → val i x ≡ Some w
    val-up i li g j lj x w e = go (pick (calls-it x) word j) refl
      where
        hit : (m v : ℕ) → m < j → calls-it x m ≡ true → word m ≡ v → v ≡ w → val i x ≡ Some w
        hit m v lm cm wm vw = ap (λ o. or_else o (basis x)) (pick_some (calls-it x) word i m (omega arith) cm one) ∙ ap Some (wm ∙ vw)
          where
            one : (k : ℕ) → k < i → calls-it x k ≡ true → k ≡ m
            one k lk ck = let p = calls-parts x k ck in let q = calls-parts x m cm in g k m lk (omega arith) p.0 q.0 p.1 q.1 (p.2 ∙ sym q.2)

        miss : basis x ≡ Some w → val i x ≡ Some w
        miss b = ap (λ o. or_else o (basis x)) (pick-none (calls-it x) word i none) ∙ b
          where
            none : (k : ℕ) → k < i → calls-it x k ≡ false
            none k lk = ⊎_elim (λ c. absurd (clash (calls-parts x k c))) (λ c. c) (cases_Bool (calls-it x k))
              where
                clash : (did k ≡ true) × ((r k).sends ≡ false) × ((r k).out ≡ x) → ⊥
                clash (_, c, o) =
                    let f : basis (r k).out ≡ None = ok.free k (omega arith) c in
                    let z : ◌≡◌ {A = ℕ} 0 1 = cc in
                    omega arith

        go : (o : Option ℕ) → pick (calls-it x) word j ≡ o → val i x ≡ Some w
        go None q = miss (sym (ap (λ o. or_else o (basis x)) q) ∙ e)
        go (Some v) q = from (pick_inv (calls-it x) word j v q) (cc)
          where
            from : (m : ℕ) × (m < j) × (calls-it x m ≡ true) × (word m ≡ v) → v ≡ w → val i x ≡ Some w
            from (m, lm, cm, wm) vw = hit m v lm cm wm vw

    module _ (i : ℕ) (l : i < n) (g : Good i) where
      -- a provider whose tests are met was performed
      pub supply-held : (s : ℕ) (c : List Test) (x : ℕ) → Supply r a.places i s c x → all_meet c (at i s) ≡ true → Held (at i) s x
      supply-held s c x (inl (w, e)) m = held-later 0 i s x (omega arith) (start w e)
        where
          start : (w : ℕ) → a.places s x ≡ Some w → Held (at 0) s x
          start w e = (w, row_zero s x ∙ e)
      supply-held s c x (inr (j, lj, re, o, _, sub)) m = rw o at (held-later (suc j) i s (r j).out lj (held_by j s dj re))
        where
          met : all_meet (r j).tests (val i) ≡ true
          met = within-meet (r j).tests c (val i) sub (meet-up c (at i s) (val i) (λ x w e. g.coh i (omega arith) s x w e) m)

          dj : did j ≡ true
          dj = g.agree j (r j).st lj (inl refl) (val i) (val-up i (omega arith) g.alone j (omega arith)) ∙ met

      -- so the tests of row i come out alike at all stations that it concerns, and as in every later valuation
      agree-now : (s : ℕ) → Concerns (r i) s → (v : ℕ → Option ℕ) → ((x w : ℕ) → val i x ≡ Some w → v x ≡ Some w) → all_meet (r i).tests (at i s) ≡ all_meet (r i).tests v
      unfolding all_meet
      agree-now s k v up =
          same_tests (at i s) v (λ x w e. up x w (g.coh i (omega arith) s x w e)) [] (r i).tests refl
          (λ b t e z m. supply-held s b t.var (ok.tested i s l k b t e z) m)

      did-val : did i ≡ all_meet (r i).tests (val i)
      did-val = agree-now (r i).st (inl refl) (val i) (λ x w e. e)

      -- a row above that was performed meets the valuation
      above-meets : (j : ℕ) → j < i → did j ≡ true → all_meet (r j).tests (val i) ≡ true
      above-meets j lj d = meet-up (r j).tests (at j (r j).st) (val i) (λ x w e. g.coh j (omega arith) (r j).st x w e) d

      fresh : (j : ℕ) → j < i → did j ≡ true → did i ≡ true → (r j).sends ≡ false → (r i).sends ≡ false → (r j).out ≡ (r i).out → ⊥
      fresh j lj dj di cj ci o = excl-not (r j).tests (r i).tests (val i) (ok.writers j i lj l cj ci o) (above-meets j lj dj) (sym did-val ∙ di)

      alone-next : Alone (suc i)
      alone-next j k lj lk dj dk cj ck o = go (cases_order j i) (cases_order k i)
        where
          go : (j ≡ i) ⊎ ((j < i) ⊎ (i < j)) → (k ≡ i) ⊎ ((k < i) ⊎ (i < k)) → j ≡ k
          go (inl p) (inl q) = p ∙ sym q
          go (inl p) (inr (inl q)) = absurd (fresh k q dk (ap did (sym p) ∙ dj) ck (ap (λ m. (r m).sends) (sym p) ∙ cj) (sym o ∙ ap (λ m. (r m).out) p))
          go (inr (inl p)) (inl q) = absurd (fresh j p dj (ap did (sym q) ∙ dk) cj (ap (λ m. (r m).sends) (sym q) ∙ ck) (o ∙ ap (λ m. (r m).out) q))
          go (inr (inl p)) (inr (inl q)) = g.alone j k p q dj dk cj ck o
          go (inl p) (inr (inr q)) = absurd (omega arith)
          go (inr (inl p)) (inr (inr q)) = absurd (omega arith)
          go (inr (inr p)) q = absurd (omega arith)

      -- the word of a performed send is the valuation's
      send-word : did i ≡ true → (r i).sends ≡ true → val i (r i).out ≡ Some (word i)
      send-word d c = go (ok.copies i l c)
        where
          go : ((r i).one ≡ (r i).out) × ((r i).count ≡ 1) → val i (r i).out ≡ Some (word i)
          go (o, k) = from (supply-held (r i).st (r i).tests (r i).one (ok.first i l (omega arith)) d)
            where
              from : Held (at i) (r i).st (r i).one → val i (r i).out ≡ Some (word i)
              from (w, e) =
                  let b : word i ≡ w = cond-true (r i).sends _ _ c ∙ cond-true (ltb 0 (r i).count) _ _ (lt-ltb 0 (r i).count (omega arith)) ∙ ap word_of e in
                  let v : val i (r i).one ≡ Some w = g.coh i (omega arith) (r i).st (r i).one w e in
                  ap (val i) (sym o) ∙ v ∙ ap Some (sym b)

      val-next : (x w : ℕ) → val i x ≡ Some w → val (suc i) x ≡ Some w
      val-next = val-up (suc i) l alone-next i (omega arith)

      call-word : did i ≡ true → (r i).sends ≡ false → val (suc i) (r i).out ≡ Some (word i)
      unfolding pick
      call-word d c = ap (λ o. or_else o (basis (r i).out)) (cond-true (calls-it (r i).out i) _ _ (calls-from i d c))

      word_next : did i ≡ true → val (suc i) (r i).out ≡ Some (word i)
      word_next d = ⊎_elim (λ c. val-next _ _ (send-word d c)) (λ c. call-word d c) (cases_Bool (r i).sends)

      coh-next : (j : ℕ) → j ≤ suc i → (s x w : ℕ) → at j s x ≡ Some w → val (suc i) x ≡ Some w
      coh-next j lj s x w e = go (cases_order j (suc i))
        where
          at_top : (did i && (reaches (r i) s && eqb (r i).out x) ≡ true) ⊎ (did i && (reaches (r i) s && eqb (r i).out x) ≡ false) → at (suc i) s x ≡ Some w → val (suc i) x ≡ Some w
          at_top (inr q) z = val-next x w (g.coh i (omega arith) s x w (sym (row_step i s x ∙ cond-false _ _ _ q) ∙ z))
          at_top (inl q) z =
              let p = and_parts (did i) _ q in
              let o : (r i).out ≡ x = eqb-true _ _ (and_parts (reaches (r i) s) _ p.1).1 in
              let ww : Some (word i) ≡ Some w = sym (row_step i s x ∙ cond-true _ _ _ q) ∙ z in
              ap (val (suc i)) (sym o) ∙ word_next p.0 ∙ ww

          go : (j ≡ suc i) ⊎ ((j < suc i) ⊎ (suc i < j)) → val (suc i) x ≡ Some w
          go (inl q) = at_top (cases_Bool _) (ap (λ m. at m s x) (sym q) ∙ e)
          go (inr (inl q)) = val-next x w (g.coh j (omega arith) s x w e)
          go (inr (inr q)) = absurd (omega arith)

      good-next : Good (suc i)
      good-next = record {
        alone = alone-next;
        coh = coh-next;
        agree = λ j s lj k v up. agreeing j s lj k v up (cases_order j i);
      }
        where
          agreeing : (j s : ℕ) → j < suc i → Concerns (r j) s → (v : ℕ → Option ℕ) → ((x w : ℕ) → val j x ≡ Some w → v x ≡ Some w) → (j ≡ i) ⊎ ((j < i) ⊎ (i < j)) → all_meet (r j).tests (at j s) ≡ all_meet (r j).tests v
          agreeing j s lj k v up (inl q) = rw q (agree-now s (rw q at k) v (λ x w e. up x w (rw q e)))
          agreeing j s lj k v up (inr (inl q)) = g.agree j s q k v up
          agreeing j s lj k v up (inr (inr q)) = absurd (omega arith)

    pub good : (i : ℕ) → i ≤ n → Good i
    unfolding pick read_to
    good zero l = record {
      alone = λ j k lj. absurd (omega arith);
      coh = λ j lj s x w e. zero-coh j lj s x w e;
      agree = λ j s lj. absurd (omega arith);
    }
      where
        zero-coh : (j : ℕ) → j ≤ 0 → (s x w : ℕ) → at j s x ≡ Some w → val 0 x ≡ Some w
        zero-coh j lj s x w e = let z : j ≡ 0 = omega arith in ok.kept s x w (ap (λ m. at m s x) (sym z) ∙ e)
    good (suc i) l = good-next i l (good i (omega arith))

    -- performed exactly when the tests meet the cycle's valuation, at every station concerned
    pub did-final : (i s : ℕ) → i < n → Concerns (r i) s → all_meet (r i).tests (at i s) ≡ all_meet (r i).tests (val n)
    did-final i s l k = (good n (omega arith)).agree i s l k (val n) (val-up n (omega arith) (good n (omega arith)).alone i (omega arith))

    pub word-final : (i : ℕ) → i < n → did i ≡ true → val n (r i).out ≡ Some (word i)
    word-final i l d = val-up n (omega arith) (good n (omega arith)).alone (suc i) l (r i).out (word i) (word_next i l (good i (omega arith)) d)

    pub coh-final : (i s x w : ℕ) → i ≤ n → at i s x ≡ Some w → val n x ≡ Some w
    coh-final i s x w l e = (good n (omega arith)).coh i l s x w e

  pub one-valuation : OneValuation S next answer r a
  one-valuation n L basis ok = (val n L basis ok n, (λ s x w e. coh-final n L basis ok n s x w (omega arith) e), (λ i l. did-final n L basis ok i (r i).st l (inl refl)))
