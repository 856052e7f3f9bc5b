-- From marks by recursion to marks over cycles.
use Rattle.std.proofs.Common.{◌≡◌, ℕ, zero, suc, ◌+◌, ◌*◌, ◌<◌, ◌≤◌, Bool, true, false, cond, ◌&&◌, ltb, ◌⊎◌, Some, None, sym, refl, ap, ◌∙◌, subst, inl, inr, ⊎_elim, add-zero, add-suc, zero-mul, arith}
use Rattle.std.proofs.lemmas.Bool.{cases_Bool, cond-true, cond-false, and_right, lt-ltb, le-ltb, cases_lt, cases_order, both_ways}
use Rattle.schedule.specs.Rows.{Row}
use Rattle.plant.specs.Model.{Work}
use Rattle.schedule.specs.Plants.{Lawful}
use Rattle.schedule.specs.Machine.{Keep, Bench, Mark, ticks}
use Rattle.schedule.specs.Cycles.{performs, mark_in, mark_after, blank_mark}
use Rattle.schedule.specs.Marks.{countb, counts, told, MarkIs, MarksStand}
use Rattle.schedule.proofs.Apart.{cycles-up}
use Rattle.schedule.proofs.Whole.{run-stands}

-- COUNTS
count-off : (P : ℕ → Bool) (a d : ℕ) → ((k : ℕ) → a ≤ k → P k ≡ false) → countb P (a + d) ≡ countb P a
unfolding countb
count-off P a zero h = ap (countb P) (add-zero a)
count-off P a (suc d) h = ap (countb P) (add-suc a d) ∙ cond-false _ _ _ (h (a + d) (omega arith)) ∙ count-off P a d h

-- past all that pass the bound does not matter
count-any : (P : ℕ → Bool) (a b : ℕ) → ((k : ℕ) → a ≤ k → P k ≡ false) → ((k : ℕ) → b ≤ k → P k ≡ false) → countb P a ≡ countb P b
count-any P a b ha hb = let e : a + b ≡ b + a = omega arith in sym (count-off P a b ha) ∙ ap (countb P) e ∙ count-off P b a hb

-- a mark that has the count of the indices below a bound, and what f has of the greatest
module _ (P : ℕ → Bool) (f : ℕ → ℕ → Mark) (counted : (q c : ℕ) → (f q c).count ≡ c) where
  record Upto (B : ℕ) (x : Mark) : Type 0 where
    count : x.count ≡ countb P B
    latest : (((q : ℕ) → q < B → P q ≡ false) × (x ≡ blank_mark))
        ⊎ ((q : ℕ) × (P q ≡ true) × ((q' : ℕ) → q' < B → P q' ≡ true → q' ≤ q) × (x ≡ f q x.count))

  none_yet : Upto 0 blank_mark
  unfolding countb
  none_yet = record { count = refl; latest = inl ((λ q l. absurd (omega arith)), refl) }

  one_more : (B : ℕ) (x : Mark) → Upto B x → Upto (suc B) (cond (P B) (f B (suc x.count)) x)
  unfolding countb
  one_more B x u = go (cases_Bool (P B))
    where
      y : Mark
      y = cond (P B) (f B (suc x.count)) x

      go : (P B ≡ true) ⊎ (P B ≡ false) → Upto (suc B) y
      go (inl q) =
          let e : y ≡ f B (suc x.count) = cond-true _ _ _ q in
          let n : y.count ≡ suc x.count = ap (λ (m : Mark). m.count) e ∙ counted B (suc x.count) in
          record {
            count = n ∙ ap suc u.count ∙ sym (cond-true (P B) _ _ q);
            latest = inr (B, q, (λ q' l t. omega arith), e ∙ ap (f B) (sym n));
          }
      go (inr q) =
          let e : y ≡ x = cond-false _ _ _ q in
          record {
            count = ap (λ (m : Mark). m.count) e ∙ u.count ∙ sym (cond-false (P B) _ _ q);
            latest = subst (λ (z : Mark). (((k : ℕ) → k < suc B → P k ≡ false) × (z ≡ blank_mark)) ⊎ ((k : ℕ) × (P k ≡ true) × ((k' : ℕ) → k' < suc B → P k' ≡ true → k' ≤ k) × (z ≡ f k z.count))) (sym e) (on u.latest);
          }
        where
          on : (((k : ℕ) → k < B → P k ≡ false) × (x ≡ blank_mark)) ⊎ ((k : ℕ) × (P k ≡ true) × ((k' : ℕ) → k' < B → P k' ≡ true → k' ≤ k) × (x ≡ f k x.count))
              → (((k : ℕ) → k < suc B → P k ≡ false) × (x ≡ blank_mark)) ⊎ ((k : ℕ) × (P k ≡ true) × ((k' : ℕ) → k' < suc B → P k' ≡ true → k' ≤ k) × (x ≡ f k x.count))
          on (inl (h, z)) = inl ((λ k l. all k l (cases_order k B)), z)
            where
              all : (k : ℕ) → k < suc B → (k ≡ B) ⊎ ((k < B) ⊎ (B < k)) → P k ≡ false
              all k l (inl w) = ap P w ∙ q
              all k l (inr (inl w)) = h k w
              all k l (inr (inr w)) = absurd (omega arith)
          on (inr (k, t, h, z)) = inr (k, t, (λ k' l s. all k' l s (cases_order k' B)), z)
            where
              all : (k' : ℕ) → k' < suc B → P k' ≡ true → (k' ≡ B) ⊎ ((k' < B) ⊎ (B < k')) → k' ≤ k
              all k' l s (inl w) = absurd (both_ways (P B) q (ap P (sym w) ∙ s))
              all k' l s (inr (inl w)) = h k' w s
              all k' l s (inr (inr w)) = absurd (omega arith)

-- any number of ticks is some cycles and a part of one
split-ticks : (L : ℕ) → 0 < L → (m : ℕ) → (q : ℕ) × (t : ℕ) × (m ≡ q * L + t) × (t < L)
split-ticks L pos zero = (0, 0, sym (ap (λ z. z + 0) (zero-mul L)), pos)
split-ticks L pos (suc m) = go (split-ticks L pos m)
  where
    go : (q : ℕ) × (t : ℕ) × (m ≡ q * L + t) × (t < L) → (q : ℕ) × (t : ℕ) × (suc m ≡ q * L + t) × (t < L)
    go (q, t, e, l) = on (cases_lt (suc t) L)
      where
        on : (suc t < L) ⊎ (L ≤ suc t) → (q : ℕ) × (t : ℕ) × (suc m ≡ q * L + t) × (t < L)
        on (inl h) = (q, suc t, omega arith, h)
        on (inr h) = let k : suc q * L ≡ q * L + L = omega arith in (suc q, 0, omega arith, pos)

-- the same number on both sides
ltb-add : (a x t : ℕ) → ltb (a + x) (a + t) ≡ ltb x t
ltb-add a x t = go (cases_lt x t)
  where
    go : (x < t) ⊎ (t ≤ x) → ltb (a + x) (a + t) ≡ ltb x t
    go (inl h) = lt-ltb (a + x) (a + t) (omega arith) ∙ sym (lt-ltb x t h)
    go (inr h) = le-ltb (a + x) (a + t) (omega arith) ∙ sym (le-ltb x t h)

module _ {S : Type 0} (next : S → Work → S) (answer : S → Work → ℕ) (knows : ℕ → ℕ → ℕ → Bool) (r : ℕ → Row) (n L : ℕ) (kp : ℕ → Keep) (nk : ℕ) (p : S)
    (q t k : ℕ) (lt : t < L) (early : (r k).date < L) where
  abbrev m : ℕ
  m = q * L + t

  abbrev does : ℕ → Bool
  does j = performs next answer knows r n L kp nk p j k

  abbrev P : ℕ → Bool
  P = counts next answer knows r n L kp nk p m k

  abbrev f : ℕ → ℕ → Mark
  f = told next answer knows r n L kp nk p k

  abbrev so_far : ℕ → Mark
  so_far j = mark_after next answer knows r n L kp nk p j k

  past : (j : ℕ) → j < q → does j ≡ P j
  past j l = sym (front (does j) _ (lt-ltb (j * L + (r k).date) m (omega (arith, cycles-up j q L l))))
    where
      front : (x y : Bool) → y ≡ true → x && y ≡ x
      front true y e = e
      front false y e = refl

  now : does q && ltb (r k).date t ≡ P q
  now = ap (λ z. does q && z) (sym (ltb-add (q * L) (r k).date t))

  later : (j : ℕ) → suc q ≤ j → P j ≡ false
  later j l = and_right (does j) _ (le-ltb (j * L + (r k).date) m (omega (arith, cycles-up q j L l)))

  beyond : (j : ℕ) → m ≤ j → P j ≡ false
  beyond j l = and_right (does j) _ (le-ltb (j * L + (r k).date) m (omega (arith, up j)))
    where
      up : (j : ℕ) → j ≤ j * L
      up zero = omega arith
      up (suc j) = let a = up j in let e : suc j * L ≡ j * L + L = omega arith in omega arith

  upto : (j : ℕ) → j ≤ q → Upto P f (λ x c. refl) j (so_far j)
  unfolding mark_after
  upto zero l = none_yet P f (λ x c. refl)
  upto (suc j) l = subst (λ z. Upto P f (λ x c. refl) (suc j) (cond z (f j (suc (so_far j).count)) (so_far j))) (sym (past j l)) (one_more P f (λ x c. refl) j (so_far j) (upto j (omega arith)))

  mark-is : (x : Mark) → x ≡ cond (does q && ltb (r k).date t) (mark_in next answer knows r n L kp nk p q k (so_far q)) (so_far q) → MarkIs next answer knows r n L kp nk p m k x
  mark-is x e = go (subst (Upto P f (λ x c. refl) (suc q)) (sym (e ∙ ap (λ z. cond z (f q (suc (so_far q).count)) (so_far q)) now)) (one_more P f (λ x c. refl) q (so_far q) (upto q (omega arith))))
    where
      go : Upto P f (λ x c. refl) (suc q) x → MarkIs next answer knows r n L kp nk p m k x
      go u = record {
        count = λ bound l. u.count ∙ count-any P (suc q) bound later (λ j h. beyond j (omega arith));
        latest = on u.latest;
      }
        where
          on : (((j : ℕ) → j < suc q → P j ≡ false) × (x ≡ blank_mark)) ⊎ ((j : ℕ) × (P j ≡ true) × ((j' : ℕ) → j' < suc q → P j' ≡ true → j' ≤ j) × (x ≡ f j x.count))
              → (((j : ℕ) → P j ≡ false) × (x ≡ blank_mark)) ⊎ ((j : ℕ) × (P j ≡ true) × ((j' : ℕ) → P j' ≡ true → j' ≤ j) × (x ≡ f j x.count))
          on (inl (h, z)) = inl ((λ j. ⊎_elim (h j) (later j) (cases_lt j (suc q))), z)
          on (inr (j, s, h, z)) = inr (j, s, (λ j' s'. ⊎_elim (λ l. h j' l s') (λ l. absurd (both_ways (P j') (later j' l) s')) (cases_lt j' (suc q))), z)

pub marks-stand : {S : Type 0} (next : S → Work → S) (answer : S → Work → ℕ) → Lawful S next answer → MarksStand S next answer
marks-stand {S = S} next answer law knows r n L kp nk stations basis b pos_l kin ok fit made m = go (split-ticks L pos_l m)
  where
    Goal : ℕ → Type 0
    Goal m = (c : Bench S) × (ticks next answer knows r n L kp nk (2 * stations) 0 m b ≡ Some c) × ((k : ℕ) → k < n → MarkIs next answer knows r n L kp nk b.plant m k (c.mark k))

    go : (q : ℕ) × (t : ℕ) × (m ≡ q * L + t) × (t < L) → Goal m
    go (q, t, e, l) = subst Goal (sym e) (on ((run-stands next answer law knows r n L kp nk stations basis b pos_l kin ok fit made).1 q t (omega arith)))
      where
        early : (k : ℕ) → k < n → (r k).date < L
        early k lk = omega (arith, (ok (λ m. None)).long k lk, (ok (λ m. None)).inside k lk)

        on : (c : Bench S) × (ticks next answer knows r n L kp nk (2 * stations) 0 (q * L + t) b ≡ Some c)
            × ((k : ℕ) → k < n → c.mark k ≡ cond (performs next answer knows r n L kp nk b.plant q k && ltb (r k).date t) (mark_in next answer knows r n L kp nk b.plant q k (mark_after next answer knows r n L kp nk b.plant q k)) (mark_after next answer knows r n L kp nk b.plant q k)) → Goal (q * L + t)
        on (c, z, x) = (c, z, λ k lk. mark-is next answer knows r n L kp nk b.plant q t k l (early k lk) (c.mark k) (x k lk))
