-- KEEP, CLEAR and GIVE, step by step, come to the station prepared at once.
use Rattle.std.proofs.Common.{◌≡◌, ℕ, zero, suc, ◌+◌, ◌*◌, ◌/◌, ◌<◌, ◌≤◌, Bool, true, false, cond, not, ◌&&◌, eqb, ltb, ◌⊎◌, List, [], ◌∷◌, ◌++◌, length, Some, Option, sym, refl, ap, ◌∙◌, ap₂, inl, inr, arith, length-append}
use mathlib.Core.Path.{fun_ext}
use Rattle.std.proofs.lemmas.Bool.{cases_Bool, cond-true, cond-false, eq-eqb, ne_eqb, eqb-true, lt-ltb, le-ltb, cases_eq, cases_lt}
use Rattle.schedule.specs.Rows.{Row}
use Rattle.plant.specs.Model.{Work}
use Rattle.schedule.specs.Pick.{pick}
use Rattle.schedule.specs.Program.{Step, Engine, Plain, heads}
use Rattle.schedule.specs.Machine.{Keep, Bench, is_line, take_in, or_first, keep_code, give_code, head_of, cells_at, prepared, wiped, engine}
use Rattle.schedule.proofs.Blocks.{heads-append}

plain-append : (c d : List Step) → Plain c → Plain d → Plain (c ++ d)
plain-append [] d p q = q
plain-append (x ∷ c) d (a, p) q = (a, plain-append c d p q)

plain-keep : (kp : ℕ → Keep) (s m : ℕ) → Plain (keep_code kp s m)
unfolding keep_code
plain-keep kp s zero = tt
plain-keep kp s (suc m) = plain-append (keep_code kp s m) _ (plain-keep kp s m) (go (eqb (kp m).st s))
  where
    go : (z : Bool) → Plain (cond z (Step.keep (kp m).from m ∷ []) [])
    go true = (refl, tt)
    go false = tt

plain-give : (kp : ℕ → Keep) (s m : ℕ) → Plain (give_code kp s m)
unfolding give_code
plain-give kp s zero = tt
plain-give kp s (suc m) = plain-append (give_code kp s m) _ (plain-give kp s m) (go (eqb (kp m).st s))
  where
    go : (z : Bool) → Plain (cond z (Step.give m (kp m).into (kp m).first ∷ []) [])
    go true = (refl, tt)
    go false = tt

pub head_plain : (kp : ℕ → Keep) (nk j : ℕ) → Plain (head_of kp nk j)
head_plain kp nk j = go (is_line j)
  where
    go : (z : Bool) → Plain (cond z [] (keep_code kp (j / 2) nk ++ (Step.clear ∷ give_code kp (j / 2) nk)))
    go true = tt
    go false = plain-append (keep_code kp (j / 2) nk) _ (plain-keep kp (j / 2) nk) (refl, plain-give kp (j / 2) nk)

-- Booleans
gift : {A : Type 0} (a z i : Bool) (x y u : A) → z ≡ true → cond (a && i) x (cond a y u) ≡ cond a (cond (z && i) x y) u
gift true z i x y u q = ap (λ v. cond (v && i) x y) (sym q)
gift false z i x y u q = refl

no-gift : {A : Type 0} (a z i : Bool) (x y u : A) → z ≡ false → cond a y u ≡ cond a (cond (z && i) x y) u
no-gift true z i x y u q = ap (λ v. cond (v && i) x y) (sym q)
no-gift false z i x y u q = refl

module _ {S : Type 0} (next : S → Work → S) (answer : S → Work → ℕ) (knows : ℕ → ℕ → ℕ → Bool) (r : ℕ → Row) (n L : ℕ) (kp : ℕ → Keep) (nk j T : ℕ) where
  abbrev e : Engine (Bench S)
  e = engine next answer knows r n L kp nk j T

  abbrev s : ℕ
  s = j / 2

  -- only the cells are elsewhere
  abbrev with_cells : Bench S → (ℕ → Option ℕ) → Bench S
  with_cells b c = record { places = b.places; cells = c; plant = b.plant; units = b.units; line = b.line; mark = b.mark }

  abbrev cells_to : ℕ → Bench S → ℕ → Option ℕ
  cells_to m b i = cond (ltb i m && eqb (kp i).st s) (take_in (b.places s (kp i).from) (b.cells i)) (b.cells i)

  one-keep : (m : ℕ) (b : Bench S) → heads e (cond (eqb (kp m).st s) (Step.keep (kp m).from m ∷ []) []) (with_cells b (cells_to m b)) ≡ with_cells b (cells_to (suc m) b)
  unfolding heads
  one-keep m b = go (cases_Bool (eqb (kp m).st s))
    where
      Here : Bool → Bench S
      Here z = heads e (cond z (Step.keep (kp m).from m ∷ []) []) (with_cells b (cells_to m b))

      lower : (i : ℕ) → (m ≡ i → ⊥) → ltb i m ≡ ltb i (suc m)
      lower i ne = on (cases_lt i m)
        where
          on : (i < m) ⊎ (m ≤ i) → ltb i m ≡ ltb i (suc m)
          on (inl l) = lt-ltb i m l ∙ sym (lt-ltb i (suc m) (omega arith))
          on (inr l) = le-ltb i m l ∙ sym (le-ltb i (suc m) (less i l ne))
            where
              less : (i : ℕ) → m ≤ i → (m ≡ i → ⊥) → suc m ≤ i
              less i l ne = omega arith

      other : (i : ℕ) → (m ≡ i → ⊥) → cells_to m b i ≡ cells_to (suc m) b i
      other i ne = ap (λ z. cond (z && eqb (kp i).st s) (take_in (b.places s (kp i).from) (b.cells i)) (b.cells i)) (lower i ne)

      own_old : cells_to m b m ≡ b.cells m
      own_old = ap (λ z. cond (z && eqb (kp m).st s) (take_in (b.places s (kp m).from) (b.cells m)) (b.cells m)) (le-ltb m m (omega arith))

      go : (eqb (kp m).st s ≡ true) ⊎ (eqb (kp m).st s ≡ false) → Here (eqb (kp m).st s) ≡ with_cells b (cells_to (suc m) b)
      go (inl q) = ap Here q ∙ ap (with_cells b) (fun_ext (λ i. at i (cases_eq m i)))
        where
          own_new : cells_to (suc m) b m ≡ take_in (b.places s (kp m).from) (b.cells m)
          own_new = ap₂ (λ y z. cond (y && z) (take_in (b.places s (kp m).from) (b.cells m)) (b.cells m)) (lt-ltb m (suc m) (omega arith)) q

          at : (i : ℕ) → (m ≡ i) ⊎ (m ≡ i → ⊥) → cond (eqb m i) (take_in (b.places s (kp m).from) (cells_to m b m)) (cells_to m b i) ≡ cells_to (suc m) b i
          at i (inl w) = cond-true _ _ _ (eq-eqb _ _ w) ∙ ap (take_in (b.places s (kp m).from)) own_old ∙ sym own_new ∙ ap (cells_to (suc m) b) w
          at i (inr w) = cond-false _ _ _ (ne_eqb _ _ w) ∙ other i w
      go (inr q) = ap Here q ∙ ap (with_cells b) (fun_ext (λ i. at i (cases_eq m i)))
        where
          at : (i : ℕ) → (m ≡ i) ⊎ (m ≡ i → ⊥) → cells_to m b i ≡ cells_to (suc m) b i
          at i (inr w) = other i w
          at i (inl w) = ap (cells_to m b) (sym w) ∙ own_old ∙ sym (ap₂ (λ y z. cond (y && z) (take_in (b.places s (kp m).from) (b.cells m)) (b.cells m)) (lt-ltb m (suc m) (omega arith)) q) ∙ ap (cells_to (suc m) b) w

  keeps : (m : ℕ) (b : Bench S) → heads e (keep_code kp s m) b ≡ with_cells b (cells_to m b)
  unfolding heads keep_code
  keeps zero b = ap (with_cells b) (fun_ext (λ i. sym (ap (λ z. cond (z && eqb (kp i).st s) (take_in (b.places s (kp i).from) (b.cells i)) (b.cells i)) (le-ltb i 0 (omega arith)))))
  keeps (suc m) b = heads-append e (keep_code kp s m) _ b ∙ ap (heads e (cond (eqb (kp m).st s) (Step.keep (kp m).from m ∷ []) [])) (keeps m b) ∙ one-keep m b

  all-cells : (b : Bench S) (i : ℕ) → cells_to nk b i ≡ cells_at next answer knows r n L kp nk s b i
  all-cells b i = go (cases_Bool (eqb (kp i).st s))
    where
      mix : (y z : Bool) (u v : Option ℕ) → z ≡ true → cond (y && z) u v ≡ cond z (cond y u v) v
      mix true true u v q = refl
      mix false true u v q = refl
      mix true false u v q = refl
      mix false false u v q = refl

      out : (y z : Bool) (u v x : Option ℕ) → z ≡ false → cond (y && z) u v ≡ cond z x v
      out true true u v x q = absurd (absurd-true q)
        where
          absurd-true : true ≡ false → ⊥
          absurd-true q = let z : ◌≡◌ {A = ℕ} 0 1 = cc in omega arith
      out false true u v x q = absurd (absurd-true q)
        where
          absurd-true : true ≡ false → ⊥
          absurd-true q = let z : ◌≡◌ {A = ℕ} 0 1 = cc in omega arith
      out true false u v x q = refl
      out false false u v x q = refl

      go : (eqb (kp i).st s ≡ true) ⊎ (eqb (kp i).st s ≡ false) → cells_to nk b i ≡ cells_at next answer knows r n L kp nk s b i
      go (inl q) = ap (λ k. cond (ltb i nk && eqb (kp i).st s) (take_in (b.places k (kp i).from) (b.cells i)) (b.cells i)) (sym (eqb-true _ _ q))
          ∙ mix (ltb i nk) (eqb (kp i).st s) (take_in (b.places (kp i).st (kp i).from) (b.cells i)) (b.cells i) q
      go (inr q) = out (ltb i nk) (eqb (kp i).st s) _ (b.cells i) _ q

  -- what the keep rows below m have given
  abbrev given_to : ℕ → Bench S → Bench S
  given_to m b = record {
    places = λ q x. cond (eqb s q) (pick (λ i. eqb (kp i).st s && eqb (kp i).into x) (λ i. or_first (b.cells i) (kp i).first) m) (b.places q x);
    cells = b.cells;
    plant = b.plant;
    units = b.units;
    line = b.line;
    mark = b.mark;
  }

  abbrev with_places : Bench S → (ℕ → ℕ → Option ℕ) → Bench S
  with_places b p = record { places = p; cells = b.cells; plant = b.plant; units = b.units; line = b.line; mark = b.mark }

  one-give : (m : ℕ) (b : Bench S) → heads e (cond (eqb (kp m).st s) (Step.give m (kp m).into (kp m).first ∷ []) []) (given_to m b) ≡ given_to (suc m) b
  unfolding heads pick
  one-give m b = go (cases_Bool (eqb (kp m).st s))
    where
      Here : Bool → Bench S
      Here z = heads e (cond z (Step.give m (kp m).into (kp m).first ∷ []) []) (given_to m b)

      so_far : ℕ → Option ℕ
      so_far x = pick (λ i. eqb (kp i).st s && eqb (kp i).into x) (λ i. or_first (b.cells i) (kp i).first) m

      go : (eqb (kp m).st s ≡ true) ⊎ (eqb (kp m).st s ≡ false) → Here (eqb (kp m).st s) ≡ given_to (suc m) b
      go (inl q) = ap Here q ∙ ap (with_places b) (fun_ext (λ k. fun_ext (λ x. gift (eqb s k) (eqb (kp m).st s) (eqb (kp m).into x) (Some (or_first (b.cells m) (kp m).first)) (so_far x) (b.places k x) q)))
      go (inr q) = ap Here q ∙ ap (with_places b) (fun_ext (λ k. fun_ext (λ x. no-gift (eqb s k) (eqb (kp m).st s) (eqb (kp m).into x) (Some (or_first (b.cells m) (kp m).first)) (so_far x) (b.places k x) q)))

  gives_all : (m : ℕ) (b : Bench S) → heads e (give_code kp s m) (wiped next answer knows r n L kp nk s b) ≡ given_to m b
  unfolding heads give_code pick
  gives_all zero b = refl
  gives_all (suc m) b = heads-append e (give_code kp s m) _ (wiped next answer knows r n L kp nk s b) ∙ ap (heads e (cond (eqb (kp m).st s) (Step.give m (kp m).into (kp m).first ∷ []) [])) (gives_all m b) ∙ one-give m b

  work-head : (b : Bench S) → heads e (keep_code kp s nk ++ (Step.clear ∷ give_code kp s nk)) b ≡ prepared next answer knows r n L kp nk s b
  unfolding heads
  work-head b = heads-append e (keep_code kp s nk) (Step.clear ∷ give_code kp s nk) b
      ∙ ap (λ c. heads e (give_code kp s nk) (wiped next answer knows r n L kp nk s c)) (keeps nk b)
      ∙ gives_all nk (with_cells b (cells_to nk b))
      ∙ ap (λ c. given_to nk (with_cells b c)) (fun_ext (all-cells b))

  pub head-runs : (b : Bench S) → heads e (head_of kp nk j) b ≡ cond (not (is_line j)) (prepared next answer knows r n L kp nk s b) b
  unfolding heads
  head-runs b = go (is_line j)
    where
      go : (z : Bool) → heads e (cond z [] (keep_code kp s nk ++ (Step.clear ∷ give_code kp s nk))) b ≡ cond (not z) (prepared next answer knows r n L kp nk s b) b
      go true = refl
      go false = work-head b

-- how many steps that is
length-keep : (kp : ℕ → Keep) (s m : ℕ) → length (keep_code kp s m) ≤ m
unfolding keep_code
length-keep kp s zero = omega arith
length-keep kp s (suc m) = let a = length-append (keep_code kp s m) (cond (eqb (kp m).st s) (Step.keep (kp m).from m ∷ []) []) in omega (arith, length-keep kp s m, go (eqb (kp m).st s))
  where
    go : (z : Bool) → length (cond z (Step.keep (kp m).from m ∷ []) []) ≤ 1
    go true = omega arith
    go false = omega arith

length-give : (kp : ℕ → Keep) (s m : ℕ) → length (give_code kp s m) ≤ m
unfolding give_code
length-give kp s zero = omega arith
length-give kp s (suc m) = let a = length-append (give_code kp s m) (cond (eqb (kp m).st s) (Step.give m (kp m).into (kp m).first ∷ []) []) in omega (arith, length-give kp s m, go (eqb (kp m).st s))
  where
    go : (z : Bool) → length (cond z (Step.give m (kp m).into (kp m).first ∷ []) []) ≤ 1
    go true = omega arith
    go false = omega arith

pub length-head : (kp : ℕ → Keep) (nk j : ℕ) → length (head_of kp nk j) ≤ 2 * nk + 1
length-head kp nk j = go (is_line j)
  where
    go : (z : Bool) → length (cond z [] (keep_code kp (j / 2) nk ++ (Step.clear ∷ give_code kp (j / 2) nk))) ≤ 2 * nk + 1
    go true = omega arith
    go false = omega (arith, length-append (keep_code kp (j / 2) nk) (Step.clear ∷ give_code kp (j / 2) nk), length-keep kp (j / 2) nk, length-give kp (j / 2) nk)
