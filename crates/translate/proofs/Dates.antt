-- The dates of a program, and the first of them not before a date.
use Rattle.std.proofs.Common.{◌≡◌, ℕ, zero, suc, ◌+◌, ◌<◌, ◌≤◌, min, Bool, true, false, cond, ◌&&◌, ◌||◌, eqb, ltb, leb, ◌⊎◌, List, length, sym, refl, ap, ◌∙◌, subst, inl, inr, add-zero, zero-add, arith}
use Rattle.std.proofs.lemmas.Bool.{cases_Bool, cases_lt, cases_eq, cond-true, cond-false, and_parts, and_from, and_cases, or_parts, or_left, or_right, or_cases, eqb-true, eqb-false, eq-eqb, leb-true, leb-false, le-leb, lt-leb, lt-ltb, both_ways}
use Rattle.sheet.specs.declared.row.Row.{Row}
use Rattle.sheet.specs.Rows.{row_at}
use Rattle.translate.specs.Translation.{tests_in, belongs, date_of, is_due, some_due, is_date, first_among, first_date, row_length, rows_length}

-- What is below the next number and is not the number is below it.
lower : (i n : ℕ) → i < suc n → (i ≡ n → ⊥) → i < n
lower i n l e = grind arith

module _ (cycle : ℕ) (rows : List Row) (p : ℕ) where
  abbrev from : ℕ → ℕ → Bool
  from d n = belongs p (row_at rows n) && leb d (date_of (row_at rows n))

  -- One row more.
  pub first_more : (d n : ℕ) → first_among cycle rows p d (suc n) ≡ cond (from d n) (min (date_of (row_at rows n)) (first_among cycle rows p d n)) (first_among cycle rows p d n)
  unfolding first_among
  first_more d n = refl

  pub first-none : (d : ℕ) → first_among cycle rows p d 0 ≡ cycle
  unfolding first_among
  first-none d = refl

  pub first-top : (d n : ℕ) → first_among cycle rows p d n ≤ cycle
  unfolding first_among
  first-top d zero = omega arith
  first-top d (suc n) = go (from d n) (first-top d n)
    where
      go : (b : Bool) → first_among cycle rows p d n ≤ cycle → cond b (min (date_of (row_at rows n)) (first_among cycle rows p d n)) (first_among cycle rows p d n) ≤ cycle
      go true l = omega arith
      go false l = l

  pub first-least : (d n : ℕ) → d ≤ cycle → d ≤ first_among cycle rows p d n
  unfolding first_among
  first-least d zero l = l
  first-least d (suc n) l = go (cases_Bool (from d n)) (first-least d n l)
    where
      go : (from d n ≡ true) ⊎ (from d n ≡ false) → d ≤ first_among cycle rows p d n → d ≤ cond (from d n) (min (date_of (row_at rows n)) (first_among cycle rows p d n)) (first_among cycle rows p d n)
      go (inl q) a = rw (cond-true _ (min (date_of (row_at rows n)) (first_among cycle rows p d n)) (first_among cycle rows p d n) q) (omega (arith, leb-true _ _ (and_parts (belongs p (row_at rows n)) _ q).1))
      go (inr q) a = rw (cond-false _ (min (date_of (row_at rows n)) (first_among cycle rows p d n)) (first_among cycle rows p d n) q) a

  -- A first date before the end of the cycle is not before the date that was asked for.
  pub first-late : (d n : ℕ) → first_among cycle rows p d n < cycle → d ≤ first_among cycle rows p d n
  unfolding first_among
  first-late d zero l = absurd (omega arith)
  first-late d (suc n) l = go (cases_Bool (from d n)) (first-late d n) l
    where
      F : ℕ
      F = first_among cycle rows p d n

      D : ℕ
      D = date_of (row_at rows n)

      go : (from d n ≡ true) ⊎ (from d n ≡ false) → (F < cycle → d ≤ F) → cond (from d n) (min D F) F < cycle → d ≤ cond (from d n) (min D F) F
      go (inl q) ih l =
          let c : cond (from d n) (min D F) F ≡ min D F = cond-true _ _ _ q in
          let m = leb-true _ _ (and_parts (belongs p (row_at rows n)) _ q).1 in
          on (cases_lt F D) c m ih l
        where
          on : (F < D) ⊎ (D ≤ F) → cond (from d n) (min D F) F ≡ min D F → d ≤ D → (F < cycle → d ≤ F) → cond (from d n) (min D F) F < cycle → d ≤ cond (from d n) (min D F) F
          on (inl a) c m ih l = let i = ih (omega arith) in omega arith
          on (inr a) c m ih l = omega arith
      go (inr q) ih l = let c : cond (from d n) (min D F) F ≡ F = cond-false _ _ _ q in let i = ih (omega arith) in omega arith

  -- A date among the first n rows is the first not before itself.
  first-at : (d n : ℕ) → some_due cycle rows p d n ≡ true → first_among cycle rows p d n ≤ d
  unfolding some_due first_among
  first-at d zero q = absurd (both_ways _ refl q)
  first-at d (suc n) q = go (or_cases (is_due cycle rows p d n) _ q) (first-at d n)
    where
      F : ℕ
      F = first_among cycle rows p d n

      D : ℕ
      D = date_of (row_at rows n)

      go : (is_due cycle rows p d n ≡ true) ⊎ (some_due cycle rows p d n ≡ true) → (some_due cycle rows p d n ≡ true → F ≤ d) → cond (from d n) (min D F) F ≤ d
      go (inl x) ih =
          let a = and_parts (belongs p (row_at rows n)) _ x in
          let e : D ≡ d = eqb-true _ _ a.1 in
          rw (cond-true (from d n) (min D F) F (and_from _ _ a.0 (le-leb _ _ (omega arith)))) (omega arith)
      go (inr x) ih = on (from d n) (ih x)
        where
          on : (b : Bool) → F ≤ d → cond b (min D F) F ≤ d
          on true l = omega arith
          on false l = l

  pub first-here : (d : ℕ) → d ≤ cycle → is_date cycle rows p d ≡ true → first_date cycle rows p d ≡ d
  first-here d l q = omega (arith, first-least d (length rows) l, first-at d (length rows) q)

  -- Where d is no date, the first not before it is the first after it.
  pub first-skip : (d n : ℕ) → some_due cycle rows p d n ≡ false → first_among cycle rows p d n ≡ first_among cycle rows p (suc d) n
  unfolding some_due first_among
  first-skip d zero q = refl
  first-skip d (suc n) q =
      let a = or_parts (is_due cycle rows p d n) _ q in
      rw (same a.0, first-skip d n a.1)
    where
      D : ℕ
      D = date_of (row_at rows n)

      same : is_due cycle rows p d n ≡ false → from d n ≡ from (suc d) n
      same e = go (and_cases (belongs p (row_at rows n)) _ e)
        where
          go : (belongs p (row_at rows n) ≡ false) ⊎ (eqb D d ≡ false) → from d n ≡ from (suc d) n
          go (inl x) = rw x
          go (inr x) = ap (λ (z : Bool). belongs p (row_at rows n) && z) (on (cases_Bool (leb d D)))
            where
              on : (leb d D ≡ true) ⊎ (leb d D ≡ false) → leb d D ≡ leb (suc d) D
              on (inl y) = let g = eqb-false _ _ x in y ∙ sym (le-leb (suc d) D (omega (arith, leb-true _ _ y, late (leb-true _ _ y) g)))
                where
                  late : d ≤ D → (D ≡ d → ⊥) → suc d ≤ D
                  late l g = grind arith
              on (inr y) = y ∙ sym (lt-leb (suc d) D (omega (arith, leb-false _ _ y)))

  pub first-end : (n : ℕ) → first_among cycle rows p cycle n ≡ cycle
  first-end n = omega (arith, first-least cycle n (omega arith), first-top cycle n)

  -- The steps of the rows of a date, one row more at the end.
  pub rows-push : (d m i : ℕ) → rows_length cycle rows p d i (suc m) ≡ rows_length cycle rows p d i m + cond (is_due cycle rows p d (i + m)) (row_length cycle rows p (i + m)) 0
  unfolding rows_length
  rows-push d zero i = rw (add-zero i) (omega arith)
  rows-push d (suc m) i = let e = rows-push d m (suc i) in let z : i + suc m ≡ suc i + m = omega arith in rw z (omega arith)

  -- A date is one whose rows have steps.
  pub date-from-steps : (d n : ℕ) → some_due cycle rows p d n ≡ ltb 0 (rows_length cycle rows p d 0 n)
  unfolding some_due rows_length
  date-from-steps d zero = refl
  date-from-steps d (suc n) = rw (rows-push d n 0, zero-add n) (ap (λ (z : Bool). is_due cycle rows p d n || z) (date-from-steps d n) ∙ go (is_due cycle rows p d n) (rows_length cycle rows p d 0 n) (length (tests_in (row_at rows n))))
    where
      go : (b : Bool) (x k : ℕ) → (b || ltb 0 x) ≡ ltb 0 (x + cond b (k + 3) 0)
      go true x k = sym (lt-ltb 0 (x + (k + 3)) (omega arith))
      go false x k = rw add-zero

  -- What the first date is: the end of the cycle, or a row's.
  pub first-is : (d n : ℕ) → ((i : ℕ) × (i < n) × (belongs p (row_at rows i) ≡ true) × (date_of (row_at rows i) ≡ first_among cycle rows p d n)) ⊎ (first_among cycle rows p d n ≡ cycle)
  unfolding first_among
  first-is d zero = inr refl
  first-is d (suc n) = go (cases_Bool (from d n)) (first-is d n)
    where
      F : ℕ
      F = first_among cycle rows p d n

      D : ℕ
      D = date_of (row_at rows n)

      go : (from d n ≡ true) ⊎ (from d n ≡ false) → ((i : ℕ) × (i < n) × (belongs p (row_at rows i) ≡ true) × (date_of (row_at rows i) ≡ F)) ⊎ (F ≡ cycle)
          → ((i : ℕ) × (i < suc n) × (belongs p (row_at rows i) ≡ true) × (date_of (row_at rows i) ≡ cond (from d n) (min D F) F)) ⊎ (cond (from d n) (min D F) F ≡ cycle)
      go (inl q) ih = on (cases_lt D F) ih
        where
          c : cond (from d n) (min D F) F ≡ min D F
          c = cond-true _ _ _ q

          on : (D < F) ⊎ (F ≤ D) → ((i : ℕ) × (i < n) × (belongs p (row_at rows i) ≡ true) × (date_of (row_at rows i) ≡ F)) ⊎ (F ≡ cycle)
              → ((i : ℕ) × (i < suc n) × (belongs p (row_at rows i) ≡ true) × (date_of (row_at rows i) ≡ cond (from d n) (min D F) F)) ⊎ (cond (from d n) (min D F) F ≡ cycle)
          on (inl l) z = inl (n, omega arith, (and_parts (belongs p (row_at rows n)) _ q).0, omega (arith, c))
          on (inr l) (inl (i, a, b, e)) = inl (i, omega arith, b, omega (arith, c))
          on (inr l) (inr e) = inr (omega (arith, c))
      go (inr q) (inl (i, a, b, e)) = inl (i, omega arith, b, e ∙ sym (cond-false _ _ _ q))
      go (inr q) (inr e) = inr (cond-false _ _ _ q ∙ e)

  -- No row of the program has a date between.
  pub first-none-before : (d n i : ℕ) → i < n → belongs p (row_at rows i) ≡ true → d ≤ date_of (row_at rows i) → first_among cycle rows p d n ≤ date_of (row_at rows i)
  unfolding first_among
  first-none-before d zero i l b a = absurd (omega arith)
  first-none-before d (suc n) i l b a = go (cases_eq i n) (first-none-before d n i)
    where
      F : ℕ
      F = first_among cycle rows p d n

      D : ℕ
      D = date_of (row_at rows n)

      low : (z : Bool) → cond z (min D F) F ≤ F
      low true = omega arith
      low false = omega arith

      go : (i ≡ n) ⊎ (i ≡ n → ⊥) → (i < n → belongs p (row_at rows i) ≡ true → d ≤ date_of (row_at rows i) → F ≤ date_of (row_at rows i)) → cond (from d n) (min D F) F ≤ date_of (row_at rows i)
      go (inl e) ih =
          let m : belongs p (row_at rows n) ≡ true = subst (λ (k : ℕ). belongs p (row_at rows k) ≡ true) e b in
          let v : d ≤ D = subst (λ (k : ℕ). d ≤ date_of (row_at rows k)) e a in
          let w : D ≡ date_of (row_at rows i) = ap (λ (k : ℕ). date_of (row_at rows k)) (sym e) in
          let c : cond (from d n) (min D F) F ≡ min D F = cond-true _ _ _ (and_from _ _ m (le-leb _ _ v)) in
          omega arith
      go (inr e) ih = let x = low (from d n) in let y = ih (lower i n l e) b a in omega arith

  some_at : (d n i : ℕ) → i < n → is_due cycle rows p d i ≡ true → some_due cycle rows p d n ≡ true
  unfolding some_due
  some_at d zero i l e = absurd (omega arith)
  some_at d (suc n) i l e = go (cases_eq i n) (some_at d n i)
    where
      go : (i ≡ n) ⊎ (i ≡ n → ⊥) → (i < n → is_due cycle rows p d i ≡ true → some_due cycle rows p d n ≡ true) → (is_due cycle rows p d n || some_due cycle rows p d n) ≡ true
      go (inl z) ih = or_left _ _ (subst (λ (k : ℕ). is_due cycle rows p d k ≡ true) z e)
      go (inr z) ih = or_right (is_due cycle rows p d n) _ (ih (lower i n l z) e)

  -- The first date not before another is one, unless it is the end of the cycle.
  pub first-date : (d : ℕ) → first_date cycle rows p d < cycle → is_date cycle rows p (first_date cycle rows p d) ≡ true
  first-date d l = go (first-is d (length rows))
    where
      go : ((i : ℕ) × (i < length rows) × (belongs p (row_at rows i) ≡ true) × (date_of (row_at rows i) ≡ first_date cycle rows p d)) ⊎ (first_date cycle rows p d ≡ cycle)
          → is_date cycle rows p (first_date cycle rows p d) ≡ true
      go (inl (i, a, b, e)) = some_at (first_date cycle rows p d) (length rows) i a (and_from _ _ b (eq-eqb _ _ e))
      go (inr e) = absurd (omega arith)

  -- A date has a row.
  pub some-row : (d n : ℕ) → some_due cycle rows p d n ≡ true → (i : ℕ) × (i < n) × (belongs p (row_at rows i) ≡ true) × (date_of (row_at rows i) ≡ d)
  unfolding some_due
  some-row d zero e = absurd (both_ways _ refl e)
  some-row d (suc n) e = go (or_cases (is_due cycle rows p d n) _ e) (some-row d n)
    where
      go : (is_due cycle rows p d n ≡ true) ⊎ (some_due cycle rows p d n ≡ true) → (some_due cycle rows p d n ≡ true → (i : ℕ) × (i < n) × (belongs p (row_at rows i) ≡ true) × (date_of (row_at rows i) ≡ d))
          → (i : ℕ) × (i < suc n) × (belongs p (row_at rows i) ≡ true) × (date_of (row_at rows i) ≡ d)
      go (inl x) ih = let a = and_parts (belongs p (row_at rows n)) _ x in (n, omega arith, a.0, eqb-true _ _ a.1)
      go (inr x) ih = let r = ih x in (r.0, omega (arith, r.1), r.2, r.3)
