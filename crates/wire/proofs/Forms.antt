use Rattle.std.proofs.Common.{◌≡◌, ℕ, zero, suc, ◌+◌, ◌-◌, ◌*◌, ◌/◌, ◌%◌, ◌^◌, ◌<◌, ◌≤◌, Bool, true, false, cond, eqb, ltb, List, [], ◌∷◌, ◌++◌, length, get_or, take, Ok, Err, Result, sym, refl, ap, ◌∙◌, inl, inr, pow-suc, add-one, arith}
use Rattle.std.proofs.lemmas.List.{take_all}
use Rattle.std.proofs.lemmas.Bool.{true≢false, cases_lt, cases_eq, lt-ltb, le-ltb, eq-eqb, ne_eqb}
use Rattle.fault.specs.declared.refusal.Refusal.{Refusal}
use Rattle.fault.specs.declared.refusal.Refusal.TheVariants.{NotShortest}
use Rattle.wire.specs.Numbers.{numeral, under}
use Rattle.wire.proofs.Steps.{limit-some}
use Rattle.wire.specs.Bytes.{groups_of, ReadsBack, OneForm, SameBytes}

numeral-last : (left : ℕ) (first : Bool) (b : ℕ) (bs : List ℕ) → b < 128 → (b ≡ 0 → first ≡ true) → (left ≡ 0 → b ≤ 15)
    → numeral left first (b ∷ bs) ≡ Ok (b, 1)
numeral-last left first b bs h z f = grind arith

numeral-more : (left : ℕ) (first : Bool) (b : ℕ) (bs : List ℕ) (r : Result (ℕ × ℕ) Refusal) → 128 ≤ b → numeral left false bs ≡ r
    → numeral (suc left) first (b ∷ bs) ≡ under (b - 128) r
numeral-more left first b bs r h e =
    let p : suc left - 1 ≡ left = omega arith in
    rw (le-ltb b 128 h, ne_eqb (suc left) 0 (omega arith), p, e)

-- Reading what was written gives the number back.
back : (left : ℕ) (first : Bool) (n : ℕ) (rest : List ℕ) → n < 16 * 128 ^ left → (n ≡ 0 → first ≡ true)
    → numeral left first (groups_of left n ++ rest) ≡ Ok (n, length (groups_of left n))
back zero first n rest h z = numeral-last 0 first n rest (omega arith) z (λ _. omega arith)
back (suc left) first n rest h z =
    elim (cases_lt n 128) [
      | inl s ↦ rw (lt-ltb n 128 s) (numeral-last (suc left) first n rest s z (λ e. absurd (omega arith)))
      | inr s ↦
          let p = pow-suc 128 left in
          let q : n % 128 + 128 - 128 + 128 * (n / 128) ≡ n = omega arith in
          let ih = back left false (n / 128) rest (omega arith) (λ e. absurd (omega arith)) in
          rw (le-ltb n 128 s) (numeral-more left first (n % 128 + 128) (groups_of left (n / 128) ++ rest) _ (omega arith) ih ∙ rw (q, add-one))
    ]

pub reads-back : ReadsBack
reads-back n rest h = back 4 true n rest h (λ _. refl)

payload : Result (ℕ × ℕ) Refusal → ℕ × ℕ
payload (Ok p) = p
payload (Err x) = (0, 0)

same : {a b n k : ℕ} → ◌≡◌ {A = Result (ℕ × ℕ) Refusal} (Ok (a, b)) (Ok (n, k)) → (a ≡ n) × (b ≡ k)
unfolding payload
same e = (ap (λ (r : Result (ℕ × ℕ) Refusal). (payload r).0) e, ap (λ (r : Result (ℕ × ℕ) Refusal). (payload r).1) e)

never : {a : ℕ × ℕ} {x : Refusal} → ◌≡◌ {A = Result (ℕ × ℕ) Refusal} (Err x) (Ok a) → ⊥
never e = let z : ◌≡◌ {A = ℕ} 0 1 = cc in omega arith

under-ok : (c : ℕ) (r : Result (ℕ × ℕ) Refusal) (n k : ℕ) → under c r ≡ Ok (n, k)
    → (v : ℕ) × (j : ℕ) × (r ≡ Ok (v, j)) × (n ≡ c + 128 * v) × (k ≡ j + 1)
under-ok c (Ok vj) n k e = (vj.0, vj.1, refl, sym (same e).0, sym (same e).1)
under-ok c (Err x) n k e = absurd (never e)

zero-value : (first : Bool) (b n k : ℕ) → b ≡ 0 → ◌≡◌ {A = Result (ℕ × ℕ) Refusal} (cond first (Ok (0, 1)) (Err NotShortest)) (Ok (n, k))
    → (n ≡ b) × (k ≡ 1) × (first ≡ false → 0 < n)
zero-value true b n k z e = (sym (z ∙ (same e).0), sym (same e).1, λ q. absurd (true≢false q))
zero-value false b n k z e = absurd (never e)

some-value : (left b n k : ℕ)
    → ◌≡◌ {A = Result (ℕ × ℕ) Refusal} (cond (eqb left 0) (cond (ltb 15 b) (Err NotShortest) (Ok (b, 1))) (Ok (b, 1))) (Ok (n, k))
    → (n ≡ b) × (k ≡ 1)
some-value left b n k e = go (eqb left 0) (ltb 15 b) e
  where
    go : (x y : Bool) → ◌≡◌ {A = Result (ℕ × ℕ) Refusal} (cond x (cond y (Err NotShortest) (Ok (b, 1))) (Ok (b, 1))) (Ok (n, k)) → (n ≡ b) × (k ≡ 1)
    go true true e = absurd (never e)
    go true false e = (sym (same e).0, sym (same e).1)
    go false y e = (sym (same e).0, sym (same e).1)

last-value : (left : ℕ) (first : Bool) (b : ℕ) (bs : List ℕ) (n k : ℕ) → b < 128 → numeral left first (b ∷ bs) ≡ Ok (n, k)
    → (n ≡ b) × (k ≡ 1) × (first ≡ false → 0 < n)
last-value left first b bs n k h e =
    let e1 = rw (lt-ltb b 128 h) at e in
    elim (cases_eq b 0) [
      | inl z ↦ zero-value first b n k z (rw (eq-eqb b 0 z) at e1)
      | inr z ↦
          let e2 = rw (ne_eqb b 0 z) at e1 in
          let p = some-value left b n k e2 in
          (p.0, p.1, λ _. omega arith)
    ]

-- What was read is the written form of its value.
one : (left : ℕ) (first : Bool) (bs : List ℕ) (n k : ℕ) → ((i : ℕ) → get_or bs i 0 < 256) → numeral left first bs ≡ Ok (n, k)
    → (take k bs ≡ groups_of left n) × (first ≡ false → 0 < n)
one left first [] n k s e = absurd (never e)
one zero first (b ∷ bs) n k s e =
    elim (cases_lt b 128) [
      | inl h ↦ let p = last-value 0 first b bs n k h e in (rw (p.1, p.0) refl, p.2)
      | inr h ↦ absurd (never (rw (le-ltb b 128 h) at e))
    ]
one (suc left) first (b ∷ bs) n k s e =
    elim (cases_lt b 128) [
      | inl h ↦ let p = last-value (suc left) first b bs n k h e in (rw (p.1, p.0, lt-ltb b 128 h) refl, p.2)
      | inr h ↦
          let m : suc left - 1 ≡ left = omega arith in
          let u = under-ok (b - 128) (numeral left false bs) n k (rw (le-ltb b 128 h, ne_eqb (suc left) 0 (omega arith), m) at e) in
          let ih = one left false bs u.0 u.1 (λ i. s (suc i)) u.2 in
          let pos = ih.1 refl in
          let top = s 0 in
          let d : n / 128 ≡ u.0 = omega (arith, u.3) in
          let r : n % 128 + 128 ≡ b = omega (arith, u.3) in
          let big : 128 ≤ n = omega (arith, u.3) in
          (rw (u.4, add-one, le-ltb n 128 big, r, d) (ap (λ (l : List ℕ). b ∷ l) ih.0), λ _. omega arith)
    ]

pub one_form : OneForm
one_form bs n k s e = (one 4 true bs n k s e).0

pub same_bytes : SameBytes
same_bytes bs cs n p q e f =
    let x = one_form bs n (length bs) p e in
    let y = one_form cs n (length cs) q f in
    sym (take_all (length bs) bs (omega arith)) ∙ x ∙ sym y ∙ take_all (length cs) cs (omega arith)

never-top : (first : Bool) (b : ℕ) (bs : List ℕ) (n k : ℕ) → b < 128 → 15 < b → numeral 0 first (b ∷ bs) ≡ Ok (n, k) → ⊥
never-top first b bs n k h t e = never (rw (lt-ltb b 128 h, ne_eqb b 0 (omega arith), lt-ltb 15 b t) at e)

-- A number that was read takes no more bytes than there are, and keeps within its groups.
fits : (left : ℕ) (first : Bool) (bs : List ℕ) (n k : ℕ) → ((i : ℕ) → get_or bs i 0 < 256) → numeral left first bs ≡ Ok (n, k)
    → (k ≤ length bs) × (n < 16 * 128 ^ left)
fits left first [] n k s e = absurd (never e)
fits zero first (b ∷ bs) n k s e =
    elim (cases_lt b 128) [
      | inl h ↦
          let p = last-value 0 first b bs n k h e in
          elim (cases_lt 15 b) [
            | inl t ↦ absurd (never-top first b bs n k h t e)
            | inr t ↦ (omega (arith, p.1), omega (arith, p.0))
          ]
      | inr h ↦ absurd (never (rw (le-ltb b 128 h) at e))
    ]
fits (suc left) first (b ∷ bs) n k s e =
    let w = pow-suc 128 left in
    elim (cases_lt b 128) [
      | inl h ↦
          let p = last-value (suc left) first b bs n k h e in
          (omega (arith, p.1), omega (arith, p.0, limit-some left))
      | inr h ↦
          let m : suc left - 1 ≡ left = omega arith in
          let u = under-ok (b - 128) (numeral left false bs) n k (rw (le-ltb b 128 h, ne_eqb (suc left) 0 (omega arith), m) at e) in
          let ih = fits left false bs u.0 u.1 (λ i. s (suc i)) u.2 in
          let top = s 0 in
          (omega (arith, u.4, ih.0), omega (arith, u.3, ih.1))
    ]

pub number_fits : (bs : List ℕ) (n k : ℕ) → ((i : ℕ) → get_or bs i 0 < 256) → numeral 4 true bs ≡ Ok (n, k) → (k ≤ length bs) × (n < 2 ^ 32)
number_fits bs n k s e = fits 4 true bs n k s e

-- A number is read from its own bytes alone.
number-take : (left : ℕ) (first : Bool) (xs : List ℕ) (n k m : ℕ) → numeral left first xs ≡ Ok (n, k) → k ≤ m → numeral left first (take m xs) ≡ Ok (n, k)
number-take left first [] n k m e l = absurd (never e)
number-take left first (b ∷ bs) n k zero e l = absurd (go (numeral left first (b ∷ bs)) e (some left first b bs))
  where
    some : (left : ℕ) (first : Bool) (b : ℕ) (bs : List ℕ) → (n k : ℕ) → numeral left first (b ∷ bs) ≡ Ok (n, k) → 0 < k
    some left first b bs n k e =
        elim (cases_lt b 128) [
          | inl h ↦ omega (arith, (last-value left first b bs n k h e).1)
          | inr h ↦ high left (rw (le-ltb b 128 h) at e)
        ]
      where
        high : (left : ℕ) → cond (eqb left 0) (Err NotShortest) (under (b - 128) (numeral (left - 1) false bs)) ≡ Ok (n, k) → 0 < k
        high zero q = absurd (never q)
        high (suc left) q = omega (arith, (under-ok (b - 128) _ n k (rw (ne_eqb (suc left) 0 (omega arith)) at q)).4)

    go : (r : Result (ℕ × ℕ) Refusal) → r ≡ Ok (n, k) → ((n k : ℕ) → numeral left first (b ∷ bs) ≡ Ok (n, k) → 0 < k) → ⊥
    go r q f = let p : 0 < k = f n k e in omega arith
number-take zero first (b ∷ bs) n k (suc m) e l =
    elim (cases_lt b 128) [
      | inl h ↦ rw (lt-ltb b 128 h) (rw (lt-ltb b 128 h) at e)
      | inr h ↦ absurd (never (rw (le-ltb b 128 h) at e))
    ]
number-take (suc left) first (b ∷ bs) n k (suc m) e l =
    elim (cases_lt b 128) [
      | inl h ↦ rw (lt-ltb b 128 h) (rw (lt-ltb b 128 h) at e)
      | inr h ↦
          let m1 : suc left - 1 ≡ left = omega arith in
          let u = under-ok (b - 128) (numeral left false bs) n k (rw (le-ltb b 128 h, ne_eqb (suc left) 0 (omega arith), m1) at e) in
          let ih = number-take left false bs u.0 u.1 m u.2 (omega (arith, u.4)) in
          numeral-more left first b (take m bs) _ h ih ∙ rw (sym u.3, sym u.4)
    ]

pub number-local : (xs : List ℕ) (n k m : ℕ) → numeral 4 true xs ≡ Ok (n, k) → k ≤ m → numeral 4 true (take m xs) ≡ Ok (n, k)
number-local xs n k m e l = number-take 4 true xs n k m e l
