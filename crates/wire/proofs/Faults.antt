-- What the fault of a number says of its bytes.
use Rattle.std.proofs.Common.{◌≡◌, ℕ, zero, suc, ◌-◌, ◌^◌, ◌<◌, ◌≤◌, Bool, true, false, cond, eqb, ltb, ◌⊎◌, List, [], ◌∷◌, ◌++◌, length, Ok, Err, Result, sym, ap, ◌∙◌, inl, inr, arith}
use Rattle.std.specs.List.{AllByRecursion}
use Rattle.std.proofs.lemmas.Bool.{cases_lt, lt-ltb, le-ltb, ne_eqb}
use Rattle.fault.specs.declared.refusal.Refusal.{Refusal}
use Rattle.fault.specs.declared.refusal.Refusal.TheVariants.{EndsEarly, NotShortest}
use Rattle.wire.specs.Numbers.{numeral, under}
use Rattle.wire.specs.Bytes.{bytes_of}
use Rattle.wire.proofs.Forms.{reads-back}

ok-err : {v : ℕ × ℕ} {x : Refusal} → ◌≡◌ {A = Result (ℕ × ℕ) Refusal} (Ok v) (Err x) → ⊥
ok-err e = let z : ◌≡◌ {A = ℕ} 0 1 = cc in omega arith

short-early : ◌≡◌ {A = Result (ℕ × ℕ) Refusal} (Err NotShortest) (Err EndsEarly) → ⊥
short-early e = let z : ◌≡◌ {A = ℕ} 0 1 = cc in omega arith

low-never : (left : ℕ) (first : Bool) (b : ℕ) (bs : List ℕ) → b < 128 → numeral left first (b ∷ bs) ≡ Err EndsEarly → ⊥
low-never left first b bs h e = go first (eqb b 0) (eqb left 0) (ltb 15 b) (rw (lt-ltb b 128 h) at e)
  where
    go : (f p q r : Bool)
        → ◌≡◌ {A = Result (ℕ × ℕ) Refusal} (cond p (cond f (Ok (0, 1)) (Err NotShortest)) (cond q (cond r (Err NotShortest) (Ok (b, 1))) (Ok (b, 1)))) (Err EndsEarly) → ⊥
    go true true q r w = ok-err w
    go false true q r w = short-early w
    go f false true true w = short-early w
    go f false true false w = ok-err w
    go f false false r w = ok-err w

under-err : (c : ℕ) (r : Result (ℕ × ℕ) Refusal) (x : Refusal) → under c r ≡ Err x → r ≡ Err x
under-err c (Ok v) x e = absurd (ok-err e)
under-err c (Err y) x e = e

high : (left : ℕ) (first : Bool) (b : ℕ) (bs : List ℕ) → 128 ≤ b → numeral (suc left) first (b ∷ bs) ≡ under (b - 128) (numeral left false bs)
high left first b bs h =
    let m : suc left - 1 ≡ left = omega arith in
    rw (le-ltb b 128 h, ne_eqb (suc left) 0 (omega arith), m)

-- Bytes that end too early are too few, and each announces another.
pub early : (left : ℕ) (first : Bool) (xs : List ℕ) → numeral left first xs ≡ Err EndsEarly → (length xs ≤ left) × AllByRecursion (λ b. 128 ≤ b) xs
early left first [] e = (omega arith, tt)
early zero first (b ∷ bs) e =
    elim (cases_lt b 128) [ inl h ↦ absurd (low-never 0 first b bs h e) | inr h ↦ absurd (short-early (rw (le-ltb b 128 h) at e)) ]
early (suc left) first (b ∷ bs) e =
    elim (cases_lt b 128) [
      | inl h ↦ absurd (low-never (suc left) first b bs h e)
      | inr h ↦
          let ih = early left false bs (under-err (b - 128) (numeral left false bs) EndsEarly (sym (high left first b bs h) ∙ e)) in
          (omega (arith, ih.0), (h, ih.1))
    ]

-- Bytes of no number stay so, whatever follows.
bad_more : (left : ℕ) (first : Bool) (xs more : List ℕ) → numeral left first xs ≡ Err NotShortest → numeral left first (xs ++ more) ≡ Err NotShortest
bad_more left first [] more e = absurd (short-early (sym e))
bad_more zero first (b ∷ bs) more e =
    elim (cases_lt b 128) [ inl h ↦ rw (lt-ltb b 128 h) (rw (lt-ltb b 128 h) at e) | inr h ↦ rw (le-ltb b 128 h) ]
bad_more (suc left) first (b ∷ bs) more e =
    elim (cases_lt b 128) [
      | inl h ↦ rw (lt-ltb b 128 h) (rw (lt-ltb b 128 h) at e)
      | inr h ↦
          let ih = bad_more left false bs more (under-err (b - 128) (numeral left false bs) NotShortest (sym (high left first b bs h) ∙ e)) in
          high left first b (bs ++ more) h ∙ ap (under (b - 128)) ih
    ]

pub no_number : (xs : List ℕ) → numeral 4 true xs ≡ Err NotShortest → (more rest : List ℕ) (n : ℕ) → n < 2 ^ 32 → xs ++ more ≡ bytes_of n ++ rest → ⊥
no_number xs e more rest n h q = ok-err (sym (reads-back n rest h) ∙ ap (numeral 4 true) (sym q) ∙ bad_more 4 true xs more e)

err-is : {x y : Refusal} → ◌≡◌ {A = Result (ℕ × ℕ) Refusal} (Err x) (Err y) → y ≡ x
err-is e = cc

low-kind : (left : ℕ) (first : Bool) (b : ℕ) (bs : List ℕ) (x : Refusal) → b < 128 → numeral left first (b ∷ bs) ≡ Err x → x ≡ NotShortest
low-kind left first b bs x h e = go first (eqb b 0) (eqb left 0) (ltb 15 b) (rw (lt-ltb b 128 h) at e)
  where
    go : (f p q r : Bool)
        → ◌≡◌ {A = Result (ℕ × ℕ) Refusal} (cond p (cond f (Ok (0, 1)) (Err NotShortest)) (cond q (cond r (Err NotShortest) (Ok (b, 1))) (Ok (b, 1)))) (Err x) → x ≡ NotShortest
    go true true q r w = absurd (ok-err w)
    go false true q r w = err-is w
    go f false true true w = err-is w
    go f false true false w = absurd (ok-err w)
    go f false false r w = absurd (ok-err w)

-- A number is refused for an early end or a bad form, and nothing else.
pub fault-kind : (left : ℕ) (first : Bool) (xs : List ℕ) (x : Refusal) → numeral left first xs ≡ Err x → (x ≡ EndsEarly) ⊎ (x ≡ NotShortest)
fault-kind left first [] x e = inl (err-is e)
fault-kind zero first (b ∷ bs) x e =
    elim (cases_lt b 128) [ inl h ↦ inr (low-kind 0 first b bs x h e) | inr h ↦ inr (err-is (rw (le-ltb b 128 h) at e)) ]
fault-kind (suc left) first (b ∷ bs) x e =
    elim (cases_lt b 128) [
      | inl h ↦ inr (low-kind (suc left) first b bs x h e)
      | inr h ↦ fault-kind left false bs x (under-err (b - 128) (numeral left false bs) x (sym (high left first b bs h) ∙ e))
    ]
