-- A number written with blanks up to a width stands in a column.
use Rattle.std.proofs.Common.{◌≡◌, ℕ, zero, suc, ◌+◌, ◌-◌, ◌/◌, ◌%◌, ◌^◌, ◌<◌, ◌≤◌, false, cond, ltb, List, [], ◌∷◌, ◌++◌, length, refl, ap, ◌∙◌, inl, inr, pow-suc, lit<, arith, append-nil, length-append}
use native.Mathlib.Nat.{one-le-pow}
use Rattle.std.specs.Char.{encode_utf8}
use Rattle.std.proofs.lemmas.Bool.{ne_eqb, cases_lt, lt-ltb, le-ltb}
use Rattle.std.proofs.lemmas.Fmt.{decimal_step, decimal_nonempty, length-decimal-le}
use Rattle.std.specs.Prelude.{decimal, replicate, codes}
use Rattle.std.specs.List.{repeat}
use Rattle.std.specs.Fmt.{styled_decimal, format_spec, padded_integral, char_count}
use Rattle.text.specs.Rows.{column}

blanks : (k : ℕ) → repeat k (encode_utf8 32) ≡ replicate k 32
unfolding encode_utf8
blanks zero = refl
blanks (suc k) = ap (λ (xs : List ℕ). 32 ∷ xs) (blanks k)

padded : (w n : ℕ) → padded_integral (format_spec 32 3 0 w 18446744073709551615) false [] (decimal n) ≡ column w n
unfolding padded_integral char_count column
padded w n =
    let L = length (decimal n) in
    let p : w - L - 0 - 0 ≡ w - L = omega arith in
    let q : w - L - (w - L) ≡ 0 = omega arith in
    rw (p, q, blanks (w - L)) (simp append-nil)

pub styled : (w n : ℕ) → styled_decimal (format_spec 32 3 0 w 18446744073709551615) n ≡ column w n
unfolding column
styled zero n = let e : 0 - length (decimal n) ≡ 0 = omega arith in rw e
styled (suc w) n = rw (ne_eqb (suc w) 0 (omega arith)) (padded (suc w) n)

-- How long a number is, and so the columns of three and five by their cases.
longer : (k n : ℕ) → 10 ^ k ≤ n → n < 2 ^ 64 → k + 1 ≤ length (decimal n)
longer zero n h f = decimal_nonempty n f
longer (suc k) n h f =
    let p = pow-suc 10 k in
    let one = one-le-pow k 10 (lit< tt) in
    let s = decimal_step n (omega arith) f in
    let l = ap length s ∙ length-append (decimal (n / 10)) ((48 + n % 10) ∷ []) in
    omega (arith, l, longer k (n / 10) (omega arith) (omega arith))

pub three-cases : (n : ℕ) → n < 2 ^ 64 → column 3 n ≡ cond (ltb n 10) (codes "  " ++ decimal n) (cond (ltb n 100) (codes " " ++ decimal n) (decimal n))
unfolding column
three-cases n f =
    elim (cases_lt n 10) [
      | inl h ↦ let l : length (decimal n) ≡ 1 = omega (arith, length-decimal-le 1 n (lit< tt) h f, decimal_nonempty n f) in rw (lt-ltb n 10 h, l)
      | inr h ↦
          elim (cases_lt n 100) [
            | inl i ↦
                let l : length (decimal n) ≡ 2 = omega (arith, length-decimal-le 2 n (lit< tt) i f, longer 1 n h f) in
                rw (le-ltb n 10 h, lt-ltb n 100 i, l)
            | inr i ↦
                let l : 3 - length (decimal n) ≡ 0 = omega (arith, longer 2 n i f) in
                rw (le-ltb n 10 h, le-ltb n 100 i, l)
          ]
    ]

pub five-cases : (n : ℕ) → n < 2 ^ 64 → column 5 n ≡ cond (ltb n 1000) (codes "  " ++ column 3 n) (cond (ltb n 10000) (codes " " ++ decimal n) (decimal n))
unfolding column
five-cases n f =
    elim (cases_lt n 1000) [
      | inl h ↦
          let l = length-decimal-le 3 n (lit< tt) h f in
          let m : 5 - length (decimal n) ≡ suc (suc (3 - length (decimal n))) = omega arith in
          rw (lt-ltb n 1000 h, m)
      | inr h ↦
          elim (cases_lt n 10000) [
            | inl i ↦
                let l : length (decimal n) ≡ 4 = omega (arith, length-decimal-le 4 n (lit< tt) i f, longer 3 n h f) in
                rw (le-ltb n 1000 h, lt-ltb n 10000 i, l)
            | inr i ↦
                let l : 5 - length (decimal n) ≡ 0 = omega (arith, longer 4 n i f) in
                rw (le-ltb n 1000 h, le-ltb n 10000 i, l)
          ]
    ]
