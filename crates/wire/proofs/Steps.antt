-- The bound of what a number reads.
use Rattle.std.proofs.Common.{◌≡◌, ℕ, suc, ◌-◌, ◌*◌, ◌^◌, ◌<◌, ◌≤◌, subst, pow-suc, arith, lit<}
use native.Mathlib.Nat.{one-le-pow, pow-le-pow_right}

-- The limit of a number with `left` more groups.
pub limit-more : (left : ℕ) → 0 < left → 128 ^ left ≡ 128 ^ (left - 1) * 128
limit-more left h =
    let e : suc (left - 1) ≡ left = omega arith in
    subst (λ (n : ℕ). 128 ^ n ≡ 128 ^ (left - 1) * 128) e (pow-suc 128 (left - 1))

pub limit-some : (left : ℕ) → 0 < 128 ^ left
limit-some left = omega (arith, one-le-pow left 128 (lit< tt))

pub limit-most : (left : ℕ) → left ≤ 3 → 128 ^ left ≤ 2097152
limit-most left h = pow-le-pow_right {n = 128} (lit< tt) {i = left} {j = 3} h
