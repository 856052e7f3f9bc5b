use Rattle.std.proofs.Common.{◌≡◌, ℕ, zero, suc, ◌+◌, ◌*◌, ◌/◌, ◌%◌, ◌^◌, ◌<◌, ◌≤◌, eqb, ltb, leb, Decides, sym, ◌∙◌, ⊎_elim, mod-lt, pow-suc, div-add-mod', arith, pow_pos, pow_mono}
use native.Mathlib.Nat.{div-eq_of_lt}
use Rattle.std.proofs.lemmas.Nat.{leading_top, le-div, div_below}
use Rattle.judge.specs.Rules.{Listens}
use Rattle.std.proofs.lemmas.Bool.{le-ltb, lt-ltb, le-leb, cases_lt}
use Rattle.std.proofs.lemmas.Bool.Decides.{same_from_decides, Decides-eqb, Decides-ltb, Decides-like}
use Rattle.judge.specs.Verdict.{listens, listeners_exist}

past : (l n : ℕ) → l < 2 ^ 32 → 32 ≤ n → l < 2 ^ n
past l n h k = let p : 2 ^ 32 ≤ 2 ^ n = pow_mono k in omega arith

pub listens-none : (l n : ℕ) → l < 2 ^ 32 → 32 ≤ n → ltb n 32 ≡ listens l n
listens-none l n h k =
    let z : l / 2 ^ n ≡ 0 = div-eq_of_lt (past l n h k) in
    le-ltb n 32 k ∙ rw z

pub exist-all : (l n : ℕ) → l < 2 ^ 32 → 32 ≤ n → leb 32 n ≡ listeners_exist l n
exist-all l n h k = le-leb 32 n k ∙ sym (lt-ltb l (2 ^ n) (past l n h k))

below : (l n : ℕ) → l / 2 ^ n ≡ 0 → l < 2 ^ n
below l n z =
    let p : 0 < 2 ^ n = pow_pos n in
    let m : l % 2 ^ n < 2 ^ n = mod-lt l p in
    let e : 0 * 2 ^ n + l % 2 ^ n ≡ l = rw z at (div-add-mod' l (2 ^ n)) in
    omega arith

pub exist-below : (l n : ℕ) → eqb (l / 2 ^ n) 0 ≡ listeners_exist l n
exist-below l n =
    same_from_decides (eqb (l / 2 ^ n) 0) (ltb l (2 ^ n))
    (Decides-like (eqb (l / 2 ^ n) 0) (below l n) div-eq_of_lt (Decides-eqb (l / 2 ^ n) 0))
    (Decides-ltb l (2 ^ n))

grows : (n : ℕ) → n < 2 ^ n
grows zero = omega arith
grows (suc n) = let h = grows n in rw (pow-suc 2 n) (omega arith)

-- A number is below a power where no bit of it is as high.
no-higher : (l n : ℕ) → l < 2 ^ n → (m : ℕ) → Listens l m → m < n
no-higher l n h m b = ⊎_elim (λ k. k) (λ (k : n ≤ m). absurd (high k)) (cases_lt m n)
  where
    high : n ≤ m → ⊥
    high k =
        let p : 2 ^ n ≤ 2 ^ m = pow_mono k in
        let q : l < 2 ^ m = omega arith in
        let z : l / 2 ^ m ≡ 0 = div-eq_of_lt q in
        let e : 0 % 2 ≡ 1 = rw z at b in
        omega arith

highest : (l n : ℕ) → ((m : ℕ) → Listens l m → m < n) → l < 2 ^ n
highest l n f = ⊎_elim (λ h. h) (λ (h : 2 ^ n ≤ l). absurd (top h)) (cases_lt l (2 ^ n))
  where
    top : 2 ^ n ≤ l → ⊥
    top h =
        let p : 0 < 2 ^ n = pow_pos n in
        let t = leading_top l l (omega arith) (grows l) in
        let j = t.0 in
        let o : 0 < 2 ^ j = pow_pos j in
        let u : l < 2 ^ suc j = t.3 in
        let s : 2 ^ suc j ≡ 2 ^ j * 2 = pow-suc 2 j in
        let a : 1 ≤ l / 2 ^ j = le-div 1 l (2 ^ j) o (omega (arith, t.2)) in
        let b : l / 2 ^ j < 2 = div_below l (2 ^ j) 2 o (omega arith) in
        let e : l / 2 ^ j ≡ 1 = omega arith in
        let g : l / 2 ^ j % 2 ≡ 1 = rw e in
        let k : j < n = f j g in
        let q : 2 ^ suc j ≤ 2 ^ n = pow_mono k in
        omega arith

pub exist-decides : (l n : ℕ) → Decides (listeners_exist l n) ((m : ℕ) → Listens l m → m < n)
exist-decides l n = Decides-like (ltb l (2 ^ n)) (no-higher l n) (highest l n) (Decides-ltb l (2 ^ n))
