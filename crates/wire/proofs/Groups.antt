-- How the bytes of a number go on, group by group.
use Rattle.std.proofs.Common.{◌≡◌, ℕ, zero, suc, ◌+◌, ◌-◌, ◌*◌, ◌/◌, ◌%◌, ◌^◌, ◌<◌, ◌≤◌, List, [], ◌∷◌, ◌++◌, length, sym, ap, ◌∙◌, append_assoc, arith, length-append}
use Rattle.std.proofs.lemmas.Bool.{le-ltb}
use Rattle.wire.specs.Bytes.{groups_of}
use Rattle.wire.proofs.Steps.{limit-more}

groups-step : (left n : ℕ) → 0 < left → 128 ≤ n → groups_of left n ≡ (n % 128 + 128) ∷ groups_of (left - 1) (n / 128)
groups-step zero n h p = absurd (omega arith)
groups-step (suc left) n h p =
    let e : suc left - 1 ≡ left = omega arith in
    rw (le-ltb n 128 p, e)

-- Groups that stand already, one more, and those of what is left are all the groups; and four may stand before the last.
pub groups-more : (all xs ys : List ℕ) (n : ℕ) → xs ++ groups_of (4 - length xs) n ≡ all → n < 16 * 128 ^ (4 - length xs)
    → 128 ≤ n → ys ≡ xs ++ (n % 128 + 128) ∷ []
    → (ys ++ groups_of (4 - length ys) (n / 128) ≡ all) × (length ys ≤ 4) × (n / 128 < 16 * 128 ^ (4 - length ys))
groups-more all xs ys n e fits high y =
    let l : length ys ≡ length xs + 1 = ap length y ∙ length-append xs ((n % 128 + 128) ∷ []) in
    let some : 4 - length xs ≡ 0 → ⊥ = λ z. let f = rw z at fits in omega arith in
    let m : 4 - length ys ≡ 4 - length xs - 1 = omega arith in
    let w = limit-more (4 - length xs) (omega (arith, some)) in (
      rw (m, y) (append_assoc xs ((n % 128 + 128) ∷ []) (groups_of (4 - length xs - 1) (n / 128))
          ∙ ap (λ (zs : List ℕ). xs ++ zs) (sym (groups-step (4 - length xs) n (omega (arith, some)) high)) ∙ e),
      omega (arith, some),
      rw m (omega arith),
    )
