use Rattle.std.proofs.Common.{◌≡◌, ℕ, zero, suc, ◌+◌, ◌<◌, List, [], ◌∷◌, length, get_or, drop, Some, None, Option, sym, refl, ◌∙◌, add-zero, zero-add, arith}
use Rattle.std.proofs.lemmas.List.{drop_more}
use Rattle.fault.specs.Scan.{first_bad, or_else, FirstBad}

pub bad-here : {R W : Type 0} (rule : ℕ → R → Option W) (xs : List R) (i : ℕ) (x : R) (o : Option W)
    → i < length xs → x ≡ get_or xs i x → o ≡ rule i x
    → first_bad rule i (drop i xs) ≡ or_else o i (first_bad rule (i + 1) (drop (i + 1) xs))
bad-here rule xs i x o h e q = rw (drop_more xs i x h, ← e, q)

-- The same answer, for a list whose places count from `i`.
abbrev FirstFrom : {R W : Type 0} → (ℕ → R → Option W) → ℕ → List R → Option (ℕ × W) → Type 0
FirstFrom {R = R} rule i xs None = (k : ℕ) (d : R) → k < length xs → rule (i + k) (get_or xs k d) ≡ None
FirstFrom {R = R} rule i xs (Some jw) =
    (m : ℕ) × (jw.0 ≡ i + m) × (m < length xs) × ((d : R) → rule (i + m) (get_or xs m d) ≡ Some jw.1)
    × ((k : ℕ) (d : R) → k < m → rule (i + k) (get_or xs k d) ≡ None)

kept_cons : {R W : Type 0} (rule : ℕ → R → Option W) (i : ℕ) (x : R) (xs : List R) (n : ℕ)
    → rule i x ≡ None → ((k : ℕ) (d : R) → k < n → rule (i + 1 + k) (get_or xs k d) ≡ None)
    → (k : ℕ) (d : R) → k < n + 1 → rule (i + k) (get_or (x ∷ xs) k d) ≡ None
kept_cons rule i x xs n e a zero d h = rw add-zero e
kept_cons rule i x xs n e a (suc k) d h =
    let p : i + suc k ≡ i + 1 + k = omega arith in
    rw p (a k d (omega arith))

cons : {R W : Type 0} (rule : ℕ → R → Option W) (i : ℕ) (x : R) (xs : List R) (r : Option (ℕ × W))
    → rule i x ≡ None → FirstFrom rule (i + 1) xs r → FirstFrom rule i (x ∷ xs) r
cons rule i x xs None e a = λ k d h. kept_cons rule i x xs (length xs) e a k d (omega arith)
cons rule i x xs (Some jw) e a =
    let p : i + suc a.0 ≡ i + 1 + a.0 = omega arith in
    (suc a.0, a.1 ∙ sym p, omega (arith, a.2), (λ d. rw p (a.3 d)), λ k d h. kept_cons rule i x xs a.0 e a.4 k d (omega arith))

at_head : {R W : Type 0} (rule : ℕ → R → Option W) (i : ℕ) (x : R) (xs : List R) (o : Option W)
    → rule i x ≡ o → FirstFrom rule (i + 1) xs (first_bad rule (i + 1) xs)
    → FirstFrom rule i (x ∷ xs) (or_else o i (first_bad rule (i + 1) xs))
at_head rule i x xs None e a = cons rule i x xs (first_bad rule (i + 1) xs) e a
at_head rule i x xs (Some w) e a = (0, sym (add-zero i), omega arith, (λ d. rw add-zero e), λ k d h. absurd (omega arith))

first-from : {R W : Type 0} (rule : ℕ → R → Option W) (i : ℕ) (xs : List R) → FirstFrom rule i xs (first_bad rule i xs)
first-from rule i [] = λ k d h. absurd (omega arith)
first-from rule i (x ∷ xs) = at_head rule i x xs (rule i x) refl (first-from rule (i + 1) xs)

from_start : {R W : Type 0} (rule : ℕ → R → Option W) (xs : List R) (r : Option (ℕ × W)) → FirstFrom rule 0 xs r → FirstBad rule xs r
from_start rule xs None a = λ k d h. rw zero-add at (a k d h)
from_start rule xs (Some jw) a =
    let p : jw.0 ≡ a.0 = omega (arith, a.1) in
    rw p (a.2, (λ d. rw zero-add at (a.3 d)), λ k d h. rw zero-add at (a.4 k d h))

pub first-is : {R W : Type 0} (rule : ℕ → R → Option W) (xs : List R) (r : Option (ℕ × W)) → r ≡ first_bad rule 0 xs → FirstBad rule xs r
first-is rule xs r e = rw e (from_start rule xs (first_bad rule 0 xs) (first-from rule 0 xs))
