use Rattle.std.proofs.Common.{◌≡◌, ℕ, ◌<◌, ◌≤◌, Bool, true, false, cond, not, ltb, List, length, take, Some, None, Decides, Option, refl, arith}
use Rattle.std.specs.List.{list_any, list_all, position, position_or_len}
use Rattle.std.proofs.ByRecursion.{Decides-by_and, All-get_or, All-from_get_or}
use Rattle.std.proofs.lemmas.Bool.{ltb-false, ltb-true, false≢true}
use Rattle.std.proofs.lemmas.Bool.Decides.{Decides-like}
use Rattle.std.proofs.lemmas.List.{length-take-le, get_or-take}
use Rattle.std.proofs.lemmas.List.Sums.{fails_before_first, passes_at_first}
use Rattle.sheet.specs.declared.row.Row.{Row}
use Rattle.sheet.specs.Rows.{row_at, no_row}
use Rattle.judge.proofs.Logic.{any-decides, any_at, place_of}

-- The first of the places below `n` that passes a test, or that none does.
abbrev pub PlaceBelow : (ℕ → Bool) → ℕ → Option ℕ → Type 0
PlaceBelow p n None = (k : ℕ) → k < n → p k ≡ false
PlaceBelow p n (Some j) = (j < n) × (p j ≡ true) × ((k : ℕ) → k < j → p k ≡ false)

-- The rows above the row at `r` are the first `r` rows.
module _ (p : Row → Bool) (rows : List Row) (r : ℕ) (l : r ≤ length rows) where
  row-above : (u : ℕ) → u < r → row_at (take r rows) u ≡ row_at rows u
  row-above u h = get_or-take r rows u no_row h

  place-step : (n : ℕ) (b : Bool) → n ≡ position_or_len p (take r rows) → ltb n (length (take r rows)) ≡ b
      → PlaceBelow (λ u. p (row_at rows u)) r (cond b (Some n) None)
  place-step n true e t =
      let h : n < r = omega (arith, ltb-true n (length (take r rows)) t, length-take-le r rows l) in
      (h, rw (← row-above n h, e) (passes_at_first p (take r rows) no_row (rw e at (ltb-true n (length (take r rows)) t))), λ k m. rw (← row-above k (omega arith)) (fails_before_first p (take r rows) k no_row (rw e at m)))
  place-step n false e t =
      let h : r ≤ n = omega (arith, ltb-false n (length (take r rows)) t, length-take-le r rows l) in
      λ k m. rw (← row-above k m) (fails_before_first p (take r rows) k no_row (omega arith))

  pub place-answers : PlaceBelow (λ u. p (row_at rows u)) r (position p (take r rows))
  place-answers = place-step (position_or_len p (take r rows)) (ltb (position_or_len p (take r rows)) (length (take r rows))) refl refl

-- Whether some row above is so, and whether all are.
module _ (p : Row → Bool) (P : Row → Type 0) (each : (x : Row) → Decides (p x) (P x)) (rows : List Row) (r : ℕ) (l : r ≤ length rows) where
  pub some-decides : Decides (list_any p (take r rows)) ((u : ℕ) × (u < r) × P (row_at rows u))
  some-decides =
      Decides-like _
      (λ a. let k = place_of P no_row (take r rows) a in let h : k.0 < r = omega (arith, k.1, length-take-le r rows l) in (k.0, h, rw (row-above p rows r l k.0 h) at k.2))
      (λ a. any_at P no_row (take r rows) a.0 (omega (arith, a.1, length-take-le r rows l)) (rw (row-above p rows r l a.0 a.1) a.2))
      (any-decides p P (list_any p) each refl (λ _ _. refl) (take r rows))

  pub all-decides : Decides (list_all p (take r rows)) ((u : ℕ) → u < r → P (row_at rows u))
  all-decides =
      Decides-like _
      (λ a u h. rw (row-above p rows r l u h) at (All-get_or P (take r rows) u no_row (omega (arith, length-take-le r rows l)) a))
      (λ f. All-from_get_or P (take r rows) no_row (λ u h. let m : u < r = omega (arith, h, length-take-le r rows l) in rw (row-above p rows r l u m) (f u m)))
      (Decides-by_and p P (list_all p) each refl (λ _ _. refl) (take r rows))

pub not-of : (b : Bool) → b ≡ false → not b ≡ true
not-of b e = rw e

pub not-off : (b : Bool) → b ≡ true → not b ≡ true → ⊥
not-off true e n = false≢true n
not-off false e n = false≢true e
