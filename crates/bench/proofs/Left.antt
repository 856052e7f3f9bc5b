-- What is left of a list from a place on.
use Rattle.std.proofs.Common.{◌≡◌, ℕ, ◌+◌, List, ◌∷◌, get_or, drop, sym, ap, ◌∙◌, arith}
use Rattle.std.proofs.lemmas.List.{get_or-drop, drop-drop}

module _ {X : Type 0} (xs : List X) (i : ℕ) (x : X) (rest : List X) (left : drop i xs ≡ x ∷ rest) where
  pub head-is : (d : X) → get_or xs i d ≡ x
  head-is d =
      let z : i + 0 ≡ i = omega arith in
      ap (λ j. get_or xs j d) (sym z) ∙ sym (get_or-drop i xs 0 d) ∙ ap (λ (ys : List X). get_or ys 0 d) left

  pub tail-is : drop (i + 1) xs ≡ rest
  tail-is = sym (drop-drop 1 i xs) ∙ ap (λ (ys : List X). drop 1 ys) left
