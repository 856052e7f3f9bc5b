-- What is read from a list after a write, and from the places of a station.
use Rattle.std.proofs.Common.{◌≡◌, ℕ, zero, suc, ◌<◌, ◌≤◌, cond, ◌&&◌, eqb, ◌⊎◌, List, length, get_or, set, None, Option, sym, refl, ap, ◌∙◌, subst, ap₂, inl, inr, arith}
use Rattle.std.proofs.lemmas.List.{length-set, get_or-set_same, get_or-set_other}
use Rattle.std.proofs.lemmas.Bool.{cases_eq, cases_lt, eq-eqb, ne_eqb, cond-true, cond-false}
use Rattle.semantics.specs.Machine.{place_of, emptied}

pub set-read : {A : Type 0} (xs : List A) (i k : ℕ) (v d : A) → i < length xs → get_or (set xs i v) k d ≡ cond (eqb i k) v (get_or xs k d)
set-read xs i k v d l = go (cases_eq i k)
  where
    go : (i ≡ k) ⊎ (i ≡ k → ⊥) → get_or (set xs i v) k d ≡ cond (eqb i k) v (get_or xs k d)
    go (inl e) = subst (λ (z : ℕ). get_or (set xs i v) z d ≡ cond (eqb i z) v (get_or xs z d)) e (get_or-set_same xs i v d l ∙ sym (cond-true _ _ _ (eq-eqb i i refl)))
    go (inr ne) = get_or-set_other xs i k v d (λ e. ne (sym e)) ∙ sym (cond-false _ _ _ (ne_eqb i k ne))

pub place_same : (s x q y : ℕ) → x < 64 → y < 64 → eqb (place_of s x) (place_of q y) ≡ (eqb s q && eqb x y)
place_same s x q y lx ly = go (cases_eq s q) (cases_eq x y)
  where
    go : (s ≡ q) ⊎ (s ≡ q → ⊥) → (x ≡ y) ⊎ (x ≡ y → ⊥) → eqb (place_of s x) (place_of q y) ≡ (eqb s q && eqb x y)
    go (inl e) (inl f) = eq-eqb _ _ (omega arith) ∙ sym (ap₂ (λ a b. a && b) (eq-eqb s q e) (eq-eqb x y f))
    go (inl e) (inr f) = ne_eqb _ _ (λ z. f (omega arith)) ∙ sym (ap₂ (λ a b. a && b) (eq-eqb s q e) (ne_eqb x y f))
    go (inr e) f = ne_eqb _ _ (λ z. e (apart z (cases_lt s q))) ∙ sym (ap (λ a. a && eqb x y) (ne_eqb s q e))
      where
        apart : place_of s x ≡ place_of q y → (s < q) ⊎ (q ≤ s) → s ≡ q
        apart z (inl a) = omega arith
        apart z (inr a) = omega arith

pub length-emptied : (s n : ℕ) (ps : List (Option ℕ)) → length (emptied s n ps) ≡ length ps
unfolding emptied
length-emptied s zero ps = refl
length-emptied s (suc n) ps = length-set (emptied s n ps) (place_of s n) None ∙ length-emptied s n ps

emptied-here : (s n y : ℕ) (ps : List (Option ℕ)) → s < 8 → n ≤ 64 → y < n → length ps ≡ 512 → get_or (emptied s n ps) (place_of s y) None ≡ None
unfolding emptied
emptied-here s zero y ps l ln ly size = absurd (omega arith)
emptied-here s (suc n) y ps l ln ly size =
    set-read (emptied s n ps) (place_of s n) (place_of s y) None None (let e = length-emptied s n ps in omega arith)
    ∙ go (cases_eq n y) (λ l'. emptied-here s n y ps l (omega arith) l' size)
  where
    go : (n ≡ y) ⊎ (n ≡ y → ⊥) → (y < n → get_or (emptied s n ps) (place_of s y) None ≡ None)
        → cond (eqb (place_of s n) (place_of s y)) None (get_or (emptied s n ps) (place_of s y) None) ≡ None
    go (inl e) ih = cond-true _ _ _ (eq-eqb _ _ (ap (place_of s) e))
    go (inr ne) ih = cond-false _ _ _ (ne_eqb (place_of s n) (place_of s y) (λ z. ne (omega arith))) ∙ ih (below (cases_lt y n))
      where
        below : (y < n) ⊎ (n ≤ y) → y < n
        below (inl a) = a
        below (inr a) = absurd (ne (omega arith))

emptied-other : (s n q y : ℕ) (ps : List (Option ℕ)) → s < 8 → n ≤ 64 → y < 64 → (s ≡ q → ⊥) → length ps ≡ 512
    → get_or (emptied s n ps) (place_of q y) None ≡ get_or ps (place_of q y) None
unfolding emptied
emptied-other s zero q y ps l ln ly ne size = refl
emptied-other s (suc n) q y ps l ln ly ne size =
    set-read (emptied s n ps) (place_of s n) (place_of q y) None None (let e = length-emptied s n ps in omega arith)
    ∙ cond-false _ _ _ (place_same s n q y (omega arith) ly ∙ ap (λ a. a && eqb n y) (ne_eqb s q ne))
    ∙ emptied-other s n q y ps l (omega arith) ly ne size

-- After the places of a station are emptied.
pub emptied-read : (s q y : ℕ) (ps : List (Option ℕ)) → s < 8 → y < 64 → length ps ≡ 512
    → get_or (emptied s 64 ps) (place_of q y) None ≡ cond (eqb s q) None (get_or ps (place_of q y) None)
emptied-read s q y ps l ly size = go (cases_eq s q)
  where
    go : (s ≡ q) ⊎ (s ≡ q → ⊥) → get_or (emptied s 64 ps) (place_of q y) None ≡ cond (eqb s q) None (get_or ps (place_of q y) None)
    go (inl e) = subst (λ (z : ℕ). get_or (emptied s 64 ps) (place_of z y) None ≡ cond (eqb s z) None (get_or ps (place_of z y) None)) e
        (emptied-here s 64 y ps l (omega arith) ly size ∙ sym (cond-true _ _ _ (eq-eqb s s refl)))
    go (inr ne) = emptied-other s 64 q y ps l (omega arith) ly ne size ∙ sym (cond-false _ _ _ (ne_eqb s q ne))
