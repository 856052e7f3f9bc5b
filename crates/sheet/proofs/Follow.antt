-- Taking sequences of readings apart, and putting them together.
use Rattle.std.proofs.Common.{◌≡◌, ℕ, ◌⊎◌, List, [], ◌∷◌, ◌++◌, Ok, Err, Result, sym, refl, ap, ◌∙◌, subst, inl, inr, arith}
use Rattle.fault.specs.declared.refusal.Fault.{Fault}
use Rattle.fault.specs.declared.refusal.Refusal.TheVariants.{Strange}
use Rattle.fault.specs.declared.place.Offset.{Offset}
use Rattle.wire.specs.Numbers.{and_then, fault_at}
use Rattle.wire.proofs.Spelled.{Reads, reads_more}
use Rattle.sheet.specs.Parts.{one_number}

pub never : {A F : Type 0} {a : A} {f : F} → ◌≡◌ {A = Result A F} (Err f) (Ok a) → ⊥
never e = let z : ◌≡◌ {A = ℕ} 0 1 = cc in omega arith

pub never-err : {A F : Type 0} {a : A} {f : F} → ◌≡◌ {A = Result A F} (Ok a) (Err f) → ⊥
never-err e = never (sym e)

payload : {A F : Type 0} → A → Result A F → A
payload d (Ok a) = a
payload d (Err f) = d

pub ok_same : {A F : Type 0} {a b : A} → ◌≡◌ {A = Result A F} (Ok a) (Ok b) → a ≡ b
unfolding payload
ok_same {a = a} e = ap (payload a) e

-- What holds of a value and a position that were answered holds of those asked about.
pub at_same : {A F : Type 0} {x y : A} {p q : ℕ} (P : A → ℕ → Type 0) → ◌≡◌ {A = Result (A × ℕ) F} (Ok (x, p)) (Ok (y, q)) → P x p → P y q
at_same {A = A} P e h = let s = ok_same e in subst (λ (z : A × ℕ). P z.0 z.1) s h

-- A sequence that gave a value: its first part gave one, and the rest of it the value.
pub then_by : {A B F : Type 0} {C : Type 0} (r : Result A F) (k : A → Result B F) (z : B) → and_then r k ≡ Ok z
    → ((a : A) → r ≡ Ok a → k a ≡ Ok z → C) → C
then_by (Ok a) k z e f = f a refl e
then_by (Err x) k z e f = absurd (never e)

-- A sequence with a fault: in its first part, or in the rest of it.
pub then-err : {A B F : Type 0} {C : Type 0} (r : Result A F) (k : A → Result B F) (x : F) → and_then r k ≡ Err x
    → (r ≡ Err x → C) → ((a : A) → r ≡ Ok a → k a ≡ Err x → C) → C
then-err (Ok a) k x e f g = g a refl e
then-err {A = A} {B = B} {F = F} (Err y) k x e f g = f (err-same e)
  where
    err-same : ◌≡◌ {A = Result B F} (Err y) (Err x) → ◌≡◌ {A = Result A F} (Err y) (Err x)
    err-same q = cc

pub then_to : {A B F : Type 0} (r : Result A F) (k : A → Result B F) (a : A) (z : Result B F) → r ≡ Ok a → k a ≡ z → and_then r k ≡ z
then_to {A = A} {F = F} r k a z e h = ap (λ (q : Result A F). and_then q k) e ∙ h

module _ (num : ℕ → Result ℕ (Fault Offset)) (aft : ℕ → ℕ) where
  pub number_ok : (pos : ℕ) (v : ℕ × ℕ) → one_number num aft pos ≡ Ok v → (num pos ≡ Ok v.0) × (aft pos ≡ v.1)
  number_ok pos v e =
      then_by (num pos) (λ n. Ok (n, aft pos)) v e (λ n h g.
      (h ∙ ap (λ (z : ℕ × ℕ). Ok z.0) (ok_same g), ap (λ (z : ℕ × ℕ). z.1) (ok_same g)))

  pub number-to : (pos n : ℕ) → num pos ≡ Ok n → one_number num aft pos ≡ Ok (n, aft pos)
  number-to pos n h = then_to (num pos) (λ m. Ok (m, aft pos)) n _ h refl

  -- One number more.
  pub number_step : (pos : ℕ) (v : ℕ × ℕ) (ns : List ℕ) (end : ℕ) → one_number num aft pos ≡ Ok v → Reads num aft v.1 ns end
      → Reads num aft pos (v.0 ∷ ns) end
  number_step pos v ns end e h =
      let g = number_ok pos v e in
      (g.0, subst (λ (p : ℕ). Reads num aft p ns end) (sym g.1) h)

  -- How reading stops: after whole numbers, at one that is faulty or stands where it may not.
  abbrev pub Fails : ℕ → Fault Offset → Type 0
  Fails at f = (num at ≡ Err f) ⊎ ((v : ℕ) × (num at ≡ Ok v) × (f ≡ fault_at Strange at))

  abbrev pub Stops : ℕ → Fault Offset → Type 0
  Stops pos f = (ns : List ℕ) × (at : ℕ) × Reads num aft pos ns at × Fails at f

  pub stops-here : (pos : ℕ) (f : Fault Offset) → num pos ≡ Err f → Stops pos f
  stops-here pos f e = ([], pos, refl, inl e)

  pub stops-strange : (pos n : ℕ) (f : Fault Offset) → num pos ≡ Ok n → f ≡ fault_at Strange pos → Stops pos f
  stops-strange pos n f e h = ([], pos, refl, inr (n, e, h))

  pub stops-later : (pos : ℕ) (ns : List ℕ) (mid : ℕ) (f : Fault Offset) → Reads num aft pos ns mid → Stops mid f → Stops pos f
  stops-later pos ns mid f h (ms, at, g, s) = (ns ++ ms, at, reads_more num aft pos ns mid ms at h g, s)

  pub number-stops : (pos : ℕ) (f : Fault Offset) → one_number num aft pos ≡ Err f → Stops pos f
  number-stops pos f e =
      then-err (num pos) (λ n. Ok (n, aft pos)) f e (stops-here pos f) (λ n h g. absurd (never-err g))

  pub number-then-stops : (pos : ℕ) (v : ℕ × ℕ) (f : Fault Offset) → one_number num aft pos ≡ Ok v → Stops v.1 f → Stops pos f
  number-then-stops pos v f e s = stops-later pos (v.0 ∷ []) v.1 f (number_step pos v [] v.1 e refl) s
