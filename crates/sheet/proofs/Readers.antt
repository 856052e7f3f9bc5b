-- The readers of a sheet's parts, over the numbers of an input: each reads just the numbers that the part
-- is written as, and stops after whole numbers.
use Rattle.std.proofs.Common.{◌≡◌, ℕ, cond, eqb, List, [], ◌∷◌, Ok, Err, Result, refl, ap, ◌∙◌, inl, inr}
use Rattle.std.proofs.lemmas.Bool.{cases_eq, eq-eqb, ne_eqb}
use Rattle.fault.specs.declared.refusal.Fault.{Fault}
use Rattle.fault.specs.declared.place.Offset.{Offset}
use Rattle.wire.proofs.Spelled.{Reads, reads_more}
use Rattle.sheet.specs.declared.row.Relation.{Relation}
use Rattle.sheet.specs.declared.row.Relation.TheVariants.{Equal, Unequal}
use Rattle.sheet.specs.declared.row.Inputs.{Inputs}
use Rattle.sheet.specs.declared.row.Inputs.TheVariants.{Nothing, Single, Pair}
use Rattle.sheet.specs.declared.row.Test.{Test}
use Rattle.sheet.specs.Rows.{relation_code}
use Rattle.sheet.specs.Parts.{one_number, one_relation, some_inputs, inputs_numbers}
use Rattle.sheet.specs.Sheets.{one_test}
use Rattle.sheet.specs.Forms.{test_numbers}
use Rattle.sheet.proofs.Follow.{never, never-err, at_same, then_by, then-err, then_to, number-to, number_step, Stops, stops-here, stops-strange, stops-later, number-stops, number-then-stops}

-- A choice by the value of a number: the branch that was taken.
pub choose : {B : Type 0} {C : Type 0} (n k : ℕ) (x y : B) (z : B) → cond (eqb n k) x y ≡ z → (n ≡ k → x ≡ z → C) → (y ≡ z → C) → C
choose n k x y z e f g =
    elim (cases_eq n k) [ inl h ↦ f h (rw (eq-eqb n k h) at e) | inr h ↦ g (rw (ne_eqb n k h) at e) ]

pub err-same : {A F : Type 0} {x y : F} → ◌≡◌ {A = Result A F} (Err x) (Err y) → y ≡ x
err-same e = cc

module _ (num : ℕ → Result ℕ (Fault Offset)) (aft : ℕ → ℕ) where
  abbrev Rd : ℕ → List ℕ → ℕ → Type 0
  Rd = Reads num aft

  abbrev St : ℕ → Fault Offset → Type 0
  St = Stops num aft

  pub relation-reads : (pos : ℕ) (r : Relation) (end : ℕ) → one_relation num aft pos ≡ Ok (r, end) → Rd pos (relation_code r ∷ []) end
  relation-reads pos r end e =
      then_by (num pos) _ (r, end) e (λ n h g.
      choose n 0 _ _ _ g (λ q w. at_same (λ x p. Rd pos (relation_code x ∷ []) p) w (h ∙ ap Ok q, refl)) (λ g1.
      choose n 1 _ _ _ g1 (λ q w. at_same (λ x p. Rd pos (relation_code x ∷ []) p) w (h ∙ ap Ok q, refl)) (λ g2. absurd (never g2))))

  pub relation-back : (pos : ℕ) (r : Relation) → num pos ≡ Ok (relation_code r) → one_relation num aft pos ≡ Ok (r, aft pos)
  relation-back pos Equal h = then_to (num pos) _ 0 _ h refl
  relation-back pos Unequal h = then_to (num pos) _ 1 _ h refl

  pub relation-stops : (pos : ℕ) (f : Fault Offset) → one_relation num aft pos ≡ Err f → St pos f
  relation-stops pos f e =
      then-err (num pos) _ f e (stops-here num aft pos f) (λ n h g.
      choose n 0 _ _ _ g (λ q w. absurd (never-err w)) (λ g1.
      choose n 1 _ _ _ g1 (λ q w. absurd (never-err w)) (λ g2. stops-strange num aft pos n f h (err-same g2))))

  pub inputs-reads : (pos : ℕ) (i : Inputs) (end : ℕ) → some_inputs num aft pos ≡ Ok (i, end) → Rd pos (inputs_numbers i) end
  inputs-reads pos i end e =
      then_by (num pos) _ (i, end) e (λ n h g.
      choose n 0 _ _ _ g (λ q w. at_same (λ x p. Rd pos (inputs_numbers x) p) w (h ∙ ap Ok q, refl)) (λ g1.
      choose n 1 _ _ _ g1 (λ q w.
      then_by (one_number num aft (aft pos)) _ (i, end) w (λ a ha wa.
      at_same (λ x p. Rd pos (inputs_numbers x) p) wa (h ∙ ap Ok q, number_step num aft (aft pos) a [] a.1 ha refl))) (λ g2.
      choose n 2 _ _ _ g2 (λ q w.
      then_by (one_number num aft (aft pos)) _ (i, end) w (λ a ha wa.
      then_by (one_number num aft a.1) _ (i, end) wa (λ b hb wb.
      at_same (λ x p. Rd pos (inputs_numbers x) p) wb
      (h ∙ ap Ok q, number_step num aft (aft pos) a (b.0 ∷ []) b.1 ha (number_step num aft a.1 b [] b.1 hb refl))))) (λ g3. absurd (never g3)))))

  pub inputs-back : (pos : ℕ) (i : Inputs) (end : ℕ) → Rd pos (inputs_numbers i) end → some_inputs num aft pos ≡ Ok (i, end)
  inputs-back pos Nothing end h = then_to (num pos) _ 0 _ h.0 (ap (λ (p : ℕ). Ok (Nothing, p)) h.1)
  inputs-back pos (Single a) end h =
      then_to (num pos) _ 1 _ h.0
      (then_to (one_number num aft (aft pos)) _ (a, aft (aft pos)) _ (number-to num aft (aft pos) a h.1.0)
      (ap (λ (p : ℕ). Ok (Single a, p)) h.1.1))
  inputs-back pos (Pair a b) end h =
      then_to (num pos) _ 2 _ h.0
      (then_to (one_number num aft (aft pos)) _ (a, aft (aft pos)) _ (number-to num aft (aft pos) a h.1.0)
      (then_to (one_number num aft (aft (aft pos))) _ (b, aft (aft (aft pos))) _ (number-to num aft (aft (aft pos)) b h.1.1.0)
      (ap (λ (p : ℕ). Ok (Pair a b, p)) h.1.1.1)))

  pub inputs-stop : (pos : ℕ) (f : Fault Offset) → some_inputs num aft pos ≡ Err f → St pos f
  inputs-stop pos f e =
      then-err (num pos) _ f e (stops-here num aft pos f) (λ n h g.
      choose n 0 _ _ _ g (λ q w. absurd (never-err w)) (λ g1.
      choose n 1 _ _ _ g1 (λ q w.
      stops-later num aft pos (n ∷ []) (aft pos) f (h, refl)
      (then-err (one_number num aft (aft pos)) _ f w (number-stops num aft (aft pos) f) (λ a ha wa. absurd (never-err wa)))) (λ g2.
      choose n 2 _ _ _ g2 (λ q w.
      stops-later num aft pos (n ∷ []) (aft pos) f (h, refl)
      (then-err (one_number num aft (aft pos)) _ f w (number-stops num aft (aft pos) f) (λ a ha wa.
      number-then-stops num aft (aft pos) a f ha
      (then-err (one_number num aft a.1) _ f wa (number-stops num aft a.1 f) (λ b hb wb. absurd (never-err wb)))))) (λ g3.
      stops-strange num aft pos n f h (err-same g3)))))

  pub test-reads : (pos : ℕ) (t : Test) (end : ℕ) → one_test num aft pos ≡ Ok (t, end) → Rd pos (test_numbers t) end
  test-reads pos t end e =
      then_by (one_number num aft pos) _ (t, end) e (λ v hv e1.
      then_by (one_relation num aft v.1) _ (t, end) e1 (λ r hr e2.
      then_by (one_number num aft r.1) _ (t, end) e2 (λ w hw e3.
      at_same (λ x p. Rd pos (test_numbers x) p) e3
      (number_step num aft pos v (relation_code r.0 ∷ w.0 ∷ []) w.1 hv
      (reads_more num aft v.1 (relation_code r.0 ∷ []) r.1 (w.0 ∷ []) w.1 (relation-reads v.1 r.0 r.1 hr)
      (number_step num aft r.1 w [] w.1 hw refl))))))

  pub test_back : (pos : ℕ) (t : Test) (end : ℕ) → Rd pos (test_numbers t) end → one_test num aft pos ≡ Ok (t, end)
  test_back pos t end h =
      then_to (one_number num aft pos) _ (t.variable, aft pos) _ (number-to num aft pos t.variable h.0)
      (then_to (one_relation num aft (aft pos)) _ (t.relation, aft (aft pos)) _ (relation-back (aft pos) t.relation h.1.0)
      (then_to (one_number num aft (aft (aft pos))) _ (t.word, aft (aft (aft pos))) _ (number-to num aft (aft (aft pos)) t.word h.1.1.0)
      (ap (λ (p : ℕ). Ok (t, p)) h.1.1.1)))

  pub test-stops : (pos : ℕ) (f : Fault Offset) → one_test num aft pos ≡ Err f → St pos f
  test-stops pos f e =
      then-err (one_number num aft pos) _ f e (number-stops num aft pos f) (λ v hv e1.
      number-then-stops num aft pos v f hv
      (then-err (one_relation num aft v.1) _ f e1 (relation-stops v.1 f) (λ r hr e2.
      stops-later num aft v.1 (relation_code r.0 ∷ []) r.1 f (relation-reads v.1 r.0 r.1 hr)
      (then-err (one_number num aft r.1) _ f e2 (number-stops num aft r.1 f) (λ w hw e3. absurd (never-err e3))))))
