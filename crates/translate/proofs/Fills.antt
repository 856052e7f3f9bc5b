-- All programs, one after the other.
use Rattle.std.proofs.Common.{◌≡◌, ℕ, zero, suc, ◌+◌, ◌-◌, ◌<◌, ◌≤◌, min, List, [], ◌∷◌, ◌++◌, map, length, take, drop, set, replicate, sym, refl, ap, ◌∙◌, ap₂, append_assoc, append-nil, add-zero, zero-add, arith, length-append, length-set, length-drop, length-take, length-take-le, take-append-drop}
use Rattle.std.proofs.Math.Seq.{take-length, drop-length}
use borrow.Rule.Slice.PartMut.{put_mid}
use lib.ListN.{length-map}
use Rattle.std.proofs.lemmas.List.{take_more_set, drop-set-lt, set-append_right}
use Rattle.sheet.specs.declared.row.Head.{Head}
use Rattle.sheet.specs.declared.row.Row.{Row}
use Rattle.netcode.specs.declared.step.Step.{Step}
use Rattle.netcode.specs.Layouts.{program_count}
use Rattle.translate.specs.Stores.{stored, steps_of, laid_on}
use Rattle.translate.specs.Translation.{program_code, programs_from, translated}
use Rattle.translate.proofs.Writing.{stored-append}

module _ (cycle : ℕ) (rows : List Row) where
  pub more : (p n : ℕ) → p < n → programs_from cycle rows p (n - p) ≡ program_code cycle rows p ∷ programs_from cycle rows (p + 1) (n - (p + 1))
  unfolding programs_from
  more p n l =
      let z : n - p ≡ suc (n - (p + 1)) = omega arith in
      let y : suc p ≡ p + 1 = omega arith in
      ap (programs_from cycle rows p) z ∙ ap (λ (k : ℕ). program_code cycle rows p ∷ programs_from cycle rows k (n - (p + 1))) y

  pub none : (p n : ℕ) → n ≤ p → programs_from cycle rows p (n - p) ≡ []
  unfolding programs_from
  none p n l = let z : n - p ≡ 0 = omega arith in ap (programs_from cycle rows p) z

  pub length_more : (p n : ℕ) → p < n
      → length (steps_of (programs_from cycle rows p (n - p))) ≡ length (program_code cycle rows p) + length (steps_of (programs_from cycle rows (p + 1) (n - (p + 1))))
  length_more p n l = ap (λ (ps : List (List Step)). length (steps_of ps)) (more p n l) ∙ length-append (program_code cycle rows p) _

  pub length_none : (p n : ℕ) → n ≤ p → length (steps_of (programs_from cycle rows p (n - p))) ≡ 0
  length_none p n l = ap (λ (ps : List (List Step)). length (steps_of ps)) (none p n l)

  pub steps-more : (p n at : ℕ) (old : List Step) → p < n
      → stored old at (steps_of (programs_from cycle rows p (n - p)))
      ≡ stored (stored old at (program_code cycle rows p)) (at + length (program_code cycle rows p)) (steps_of (programs_from cycle rows (p + 1) (n - (p + 1))))
  steps-more p n at old l = ap (λ (ps : List (List Step)). stored old at (steps_of ps)) (more p n l) ∙ stored-append old at (program_code cycle rows p) _

  pub lengths-more : (p n : ℕ) (old : List ℕ) → p < n
      → stored old p (map length (programs_from cycle rows p (n - p)))
      ≡ stored (set old p (length (program_code cycle rows p))) (p + 1) (map length (programs_from cycle rows (p + 1) (n - (p + 1))))
  lengths-more p n old l = ap (λ (ps : List (List Step)). stored old p (map length ps)) (more p n l)

-- Storing a list in the part of another from `at` on stores it there in the whole.
stored-right : {X : Type 0} (pre ys new : List X) (k n : ℕ) → n ≡ length pre + k → stored (pre ++ ys) n new ≡ pre ++ stored ys k new
stored-right {X = X} pre ys [] k n e = refl
stored-right {X = X} pre ys (x ∷ new) k n e =
    let z : n - length pre ≡ k = omega arith in
    ap (λ (xs : List X). stored xs (n + 1) new) (set-append_right pre ys (length pre) n x refl (omega arith) ∙ ap (λ (j : ℕ). pre ++ set ys j x) z)
    ∙ stored-right pre (set ys k x) new (k + 1) (n + 1) (omega arith)

pub length-part : {X : Type 0} (old : List X) (at : ℕ) → length (take (length old - at) (drop at old)) ≡ length old - at
length-part old at = length-take (length old - at) (drop at old) ∙ ap (λ (j : ℕ). min (length old - at) j) (length-drop at old) ∙ omega arith

pub stored-part : {X : Type 0} (old new : List X) (at : ℕ) → at ≤ length old → put_mid at (length old - at) old (stored (take (length old - at) (drop at old)) 0 new) ≡ stored old at new
stored-part {X = X} old new at l =
    let n : length old - at ≡ length (drop at old) = sym (length-drop at old) in
    let whole : take (length old - at) (drop at old) ≡ drop at old = ap (λ (j : ℕ). take j (drop at old)) n ∙ take-length (drop at old) in
    ap₂ (λ (xs : List X) (j : ℕ). take at old ++ (stored xs 0 new ++ drop j (drop at old))) whole n
    ∙ ap (λ (xs : List X). take at old ++ (stored (drop at old) 0 new ++ xs)) (drop-length (drop at old))
    ∙ ap (λ (xs : List X). take at old ++ xs) (append-nil _)
    ∙ sym (stored-right (take at old) (drop at old) new 0 at (sym (ap (λ (j : ℕ). j + 0) (length-take-le at old l) ∙ add-zero at)))
    ∙ ap (λ (xs : List X). stored xs at new) (take-append-drop at old)

-- Storing a list where there is room puts it in the place of what was there.
stored_at : {X : Type 0} (old : List X) (at : ℕ) (new : List X) → at + length new ≤ length old → stored old at new ≡ take at old ++ (new ++ drop (at + length new) old)
stored_at old at [] h = rw (add-zero at) (sym (take-append-drop at old))
stored_at old at (x ∷ new) h =
    let l : at < length old = omega arith in
    let p : at + suc (length new) ≡ at + 1 + length new = omega arith in
    let q : at < at + 1 + length new = omega arith in
    let m : length (set old at x) ≡ length old = length-set old at x in
    stored_at (set old at x) (at + 1) new (omega arith)
    ∙ rw (take_more_set old at x l, drop-set-lt (at + 1 + length new) old at x q, p) (append_assoc (take at old) (x ∷ []) (new ++ drop (at + 1 + length new) old))

pub stored-laid : {X : Type 0} (old new : List X) → length new ≤ length old → stored old 0 new ≡ laid_on new old
stored-laid old new h = stored_at old 0 new (omega arith) ∙ rw (zero-add (length new))

many : (cycle : ℕ) (rows : List Row) (p m : ℕ) → length (programs_from cycle rows p m) ≡ m
unfolding programs_from
many cycle rows p zero = refl
many cycle rows p (suc m) = ap suc (many cycle rows (suc p) m)

pub lengths-laid : (h : Head) (rows : List Row) → stored (replicate 16 0) 0 (map length (translated h rows)) ≡ laid_on (map length (translated h rows)) (replicate 16 0)
lengths-laid h rows = stored-laid (replicate 16 0) (map length (translated h rows)) (omega (arith, length-map (translated h rows) (length {A = Step}), many h.cycle rows 0 (program_count h.stations)))
