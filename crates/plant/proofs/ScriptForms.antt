-- Scripts are read back as they were written, and have one form.
use Rattle.std.proofs.Common.{◌≡◌, ℕ, zero, suc, ◌+◌, ◌≤◌, Bool, true, false, cond, ltb, List, [], ◌∷◌, ◌++◌, length, Ok, Err, Result, sym, refl, ap, ◌∙◌, subst, arith}
use Rattle.std.proofs.lemmas.List.{append-nil, drop_all}
use Rattle.std.proofs.lemmas.Bool.{le-ltb, ltb-false}
use Rattle.fault.specs.declared.refusal.Fault.{Fault}
use Rattle.fault.specs.declared.refusal.Refusal.TheVariants.{Trailing}
use Rattle.fault.specs.declared.place.Offset.{Offset}
use Rattle.wire.specs.Bytes.{spelled}
use Rattle.wire.specs.Numbers.{number_at, after_number, fault_at}
use Rattle.wire.proofs.Spelled.{Reads, spelled-reads, reads-spelled}
use Rattle.sheet.proofs.Follow.{then_by, then_to, ok_same, never}
use Rattle.plant.specs.Script.{pair_at, after_pair, pairs_at, pairs_read}
use Rattle.plant.specs.ScriptForm.{pair_numbers, script_numbers, ScriptBack, ScriptOneForm}

-- Numbers that are read in turn are read as pairs.
pairs-back : (bs : List ℕ) (pos : ℕ) (ps : List (ℕ × ℕ)) (end : ℕ) → Reads (number_at bs) (after_number bs) pos (pair_numbers ps) end
    → pairs_at (length ps) bs pos ≡ Ok (ps, end)
pairs-back bs pos [] end h = ap (λ (e : ℕ). Ok ([], e)) h
pairs-back bs pos (p ∷ ps) end h =
    then_to (pair_at bs pos) _ p _
    (then_to (number_at bs pos) _ p.0 _ h.0 (then_to (number_at bs (after_number bs pos)) _ p.1 _ h.1.0 refl))
    (then_to (pairs_at (length ps) bs (after_pair bs pos)) _ (ps, end) _ (pairs-back bs (after_pair bs pos) ps end h.1.1) refl)

back : (bs : List ℕ) (ps : List (ℕ × ℕ)) (end : ℕ) → Reads (number_at bs) (after_number bs) 0 (script_numbers ps) end → length bs ≤ end
    → pairs_read bs ≡ Ok ps
back bs ps end h l =
    then_to (number_at bs 0) _ (length ps) _ h.0
    (then_to (pairs_at (length ps) bs (after_number bs 0)) _ (ps, end) _ (pairs-back bs (after_number bs 0) ps end h.1)
    (rw (le-ltb end (length bs) l)))

pub script-back : ScriptBack
script-back ps w =
    let bs = spelled (script_numbers ps) in
    back bs ps (0 + length bs) (spelled-reads bs 0 (script_numbers ps) [] w (sym (append-nil bs))) (omega arith)

-- Pairs that are read are numbers that are read in turn.
pairs-reads : (n : ℕ) (bs : List ℕ) (pos : ℕ) (ps : List (ℕ × ℕ)) (end : ℕ) → pairs_at n bs pos ≡ Ok (ps, end)
    → (n ≡ length ps) × Reads (number_at bs) (after_number bs) pos (pair_numbers ps) end
pairs-reads zero bs pos ps end e =
    let s = ok_same e in
    subst (λ (z : List (ℕ × ℕ) × ℕ). (0 ≡ length z.0) × Reads (number_at bs) (after_number bs) pos (pair_numbers z.0) z.1) s (refl, refl)
pairs-reads (suc n) bs pos ps end e =
    then_by (pair_at bs pos) _ (ps, end) e (λ p h g.
    then_by (number_at bs pos) _ p h (λ s a h'.
    then_by (number_at bs (after_number bs pos)) _ p h' (λ w b k.
    then_by (pairs_at n bs (after_pair bs pos)) _ (ps, end) g (λ qs c t.
    let ih = pairs-reads n bs (after_pair bs pos) qs.0 qs.1 c in
    subst (λ (z : List (ℕ × ℕ) × ℕ). (suc n ≡ length z.0) × Reads (number_at bs) (after_number bs) pos (pair_numbers z.0) z.1) (ok_same t)
    (ap suc ih.0, (a ∙ ap (λ (z : ℕ × ℕ). Ok z.0) (ok_same k), (b ∙ ap (λ (z : ℕ × ℕ). Ok z.1) (ok_same k), ih.1)))))))

pub script-one-form : ScriptOneForm
script-one-form bs ps b e =
    then_by (number_at bs 0) _ ps e (λ n a g.
    then_by (pairs_at n bs (after_number bs 0)) _ ps g (λ qs c t. go n a qs c (ltb qs.1 (length bs)) refl t))
  where
    go : (n : ℕ) → number_at bs 0 ≡ Ok n → (qs : List (ℕ × ℕ) × ℕ) → pairs_at n bs (after_number bs 0) ≡ Ok qs
        → (v : Bool) → ltb qs.1 (length bs) ≡ v
        → ◌≡◌ {A = Result (List (ℕ × ℕ)) (Fault Offset)} (cond v (Err (fault_at Trailing qs.1)) (Ok qs.0)) (Ok ps)
        → bs ≡ spelled (script_numbers ps)
    go n a qs c true l t = absurd (never t)
    go n a qs c false l t =
        let p = pairs-reads n bs (after_number bs 0) qs.0 qs.1 c in
        let s = reads-spelled bs 0 (length qs.0 ∷ pair_numbers qs.0) qs.1 b (a ∙ ap (λ (k : ℕ). Ok k) p.0, p.1) in
        s.0
        ∙ ap (λ (xs : List ℕ). spelled (script_numbers qs.0) ++ xs) (drop_all qs.1 bs (ltb-false qs.1 (length bs) l))
        ∙ append-nil (spelled (script_numbers qs.0))
        ∙ ap (λ (xs : List (ℕ × ℕ)). spelled (script_numbers xs)) (ok_same t)
