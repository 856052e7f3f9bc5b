use Rattle.std.proofs.Common.{◌≡◌, ℕ, zero, suc, ◌+◌, ◌-◌, ◌^◌, ◌<◌, ◌≤◌, true, false, cond, ◌⊎◌, List, [], ◌∷◌, ◌++◌, Some, None, Option, sym, refl, ◌∙◌, inl, inr, arith}
use Rattle.sheet.specs.declared.row.Row.{Row}
use Rattle.sheet.specs.declared.row.Condition.{Condition}
use Rattle.sheet.specs.declared.row.Send.{Send}
use Rattle.judge.specs.declared.need.Need.{Need}
use Rattle.std.proofs.lemmas.Bool.{le-ltb}
use Rattle.judge.specs.Verdict.{listens, available, first_unavailable, need_at, joined, heard_needs, listener_needs}
use Rattle.sheet.specs.declared.row.Test.{Test}
use Rattle.sheet.specs.declared.row.Condition.{Condition}
use Rattle.judge.proofs.Bitwise.{listens-none}

abbrev pub or_later : Option ℕ → Option ℕ → Option ℕ
or_later (Some v) later = Some v
or_later None later = later

-- What is missing of two lists of needs: of the first, or else of the second.
pub unavailable-append : (above : List Row) (xs ys : List Need)
    → first_unavailable above (xs ++ ys) ≡ or_later (first_unavailable above xs) (first_unavailable above ys)
unavailable-append above [] ys = refl
unavailable-append above (w ∷ ws) ys =
    elim (available above w)
    as (λ b. cond b (first_unavailable above (ws ++ ys)) (Some w.variable) ≡ or_later (cond b (first_unavailable above ws) (Some w.variable)) (first_unavailable above ys))
    [ true ↦ unavailable-append above ws ys | false ↦ refl ]

pub unavailable-at : (above : List Row) (xs ys : List Need) (o : Option ℕ) → o ≡ first_unavailable above xs
    → first_unavailable above (xs ++ ys) ≡ or_later o (first_unavailable above ys)
unavailable-at above xs ys o e = rw e (unavailable-append above xs ys)

-- One more station.
pub heard : (above : List Row) (s : Send Condition) (k n : ℕ) (o : Option ℕ) → n < k → o ≡ first_unavailable above (heard_needs s n)
    → first_unavailable above (listener_needs s (k - n) n) ≡ or_later o (first_unavailable above (listener_needs s (k - (n + 1)) (n + 1)))
heard above s k n o h e =
    let p : k - n ≡ suc (k - (n + 1)) = omega arith in
    rw p (unavailable-at above (heard_needs s n) (listener_needs s (k - (n + 1)) (n + 1)) o e)

-- Beyond the bits of the listeners none listens.
heard-beyond : (above : List Row) (s : Send Condition) (k n : ℕ) → s.listeners < 2 ^ 32 → 32 ≤ n
    → first_unavailable above (listener_needs s k n) ≡ None
heard-beyond above s zero n l h = refl
heard-beyond above s (suc k) n l h =
    let b : listens s.listeners n ≡ false = sym (listens-none s.listeners n l h) ∙ le-ltb n 32 h in
    rw b (heard-beyond above s k (n + 1) l (omega arith))

-- So it is enough to ask as many stations as there are bits.
pub heard-rest : (above : List Row) (s : Send Condition) (k n : ℕ) → s.listeners < 2 ^ 32 → (k ≤ n) ⊎ (32 ≤ n)
    → first_unavailable above (listener_needs s (k - n) n) ≡ None
heard-rest above s k n l (inl h) =
    let p : k - n ≡ 0 = omega arith in
    rw p
heard-rest above s k n l (inr h) = heard-beyond above s (k - n) n l h

-- The needs of the tests `ts` that come after others.
abbrev pub needs_after : ℕ → ℕ → Condition → List Test → List Need
needs_after station date after [] = []
needs_after station date after (t ∷ ts) = need_at station date t.variable after ∷ needs_after station date (joined after t) ts
