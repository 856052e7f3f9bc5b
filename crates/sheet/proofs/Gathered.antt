-- Rows read one after the other.
use Rattle.std.proofs.Common.{◌≡◌, ℕ, zero, suc, ◌-◌, ◌<◌, List, [], ◌∷◌, ◌++◌, Ok, Err, refl, append_assoc, arith}
use Rattle.fault.specs.declared.refusal.Fault.{Fault}
use Rattle.fault.specs.declared.place.Offset.{Offset}
use Rattle.wire.specs.Numbers.{and_then}
use Rattle.sheet.specs.declared.row.Row.{Row}
use Rattle.sheet.specs.Parts.{Read}
use Rattle.sheet.specs.Sheets.{row_from, rows_from}

-- The rows in `xs`, and then what was read.
abbrev pub before : List Row → Read (List Row) → Read (List Row)
before xs (Ok rs) = Ok (xs ++ rs.0, rs.1)
before xs (Err f) = Err f

before_more : (xs : List Row) (r : Row) (rest : Read (List Row)) → before xs (and_then rest (λ rs. Ok (r ∷ rs.0, rs.1))) ≡ before (xs ++ r ∷ []) rest
before_more xs r (Ok rs) = rw append_assoc
before_more xs r (Err f) = refl

pub rows_more : (xs : List Row) (n : ℕ) (bs : List ℕ) (pos : ℕ) (r : Row) (next : ℕ) → 0 < n → Ok (r, next) ≡ row_from bs pos
    → before xs (rows_from n bs pos) ≡ before (xs ++ r ∷ []) (rows_from (n - 1) bs next)
rows_more xs zero bs pos r next h e = absurd (omega arith)
rows_more xs (suc n) bs pos r next h e =
    let m : suc n - 1 ≡ n = omega arith in
    rw (m, ← e) (before_more xs r (rows_from n bs next))

pub rows-refused : (xs : List Row) (n : ℕ) (bs : List ℕ) (pos : ℕ) (f : Fault Offset) → 0 < n → Err f ≡ row_from bs pos
    → Err f ≡ before xs (rows_from n bs pos)
rows-refused xs zero bs pos f h e = absurd (omega arith)
rows-refused xs (suc n) bs pos f h e = rw (← e)
