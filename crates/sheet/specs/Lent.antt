use Rattle.std.specs.Prelude.{ℕ, List, Ok, Err, Result}
use Rattle.std.specs.Borrow.{Bor}
use Rattle.fault.specs.declared.refusal.Fault.{Fault}
use Rattle.fault.specs.declared.place.Offset.{Offset}
use Rattle.sheet.specs.Parts.{Read}

-- A borrowed part by its bytes, with the position after it.
abbrev pub lent : Result (Bor (List ℕ)) (Fault Offset) → ℕ → Read (List ℕ)
lent (Ok s) next = Ok (s.now, next)
lent (Err f) next = Err f
