use Rattle.std.specs.Prelude.{ℕ, List, Ok, Err, Result}
use Rattle.fault.specs.declared.refusal.Fault.{Fault}
use Rattle.fault.specs.declared.place.Offset.{Offset}
use Rattle.sheet.specs.Parts.{Read}

-- What a call that fills a list has read, with the position after it.
abbrev pub filled : {A : Type 0} → Result (Unit {0}) (Fault Offset) → List A → ℕ → Read (List A)
filled (Ok u) items next = Ok (items, next)
filled (Err f) items next = Err f
