use Rattle.std.specs.Prelude.{ℕ, List, [], ◌∷◌, ◌++◌, decimal, codes}
use Rattle.fault.specs.declared.refusal.Fault.{Fault}
use Rattle.fault.specs.declared.place.Place.{Place}
use Rattle.fault.specs.Refusals.{number_of}
use Rattle.fault.specs.Places.{values_of}

-- Numbers in decimal, a blank before each.
abbrev pub blank_then : List ℕ → List ℕ
blank_then [] = []
blank_then (n ∷ ns) = codes " " ++ (decimal n ++ blank_then ns)

-- "refused", the number and the place of a fault.
abbrev pub refused_text : Fault Place → List ℕ
refused_text f = codes "refused" ++ blank_then (number_of f.refusal ∷ values_of f.place)
