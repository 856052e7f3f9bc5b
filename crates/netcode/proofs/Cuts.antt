use Rattle.std.proofs.Common.{◌≡◌, ℕ, List, [], ◌∷◌, length, drop, refl, arith}
use Rattle.netcode.specs.Layouts.{cuts}

-- There is a part for each length.
pub length-cuts : {X : Type 0} (ns : List ℕ) (xs : List X) → length (cuts ns xs) ≡ length ns
length-cuts [] xs = refl
length-cuts (n ∷ ns) xs = grind (arith, length-cuts ns (drop n xs))

pub ruleset cut_lengths = length-cuts
