-- The byte form of a script.
use Rattle.std.specs.Prelude.{◌≡◌, ℕ, ◌^◌, ◌<◌, List, [], ◌∷◌, length, Ok}
use Rattle.std.specs.List.{AllByRecursion}
use Rattle.wire.specs.Bytes.{Bytes, spelled}
use Rattle.plant.specs.Script.{pairs_read}

-- The numbers of the pairs, and those of a script: the count, then each pair's station and word.
abbrev pub pair_numbers : List (ℕ × ℕ) → List ℕ
pair_numbers [] = []
pair_numbers (p ∷ ps) = p.0 ∷ p.1 ∷ pair_numbers ps

abbrev pub script_numbers : List (ℕ × ℕ) → List ℕ
script_numbers ps = length ps ∷ pair_numbers ps

-- A script of numbers of 32 bits is read back as it was written,
abbrev pub ScriptBack : Type 0
ScriptBack = (ps : List (ℕ × ℕ)) → AllByRecursion (λ n. n < 2 ^ 32) (script_numbers ps) → pairs_read (spelled (script_numbers ps)) ≡ Ok ps

-- and bytes that are read as a script are what it is written as.
abbrev pub ScriptOneForm : Type 0
ScriptOneForm = (bs : List ℕ) (ps : List (ℕ × ℕ)) → Bytes bs → pairs_read bs ≡ Ok ps → bs ≡ spelled (script_numbers ps)
