-- Lengths of programs that are numbers of 32 bits.
use Rattle.std.proofs.Common.{◌≡◌, ℕ, ◌^◌, ◌<◌, true, ltb, List, [], ◌∷◌, length, drop, arith, length-take}
use Rattle.std.proofs.lemmas.Bool.{ltb-true, and_parts}
use Rattle.netcode.specs.declared.step.Step.{Step}
use Rattle.netcode.specs.Layouts.{cuts}
use Rattle.programs.specs.Files.{all_words}

-- Each program's length is a number of 32 bits.
abbrev pub Short : List (List Step) → Type 0
Short [] = Unit {0}
Short (p ∷ ps) = (length p < 2 ^ 32) × Short ps

pub short-cuts : (ns : List ℕ) (xs : List Step) → all_words ns ≡ true → Short (cuts ns xs)
short-cuts [] xs e = tt
short-cuts (n ∷ ns) xs e =
    let p = and_parts (ltb n (2 ^ 32)) (all_words ns) e in
    let b = ltb-true n (2 ^ 32) p.0 in
    (simp length-take (omega arith), short-cuts ns (drop n xs) p.1)
