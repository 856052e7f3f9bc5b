use Rattle.std.specs.Prelude.{ℕ, Bool, true, false, not, ◌&&◌, List, [], ◌∷◌, ◌==◌, nat_lt}
use Rattle.std.specs.List.{list_any, list_all}
use Rattle.sheet.specs.declared.row.Relation.{Relation}
use Rattle.sheet.specs.declared.row.Relation.TheVariants.{Equal, Unequal}
use Rattle.sheet.specs.declared.row.Test.{Test}

-- No word passes both relations.
abbrev pub opposed_by : Relation → ℕ → Relation → ℕ → Bool
opposed_by Equal v Equal w = not (v == w)
opposed_by Equal v Unequal w = v == w
opposed_by Unequal v Equal w = v == w
opposed_by Unequal v Unequal w = false

abbrev pub opposed : Test → Test → Bool
opposed s t = s.variable == t.variable && opposed_by s.relation s.word t.relation t.word

abbrev pub opposed_to : Test → List Test → Bool
opposed_to s ts = list_any (opposed s) ts

-- Whether two conditions exclude each other.
abbrev pub excluding : List Test → List Test → Bool
excluding ss ts = list_any (λ s. opposed_to s ts) ss

abbrev pub same_relation : Relation → Relation → Bool
same_relation Equal Equal = true
same_relation Equal Unequal = false
same_relation Unequal Equal = false
same_relation Unequal Unequal = true

abbrev pub alike : Test → Test → Bool
alike s t = s.variable == t.variable && (s.word == t.word && same_relation s.relation t.relation)

abbrev pub among : Test → List Test → Bool
among s ts = list_any (alike s) ts

abbrev pub all_among : List Test → List Test → Bool
all_among ss ts = list_all (λ s. among s ts) ss

abbrev pub all_within : ℕ → List Test → Bool
all_within n ts = list_all (λ t. nat_lt t.variable n) ts

abbrev pub tested : ℕ → List Test → Bool
tested v ts = list_any (λ t. v == t.variable) ts

abbrev pub none_twice : List Test → Bool
none_twice [] = true
none_twice (t ∷ ts) = not (tested t.variable ts) && none_twice ts
