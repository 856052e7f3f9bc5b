use Rattle.std.proofs.Common.{◌≡◌, Bool, List, [], ◌∷◌, refl, ◌∙◌, arith}
use Rattle.std.proofs.lemmas.Bool.Decides.{nat_tests}
use Rattle.std.specs.List.{list_any}
use Rattle.sheet.specs.Rows.{tests_of}
use Rattle.judge.specs.Tests.{alike}
use Rattle.judge.proofs.condition.is_among.Goals as goal

list_any_ext : {X : Type 0} (p q : X → Bool) → ((x : X) → p x ≡ q x) → (xs : List X) → list_any p xs ≡ list_any q xs
list_any_ext p q e [] = refl
list_any_ext p q e (x ∷ xs) = rw (e x, list_any_ext p q e xs)

pub returns : goal.returns
returns c = c.contains.ensures.value ∙ rw (c.deref.ensures.0, c.tests.ensures) (list_any_ext _ (alike c.args.s) (λ t. grind (arith, nat_tests)) (tests_of c.args.c))
