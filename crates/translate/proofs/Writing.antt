-- Lists of steps that are filled.
use Rattle.std.proofs.Common.{◌≡◌, ℕ, suc, ◌+◌, ◌<◌, List, [], ◌∷◌, ◌++◌, length, take, set, sym, refl, ap, ◌∙◌, ap₂, subst, add-zero, arith, length-append, length-set}
use Rattle.std.proofs.lemmas.List.{take_more}
use Rattle.sheet.specs.declared.row.Test.{Test}
use Rattle.sheet.specs.Rows.{test_at, no_test}
use Rattle.netcode.specs.declared.step.Step.{Step}
use Rattle.netcode.specs.declared.step.Step.TheVariants.{Test as test_step}
use Rattle.translate.specs.declared.code.Code.{Code}
use Rattle.translate.specs.Stores.{stored}
use Rattle.translate.specs.Programs.{Writes}
use Rattle.translate.specs.Translation.{tests_code}

pub stored-append : {X : Type 0} (old : List X) (at : ℕ) (xs ys : List X) → stored old at (xs ++ ys) ≡ stored (stored old at xs) (at + length xs) ys
stored-append old at [] ys = rw add-zero
stored-append old at (x ∷ xs) ys =
    let p : at + 1 + length xs ≡ at + suc (length xs) = omega arith in
    stored-append (set old at x) (at + 1) xs ys ∙ rw p

pub length-stored : {X : Type 0} (old : List X) (at : ℕ) (xs : List X) → length (stored old at xs) ≡ length old
length-stored old at [] = refl
length-stored old at (x ∷ xs) = length-stored (set old at x) (at + 1) xs ∙ length-set old at x

-- Nothing is written, and one thing after another.
pub writes_none : (a : Code) → Writes a a []
writes_none a = record { same = refl; list = refl; end = sym (add-zero a.end); room = refl }

pub writes_append : (a b c : Code) (xs ys : List Step) → Writes a b xs → Writes b c ys → Writes a c (xs ++ ys)
writes_append a b c xs ys w v =
    let e = w.end in
    let f = v.end in
    let l = length-append xs ys in
    record {
      same = v.same ∙ w.same;
      list = v.list ∙ ap₂ (λ (s : List Step) (k : ℕ). stored s k ys) w.list w.end ∙ sym (stored-append a.steps.now a.end xs ys);
      end = omega arith;
      room = v.room ∙ w.room;
    }

tests_code-append : (xs ys : List Test) (to : ℕ) → tests_code (xs ++ ys) to ≡ tests_code xs to ++ tests_code ys to
tests_code-append [] ys to = refl
tests_code-append (x ∷ xs) ys to = ap (λ (s : List Step). test_step x.variable x.relation x.word to ∷ s) (tests_code-append xs ys to)

-- One test more.
pub writes_test : (a b c : Code) (ts : List Test) (i to : ℕ) → i < length ts → Writes a b (tests_code (take i ts) to) → Writes b c (tests_code (test_at ts i ∷ []) to)
    → Writes a c (tests_code (take (i + 1) ts) to)
writes_test a b c ts i to l w v =
    let t = take_more ts i no_test l in
    subst (Writes a c) (sym (ap (λ (xs : List Test). tests_code xs to) t ∙ tests_code-append (take i ts) (test_at ts i ∷ []) to))
    (writes_append a b c (tests_code (take i ts) to) (tests_code (test_at ts i ∷ []) to) w v)
