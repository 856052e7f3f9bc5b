use Rattle.std.proofs.Common.{◌≡◌, ℕ, zero, suc, ◌+◌, ◌/◌, ◌%◌, ◌^◌, ◌<◌, not, eqb, ltb, List, [], ◌∷◌, Decides, refl, ap, arith}
use Rattle.std.specs.List.{AllByRecursion}
use Rattle.std.proofs.lemmas.Bool.Decides.{Decides-and, Decides-not, Decides-eqb, Decides-ltb, Decides-like}
use Rattle.std.proofs.ByRecursion.{Decides-by_and}
use Rattle.sheet.specs.declared.row.Head.{Head}
use Rattle.sheet.specs.declared.row.Relation.{Relation}
use Rattle.sheet.specs.declared.row.Relation.TheVariants.{Equal, Unequal}
use Rattle.sheet.specs.declared.row.Test.{Test}
use Rattle.sheet.specs.declared.row.Row.{Row}
use Rattle.judge.specs.declared.need.Need.{Need}
use Rattle.sheet.specs.declared.row.Row.TheVariants.{Keep as keep_row, Call as call_row, Send as send_row}
use Rattle.sheet.specs.Rows.{tests_of, inputs_of, all_below, no_test}
use Rattle.judge.specs.Tests.{opposed_by, opposed, opposed_to, excluding, same_relation, alike, among, all_among, all_within, tested, none_twice}
use Rattle.judge.specs.Verdict.{within_cycle, fields_within, is_keep, tested_once, two_writers, overlapping, provides, listens}
use Rattle.judge.specs.Rules.{Any, WithinCycle, TestsWithin, FieldsWithin, IsKeep, NoneTwice, TestedOnce, OpposedWords, Opposed, Exclude, SingleWriter, NoOverlap, Among, Provides}
use Rattle.judge.proofs.Logic.{always, never, le-decides, not-lt-decides, twice-not, unless, not-both, any-decides, any_at, place_of}
use Rattle.judge.proofs.Bitwise.{exist-decides}

opposed-words : (p : Relation) (v : ℕ) (q : Relation) (w : ℕ) → Decides (opposed_by p v q w) (OpposedWords p v q w)
opposed-words Equal v Equal w = Decides-not (eqb v w) (Decides-eqb v w)
opposed-words Equal v Unequal w = Decides-eqb v w
opposed-words Unequal v Equal w = Decides-eqb v w
opposed-words Unequal v Unequal w = never

opposed-decides : (s t : Test) → Decides (opposed s t) (Opposed s t)
opposed-decides s t =
    Decides-and _ _ (Decides-eqb s.variable t.variable) (opposed-words s.relation s.word t.relation t.word)

opposed-to : (ts : List Test) (s : Test) → Decides (opposed_to s ts) (Any (λ t. Opposed s t) ts)
opposed-to ts s = any-decides (opposed s) (λ t. Opposed s t) (opposed_to s) (opposed-decides s) refl (λ _ _. refl) ts

pub exclude-decides : (ss ts : List Test) → Decides (excluding ss ts) (Exclude ss ts)
exclude-decides ss ts =
    any-decides (λ s. opposed_to s ts) (λ s. Any (λ t. Opposed s t) ts) (λ xs. excluding xs ts) (opposed-to ts) refl (λ _ _. refl) ss

same_relation_lem : (p q : Relation) → Decides (same_relation p q) (p ≡ q)
same_relation_lem Equal Equal = (λ _. refl, λ _. refl)
same_relation_lem Equal Unequal = (λ e. absurd (never.0 e), λ e. ap (λ x. same_relation x Unequal) e)
same_relation_lem Unequal Equal = (λ e. absurd (never.0 e), λ e. ap (λ x. same_relation x Equal) e)
same_relation_lem Unequal Unequal = (λ _. refl, λ _. refl)

test-same : (s t : Test) → ((s.variable ≡ t.variable) × ((s.word ≡ t.word) × (s.relation ≡ t.relation))) → s ≡ t
test-same s t h =
    let a = h.0 in
    let b = h.1.0 in
    let d = h.1.1 in
    let e : ◌≡◌ {A = Test} record { variable = s.variable; relation = s.relation; word = s.word } record { variable = t.variable; relation = t.relation; word = t.word } = cc in
    e

alike-decides : (s t : Test) → Decides (alike s t) (s ≡ t)
alike-decides s t =
    Decides-like _ (test-same s t) (λ e. (ap (λ x. x.variable) e, (ap (λ x. x.word) e, ap (λ x. x.relation) e)))
    (Decides-and _ _ (Decides-eqb s.variable t.variable) (Decides-and _ _ (Decides-eqb s.word t.word) (same_relation_lem s.relation t.relation)))

among-decides : (ts : List Test) (s : Test) → Decides (among s ts) (Any (λ t. s ≡ t) ts)
among-decides ts s = any-decides (alike s) (λ t. s ≡ t) (among s) (alike-decides s) refl (λ _ _. refl) ts

pub all_among_lem : (ss ts : List Test) → Decides (all_among ss ts) (Among ss ts)
all_among_lem ss ts =
    Decides-by_and (λ s. among s ts) (λ s. Any (λ t. s ≡ t) ts) (λ xs. all_among xs ts) (among-decides ts) refl (λ _ _. refl) ss

tests-within : (h : Head) (ts : List Test) → Decides (all_within h.variables ts) (TestsWithin h ts)
tests-within h ts =
    Decides-by_and (λ t. ltb t.variable h.variables) (λ t. t.variable < h.variables) (all_within h.variables)
    (λ t. Decides-ltb t.variable h.variables) refl (λ _ _. refl) ts

inputs-within : (n : ℕ) (vs : List ℕ) → Decides (all_below n vs) (AllByRecursion (λ v. v < n) vs)
inputs-within n vs = Decides-by_and (λ v. ltb v n) (λ v. v < n) (all_below n) (λ v. Decides-ltb v n) refl (λ _ _. refl) vs

cycle-decides : (h : Head) (date duration : ℕ) → Decides (within_cycle date duration h.cycle) (WithinCycle h date duration)
cycle-decides h date duration = Decides-and _ _ (Decides-ltb 0 duration) (le-decides (date + duration) h.cycle)

pub fields-decides : (h : Head) (x : Row) → Decides (fields_within h x) (FieldsWithin h x)
fields-decides h (keep_row k) =
    Decides-and _ _ (Decides-ltb k.station h.stations)
    (Decides-and _ _ (Decides-ltb k.taken h.variables) (Decides-ltb k.given h.variables))
fields-decides h (call_row c) =
    Decides-and _ _ (Decides-ltb c.station h.stations)
    (Decides-and _ _ (le-decides c.work 255)
    (Decides-and _ _ (inputs-within h.variables (inputs_of c.inputs))
    (Decides-and _ _ (Decides-ltb c.output h.variables)
    (Decides-and _ _ (cycle-decides h c.date c.duration) (tests-within h (tests_of c.condition))))))
fields-decides h (send_row s) =
    Decides-and _ _ (Decides-ltb s.station h.stations)
    (Decides-and _ _ (Decides-ltb s.variable h.variables)
    (Decides-and _ _ (Decides-ltb 0 s.listeners)
    (Decides-and _ _ (exist-decides s.listeners h.stations)
    (Decides-and _ _ (Decides-not (listens s.listeners s.station) (Decides-eqb (s.listeners / 2 ^ s.station % 2) 1))
    (Decides-and _ _ (cycle-decides h s.date s.duration) (tests-within h (tests_of s.condition)))))))

pub keep-decides : (x : Row) → Decides (is_keep x) (IsKeep x)
keep-decides (keep_row k) = always
keep-decides (call_row c) = never
keep-decides (send_row s) = never

tested-decides : (v : ℕ) (ts : List Test) → Decides (tested v ts) (Any (λ u. v ≡ u.variable) ts)
tested-decides v ts =
    any-decides (λ t. eqb v t.variable) (λ u. v ≡ u.variable) (tested v) (λ t. Decides-eqb v t.variable) refl (λ _ _. refl) ts

once_more : (t : Test) (ts : List Test) → ((Any (λ u. t.variable ≡ u.variable) ts → ⊥) × NoneTwice ts) → NoneTwice (t ∷ ts)
once_more t ts a zero zero h l e = absurd (omega arith)
once_more t ts a zero (suc j) h l e = a.0 (any_at (λ u. t.variable ≡ u.variable) no_test ts j (omega arith) e)
once_more t ts a (suc i) zero h l e = absurd (omega arith)
once_more t ts a (suc i) (suc j) h l e = a.1 i j (omega arith) (omega arith) e

once-less : (t : Test) (ts : List Test) → NoneTwice (t ∷ ts) → ((Any (λ u. t.variable ≡ u.variable) ts → ⊥) × NoneTwice ts)
once-less t ts f =
    ((λ a. let k = place_of (λ u. t.variable ≡ u.variable) no_test ts a in f 0 (suc k.0) (omega arith) (omega (arith, k.1)) k.2), λ i j h l e. f (suc i) (suc j) (omega arith) (omega arith) e)

none-twice : (ts : List Test) → Decides (none_twice ts) (NoneTwice ts)
none-twice [] = ((λ _ i j h l. absurd (omega arith)), λ _. refl)
none-twice (t ∷ ts) =
    Decides-like _ (once_more t ts) (once-less t ts)
    (Decides-and _ _ (Decides-not (tested t.variable ts) (tested-decides t.variable ts)) (none-twice ts))

pub once-decides : (x : Row) → Decides (tested_once x) (TestedOnce x)
once-decides (keep_row k) = always
once-decides (call_row c) = none-twice (tests_of c.condition)
once-decides (send_row s) = none-twice (tests_of s.condition)

pub writer-decides : (x y : Row) → Decides (not (two_writers x y)) (SingleWriter x y)
writer-decides (keep_row k) (keep_row l) = Decides-not _ (Decides-eqb k.given l.given)
writer-decides (keep_row k) (call_row c) = Decides-not _ (Decides-eqb k.given c.output)
writer-decides (keep_row k) (send_row s) = always
writer-decides (call_row c) (keep_row k) = Decides-not _ (Decides-eqb c.output k.given)
writer-decides (call_row c) (call_row d) =
    unless _ _ (Decides-eqb c.output d.output)
    (twice-not _ (exclude-decides (tests_of c.condition) (tests_of d.condition)))
writer-decides (call_row c) (send_row s) = always
writer-decides (send_row s) y = always

pub overlap-decides : (x y : Row) → Decides (not (overlapping x y)) (NoOverlap x y)
overlap-decides (keep_row k) y = always
overlap-decides (call_row c) (keep_row k) = always
overlap-decides (call_row c) (call_row d) =
    unless _ _ (Decides-eqb c.station d.station)
    (not-both _ _ (twice-not _ (exclude-decides (tests_of c.condition) (tests_of d.condition)))
    (not-lt-decides d.date (c.date + c.duration)))
overlap-decides (call_row c) (send_row s) = always
overlap-decides (send_row s) (keep_row k) = always
overlap-decides (send_row s) (call_row c) = always
overlap-decides (send_row s) (send_row t) =
    not-both _ _ (twice-not _ (exclude-decides (tests_of s.condition) (tests_of t.condition)))
    (not-both _ _ (not-lt-decides t.date (s.date + s.duration)) (not-lt-decides s.date (t.date + t.duration)))

pub provides-decides : (x : Row) (w : Need) → Decides (provides x w) (Provides x w.station w.variable w.date (tests_of w.after))
provides-decides (keep_row k) w =
    Decides-and _ _ (Decides-eqb k.station w.station) (Decides-eqb k.given w.variable)
provides-decides (call_row c) w =
    Decides-and _ _ (Decides-eqb c.station w.station)
    (Decides-and _ _ (Decides-eqb c.output w.variable)
    (Decides-and _ _ (le-decides (c.date + c.duration) w.date) (all_among_lem (tests_of c.condition) (tests_of w.after))))
provides-decides (send_row s) w =
    Decides-and _ _ (Decides-eqb (s.listeners / 2 ^ w.station % 2) 1)
    (Decides-and _ _ (Decides-eqb s.variable w.variable)
    (Decides-and _ _ (le-decides (s.date + s.duration) w.date) (all_among_lem (tests_of s.condition) (tests_of w.after))))
