use Rattle.std.proofs.Common.{◌≡◌, ℕ, zero, suc, ◌+◌, ◌-◌, ◌<◌, ◌≤◌, Bool, true, false, cond, ◌&&◌, ◌||◌, ltb, ◌⊎◌, List, [], ◌∷◌, length, take, Some, None, Decides, Option, sym, refl, ap, ◌∙◌, inl, inr, add-zero, zero-add, arith}
use Rattle.std.proofs.lemmas.List.{length-take-le}
use Rattle.std.proofs.lemmas.Bool.{cases_lt, false≢true, le-ltb}
use Rattle.std.proofs.lemmas.Bool.Decides.{Decides-ltb, Decides-and, Decides-or, Decides-like, not_from_Decides}
use Rattle.fault.specs.declared.refusal.Fault.{Fault}
use Rattle.fault.specs.declared.place.StepPlace.{StepPlace}
use Rattle.fault.specs.Scan.{FirstBad}
use Rattle.fault.proofs.Scans.{first-is}
use Rattle.sheet.specs.declared.row.Inputs.{Inputs}
use Rattle.sheet.specs.declared.row.Inputs.TheVariants.{Nothing, Single, Pair}
use Rattle.netcode.specs.declared.step.Step.{Step}
use Rattle.netcode.specs.declared.step.Step.TheVariants.{Test, Future, Halt, Call, Send, Receive, Keep, Clear, Give}
use Rattle.netcode.specs.Steps.{step_in, no_step}
use Rattle.netcode.specs.Rules.{tick_count, inputs_within, fields_within, is_halt, step_stands, broken_step, broken_at, at_address, broken_program, or_next, first_broken}
use Rattle.netcode.specs.Laws.{Ticks, InputsWithin, Within, Lawful, Keeps, FirstBreach, Judged, program_in, LawfulBefore, Verdict, RulesStand}

always : Decides true (Unit {0})
always = ((λ _. tt), λ _. refl)

decides-ticks : (n : ℕ) → Decides (tick_count n) (Ticks n)
decides-ticks n =
    Decides-like (tick_count n) (λ p. (p.0, omega arith)) (λ p. (p.0, omega arith))
    (Decides-and (ltb 0 n) (ltb n 65536) (Decides-ltb 0 n) (Decides-ltb n 65536))

decides-inputs : (i : Inputs) → Decides (inputs_within i) (InputsWithin i)
decides-inputs Nothing = always
decides-inputs (Single a) = Decides-ltb a 64
decides-inputs (Pair a b) = Decides-and (ltb a 64) (ltb b 64) (Decides-ltb a 64) (Decides-ltb b 64)

decides-three : {P Q R : Type 0} (x y z : Bool) → Decides x P → Decides y Q → Decides z R → Decides (x && (y && z)) (P × Q × R)
decides-three x y z p q r =
    Decides-like (x && (y && z)) (λ a. (a.0, a.1.0, a.1.1)) (λ a. (a.0, (a.1, a.2))) (Decides-and x (y && z) p (Decides-and y z q r))

decides-fields : (count at : ℕ) (s : Step) → Decides (fields_within count at s) (Within count at s)
decides-fields count at (Test v r w t) = decides-three (ltb v 64) (ltb at t) (ltb t count) (Decides-ltb v 64) (Decides-ltb at t) (Decides-ltb t count)
decides-fields count at (Future n t) = Decides-and (tick_count n) (ltb t count) (decides-ticks n) (Decides-ltb t count)
decides-fields count at Halt = always
decides-fields count at (Call r w i o d) =
    let rest = decides-three (inputs_within i) (ltb o 64) (tick_count d) (decides-inputs i) (Decides-ltb o 64) (decides-ticks d) in
    Decides-like (fields_within count at (Call r w i o d))
    (λ a. (a.0, a.1, a.2.0, a.2.1, a.2.2)) (λ a. (a.0, a.1, (a.2, a.3, a.4)))
    (decides-three (ltb r 128) (ltb w 256) (inputs_within i && (ltb o 64 && tick_count d)) (Decides-ltb r 128) (Decides-ltb w 256) rest)
decides-fields count at (Send r v d) = decides-three (ltb r 128) (ltb v 64) (tick_count d) (Decides-ltb r 128) (Decides-ltb v 64) (decides-ticks d)
decides-fields count at (Receive v d) = Decides-and (ltb v 64) (tick_count d) (Decides-ltb v 64) (decides-ticks d)
decides-fields count at (Keep v c) = Decides-and (ltb v 64) (ltb c 16) (Decides-ltb v 64) (Decides-ltb c 16)
decides-fields count at Clear = always
decides-fields count at (Give c v w) = Decides-and (ltb c 16) (ltb v 64) (Decides-ltb c 16) (Decides-ltb v 64)

halt-is : (s : Step) → is_halt s ≡ true → s ≡ Halt
halt-is (Test v r w t) e = absurd (false≢true e)
halt-is (Future n t) e = absurd (false≢true e)
halt-is Halt e = refl
halt-is (Call r w i o d) e = absurd (false≢true e)
halt-is (Send r v d) e = absurd (false≢true e)
halt-is (Receive v d) e = absurd (false≢true e)
halt-is (Keep v c) e = absurd (false≢true e)
halt-is Clear e = absurd (false≢true e)
halt-is (Give c v w) e = absurd (false≢true e)

decides-step : (count at : ℕ) (s : Step) → at < count
    → Decides (step_stands count at s) (Within count at s × (at + 1 ≡ count → s ≡ Halt))
decides-step count at s h =
    Decides-and (fields_within count at s) (ltb (at + 1) count || is_halt s) (decides-fields count at s)
    (Decides-like (ltb (at + 1) count || is_halt s) last other
    (Decides-or (ltb (at + 1) count) (is_halt s) (Decides-ltb (at + 1) count) (halt-is s, λ e. ap is_halt e)))
  where
    last : (at + 1 < count) ⊎ (s ≡ Halt) → at + 1 ≡ count → s ≡ Halt
    last (inl l) e = absurd (omega arith)
    last (inr l) e = l

    other : (at + 1 ≡ count → s ≡ Halt) → (at + 1 < count) ⊎ (s ≡ Halt)
    other f = elim (cases_lt (at + 1) count) [ inl l ↦ inl l | inr l ↦ inr (f (omega arith)) ]

-- The rule of each step of a program, by its address.
abbrev rule : List Step → ℕ → Step → Option (Unit {0})
rule xs = λ i x. broken_step (length xs) (take i xs) x

none_true : (b : Bool) → ◌≡◌ {A = Option (Unit {0})} (cond b None (Some tt)) None → b ≡ true
none_true true e = refl
none_true false e = let z : ◌≡◌ {A = ℕ} 0 1 = cc in absurd (omega arith)

some-false : (b : Bool) (u : Unit {0}) → ◌≡◌ {A = Option (Unit {0})} (cond b None (Some tt)) (Some u) → b ≡ false
some-false true u e = let z : ◌≡◌ {A = ℕ} 0 1 = cc in absurd (omega arith)
some-false false u e = refl

keeps : (xs : List Step) (k : ℕ) → k < length xs → rule xs k (step_in xs k) ≡ None → Keeps xs k
keeps xs k h e =
    let l : length (take k xs) ≡ k = length-take-le k xs (omega arith) in
    (decides-step (length xs) k (step_in xs k) h).0 (none_true _ (rw l at e))

breaks : (xs : List Step) (k : ℕ) (u : Unit {0}) → k < length xs → rule xs k (step_in xs k) ≡ Some u → Keeps xs k → ⊥
breaks xs k u h e =
    let l : length (take k xs) ≡ k = length-take-le k xs (omega arith) in
    not_from_Decides (step_stands (length xs) k (step_in xs k)) (decides-step (length xs) k (step_in xs k) h) (some-false _ u (rw l at e))

lawful-from : (xs : List Step) → 1 ≤ length xs → length xs ≤ 2048 → ((k : ℕ) → k < length xs → Keeps xs k) → Lawful xs
lawful-from xs a b f =
    record { some = a; few = b; steps = λ k h. (f k h).0; halts = (f (length xs - 1) (omega arith)).1 (omega arith) }

keeps-from : (xs : List Step) → Lawful xs → (k : ℕ) → k < length xs → Keeps xs k
keeps-from xs l k h = (l.steps k h, λ e. let q : k ≡ length xs - 1 = omega arith in rw q l.halts)

-- A program that keeps the rules breaks none.
pub no-breach : (xs : List Step) (address : ℕ) → Lawful xs → FirstBreach xs address → ⊥
no-breach xs address l (inl (p, q)) = elim p [ inl e ↦ omega (arith, l.some) | inr e ↦ omega (arith, l.few) ]
no-breach xs address l (inr (a, b, h, f, g)) = f (keeps-from xs l address h)

found : (number : ℕ) (xs : List Step) (r : Option (ℕ × Unit {0})) → 1 ≤ length xs → length xs ≤ 2048 → FirstBad (rule xs) xs r
    → Judged number xs (at_address number r)
found number xs None a b f = lawful-from xs a b (λ k h. keeps xs k h (f k no_step h))
found number xs (Some iw) a b f =
    (refl, inr (a, b, f.0, breaks xs iw.0 iw.1 f.0 (f.1 no_step), λ k h. keeps xs k (omega (arith, f.0)) (f.2 k no_step h)))

-- The verdict on a program is that of the rules.
pub judged-program : (number : ℕ) (xs : List Step) → Judged number xs (broken_program number xs)
judged-program number xs =
    elim (cases_lt 0 (length xs)) [
      | inl a ↦
          elim (cases_lt (length xs) 2049) [
            | inl b ↦ rw ((Decides-ltb 0 (length xs)).1 a, (Decides-ltb (length xs) 2049).1 b) (found number xs _ a (omega arith) (first-is (rule xs) xs _ refl))
            | inr b ↦ rw ((Decides-ltb 0 (length xs)).1 a, le-ltb (length xs) 2049 b) (refl, inl (inr (omega arith), refl))
          ]
      | inr a ↦ rw (le-ltb 0 (length xs) a) (refl, inl (inl (omega arith), refl))
    ]

no-fault : (number : ℕ) (xs : List Step) (r : Option (Fault StepPlace)) → Lawful xs → Judged number xs r → r ≡ None
no-fault number xs None l j = refl
no-fault number xs (Some f) l j = absurd (no-breach xs f.place.address l j.1)

pub lawful-program : (number : ℕ) (xs : List Step) → Lawful xs → broken_program number xs ≡ None
lawful-program number xs l = no-fault number xs (broken_program number xs) l (judged-program number xs)

-- The verdict on programs that are numbered from `n`.
abbrev From : ℕ → List (List Step) → Option (Fault StepPlace) → Type 0
From n ps None = LawfulBefore ps (length ps)
From n ps (Some f) =
    (p : ℕ) × (f ≡ broken_at (n + p) f.place.address) × (p < length ps) × FirstBreach (program_in ps p) f.place.address × LawfulBefore ps p

before-cons : (x : List Step) (ps : List (List Step)) (n : ℕ) → Lawful x → LawfulBefore ps n → LawfulBefore (x ∷ ps) (n + 1)
before-cons x ps n l f zero h = l
before-cons x ps n l f (suc k) h = f k (omega arith)

from_cons : (n : ℕ) (x : List Step) (ps : List (List Step)) (r : Option (Fault StepPlace)) → Lawful x → From (n + 1) ps r → From n (x ∷ ps) r
from_cons n x ps None l f = λ k h. before-cons x ps (length ps) l f k (omega arith)
from_cons n x ps (Some g) l f =
    let e : n + 1 + f.0 ≡ n + suc f.0 = omega arith in
    (suc f.0, f.1 ∙ ap (λ (m : ℕ). broken_at m g.place.address) e, omega (arith, f.2), f.3, λ k h. before-cons x ps f.0 l f.4 k (omega arith))

from-head : (n : ℕ) (x : List Step) (ps : List (List Step)) (o r : Option (Fault StepPlace)) → Judged n x o → From (n + 1) ps r → From n (x ∷ ps) (or_next o r)
from-head n x ps None r j f = from_cons n x ps r j f
from-head n x ps (Some g) r j f =
    (0, j.0 ∙ ap (λ (m : ℕ). broken_at m g.place.address) (sym (add-zero n)), omega arith, j.1, λ k h. absurd (omega arith))

from_first : (n : ℕ) (ps : List (List Step)) → From n ps (first_broken n ps)
from_first n [] = λ k h. absurd (omega arith)
from_first n (x ∷ ps) = from-head n x ps (broken_program n x) (first_broken (n + 1) ps) (judged-program n x) (from_first (n + 1) ps)

verdict : (ps : List (List Step)) (r : Option (Fault StepPlace)) → From 0 ps r → Verdict ps r
verdict ps None f = f
verdict ps (Some g) f =
    let e : g.place.program ≡ f.0 = ap (λ (x : Fault StepPlace). x.place.program) f.1 ∙ zero-add f.0 in
    (ap (λ (x : Fault StepPlace). x.refusal) f.1, rw e f.2, rw e f.3, rw e f.4)

-- The verdict on all programs is that of the rules.
pub judged-programs : (ps : List (List Step)) → Verdict ps (first_broken 0 ps)
judged-programs ps = verdict ps (first_broken 0 ps) (from_first 0 ps)

none-fault : (ps : List (List Step)) (r : Option (Fault StepPlace)) → LawfulBefore ps (length ps) → Verdict ps r → r ≡ None
none-fault ps None l j = refl
none-fault ps (Some f) l j = absurd (no-breach (program_in ps f.place.program) f.place.address (l f.place.program j.1) j.2)

pub rules-stand : RulesStand
rules-stand =
    record {
      program = judged-program;
      programs = judged-programs;
      lawful = lawful-program;
      all_lawful = λ ps l. none-fault ps (first_broken 0 ps) l (judged-programs ps);
    }
