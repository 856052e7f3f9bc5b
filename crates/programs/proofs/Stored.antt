use Rattle.std.proofs.Common.{◌≡◌, ℕ, zero, suc, ◌+◌, ◌-◌, ◌<◌, ◌≤◌, List, [], ◌∷◌, ◌++◌, length, set, Ok, Err, Result, refl, ap, ◌∙◌, add-zero, arith}
use Rattle.fault.specs.declared.refusal.Fault.{Fault}
use Rattle.fault.specs.declared.place.Offset.{Offset}
use Rattle.wire.specs.Numbers.{and_then}
use Rattle.sheet.specs.Parts.{Read}
use Rattle.netcode.specs.declared.step.Step.{Step}
use Rattle.fault.specs.declared.place.BytesPlace.{BytesPlace}
use Rattle.std.proofs.lemmas.Bool.{le-ltb}
use Rattle.wire.specs.Numbers.{number_at, after_number}
use Rattle.sheet.specs.Sheets.{up_then}
use Rattle.programs.specs.Steps.{one_step, some_steps, step_from, steps_from}
use Rattle.programs.specs.Files.{Reading, one_program, some_programs}
use Rattle.programs.specs.Stores.{stored, storing, storing_program, storing_programs}

storing-more : (xs : List Step) (at : ℕ) (s : Step) (r : Read (List Step))
    → storing xs at (and_then r (λ ss. Ok (s ∷ ss.0, ss.1))) ≡ storing (set xs at s) (at + 1) r
storing-more xs at s (Ok ss) = refl
storing-more xs at s (Err f) = refl

-- One step more is read and stored.
pub steps-more : (xs : List Step) (at n : ℕ) (bs : List ℕ) (pos : ℕ) (s : Step) (next : ℕ) → 0 < n → Ok (s, next) ≡ step_from bs pos
    → storing xs at (steps_from n bs pos) ≡ storing (set xs at s) (at + 1) (steps_from (n - 1) bs next)
steps-more xs at zero bs pos s next h e = absurd (omega arith)
steps-more xs at (suc n) bs pos s next h e =
    let m : suc n - 1 ≡ n = omega arith in
    rw (m, ← e) (storing-more xs at s (steps_from n bs next))

pub steps-refused : (xs : List Step) (at n : ℕ) (bs : List ℕ) (pos : ℕ) (f : Fault Offset) → 0 < n → Err f ≡ step_from bs pos
    → Err f ≡ storing xs at (steps_from n bs pos)
steps-refused xs at zero bs pos f h e = absurd (omega arith)
steps-refused xs at (suc n) bs pos f h e = rw (← e)

-- As many steps are read as are asked for.
abbrev pub Counts : ℕ → Read (List Step) → Type 0
Counts n (Ok ss) = length ss.0 ≡ n
Counts n (Err f) = Unit {0}

abbrev cons : Step → Read (List Step) → Read (List Step)
cons s r = and_then r (λ ss. Ok (s ∷ ss.0, ss.1))

length-cons : (s : Step) (n : ℕ) (r : Read (List Step)) → Counts n r → Counts (suc n) (cons s r)
length-cons s n (Ok ss) h = ap suc h
length-cons s n (Err f) h = tt

length-step : (n : ℕ) (r : Read Step) (k : ℕ → Read (List Step)) → ((p : ℕ) → Counts n (k p))
    → Counts (suc n) (and_then r (λ s. cons s.0 (k s.1)))
length-step n (Ok s) k h = length-cons s.0 n (k s.1) (h s.1)
length-step n (Err f) k h = tt

pub steps-length : (num : ℕ → Result ℕ (Fault Offset)) (aft : ℕ → ℕ) (n pos : ℕ) → Counts n (some_steps num aft n pos)
steps-length num aft zero pos = refl
steps-length num aft (suc n) pos = length-step n (one_step num aft pos) (some_steps num aft n) (steps-length num aft n)

abbrev counted : ℕ → Result (List Step × ℕ) (Fault Offset) → Result (ℕ × List Step × ℕ) (Fault BytesPlace)
counted n (Ok p) = Ok (n, p.0, p.1)
counted n (Err f) = Ok (n, [], 0)

program-stored : (xs : List Step) (at n : ℕ) (r : Read (List Step)) (list : List Step) (next : ℕ) → Counts n r
    → Ok (list, next) ≡ storing xs at r → Ok (n, list, next) ≡ storing_program xs at (up_then r (λ ss. Ok ss))
program-stored xs at n (Ok ss) list next h e = rw h (ap (counted n) e)
program-stored xs at n (Err f) list next h e = let z : ◌≡◌ {A = ℕ} 0 1 = cc in absurd (omega arith)

-- A program is read and stored.
pub program-more : (xs : List Step) (at room : ℕ) (bs : List ℕ) (pos n : ℕ) (list : List Step) (next : ℕ) → Ok n ≡ number_at bs pos → at + n ≤ room
    → Ok (list, next) ≡ storing xs at (steps_from n bs (after_number bs pos))
    → Ok (n, list, next) ≡ storing_program xs at (one_program (number_at bs) (after_number bs) room at pos)
program-more xs at room bs pos n list next e h q =
    rw (← e, le-ltb room (at + n) h) (program-stored xs at n (steps_from n bs (after_number bs pos)) list next (steps-length (number_at bs) (after_number bs) n (after_number bs pos)) q)

-- Storing a list is storing one part of it and then the other.
pub stored-append : {X : Type 0} (old : List X) (at : ℕ) (xs ys : List X) → stored old at (xs ++ ys) ≡ stored (stored old at xs) (at + length xs) ys
stored-append old at [] ys = rw add-zero
stored-append old at (x ∷ xs) ys =
    let p : at + 1 + length xs ≡ at + suc (length xs) = omega arith in
    stored-append (set old at x) (at + 1) xs ys ∙ rw p

abbrev cons_program : List Step → Reading (List (List Step)) → Reading (List (List Step))
cons_program p r = and_then r (λ ps. Ok (p ∷ ps.0, ps.1))

programs-cons : (ls : List ℕ) (i : ℕ) (xs : List Step) (at : ℕ) (p : List Step) (r : Reading (List (List Step)))
    → storing_programs ls i xs at (cons_program p r) ≡ storing_programs (set ls i (length p)) (i + 1) (stored xs at p) (at + length p) r
programs-cons ls i xs at p (Ok ps) = rw stored-append
programs-cons ls i xs at p (Err f) = refl

abbrev parts : Result (ℕ × List Step × ℕ) (Fault BytesPlace) → ℕ × List Step × ℕ
parts (Ok p) = p
parts (Err f) = (0, [], 0)

programs-step : (ls : List ℕ) (i : ℕ) (xs : List Step) (at n : ℕ) (list : List Step) (next : ℕ) (r : Reading (List Step)) (k : ℕ → ℕ → Reading (List (List Step)))
    → Ok (n, list, next) ≡ storing_program xs at r
    → storing_programs ls i xs at (and_then r (λ p. cons_program p.0 (k (at + length p.0) p.1)))
    ≡ storing_programs (set ls i n) (i + 1) list (at + n) (k (at + n) next)
programs-step ls i xs at n list next (Ok p) k e =
    let a : n ≡ length p.0 = ap (λ (r : Result (ℕ × List Step × ℕ) (Fault BytesPlace)). (parts r).0) e in
    let b : list ≡ stored xs at p.0 = ap (λ (r : Result (ℕ × List Step × ℕ) (Fault BytesPlace)). (parts r).1) e in
    let d : next ≡ p.1 = ap (λ (r : Result (ℕ × List Step × ℕ) (Fault BytesPlace)). (parts r).2) e in
    rw (a, b, d) (programs-cons ls i xs at p.0 (k (at + length p.0) p.1))
programs-step ls i xs at n list next (Err f) k e = let z : ◌≡◌ {A = ℕ} 0 1 = cc in absurd (omega arith)

refused-step : (ls : List ℕ) (i : ℕ) (xs : List Step) (at : ℕ) (f : Fault BytesPlace) (r : Reading (List Step)) (k : ℕ → ℕ → Reading (List (List Step)))
    → Err f ≡ storing_program xs at r → Err f ≡ storing_programs ls i xs at (and_then r (λ p. cons_program p.0 (k (at + length p.0) p.1)))
refused-step ls i xs at f (Ok p) k e = let z : ◌≡◌ {A = ℕ} 0 1 = cc in absurd (omega arith)
refused-step ls i xs at f (Err g) k e = let q : f ≡ g = cc in rw q

-- One program more is read and stored.
pub programs-more : (num : ℕ → Result ℕ (Fault Offset)) (aft : ℕ → ℕ) (room k : ℕ) (ls : List ℕ) (i : ℕ) (xs : List Step) (at pos n : ℕ) (list : List Step) (next : ℕ)
    → 0 < k → Ok (n, list, next) ≡ storing_program xs at (one_program num aft room at pos)
    → storing_programs ls i xs at (some_programs num aft room k at pos) ≡ storing_programs (set ls i n) (i + 1) list (at + n) (some_programs num aft room (k - 1) (at + n) next)
programs-more num aft room zero ls i xs at pos n list next h e = absurd (omega arith)
programs-more num aft room (suc k) ls i xs at pos n list next h e =
    let m : suc k - 1 ≡ k = omega arith in
    rw m (programs-step ls i xs at n list next (one_program num aft room at pos) (some_programs num aft room k) e)

pub programs-refused : (num : ℕ → Result ℕ (Fault Offset)) (aft : ℕ → ℕ) (room k : ℕ) (ls : List ℕ) (i : ℕ) (xs : List Step) (at pos : ℕ) (f : Fault BytesPlace)
    → 0 < k → Err f ≡ storing_program xs at (one_program num aft room at pos)
    → Err f ≡ storing_programs ls i xs at (some_programs num aft room k at pos)
programs-refused num aft room zero ls i xs at pos f h e = absurd (omega arith)
programs-refused num aft room (suc k) ls i xs at pos f h e = refused-step ls i xs at f (one_program num aft room at pos) (some_programs num aft room k) e
