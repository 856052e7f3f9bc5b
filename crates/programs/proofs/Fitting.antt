-- What was read fits the room for it, and storing it lays it in front of the list.
use Rattle.std.proofs.Common.{◌≡◌, ℕ, zero, suc, ◌+◌, ◌<◌, ◌≤◌, Bool, true, false, cond, eqb, ltb, List, [], ◌∷◌, ◌++◌, map, length, take, drop, set, replicate, Ok, Err, Result, sym, refl, ap, ◌∙◌, inl, inr, append_assoc, add-zero, zero-add, arith, length-append, length-set, take-append-drop}
use lib.ListN.{length-map}
use Rattle.std.proofs.lemmas.List.{take_more_set, drop-set-lt}
use Rattle.std.proofs.lemmas.Bool.{cases_lt, lt-ltb, le-ltb}
use Rattle.fault.specs.declared.refusal.Fault.{Fault}
use Rattle.fault.specs.declared.place.Offset.{Offset}
use Rattle.fault.specs.declared.place.BytesPlace.{BytesPlace}
use Rattle.fault.specs.declared.place.BytesPlace.TheVariants.{Offset as at_offset}
use Rattle.fault.specs.declared.refusal.Refusal.TheVariants.{Strange, Trailing}
use Rattle.wire.specs.Numbers.{and_then, number_at, after_number, fault_at}
use Rattle.sheet.specs.Parts.{Read, one_number}
use Rattle.sheet.specs.Sheets.{raised, up_then, too_short, head_outside}
use Rattle.netcode.specs.declared.step.Step.{Step}
use Rattle.netcode.specs.declared.step.Layout.{Layout}
use Rattle.netcode.specs.Layouts.{program_count}
use Rattle.programs.specs.Steps.{some_steps}
use Rattle.programs.specs.Files.{File, Reading, steps_of, one_program, some_programs, one_file, file_in, stations_within, laid_on, layout_of, layout_in, laid_steps}
use Rattle.programs.specs.Stores.{stored, left_file, storing_file}
use Rattle.programs.proofs.Stored.{Counts, steps-length}

stored_at : {X : Type 0} (old : List X) (at : ℕ) (new : List X) → at + length new ≤ length old
    → stored old at new ≡ take at old ++ (new ++ drop (at + length new) old)
stored_at old at [] h = rw (add-zero at) (sym (take-append-drop at old))
stored_at old at (x ∷ new) h =
    let l : at < length old = omega arith in
    let p : at + suc (length new) ≡ at + 1 + length new = omega arith in
    let q : at < at + 1 + length new = omega arith in
    let m : length (set old at x) ≡ length old = length-set old at x in
    stored_at (set old at x) (at + 1) new (omega arith)
    ∙ rw (take_more_set old at x l, drop-set-lt (at + 1 + length new) old at x q, p) (append_assoc (take at old) (x ∷ []) (new ++ drop (at + 1 + length new) old))

-- Storing a list from the front on lays it in front.
pub stored-laid : {X : Type 0} (old new : List X) → length new ≤ length old → stored old 0 new ≡ laid_on new old
stored-laid old new h = stored_at old 0 new (omega arith) ∙ rw (zero-add (length new))

abbrev pub FitsOne : ℕ → ℕ → Reading (List Step) → Type 0
FitsOne room at (Ok p) = at + length p.0 ≤ room
FitsOne room at (Err f) = Unit {0}

steps-fit : (room at n : ℕ) (r : Read (List Step)) → at + n ≤ room → Counts n r → FitsOne room at (up_then r (λ ss. Ok ss))
steps-fit room at n (Ok ss) h e = omega arith
steps-fit room at n (Err f) h e = tt

pub program-fits : (num : ℕ → Result ℕ (Fault Offset)) (aft : ℕ → ℕ) (room at pos : ℕ) → FitsOne room at (one_program num aft room at pos)
program-fits num aft room at pos = go (one_number num aft pos)
  where
    go : (r : Read ℕ) → FitsOne room at (up_then r (λ n. cond (ltb room (at + n.0)) (too_short (at + n.0)) (up_then (some_steps num aft n.0 n.1) (λ ss. Ok ss))))
    go (Err f) = tt
    go (Ok n) =
        elim (cases_lt room (at + n.0)) [
          | inl h ↦ rw (lt-ltb room (at + n.0) h) tt
          | inr h ↦ rw (le-ltb room (at + n.0) h) (steps-fit room at n.0 (some_steps num aft n.0 n.1) h (steps-length num aft n.0 n.1))
        ]

abbrev pub FitsAll : ℕ → ℕ → ℕ → Reading (List (List Step)) → Type 0
FitsAll room k at (Ok ps) = (length ps.0 ≡ k) × (at + length (steps_of ps.0) ≤ room)
FitsAll room k at (Err f) = Unit {0}

abbrev cons_program : List Step → Reading (List (List Step)) → Reading (List (List Step))
cons_program p r = and_then r (λ ps. Ok (p ∷ ps.0, ps.1))

cons-fits : (room k at : ℕ) (p : List Step) (r : Reading (List (List Step))) → FitsAll room k (at + length p) r → FitsAll room (suc k) at (cons_program p r)
cons-fits room k at p (Ok ps) h = (ap suc h.0, omega (arith, h.1, length-append p (steps_of ps.0)))
cons-fits room k at p (Err f) h = tt

step_fits : (room k at : ℕ) (r : Reading (List Step)) (next : ℕ → ℕ → Reading (List (List Step))) → FitsOne room at r
    → ((b p : ℕ) → b ≤ room → FitsAll room k b (next b p))
    → FitsAll room (suc k) at (and_then r (λ p. cons_program p.0 (next (at + length p.0) p.1)))
step_fits room k at (Ok p) next h f = cons-fits room k at p.0 (next (at + length p.0) p.1) (f (at + length p.0) p.1 h)
step_fits room k at (Err e) next h f = tt

pub programs-fit : (num : ℕ → Result ℕ (Fault Offset)) (aft : ℕ → ℕ) (room k at pos : ℕ) → at ≤ room → FitsAll room k at (some_programs num aft room k at pos)
programs-fit num aft room zero at pos h = (refl, omega arith)
programs-fit num aft room (suc k) at pos h =
    step_fits room k at (one_program num aft room at pos) (some_programs num aft room k) (program-fits num aft room at pos) (λ b p g. programs-fit num aft room k b p g)

-- A file that was read has the programs of its stations, and its steps fit.
abbrev pub FitsFile : ℕ → Result File (Fault BytesPlace) → Type 0
FitsFile room (Ok file) = (length file.1 ≤ 16) × (length (steps_of file.1) ≤ room)
FitsFile room (Err f) = Unit {0}

abbrev FitsReading : ℕ → Reading File → Type 0
FitsReading room (Ok f) = (length f.0.1 ≤ 16) × (length (steps_of f.0.1) ≤ room)
FitsReading room (Err f) = Unit {0}

either : {X : Type 0} (P : X → Type 0) (b : Bool) (x y : X) → P x → P y → P (cond b x y)
either P true x y p q = p
either P false x y p q = q

one-fits : (num : ℕ → Result ℕ (Fault Offset)) (aft : ℕ → ℕ) (room pos : ℕ) → FitsReading room (one_file num aft room pos)
one-fits num aft room pos = edition (one_number num aft pos)
  where
    programs : (n : ℕ) (r : Reading (List (List Step))) → FitsAll room (program_count n) 0 r
        → FitsReading room (and_then r (λ ps. Ok ((n, ps.0), ps.1)))
    programs n (Ok ps) h = (omega (arith, h.0), omega (arith, h.1))
    programs n (Err f) h = tt

    stations : (r : Read ℕ) → FitsReading room (up_then r (λ s. cond (stations_within s.0) (and_then (some_programs num aft room (program_count s.0) 0 s.1) (λ ps. Ok ((s.0, ps.0), ps.1))) head_outside))
    stations (Ok s) = either (FitsReading room) (stations_within s.0) _ _ (programs s.0 (some_programs num aft room (program_count s.0) 0 s.1) (programs-fit num aft room (program_count s.0) 0 s.1 (omega arith))) tt
    stations (Err f) = tt

    edition : (r : Read ℕ) → FitsReading room (up_then r (λ e. cond (eqb e.0 1) (up_then (one_number num aft e.1) (λ s. cond (stations_within s.0) (and_then (some_programs num aft room (program_count s.0) 0 s.1) (λ ps. Ok ((s.0, ps.0), ps.1))) head_outside)) (Err (raised (fault_at Strange pos)))))
    edition (Ok e) = either (FitsReading room) (eqb e.0 1) _ _ (stations (one_number num aft e.1)) tt
    edition (Err f) = tt

pub file-fits : (bs : List ℕ) (room : ℕ) → FitsFile room (file_in bs room)
file-fits bs room = go (one_file (number_at bs) (after_number bs) room 0) (one-fits (number_at bs) (after_number bs) room 0)
  where
    go : (r : Reading File) → FitsReading room r
        → FitsFile room (and_then r (λ f. cond (ltb f.1 (length bs)) (Err record { refusal = Trailing; place = at_offset f.1 }) (Ok f.0)))
    go (Ok f) h = either (FitsFile room) (ltb f.1 (length bs)) _ _ tt h
    go (Err f) h = tt

abbrev layout_part : Result (Layout × List Step) (Fault BytesPlace) → Result Layout (Fault BytesPlace)
layout_part (Ok p) = Ok p.0
layout_part (Err f) = Err f

abbrev list_part : List Step → Result (Layout × List Step) (Fault BytesPlace) → List Step
list_part xs (Ok p) = p.1
list_part xs (Err f) = xs

file-laid : (xs : List Step) (file : File) → length file.1 ≤ 16 → length (steps_of file.1) ≤ length xs
    → storing_file xs (Ok file) ≡ Ok (layout_of file, laid_on (steps_of file.1) xs)
file-laid xs file h g =
    let none : List ℕ = replicate 16 0 in
    let m : length (map length file.1) ≤ length none = simp length-map h in
    rw (stored-laid xs (steps_of file.1) g, stored-laid none (map length file.1) m)

-- A file that was read once is read again in the same way.
pub file-read : (xs ys zs : List Step) (p : Layout × List Step) (a : Result Layout (Fault BytesPlace)) (r : Result File (Fault BytesPlace)) → FitsFile (length xs) r
    → Ok p ≡ storing_file zs r → left_file a ys ≡ storing_file xs r → (a ≡ layout_in r) × (ys ≡ laid_steps r xs)
file-read xs ys zs p a (Err f) h e q = let z : ◌≡◌ {A = ℕ} 0 1 = cc in absurd (omega arith)
file-read xs ys zs p (Err f) (Ok file) h e q = let z : ◌≡◌ {A = ℕ} 0 1 = cc in absurd (omega arith)
file-read xs ys zs p (Ok l) (Ok file) h e q =
    let w = q ∙ file-laid xs file h.0 h.1 in
    (ap layout_part w, ap (list_part xs) w)
