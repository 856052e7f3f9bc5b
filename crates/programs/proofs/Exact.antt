-- Bytes read as a program file exactly when they are its byte form.
use Rattle.std.proofs.Common.{◌≡◌, ℕ, zero, suc, ◌+◌, ◌≤◌, true, ltb, List, [], ◌∷◌, ◌++◌, length, Ok, Result, sym, refl, ap, ◌∙◌, subst, append-nil, arith, length-append}
use Rattle.std.specs.List.{flat_map}
use Rattle.std.proofs.lemmas.List.{drop_all}
use Rattle.std.proofs.lemmas.Bool.{lt-ltb, le-ltb, ltb-true, and_parts}
use Rattle.fault.specs.declared.refusal.Fault.{Fault}
use Rattle.fault.specs.declared.place.Offset.{Offset}
use Rattle.fault.specs.declared.place.BytesPlace.{BytesPlace}
use Rattle.wire.specs.Numbers.{number_at, after_number}
use Rattle.wire.specs.Bytes.{Bytes}
use Rattle.wire.proofs.Spelled.{Reads, reads_more, reads-parts, reads-spelled, spelled-reads}
use Rattle.sheet.specs.Parts.{one_number}
use Rattle.sheet.proofs.Follow.{never, ok_same, at_same, then_by, then_to, number-to, number_step}
use Rattle.sheet.proofs.Readers.{choose}
use Rattle.sheet.proofs.Exact.{up_by, up_to, by_less, by-test}
use Rattle.netcode.specs.declared.step.Step.{Step}
use Rattle.netcode.specs.Steps.{numbers_of}
use Rattle.netcode.specs.Layouts.{program_count}
use Rattle.programs.specs.Steps.{some_steps}
use Rattle.programs.specs.Files.{File, stations_within, one_program, some_programs, one_file, file_in, steps_of, program_numbers, file_numbers, file_bytes}
use Rattle.programs.specs.Laws.{IsFile, ReadExactly, OneFileForm}
use Rattle.programs.proofs.StepReaders.{steps-read, steps_back}

module _ (num : ℕ → Result ℕ (Fault Offset)) (aft : ℕ → ℕ) (room : ℕ) where
  abbrev Rd : ℕ → List ℕ → ℕ → Type 0
  Rd = Reads num aft

  -- What is read is a program that fits.
  abbrev Program : ℕ → ℕ → List Step → ℕ → Type 0
  Program at pos p end = Rd pos (program_numbers p) end × (at + length p ≤ room)

  program-reads : (at pos : ℕ) (p : List Step) (end : ℕ) → one_program num aft room at pos ≡ Ok (p, end) → Program at pos p end
  program-reads at pos p end e =
      up_by (one_number num aft pos) _ (p, end) e (λ n hn e1.
      by_less room (at + n.0) _ _ _ e1 (λ lt w. absurd (never w)) (λ le e2.
      up_by (some_steps num aft n.0 n.1) _ (p, end) e2 (λ ss hs e3.
      let r = steps-read num aft n.0 n.1 ss.0 ss.1 hs in
      let d = number_step num aft pos n (flat_map numbers_of ss.0) ss.1 hn r.0 in
      at_same (Program at pos) e3
      (subst (λ (m : ℕ). Rd pos (m ∷ flat_map numbers_of ss.0) ss.1) (sym r.1) d, omega (arith, r.1)))))

  program-back : (at pos : ℕ) (p : List Step) (end : ℕ) → Rd pos (program_numbers p) end → at + length p ≤ room
      → one_program num aft room at pos ≡ Ok (p, end)
  program-back at pos p end h f =
      up_to (one_number num aft pos) _ (length p, aft pos) _ (number-to num aft pos (length p) h.0)
      (rw (le-ltb room (at + length p) f)
      (up_to (some_steps num aft (length p) (aft pos)) _ (p, end) _ (steps_back num aft (aft pos) p end h.1) refl))

  abbrev Programs : ℕ → ℕ → ℕ → List (List Step) → ℕ → Type 0
  Programs k at pos ps end = Rd pos (flat_map program_numbers ps) end × (length ps ≡ k) × (at + length (steps_of ps) ≤ room)

  programs-read : (k at pos : ℕ) (ps : List (List Step)) (end : ℕ) → at ≤ room → some_programs num aft room k at pos ≡ Ok (ps, end) → Programs k at pos ps end
  programs-read zero at pos ps end f e = at_same (Programs 0 at pos) e (refl, refl, omega arith)
  programs-read (suc k) at pos ps end f e =
      then_by (one_program num aft room at pos) _ (ps, end) e (λ p hp e1.
      let r = program-reads at pos p.0 p.1 hp in
      then_by (some_programs num aft room k (at + length p.0) p.1) _ (ps, end) e1 (λ t ht e2.
      let ih = programs-read k (at + length p.0) p.1 t.0 t.1 r.1 ht in
      at_same (Programs (suc k) at pos) e2 (
        reads_more num aft pos (program_numbers p.0) p.1 (flat_map program_numbers t.0) t.1 r.0 ih.0,
        ap suc ih.1,
        omega (arith, ih.2, length-append p.0 (steps_of t.0)),
      )))

  programs-back : (at pos : ℕ) (ps : List (List Step)) (end : ℕ) → Rd pos (flat_map program_numbers ps) end → at + length (steps_of ps) ≤ room
      → some_programs num aft room (length ps) at pos ≡ Ok (ps, end)
  programs-back at pos [] end h f = ap (λ (p : ℕ). Ok ([], p)) h
  programs-back at pos (p ∷ ps) end h f =
      go (λ mid y g. programs-back (at + length p) mid ps end y g) (reads-parts num aft pos (program_numbers p) (flat_map program_numbers ps) end h)
    where
      go : ((mid : ℕ) → Rd mid (flat_map program_numbers ps) end → at + length p + length (steps_of ps) ≤ room
          → some_programs num aft room (length ps) (at + length p) mid ≡ Ok (ps, end))
          → ((mid : ℕ) × Rd pos (program_numbers p) mid × Rd mid (flat_map program_numbers ps) end)
          → some_programs num aft room (length (p ∷ ps)) at pos ≡ Ok (p ∷ ps, end)
      go ih (mid, x, y) =
          let l = length-append p (steps_of ps) in
          then_to (one_program num aft room at pos) _ (p, mid) _ (program-back at pos p mid x (omega arith))
          (then_to (some_programs num aft room (length ps) (at + length p) mid) _ (ps, end) _ (ih mid y (omega arith)) refl)

  -- What is read is a file.
  pub record Filed (pos : ℕ) (file : File) (end : ℕ) : Type 0 where
    pub numbers : Rd pos (file_numbers file) end
    pub within : stations_within file.0 ≡ true
    pub counts : length file.1 ≡ program_count file.0
    pub fits : length (steps_of file.1) ≤ room

  pub file-reads : (pos : ℕ) (file : File) (end : ℕ) → one_file num aft room pos ≡ Ok (file, end) → Filed pos file end
  file-reads pos file end e =
      up_by (one_number num aft pos) _ (file, end) e (λ v hv e1.
      choose v.0 1 _ _ _ e1 (λ one e2.
      up_by (one_number num aft v.1) _ (file, end) e2 (λ s hs e3.
      by-test (stations_within s.0) _ _ _ e3 (λ ok e4.
      then_by (some_programs num aft room (program_count s.0) 0 s.1) _ (file, end) e4 (λ ps hp e5.
      let r = programs-read (program_count s.0) 0 s.1 ps.0 ps.1 (omega arith) hp in
      let d = number_step num aft pos v (s.0 ∷ flat_map program_numbers ps.0) ps.1 hv (number_step num aft v.1 s (flat_map program_numbers ps.0) ps.1 hs r.0) in
      at_same (Filed pos) e5
      record {
        numbers = subst (λ (m : ℕ). Rd pos (m ∷ s.0 ∷ flat_map program_numbers ps.0) ps.1) one d;
        within = ok;
        counts = r.1;
        fits = omega (arith, r.2);
      })) (λ no w. absurd (never w)))) (λ w. absurd (never w)))

  pub file-back : (pos : ℕ) (file : File) (end : ℕ) → Filed pos file end → one_file num aft room pos ≡ Ok (file, end)
  file-back pos file end f =
      let h = f.numbers in
      let ps : some_programs num aft room (program_count file.0) 0 (aft (aft pos)) ≡ Ok (file.1, end) =
      subst (λ (k : ℕ). some_programs num aft room k 0 (aft (aft pos)) ≡ Ok (file.1, end)) f.counts
      (programs-back 0 (aft (aft pos)) file.1 end h.1.1 (omega (arith, f.fits))) in
      up_to (one_number num aft pos) _ (1, aft pos) _ (number-to num aft pos 1 h.0)
      (up_to (one_number num aft (aft pos)) _ (file.0, aft (aft pos)) _ (number-to num aft (aft pos) file.0 h.1.0)
      (rw f.within
      (then_to (some_programs num aft room (program_count file.0) 0 (aft (aft pos))) _ (file.1, end) _ ps refl)))

stations-within : (n : ℕ) → stations_within n ≡ true → (1 ≤ n) × (n ≤ 8)
stations-within n e =
    let p = and_parts (ltb 0 n) (ltb n 9) e in
    let a = ltb-true 0 n p.0 in
    let b = ltb-true n 9 p.1 in
    (omega arith, omega arith)

within-stations : (n : ℕ) → 1 ≤ n → n ≤ 8 → stations_within n ≡ true
within-stations n a b = rw (lt-ltb 0 n (omega arith), lt-ltb n 9 (omega arith))

abbrev pub Exactly : List ℕ → ℕ → File → Type 0
Exactly bs room file = IsFile file × (length (steps_of file.1) ≤ room) × (bs ≡ file_bytes file)

exactly : (bs : List ℕ) (room : ℕ) (file : File) (end : ℕ) → Bytes bs → length bs ≤ end → Filed (number_at bs) (after_number bs) room 0 file end
    → Exactly bs room file
exactly bs room file end b all f =
    let s = reads-spelled bs 0 (file_numbers file) end b f.numbers in
    let w = stations-within file.0 f.within in (
      record { some = w.0; few = w.1; counts = f.counts; words = s.2 },
      f.fits,
      s.0 ∙ ap (λ (xs : List ℕ). file_bytes file ++ xs) (drop_all end bs all) ∙ append-nil (file_bytes file),
    )

reads : (bs : List ℕ) (room : ℕ) (file : File) → Bytes bs → file_in bs room ≡ Ok file → Exactly bs room file
reads bs room file b e =
    then_by (one_file (number_at bs) (after_number bs) room 0) _ file e (λ f hf e1.
    by_less f.1 (length bs) _ _ _ e1 (λ lt w. absurd (never w)) (λ all e2.
    same f.0 (exactly bs room f.0 f.1 b all (file-reads (number_at bs) (after_number bs) room 0 f.0 f.1 hf)) e2))
  where
    same : (x : File) → Exactly bs room x → ◌≡◌ {A = Result File (Fault BytesPlace)} (Ok x) (Ok file) → Exactly bs room file
    same x h q = subst (Exactly bs room) (ok_same q) h

pub file-returns : (bs : List ℕ) (room : ℕ) (file : File) → Exactly bs room file → file_in bs room ≡ Ok file
file-returns bs room file (f, fit, e) =
    let end = 0 + length (file_bytes file) in
    let all : length bs ≤ end = omega (arith, ap length e) in
    let n = spelled-reads bs 0 (file_numbers file) [] f.words (e ∙ sym (append-nil (file_bytes file))) in
    then_to (one_file (number_at bs) (after_number bs) room 0) _ (file, end) _
    (file-back (number_at bs) (after_number bs) room 0 file end
    record { numbers = n; within = within-stations file.0 f.some f.few; counts = f.counts; fits = fit })
    (rw (le-ltb end (length bs) all))

pub read-exactly : ReadExactly
read-exactly bs room file b = (reads bs room file b, file-returns bs room file)

pub one-file-form : OneFileForm
one-file-form bs cs room more file b c e f = ((read-exactly bs room file b).0 e).2 ∙ sym ((read-exactly cs more file c).0 f).2
