-- What was written is read back.
use Rattle.std.proofs.Common.{◌≡◌, ℕ, zero, suc, ◌^◌, ◌<◌, true, ltb, List, [], ◌∷◌, ◌++◌, length, take, drop, ◌∙◌, arith, lit<}
use Rattle.std.specs.List.{flat_map, AllByRecursion}
use Rattle.std.proofs.lemmas.List.{length-take, take_at}
use Rattle.std.proofs.lemmas.Bool.{ltb-true, and_parts, le-ltb}
use Rattle.sheet.proofs.Follow.{never, ok_same}
use Rattle.sheet.proofs.Exact.{by_less, by-test}
use Rattle.netcode.specs.declared.step.Step.{Step}
use Rattle.netcode.specs.declared.step.Layout.{Layout}
use Rattle.netcode.specs.Steps.{numbers_of}
use Rattle.netcode.specs.Layouts.{program_count, cuts}
use Rattle.netcode.proofs.Cuts.{length-cuts}
use Rattle.programs.specs.Files.{all_words, stations_within, layout_within, program_numbers, file_bytes, file_of, written_file}
use Rattle.programs.specs.Laws.{IsFile, StepWords, WrittenReadsBack}
use Rattle.programs.proofs.Exact.{file-returns}

abbrev Word : ℕ → Type 0
Word n = n < 2 ^ 32

all_append : (xs ys : List ℕ) → AllByRecursion Word xs → AllByRecursion Word ys → AllByRecursion Word (xs ++ ys)
all_append [] ys a b = b
all_append (x ∷ xs) ys a b = (a.0, all_append xs ys a.1 b)

words-taken : (n : ℕ) (xs : List Step) → StepWords xs → StepWords (take n xs)
words-taken zero xs w = tt
words-taken (suc n) [] w = tt
words-taken (suc n) (x ∷ xs) w = (w.0, words-taken n xs w.1)

words_left : (n : ℕ) (xs : List Step) → StepWords xs → StepWords (drop n xs)
words_left zero xs w = w
words_left (suc n) [] w = tt
words_left (suc n) (x ∷ xs) w = words_left n xs w.1

steps-words : (xs : List Step) → StepWords xs → AllByRecursion Word (flat_map numbers_of xs)
steps-words [] w = tt
steps-words (x ∷ xs) w = all_append (numbers_of x) (flat_map numbers_of xs) w.0 (steps-words xs w.1)

programs-words : (ns : List ℕ) (xs : List Step) → all_words ns ≡ true → StepWords xs → AllByRecursion Word (flat_map program_numbers (cuts ns xs))
programs-words [] xs e w = tt
programs-words (n ∷ ns) xs e w =
    let p = and_parts (ltb n (2 ^ 32)) (all_words ns) e in
    let b = ltb-true n (2 ^ 32) p.0 in
    let l : length (take n xs) < 2 ^ 32 = simp length-take (omega arith) in
    all_append (program_numbers (take n xs)) (flat_map program_numbers (cuts ns (drop n xs)))
    (l, steps-words (take n xs) (words-taken n xs w)) (programs-words ns (drop n xs) p.1 (words_left n xs w))

is-file : (layout : Layout) (steps : List Step) → length layout.lengths ≡ 16 → StepWords steps → layout_within layout ≡ true → IsFile (file_of layout steps)
is-file layout steps l w e =
    let p = and_parts (stations_within layout.stations) (all_words (take (program_count layout.stations) layout.lengths)) e in
    let q = and_parts (ltb 0 layout.stations) (ltb layout.stations 9) p.0 in
    let a = ltb-true 0 layout.stations q.0 in
    let b = ltb-true layout.stations 9 q.1 in
    let n : length (take (program_count layout.stations) layout.lengths) ≡ program_count layout.stations = simp length-take (omega arith) in
    record {
      some = omega arith;
      few = omega arith;
      counts = length-cuts (take (program_count layout.stations) layout.lengths) steps ∙ n;
      words = (lit< tt, (omega arith, programs-words (take (program_count layout.stations) layout.lengths) steps p.1 w));
    }

pub written-reads-back : WrittenReadsBack
written-reads-back layout steps out n room l w e fit =
    let bytes = file_bytes (file_of layout steps) in
    by-test (layout_within layout) _ _ _ e (λ ok e1.
    by_less (length out) (length bytes) _ _ _ e1 (λ lt q. absurd (never q)) (λ le e2.
    let m : length bytes ≡ n = ok_same e2 in
    let p : take n (written_file layout steps out) ≡ bytes = rw (ok, le-ltb (length out) (length bytes) le) (take_at bytes (drop (length bytes) out) n m) in
    file-returns (take n (written_file layout steps out)) room (file_of layout steps) (is-file layout steps l w ok, fit, p)))
    (λ no q. absurd (never q))
