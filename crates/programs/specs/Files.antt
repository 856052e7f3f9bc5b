use Rattle.std.specs.Prelude.{ℕ, zero, suc, ◌+◌, ◌^◌, Bool, cond, ◌&&◌, List, [], ◌∷◌, ◌++◌, map, length, take, drop, replicate, Ok, Err, Result, ◌==◌, nat_lt}
use Rattle.std.specs.List.{flat_map, list_all}
use Rattle.fault.specs.declared.refusal.Fault.{Fault}
use Rattle.fault.specs.declared.refusal.Refusal.TheVariants.{Strange, Trailing}
use Rattle.fault.specs.declared.place.Offset.{Offset}
use Rattle.fault.specs.declared.place.BytesPlace.{BytesPlace}
use Rattle.fault.specs.declared.place.BytesPlace.TheVariants.{Offset as at_offset}
use Rattle.wire.specs.Numbers.{number_at, after_number, and_then, fault_at}
use Rattle.wire.specs.Bytes.{spelled}
use Rattle.sheet.specs.Parts.{one_number}
use Rattle.sheet.specs.Sheets.{raised, up_then, too_short, head_outside}
use Rattle.netcode.specs.declared.step.Step.{Step}
use Rattle.netcode.specs.declared.step.Layout.{Layout}
use Rattle.netcode.specs.Steps.{numbers_of}
use Rattle.netcode.specs.Layouts.{program_count, programs_of}
use Rattle.programs.specs.Steps.{some_steps}

-- The programs of a file, with the number of its stations.
abbrev pub File : Type 0
File = ℕ × List (List Step)

-- There are 1 to 8 stations.
abbrev pub stations_within : ℕ → Bool
stations_within stations = nat_lt 0 stations && nat_lt stations 9

abbrev pub Reading : Type 0 → Type 0
Reading X = Result (X × ℕ) (Fault BytesPlace)

-- Readers of programs, over the numbers of an input: `num` is the number at a position, and `aft` the
-- position after it. There is room for `room` steps in all.
module _ (num : ℕ → Result ℕ (Fault Offset)) (aft : ℕ → ℕ) (room : ℕ) where
  -- A program: its length, and as many steps. As soon as the length is read, it and the steps before must fit.
  abbrev pub one_program : ℕ → ℕ → Reading (List Step)
  one_program before pos =
      up_then (one_number num aft pos) (λ n.
      cond (nat_lt room (before + n.0)) (too_short (before + n.0))
      (up_then (some_steps num aft n.0 n.1) (λ steps. Ok steps)))

  -- `count` programs.
  abbrev pub some_programs : ℕ → ℕ → ℕ → Reading (List (List Step))
  some_programs zero before pos = Ok ([], pos)
  some_programs (suc count) before pos =
      and_then (one_program before pos) (λ p.
      and_then (some_programs count (before + length p.0) p.1) (λ ps.
      Ok (p.0 ∷ ps.0, ps.1)))

  -- The edition, which is 1, the stations, and the programs of each.
  abbrev pub one_file : ℕ → Reading File
  one_file pos =
      up_then (one_number num aft pos) (λ edition.
      cond (edition.0 == 1)
      (up_then (one_number num aft edition.1) (λ stations.
      cond (stations_within stations.0)
      (and_then (some_programs (program_count stations.0) 0 stations.1) (λ ps.
      Ok ((stations.0, ps.0), ps.1)))
      head_outside))
      (Err (raised (fault_at Strange pos))))

-- The file that `bs` holds, for a list with room for `room` steps. Nothing may follow it.
abbrev pub file_in : List ℕ → ℕ → Result File (Fault BytesPlace)
file_in bs room =
    and_then (one_file (number_at bs) (after_number bs) room 0) (λ f.
    cond (nat_lt f.1 (length bs)) (Err record { refusal = Trailing; place = at_offset f.1 })
    (Ok f.0))

-- A list in front of another, of which the rest stays.
abbrev pub laid_on : {X : Type 0} → List X → List X → List X
laid_on new old = new ++ drop (length new) old

-- All steps of the programs, one program after the other.
abbrev pub steps_of : List (List Step) → List Step
steps_of programs = flat_map (λ p. p) programs

-- How the list of all steps is cut into the programs.
abbrev pub layout_of : File → Layout
layout_of file = record { stations = file.0; lengths = laid_on (map length file.1) (replicate 16 0) }

abbrev pub layout_in : Result File (Fault BytesPlace) → Result Layout (Fault BytesPlace)
layout_in (Ok file) = Ok (layout_of file)
layout_in (Err fault) = Err fault

-- The steps at the front of a list, whose rest stays; or the list as it was.
abbrev pub laid_steps : Result File (Fault BytesPlace) → List Step → List Step
laid_steps (Ok file) old = laid_on (steps_of file.1) old
laid_steps (Err fault) old = old

-- The numbers that a program and a file are written as, and the byte form of a file.
abbrev pub program_numbers : List Step → List ℕ
program_numbers program = length program ∷ flat_map numbers_of program

abbrev pub file_numbers : File → List ℕ
file_numbers file = 1 ∷ file.0 ∷ flat_map program_numbers file.1

abbrev pub file_bytes : File → List ℕ
file_bytes file = spelled (file_numbers file)

-- Numbers of 32 bits.
abbrev pub all_words : List ℕ → Bool
all_words ns = list_all (λ n. nat_lt n (2 ^ 32)) ns

-- A layout that a file can have: 1 to 8 stations, and lengths of 32 bits.
abbrev pub layout_within : Layout → Bool
layout_within layout = stations_within layout.stations && all_words (take (program_count layout.stations) layout.lengths)

-- The file of the programs in a list of steps.
abbrev pub file_of : Layout → List Step → File
file_of layout steps = (layout.stations, programs_of layout steps)

-- How many bytes are written into a list of `room` bytes, or why none: a layout that no file can have, or
-- too little room.
abbrev pub end_of_file : Layout → List Step → ℕ → Result ℕ (Fault BytesPlace)
end_of_file layout steps room =
    cond (layout_within layout)
    (cond (nat_lt room (length (file_bytes (file_of layout steps))))
    (too_short (length (file_bytes (file_of layout steps))))
    (Ok (length (file_bytes (file_of layout steps)))))
    head_outside

-- The bytes at the front of a list, whose rest stays; or the list as it was.
abbrev pub written_file : Layout → List Step → List ℕ → List ℕ
written_file layout steps out =
    cond (layout_within layout)
    (cond (nat_lt (length out) (length (file_bytes (file_of layout steps)))) out (laid_on (file_bytes (file_of layout steps)) out))
    out
