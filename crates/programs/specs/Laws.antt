use Rattle.std.specs.Prelude.{◌≡◌, ℕ, ◌^◌, ◌<◌, ◌≤◌, List, length, take, Ok}
use Rattle.std.specs.List.{AllByRecursion}
use Rattle.wire.specs.Bytes.{Bytes}
use Rattle.netcode.specs.declared.step.Step.{Step}
use Rattle.netcode.specs.declared.step.Layout.{Layout}
use Rattle.netcode.specs.Steps.{numbers_of}
use Rattle.netcode.specs.Layouts.{program_count}
use Rattle.programs.specs.Files.{File, file_in, steps_of, file_numbers, file_bytes, file_of, end_of_file, written_file}

-- A program file: 1 to 8 stations, the programs of each, and numbers of 32 bits.
pub record IsFile (file : File) : Type 0 where
  pub some : 1 ≤ file.0
  pub few : file.0 ≤ 8
  pub counts : length file.1 ≡ program_count file.0
  pub words : AllByRecursion (λ n. n < 2 ^ 32) (file_numbers file)

-- Given room for its steps, bytes read as a program file exactly when they are its byte form.
abbrev pub ReadExactly : Type 0
ReadExactly =
    (bs : List ℕ) (room : ℕ) (file : File) → Bytes bs
    → (file_in bs room ≡ Ok file → IsFile file × (length (steps_of file.1) ≤ room) × (bs ≡ file_bytes file))
    × ((IsFile file × (length (steps_of file.1) ≤ room) × (bs ≡ file_bytes file)) → file_in bs room ≡ Ok file)

-- Two byte strings that read as the same programs are equal.
abbrev pub OneFileForm : Type 0
OneFileForm =
    (bs cs : List ℕ) (room more : ℕ) (file : File) → Bytes bs → Bytes cs
    → file_in bs room ≡ Ok file → file_in cs more ≡ Ok file → bs ≡ cs

-- Steps whose numbers are of 32 bits.
abbrev pub StepWords : List Step → Type 0
StepWords steps = AllByRecursion (λ s. AllByRecursion (λ n. n < 2 ^ 32) (numbers_of s)) steps

-- What was written is read back, given room for its steps: the bytes written hold the programs that were cut
-- off from the list of steps.
abbrev pub WrittenReadsBack : Type 0
WrittenReadsBack =
    (layout : Layout) (steps : List Step) (out : List ℕ) (n room : ℕ) → length layout.lengths ≡ 16 → StepWords steps
    → end_of_file layout steps (length out) ≡ Ok n → length (steps_of (file_of layout steps).1) ≤ room
    → file_in (take n (written_file layout steps out)) room ≡ Ok (file_of layout steps)
