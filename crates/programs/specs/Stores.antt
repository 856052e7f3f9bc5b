use Rattle.std.specs.Prelude.{ℕ, ◌+◌, List, [], ◌∷◌, map, length, replicate, Ok, Err, Result, slice_set}
use Rattle.fault.specs.declared.refusal.Fault.{Fault}
use Rattle.fault.specs.declared.place.Offset.{Offset}
use Rattle.fault.specs.declared.place.BytesPlace.{BytesPlace}
use Rattle.wire.specs.Bytes.{bytes_of, placed}
use Rattle.sheet.specs.Parts.{Read}
use Rattle.netcode.specs.declared.step.Step.{Step}
use Rattle.netcode.specs.declared.step.Layout.{Layout}
use Rattle.programs.specs.Files.{File, Reading, steps_of}

-- The elements of `new` in the places of a list from `at` on, so far as it has them.
abbrev pub stored : {X : Type 0} → List X → ℕ → List X → List X
stored old at [] = old
stored old at (x ∷ new) = stored (slice_set old at x) (at + 1) new

-- What a call that reads and stores leaves: the list and the position, or a fault.
abbrev pub left : Result (Unit {0}) (Fault Offset) → List Step → ℕ → Result (List Step × ℕ) (Fault Offset)
left (Ok u) list pos = Ok (list, pos)
left (Err f) list pos = Err f

abbrev pub storing : List Step → ℕ → Read (List Step) → Result (List Step × ℕ) (Fault Offset)
storing list at (Ok steps) = Ok (stored list at steps.0, steps.1)
storing list at (Err f) = Err f

-- The same for a program, with its length.
abbrev pub left_program : Result ℕ (Fault BytesPlace) → List Step → ℕ → Result (ℕ × List Step × ℕ) (Fault BytesPlace)
left_program (Ok n) list pos = Ok (n, list, pos)
left_program (Err f) list pos = Err f

abbrev pub storing_program : List Step → ℕ → Reading (List Step) → Result (ℕ × List Step × ℕ) (Fault BytesPlace)
storing_program list at (Ok p) = Ok (length p.0, stored list at p.0, p.1)
storing_program list at (Err f) = Err f

-- The same for programs from the one numbered `number` on, with all lengths.
abbrev pub left_programs : Result (List ℕ) (Fault BytesPlace) → List Step → ℕ → Result (List ℕ × List Step × ℕ) (Fault BytesPlace)
left_programs (Ok lengths) list pos = Ok (lengths, list, pos)
left_programs (Err f) list pos = Err f

abbrev pub storing_programs : List ℕ → ℕ → List Step → ℕ → Reading (List (List Step)) → Result (List ℕ × List Step × ℕ) (Fault BytesPlace)
storing_programs lengths number list at (Ok ps) = Ok (stored lengths number (map length ps.0), stored list at (steps_of ps.0), ps.1)
storing_programs lengths number list at (Err f) = Err f

-- The same for a file.
abbrev pub left_file : Result Layout (Fault BytesPlace) → List Step → Result (Layout × List Step) (Fault BytesPlace)
left_file (Ok layout) list = Ok (layout, list)
left_file (Err f) list = Err f

abbrev pub storing_file : List Step → Result File (Fault BytesPlace) → Result (Layout × List Step) (Fault BytesPlace)
storing_file list (Ok file) =
    Ok (record { stations = file.0; lengths = stored (replicate 16 0) 0 (map length file.1) }, stored list 0 (steps_of file.1))
storing_file list (Err f) = Err f

-- A list of bytes after a number was written at `at`, where there was room for it.
abbrev pub written : List ℕ → ℕ → ℕ → List ℕ
written out at n = placed out at (bytes_of n)

-- A list of bytes after the numbers were written from `at` on, each where there was room for it, and where
-- they end.
abbrev pub putting : List ℕ → ℕ → List ℕ → List ℕ × ℕ
putting out at [] = (out, at)
putting out at (n ∷ ns) = putting (written out at n) (at + length (bytes_of n)) ns
