use Rattle.std.specs.Prelude.{ℕ, ◌+◌, ◌<◌, ◌≤◌, List, [], ◌∷◌, ◌++◌, map, length, drop, replicate, slice_set}
use Rattle.std.specs.List.{flat_map}
use Rattle.fault.specs.declared.place.BytesPlace.{BytesPlace}
use Rattle.fault.specs.declared.place.BytesPlace.TheVariants.{Needed}
use Rattle.fault.specs.declared.refusal.Refusal.TheVariants.{TooShort}
use Rattle.fault.specs.declared.refusal.Fault.{Fault}
use Rattle.sheet.specs.declared.row.Head.{Head}
use Rattle.sheet.specs.declared.row.Row.{Row}
use Rattle.sheet.specs.Rows.{row_at}
use Rattle.netcode.specs.declared.step.Step.{Step}
use Rattle.netcode.specs.declared.step.Layout.{Layout}
use Rattle.translate.specs.Translation.{end_of, translated}

-- The elements of `new` in the places of a list from `at` on, so far as it has them.
abbrev pub stored : {X : Type 0} → List X → ℕ → List X → List X
stored old at [] = old
stored old at (x ∷ new) = stored (slice_set old at x) (at + 1) new

-- All steps of the programs, one program after the other.
abbrev pub steps_of : List (List Step) → List Step
steps_of programs = flat_map (λ p. p) programs

-- A list in front of another, of which the rest stays.
abbrev pub laid_on : {X : Type 0} → List X → List X → List X
laid_on new old = new ++ drop (length new) old

-- The limits of a sheet that the code counts on.
pub record Bounded (cycle : ℕ) (rows : List Row) : Type 0 where
  pub few : length rows ≤ 128
  pub long : 0 < cycle
  pub short : cycle ≤ 65535
  pub inside : (i : ℕ) → i < length rows → end_of (row_at rows i) ≤ cycle

-- How many steps the programs of a sheet have.
abbrev pub needed : Head → List Row → ℕ
needed h rows = length (steps_of (translated h rows))

-- How a list of steps is cut into the programs of a sheet that stand at its front.
abbrev pub layout_for : Head → List Row → Layout
layout_for h rows = record { stations = h.stations; lengths = laid_on (map length (translated h rows)) (replicate 16 0) }

-- What is answered where the list is too short: how many steps are needed.
abbrev pub no_room : Head → List Row → Fault BytesPlace
no_room h rows = record { refusal = TooShort; place = Needed (needed h rows) }
