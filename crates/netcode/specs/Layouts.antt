use Rattle.std.specs.Prelude.{ℕ, ◌+◌, ◌*◌, ◌/◌, min, List, [], ◌∷◌, take, drop}
use Rattle.netcode.specs.declared.step.Step.{Step}
use Rattle.netcode.specs.declared.step.Layout.{Layout}

-- The programs of a station: its work program, and after it its line program.
abbrev pub per_station : ℕ
per_station = 2

abbrev pub work_program : ℕ → ℕ
work_program station = per_station * station

abbrev pub line_program : ℕ → ℕ
line_program station = per_station * station + 1

-- The station of a program.
abbrev pub station_of : ℕ → ℕ
station_of program = program / per_station

-- How many programs the stations have; there are at most 8 stations.
abbrev pub program_count : ℕ → ℕ
program_count stations = per_station * min stations 8

-- A list cut into parts of the lengths given. Where it ends, the parts are shorter.
abbrev pub cuts : {X : Type 0} → List ℕ → List X → List (List X)
cuts [] xs = []
cuts (n ∷ ns) xs = take n xs ∷ cuts ns (drop n xs)

-- The programs in a flat list of steps.
abbrev pub programs_of : Layout → List Step → List (List Step)
programs_of layout steps = cuts (take (program_count layout.stations) layout.lengths) steps
