-- The panel has a register for each of eight stations, 0 at first. Its works, at stations 0 to 7:
--   10  reads the station's register (no input)
--   11  puts its input into the station's register and answers the old word (1 input)
use Rattle.std.specs.Prelude.{ℕ, cond, ◌&&◌, ◌||◌, List, replicate, ◌==◌, nat_lt, slice_index, slice_set}
use Rattle.plant.specs.Model.{Model}

-- The state is the list of the registers.
abbrev pub panel : Model
panel = record {
  State = List ℕ;
  known = λ station work count. nat_lt station 8 && ((work == 10 && count == 0) || (work == 11 && count == 1));
  answer = λ s w. slice_index s w.station;
  next = λ s w. cond (w.number == 11) (slice_set s w.station w.first) s;
}

abbrev pub panel_at_first : List ℕ
panel_at_first = replicate 8 0
