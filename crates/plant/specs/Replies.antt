-- What the code replies to a work that is asked for.
use Rattle.std.specs.Prelude.{ℕ, cond, Ok, Err, Result}
use Rattle.fault.specs.declared.refusal.Fault.{Fault}
use Rattle.fault.specs.declared.refusal.Refusal.TheVariants.{UnknownWork}
use Rattle.fault.specs.declared.place.WorkPlace.{WorkPlace}
use Rattle.plant.specs.Model.{Model, Work, knows}
use Rattle.plant.specs.declared.works.Words.{Words}
use Rattle.plant.specs.declared.works.Words.TheVariants.{Nothing, Single, Pair}

-- How many inputs there are, and the two words, 0 where there is no input.
abbrev pub count_of : Words → ℕ
count_of Nothing = 0
count_of (Single a) = 1
count_of (Pair a b) = 2

abbrev pub first_of : Words → ℕ
first_of Nothing = 0
first_of (Single a) = a
first_of (Pair a b) = a

abbrev pub second_of : Words → ℕ
second_of Nothing = 0
second_of (Single a) = 0
second_of (Pair a b) = b

abbrev pub asked : ℕ → ℕ → Words → Work
asked station work inputs = record {
  station = station;
  number = work;
  count = count_of inputs;
  first = first_of inputs;
  second = second_of inputs;
}

abbrev pub unknown : Work → Fault WorkPlace
unknown w = record { refusal = UnknownWork; place = record { station = w.station; work = w.number } }

-- The refusal of a work that is not known.
abbrev pub admitted : Model → Work → Result (Unit {0}) (Fault WorkPlace)
admitted m w = cond (knows m w) (Ok tt) (Err (unknown w))

-- The model's answer where the work is known, and else the refusal with station and work.
abbrev pub replied : (m : Model) → m.State → Work → Result ℕ (Fault WorkPlace)
replied m s w = cond (knows m w) (Ok (m.answer s w)) (Err (unknown w))
