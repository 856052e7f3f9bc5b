-- The reckoner has no state. Its works, at stations 0 to 7, with their inputs:
--   1  copies its input (1)            4  gives 1 where its inputs are alike, else 0 (2)
--   2  adds modulo 4,294,967,296 (2)   5  gives 1 (0)
--   3  gives the lesser (2)
use Rattle.std.specs.Prelude.{ℕ, ◌+◌, ◌%◌, ◌^◌, min, Bool, cond, ◌&&◌, ◌||◌, ◌==◌, nat_lt}
use Rattle.plant.specs.Model.{Model}

-- Whether a work has so many inputs.
abbrev pub reckoner_work : ℕ → ℕ → Bool
reckoner_work work count =
    (work == 1 && count == 1)
    || ((work == 2 && count == 2)
    || ((work == 3 && count == 2)
    || ((work == 4 && count == 2)
    || (work == 5 && count == 0))))

-- What a known work answers.
abbrev pub reckoned : ℕ → ℕ → ℕ → ℕ
reckoned work a b =
    cond (work == 1) a
    (cond (work == 2) ((a + b) % 2 ^ 32)
    (cond (work == 3) (min a b)
    (cond (work == 4) (cond (a == b) 1 0)
    1)))

abbrev pub reckoner : Model
reckoner = record {
  State = Unit {0};
  known = λ station work count. nat_lt station 8 && reckoner_work work count;
  answer = λ s w. reckoned w.number w.first w.second;
  next = λ s w. s;
}
