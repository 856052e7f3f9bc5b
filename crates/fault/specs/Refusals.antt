use Rattle.std.specs.Prelude.{ℕ}
use Rattle.fault.specs.declared.refusal.Refusal.{Refusal}
use Rattle.fault.specs.declared.refusal.Refusal.TheVariants.{EndsEarly, NotShortest, Strange, TooShort, Trailing, HeadOutside, Outside, TestedTwice, TwoWriters, Clash, Unavailable, UnknownWork, BrokenProgram, LineCarrying, NoMessage, EmptyPlace, UnitBusy, LimitReached, Stopped}

-- The number of each refusal.
abbrev pub number_of : Refusal → ℕ
number_of EndsEarly = 1
number_of NotShortest = 2
number_of Strange = 3
number_of TooShort = 4
number_of Trailing = 5
number_of HeadOutside = 6
number_of Outside = 7
number_of TestedTwice = 8
number_of TwoWriters = 9
number_of Clash = 10
number_of Unavailable = 11
number_of UnknownWork = 12
number_of BrokenProgram = 13
number_of LineCarrying = 14
number_of NoMessage = 15
number_of EmptyPlace = 16
number_of UnitBusy = 17
number_of LimitReached = 18
number_of Stopped = 19
