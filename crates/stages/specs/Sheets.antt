use Rattle.std.specs.Prelude.{ℕ, Bool, cond, List, take, is_some, Some, None, Option, nat_lt}
use Rattle.fault.specs.declared.place.BytesPlace.{BytesPlace}
use Rattle.fault.specs.declared.place.BytesPlace.TheVariants.{Needed, Head as of_head}
use Rattle.fault.specs.declared.place.RowPlace.{RowPlace}
use Rattle.fault.specs.declared.place.RowPlace.TheVariants.{Row as of_row}
use Rattle.fault.specs.declared.refusal.Refusal.TheVariants.{TooShort, HeadOutside, Outside}
use Rattle.fault.specs.declared.refusal.Fault.{Fault}
use Rattle.sheet.specs.declared.row.Head.{Head}
use Rattle.sheet.specs.declared.row.Row.{Row}
use Rattle.sheet.specs.Rows.{head_within}
use Rattle.judge.specs.Verdict.{verdict}

-- The rows of a sheet stand at the front of a list, as many as its head says; what the list holds beyond
-- them is no part of the sheet.
abbrev pub rows_in : Head → List Row → List Row
rows_in h list = take h.rows list

-- What keeps a head and a list of `room` rows from being a sheet: the list is too short for the head's
-- rows, or the head is outside its limits.
abbrev pub draft_fault : Head → ℕ → Option (Fault BytesPlace)
draft_fault h room =
    cond (nat_lt room h.rows) (Some record { refusal = TooShort; place = Needed h.rows })
    (cond (head_within h) None (Some record { refusal = HeadOutside; place = of_head }))

-- Whether the judge finds a fault in the rows of the sheet.
abbrev pub fault_found : Head → List Row → Bool
fault_found h list = is_some (verdict h (rows_in h list))

-- What is answered to a row asked for outside the sheet.
abbrev pub outside : ℕ → Fault RowPlace
outside n = record { refusal = Outside; place = of_row n }
