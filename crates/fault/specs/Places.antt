use Rattle.std.specs.Prelude.{ℕ, List, [], ◌∷◌}
use Rattle.fault.specs.declared.place.BytesPlace.{BytesPlace}
use Rattle.fault.specs.declared.place.BytesPlace.TheVariants.{Offset as bytes_offset, Needed as bytes_needed, Head as bytes_head}
use Rattle.fault.specs.declared.place.RowPlace.{RowPlace}
use Rattle.fault.specs.declared.place.RowPlace.TheVariants.{Row as row_row, Rows as row_rows, Variable as row_variable}
use Rattle.fault.specs.declared.place.TickPlace.{TickPlace}
use Rattle.fault.specs.declared.place.TickPlace.TheVariants.{Step as tick_step, Work as tick_work, Run as tick_run}
use Rattle.fault.specs.declared.place.AskedPlace.{AskedPlace}
use Rattle.fault.specs.declared.place.AskedPlace.TheVariants.{Word as asked_word, Mark as asked_mark}
use Rattle.fault.specs.declared.place.Place.{Place}
use Rattle.fault.specs.declared.place.Place.TheVariants.{Offset, Needed, Head, Row, Rows, Variable, Asked, AskedRow, Work, WorkOfRow, WorkOfStep, Step, Run}

-- The numbers that tell a place, in the order in which they are shown.
abbrev pub values_of : Place → List ℕ
values_of (Offset o) = o ∷ []
values_of (Needed n) = n ∷ []
values_of Head = 0 ∷ []
values_of (Row row) = row ∷ []
values_of (Rows lower upper) = lower ∷ upper ∷ []
values_of (Variable row variable) = row ∷ variable ∷ []
values_of (Asked station variable) = station ∷ variable ∷ []
values_of (AskedRow row) = row ∷ []
values_of (Work station work) = station ∷ work ∷ []
values_of (WorkOfRow station work row) = station ∷ work ∷ row ∷ []
values_of (WorkOfStep station work program address) = station ∷ work ∷ program ∷ address ∷ []
values_of (Step program address) = program ∷ address ∷ []
values_of Run = 0 ∷ []

-- The places of a layer among the places of all.
abbrev pub bytes_place : BytesPlace → Place
bytes_place (bytes_offset o) = Offset o
bytes_place (bytes_needed n) = Needed n
bytes_place bytes_head = Head

abbrev pub row_place : RowPlace → Place
row_place (row_row row) = Row row
row_place (row_rows lower upper) = Rows lower upper
row_place (row_variable row variable) = Variable row variable

abbrev pub tick_place : TickPlace → Place
tick_place (tick_step program address) = Step program address
tick_place (tick_work station work program address) = WorkOfStep station work program address
tick_place tick_run = Run

abbrev pub asked_place : AskedPlace → Place
asked_place (asked_word station variable) = Asked station variable
asked_place (asked_mark row) = AskedRow row
