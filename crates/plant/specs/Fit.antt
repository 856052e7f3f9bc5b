-- Whether a plant knows every work that the rows of a sheet name.
use Rattle.std.specs.Prelude.{◌≡◌, ℕ, ◌+◌, ◌<◌, Bool, true, false, cond, List, [], ◌∷◌, length, Ok, Err, Result}
use Rattle.fault.specs.declared.refusal.Fault.{Fault}
use Rattle.fault.specs.declared.refusal.Refusal.TheVariants.{UnknownWork}
use Rattle.fault.specs.declared.place.FitPlace.{FitPlace}
use Rattle.sheet.specs.Rows.{inputs_of, row_at}
use Rattle.sheet.specs.declared.row.Condition.{Condition}
use Rattle.sheet.specs.declared.row.Call.{Call}
use Rattle.sheet.specs.declared.row.Row.{Row}
use Rattle.sheet.specs.declared.row.Row.TheVariants.{Keep as keep_row, Call as call_row, Send as send_row}
use Rattle.plant.specs.Model.{Model}

-- Whether the work of a call is known, with as many inputs as the call reads variables.
abbrev pub knows_call : Model → Call Condition → Bool
knows_call m c = m.known c.station c.work (length (inputs_of c.inputs))

-- The refusal of the call in a row.
abbrev pub unfit : Call Condition → ℕ → Fault FitPlace
unfit c row = record { refusal = UnknownWork; place = record { station = c.station; work = c.work; row = row } }

abbrev pub row_fit : Model → ℕ → Row → Result (Unit {0}) (Fault FitPlace)
row_fit m row (keep_row k) = Ok tt
row_fit m row (call_row c) = cond (knows_call m c) (Ok tt) (Err (unfit c row))
row_fit m row (send_row s) = Ok tt

abbrev pub unless_unfit : Result (Unit {0}) (Fault FitPlace) → Result (Unit {0}) (Fault FitPlace) → Result (Unit {0}) (Fault FitPlace)
unless_unfit (Ok _) rest = rest
unless_unfit (Err f) rest = Err f

-- The rows from the top, the first of which has the number `row`.
abbrev pub fit_from : Model → ℕ → List Row → Result (Unit {0}) (Fault FitPlace)
fit_from m row [] = Ok tt
fit_from m row (r ∷ rs) = unless_unfit (row_fit m row r) (fit_from m (row + 1) rs)

-- The plant knows the work of every call row, and of those above a row.
abbrev pub KnowsEach : Model → List Row → Type 0
KnowsEach m rows = (row : ℕ) (c : Call Condition) → row_at rows row ≡ call_row c → knows_call m c ≡ true

abbrev pub KnowsAbove : Model → List Row → ℕ → Type 0
KnowsAbove m rows end = (row : ℕ) (c : Call Condition) → row < end → row_at rows row ≡ call_row c → knows_call m c ≡ true

-- A row is the topmost call whose work the plant does not know.
pub record FirstUnknown (m : Model) (rows : List Row) (row : ℕ) (c : Call Condition) : Type 0 where
  pub here : row_at rows row ≡ call_row c
  pub unknown : knows_call m c ≡ false
  pub above : KnowsAbove m rows row

-- What an answer of fit means: it is good exactly where the plant knows the work of every call row, and it is
-- a refusal exactly for the topmost call row whose work the plant does not know, with its station, work and row.
pub record Fit (m : Model) (rows : List Row) (r : Result (Unit {0}) (Fault FitPlace)) : Type 0 where
  pub good : r ≡ Ok tt → KnowsEach m rows
  pub when_good : KnowsEach m rows → r ≡ Ok tt
  pub refused : (f : Fault FitPlace) → r ≡ Err f → (row : ℕ) × (c : Call Condition) × (f ≡ unfit c row) × FirstUnknown m rows row c
  pub when_refused : (row : ℕ) (c : Call Condition) → FirstUnknown m rows row c → r ≡ Err (unfit c row)
