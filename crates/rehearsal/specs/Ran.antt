-- What running an accepted sheet comes to.
use Rattle.std.specs.Prelude.{◌≡◌, ℕ, cond, List, ◌++◌, length, drop, Some, None, Ok, Err, vec_items, Option, Result, nat_lt}
use Rattle.fault.specs.declared.refusal.Fault.{Fault}
use Rattle.fault.specs.declared.refusal.Refusal.TheVariants.{TooShort}
use Rattle.fault.specs.declared.place.Place.{Place}
use Rattle.fault.specs.declared.place.Place.TheVariants.{Needed, WorkOfRow}
use Rattle.fault.specs.declared.place.FitPlace.{FitPlace}
use Rattle.sheet.specs.declared.row.Head.{Head}
use Rattle.sheet.specs.declared.row.Row.{Row}
use Rattle.plant.specs.Model.{Model}
use Rattle.plant.specs.Fit.{fit_from}
use Rattle.stages.specs.Views.{accepted_head, accepted_rows}
use Rattle.translate.specs.Translation.{translated}
use Rattle.netcode.specs.declared.step.Step.{Step}
use Rattle.translate.specs.declared.stage.Translated.{Translated}
use Rattle.translate.specs.Stores.{needed, steps_of, layout_for}
use Rattle.semantics.specs.declared.state.Request.{Request}
use Rattle.semantics.specs.declared.state.Reply.{Reply}
use Rattle.semantics.specs.Requests.{ServedAll, served_all, at_making}
use Rattle.semantics.specs.Promise.{Promised}
use Rattle.bench.specs.declared.run.Run.{Run}
use Rattle.bench.specs.Runs.{programs_in, world_in}

-- Why a sheet is not run, tried in this order: a work that the plant does not know; too little room for the replies; too
-- little room for the steps of all programs.
abbrev pub unless_unfit : Result (Unit {0}) (Fault FitPlace) → Option (Fault Place) → Option (Fault Place)
unless_unfit (Ok _) rest = rest
unless_unfit (Err f) rest = Some record { refusal = f.refusal; place = WorkOfRow f.place.station f.place.work f.place.row }

abbrev pub unless_short : ℕ → ℕ → Option (Fault Place) → Option (Fault Place)
unless_short room needed rest = cond (nat_lt room needed) (Some record { refusal = TooShort; place = Needed needed }) rest

abbrev pub why_not : Model → Head → List Row → ℕ → ℕ → ℕ → Option (Fault Place)
why_not m h rows steps replies asked =
    unless_unfit (fit_from m 0 rows) (unless_short replies asked (unless_short steps (needed h rows) None))

-- The sheet's programs, made above the plant as it was, and the requests served in order.
abbrev pub all_served : (m : Model) → Head → List Row → m.State → List Request → ServedAll m.State
all_served m h rows start requests = served_all m (translated h rows) requests (at_making m (translated h rows) start)

-- A sheet that was run: the run and the plant stand as the requests leave them, the replies are at the front of their
-- list, whose rest stays, and the run promise holds.
pub record Ran (m : Model) (h : Head) (rows : List Row) (start after : m.State) (requests : List Request) (before replies : List Reply) (run : Run) : Type 0 where
  pub programs : programs_in run ≡ translated h rows
  pub world : world_in run after ≡ (all_served m h rows start requests).world
  pub replied : replies ≡ (all_served m h rows start requests).replies ++ drop (length requests) before
  pub promise : Promised m h rows start

-- The list of steps holds the programs of the sheet that was used up for them.
pub record HoldsPrograms (t : Translated) : Type 0 where
  pub layout : t.layout ≡ layout_for (accepted_head t.sheet) (accepted_rows t.sheet)
  pub steps : (rest : List Step) × (vec_items t.steps ≡ steps_of (translated (accepted_head t.sheet) (accepted_rows t.sheet)) ++ rest)
