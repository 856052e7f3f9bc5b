-- A run at its making that has served a list of requests.
use Rattle.std.proofs.Common.{◌≡◌, ◌≤◌, List, ◌++◌, length, drop, Ok, Result, ap, ◌∙◌, ap₂}
use Rattle.std.proofs.lemmas.Bool.{le-ltb}
use Rattle.fault.specs.declared.refusal.Fault.{Fault}
use Rattle.fault.specs.declared.place.BytesPlace.{BytesPlace}
use Rattle.sheet.specs.declared.row.Head.{Head}
use Rattle.sheet.specs.declared.row.Row.{Row}
use Rattle.netcode.specs.declared.step.Step.{Step}
use Rattle.netcode.specs.Layouts.{programs_of}
use Rattle.plant.specs.Model.{Model}
use Rattle.translate.specs.Translation.{translated}
use Rattle.semantics.specs.declared.state.State.{State}
use Rattle.semantics.specs.declared.state.Request.{Request}
use Rattle.semantics.specs.declared.state.Reply.{Reply}
use Rattle.semantics.specs.Machine.{World, new_state}
use Rattle.semantics.specs.Requests.{served_all, at_making}
use Rattle.semantics.specs.Promise.{Promised}
use Rattle.bench.specs.declared.run.Run.{Run}
use Rattle.bench.specs.Shown.{world}
use Rattle.bench.specs.Runs.{programs_in, world_in, SamePrograms}
use Rattle.bench.specs.Replies.{Answered, answered, served_into}
use Rattle.rehearsal.specs.Ran.{Ran, all_served}

served-room : (m : Model) (programs : List (List Step)) (requests : List Request) (before : List Reply) (w : World m.State) → length requests ≤ length before
    → served_into m programs requests before w
    ≡ answered (Ok tt) ((served_all m programs requests w).replies ++ drop (length requests) before) (served_all m programs requests w).world
served-room m programs requests before w h = rw (le-ltb (length before) (length requests) h)

pub ran : (m : Model) (h : Head) (rows : List Row) (start after : m.State) (requests : List Request) (before replies : List Reply) (made last : Run)
    (result : Result (Unit {0}) (Fault BytesPlace))
    → programs_in made ≡ translated h rows → made.machine.state ≡ new_state → SamePrograms made last
    → answered result replies (world_in last after) ≡ served_into m (programs_in made) requests before (world_in made start)
    → length requests ≤ length before → Promised m h rows start
    → Ran m h rows start after requests before replies last
ran m h rows start after requests before replies made last result p s same e room promise =
    record { programs = ap₂ programs_of same.layout same.steps ∙ p; world = ap (λ (x : Answered m.State). x.world) whole; replied = ap (λ (x : Answered m.State). x.replies) whole; promise = promise }
  where
    at : served_into m (programs_in made) requests before (world_in made start) ≡ served_into m (translated h rows) requests before (at_making m (translated h rows) start)
    at = ap₂ (λ (ps : List (List Step)) (x : State). served_into m ps requests before (world x start)) p s

    whole : answered result replies (world_in last after)
        ≡ answered (Ok tt) ((all_served m h rows start requests).replies ++ drop (length requests) before) (all_served m h rows start requests).world
    whole = e ∙ at ∙ served-room m (translated h rows) requests before (at_making m (translated h rows) start) room
