-- What the code answers, as the definitions have it.
use Rattle.std.specs.Prelude.{ℕ, cond, List, ◌++◌, length, drop, Ok, Err, Option, Result, nat_lt}
use Rattle.fault.specs.declared.refusal.Fault.{Fault}
use Rattle.fault.specs.declared.refusal.Refusal.TheVariants.{TooShort}
use Rattle.fault.specs.declared.place.TickPlace.{TickPlace}
use Rattle.fault.specs.declared.place.BytesPlace.{BytesPlace}
use Rattle.fault.specs.declared.place.BytesPlace.TheVariants.{Needed}
use Rattle.netcode.specs.declared.step.Step.{Step}
use Rattle.plant.specs.Model.{Model}
use Rattle.semantics.specs.declared.state.Reply.{Reply}
use Rattle.semantics.specs.declared.state.Request.{Request}
use Rattle.semantics.specs.Machine.{World}
use Rattle.semantics.specs.Requests.{Rehearsal, Served, served_all}

abbrev pub ticks_made : {S : Type 0} → ℕ → Option (Fault TickPlace) → World S → Rehearsal S
ticks_made count ended w = record { count = count; ended = ended; world = w }

abbrev pub replied : {S : Type 0} → Reply → World S → Served S
replied r w = record { reply = r; world = w }

-- What a call with a list of requests comes to: its result, what the list of replies holds, and what stands then.
pub record Answered (S : Type 0) : Type 0 where
  pub result : Result (Unit {0}) (Fault BytesPlace)
  pub replies : List Reply
  pub world : World S

abbrev pub answered : {S : Type 0} → Result (Unit {0}) (Fault BytesPlace) → List Reply → World S → Answered S
answered result replies w = record { result = result; replies = replies; world = w }

-- The replies stand at the front of the list handed in; one that is too short is refused with the count needed, and
-- nothing moves.
abbrev pub served_into : (m : Model) → List (List Step) → List Request → List Reply → World m.State → Answered m.State
served_into m programs requests handed w =
    cond (nat_lt (length handed) (length requests))
    (answered (Err record { refusal = TooShort; place = Needed (length requests) }) handed w)
    (answered (Ok tt) ((served_all m programs requests w).replies ++ drop (length requests) handed) (served_all m programs requests w).world)
