-- What can be asked of a run, one request after another, and what it replies.
use Rattle.std.specs.Prelude.{ℕ, zero, suc, ◌+◌, cond, ◌&&◌, List, [], ◌∷◌, length, Some, None, Option, nat_lt}
use Rattle.fault.specs.declared.refusal.Fault.{Fault}
use Rattle.fault.specs.declared.refusal.Refusal.TheVariants.{Outside}
use Rattle.fault.specs.declared.place.TickPlace.{TickPlace}
use Rattle.fault.specs.declared.place.AskedPlace.TheVariants.{Word as asked_word, Mark as asked_mark}
use Rattle.netcode.specs.declared.step.Step.{Step}
use Rattle.netcode.specs.Layouts.{station_of}
use Rattle.plant.specs.Model.{Model}
use Rattle.semantics.specs.declared.state.State.{State}
use Rattle.semantics.specs.declared.state.Request.{Request}
use Rattle.semantics.specs.declared.state.Request.TheVariants.{Tick, Rehearse, WordAt, MarkAt}
use Rattle.semantics.specs.declared.state.Reply.{Reply}
use Rattle.semantics.specs.declared.state.Reply.TheVariants.{Granted, Refused, Made, Word, Mark as mark_reply, Outside as outside_reply}
use Rattle.semantics.specs.Machine.{World, Outcome, new_state, word_in, mark_in, tick}

-- A rehearsal: how many ticks were made, the refusal that ended it, and where it leads.
pub record Rehearsal (S : Type 0) : Type 0 where
  pub count : ℕ
  pub ended : Option (Fault TickPlace)
  pub world : World S

-- What is replied, and what stands then.
pub record Served (S : Type 0) : Type 0 where
  pub reply : Reply
  pub world : World S

pub record ServedAll (S : Type 0) : Type 0 where
  pub replies : List Reply
  pub world : World S

-- Word-at answers a word or nothing, as it stands; outside the run's stations and 64 variables it is refused 7.
-- Mark-at answers a mark; outside 128 rows it is refused 7.
abbrev pub word_reply : ℕ → State → ℕ → ℕ → Reply
word_reply stations s station variable =
    cond (nat_lt station stations && nat_lt variable 64) (Word (word_in s station variable))
    (outside_reply record { refusal = Outside; place = asked_word station variable })

abbrev pub mark_at_reply : State → ℕ → Reply
mark_at_reply s row =
    cond (nat_lt row 128) (mark_reply (mark_in s row)) (outside_reply record { refusal = Outside; place = asked_mark row })

module _ (m : Model) (programs : List (List Step)) where
  -- One more tick was made before the rest of a rehearsal.
  abbrev pub one_more : Rehearsal m.State → Rehearsal m.State
  one_more r = record { count = r.count + 1; ended = r.ended; world = r.world }

  abbrev pub rehearsed_on : Outcome m.State → (World m.State → Rehearsal m.State) → Rehearsal m.State
  rehearsed_on (Outcome.done w) more = one_more (more w)
  rehearsed_on (Outcome.refused fault w) more = record { count = 0; ended = Some fault; world = w }

  -- Up to n ticks.
  unfoldable pub rehearsed : ℕ → World m.State → Rehearsal m.State
  rehearsed zero w = record { count = 0; ended = None; world = w }
  rehearsed (suc n) w = rehearsed_on (tick m programs w) (rehearsed n)

  abbrev pub ticked : Outcome m.State → Served m.State
  ticked (Outcome.done w) = record { reply = Granted; world = w }
  ticked (Outcome.refused fault w) = record { reply = Refused fault; world = w }

  abbrev pub made : Rehearsal m.State → Served m.State
  made r = record { reply = Made r.count r.ended; world = r.world }

  -- One request. There is a station for every two programs.
  abbrev pub served : Request → World m.State → Served m.State
  served Tick w = ticked (tick m programs w)
  served (Rehearse n) w = made (rehearsed n w)
  served (WordAt station variable) w = record { reply = word_reply (station_of (length programs)) w.state station variable; world = w }
  served (MarkAt row) w = record { reply = mark_at_reply w.state row; world = w }

  abbrev pub after_first : Served m.State → (World m.State → ServedAll m.State) → ServedAll m.State
  after_first s more = record { replies = s.reply ∷ (more s.world).replies; world = (more s.world).world }

  -- A list of requests, in order: the replies, and what stands at the end.
  unfoldable pub served_all : List Request → World m.State → ServedAll m.State
  served_all [] w = record { replies = []; world = w }
  served_all (r ∷ rs) w = after_first (served r w) (served_all rs)

  -- A run at its making, above a plant in any state; and after a list of requests.
  abbrev pub at_making : m.State → World m.State
  at_making plant = record { state = new_state; plant = plant }

  abbrev pub after_requests : m.State → List Request → World m.State
  after_requests plant rs = (served_all rs (at_making plant)).world
