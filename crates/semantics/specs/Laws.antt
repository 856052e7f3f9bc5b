-- Laws of the machine, above any plant and for any programs.
use Rattle.std.specs.Prelude.{◌≡◌, ℕ, zero, suc, ◌+◌, ◌*◌, ◌<◌, ◌≤◌, true, false, cond, ◌⊎◌, List, ◌++◌, length, Some, None, ◌==◌}
use Rattle.fault.specs.declared.refusal.Fault.{Fault}
use Rattle.fault.specs.declared.refusal.Refusal.TheVariants.{LimitReached, Stopped}
use Rattle.fault.specs.declared.place.TickPlace.{TickPlace}
use Rattle.netcode.specs.declared.step.Step.{Step}
use Rattle.netcode.specs.Laws.{Lawful}
use Rattle.plant.specs.Model.{Model}
use Rattle.semantics.specs.declared.state.Request.{Request}
use Rattle.semantics.specs.declared.state.Request.TheVariants.{WordAt, MarkAt}
use Rattle.semantics.specs.declared.state.Message.{Message}
use Rattle.semantics.specs.Machine.{World, Outcome, limit, mark_in, of_the_run, steps, tick}
use Rattle.semantics.specs.Requests.{Rehearsal, rehearsed, served, served_all, at_making, after_requests}
use Rattle.semantics.specs.Bounds.{CountsWithin}
use Rattle.semantics.specs.Events.{plant_after, times_of, events}

module _ (m : Model) (programs : List (List Step)) where
  -- So many granted ticks lead from one world to another.
  abbrev pub Leads : ℕ → World m.State → World m.State → Type 0
  Leads zero w v = w ≡ v
  Leads (suc n) w v = (u : World m.State) × (tick m programs w ≡ Outcome.done u) × Leads n u v

  -- A rehearsal of n ticks is n granted ticks, or as many as come before the first refusal, and that refusal.
  abbrev pub Rehearses : ℕ → World m.State → Rehearsal m.State → Type 0
  Rehearses n w r =
      ((r.ended ≡ None) × (r.count ≡ n) × Leads n w r.world)
      ⊎ ((fault : Fault TickPlace) × (v : World m.State) × (r.ended ≡ Some fault) × (r.count < n) × Leads r.count w v
      × (tick m programs v ≡ Outcome.refused fault r.world))

  -- From this world on every tick is refused 19, whatever is asked between, and nothing is changed.
  abbrev pub EndsAt : World m.State → Type 0
  EndsAt w = (rs : List Request) → ((served_all m programs rs w).world ≡ w) × (tick m programs w ≡ Outcome.refused (of_the_run Stopped) w)

  pub record MachineLaws : Type 0 where
    pub rehearsals : (n : ℕ) (w : World m.State) → Rehearses n w (rehearsed m programs n w)
    -- A run that has stopped refuses 19; another at its limit refuses 18. Neither changes anything.
    pub stopped : (w : World m.State) → w.state.stopped ≡ true → tick m programs w ≡ Outcome.refused (of_the_run Stopped) w
    pub full : (w : World m.State) → w.state.stopped ≡ false → limit ≤ w.state.granted → tick m programs w ≡ Outcome.refused (of_the_run LimitReached) w
    -- A tick that is refused otherwise ends the run.
    pub ended : (w v : World m.State) (fault : Fault TickPlace) → w.state.stopped ≡ false → w.state.granted < limit
        → tick m programs w ≡ Outcome.refused fault v → EndsAt v
    -- A granted tick is counted, and a refused one is not.
    pub more : (w v : World m.State) → tick m programs w ≡ Outcome.done v → v.state.granted ≡ w.state.granted + 1
    pub uncounted : (w v : World m.State) (fault : Fault TickPlace) → tick m programs w ≡ Outcome.refused fault v
        → v.state.granted ≡ w.state.granted
    -- A unit performs at most one call or send in a tick, so that counts stay far below 32 bits.
    pub bounded : length programs ≤ 16 → (start : m.State) (rs : List Request)
        → CountsWithin (16 * ((after_requests m programs start rs).state.granted + 1)) (after_requests m programs start rs).state
    -- Word-at and mark-at change nothing.
    pub word_at : (w : World m.State) (station variable : ℕ) → (served m programs (WordAt station variable) w).world ≡ w
    pub mark_at : (w : World m.State) (row : ℕ) → (served m programs (MarkAt row) w).world ≡ w
    -- The plant's state is what the performed calls leave, and a row's count is how often the row was performed.
    pub plant : (start : m.State) (rs : List Request)
        → (after_requests m programs start rs).plant ≡ plant_after m start (events m programs rs (at_making m programs start))
    pub counts : (start : m.State) (rs : List Request) (row : ℕ) → row < 128
        → (mark_in (after_requests m programs start rs).state row).count ≡ times_of row (events m programs rs (at_making m programs start))
    -- A message stays on the line in every granted tick but the one that it ends with, in which it leaves.
    pub line : (w v : World m.State) (message : Message) → tick m programs w ≡ Outcome.done v → w.state.line ≡ Some message
        → v.state.line ≡ cond (message.end == v.state.granted) None (Some message)
    -- A list of requests goes on where the one before it ended.
    pub on : (rs ss : List Request) (w : World m.State)
        → ((served_all m programs (rs ++ ss) w).world ≡ (served_all m programs ss (served_all m programs rs w).world).world)
        × ((served_all m programs (rs ++ ss) w).replies ≡ (served_all m programs rs w).replies ++ (served_all m programs ss (served_all m programs rs w).world).replies)

-- A program that keeps the rules comes to HALT within its length: from an address on, as many steps as are left
-- suffice, and one more changes nothing.
abbrev pub HaltsInTime : Model → Type 0
HaltsInTime m =
    (code : List Step) → Lawful code → (n program address : ℕ) (w : World m.State) → address < length code → length code ≤ address + n
    → steps m (suc n) code program address w ≡ steps m n code program address w

-- For any programs.
pub record LawsStand (m : Model) : Type 0 where
  pub machine : (programs : List (List Step)) → MachineLaws m programs
  pub halts : HaltsInTime m
