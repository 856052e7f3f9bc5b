-- A message on the line stays as it is up to its end, for any programs.
use Rattle.std.proofs.Common.{◌≡◌, ℕ, zero, suc, ◌+◌, Bool, true, false, cond, eqb, ltb, List, [], length, get_or, Some, None, Option, sym, refl, ap, ◌∙◌, subst, arith}
use Rattle.fault.specs.declared.refusal.Refusal.TheVariants.{UnitBusy, NoMessage, LimitReached, Stopped}
use Rattle.fault.specs.declared.refusal.Fault.{Fault}
use Rattle.fault.specs.declared.place.TickPlace.{TickPlace}
use Rattle.netcode.specs.declared.step.Step.{Step}
use Rattle.netcode.specs.declared.step.Step.TheVariants.{Test, Future, Halt, Call, Send, Receive, Keep, Clear, Give}
use Rattle.netcode.specs.Layouts.{station_of}
use Rattle.plant.specs.Model.{Model}
use Rattle.plant.specs.Replies.{count_of}
use Rattle.plant.specs.declared.works.Words.{Words}
use Rattle.semantics.specs.declared.state.Job.{Job}
use Rattle.semantics.specs.declared.state.Job.TheVariants.{Idle, Store, Carry, Listen}
use Rattle.semantics.specs.declared.state.Message.{Message}
use Rattle.semantics.specs.Machine as real
use Rattle.semantics.specs.Machine.{World, Stepped, Outcome, onto, halted, input_words, word_in}

module _ (m : Model) where
  abbrev S : Type 0
  S = m.State

  -- A message stays, and so does the clock.
  record Stays (w v : World S) : Type 0 where
    line : (x : Message) → w.state.line ≡ Some x → v.state.line ≡ Some x
    clock : v.state.granted ≡ w.state.granted

  same : (w : World S) → Stays w w
  same w = record { line = λ x e. e; clock = refl }

  still : (w v : World S) → v.state.line ≡ w.state.line → v.state.granted ≡ w.state.granted → Stays w v
  still w v e f = record { line = λ x q. e ∙ q; clock = f }

  then : (w v u : World S) → Stays w v → Stays v u → Stays w u
  then w v u a b = record { line = λ x e. b.line x (a.line x e); clock = b.clock ∙ a.clock }

  abbrev StepStays : World S → Stepped S → Type 0
  StepStays w (onto a v) = Stays w v
  StepStays w (halted v) = Stays w v
  StepStays w (Stepped.refused f v) = Stays w v

  on_call : (o : Option Words) (row work output duration program address : ℕ) (w : World S) → StepStays w (real.called m o row work output duration program address w)
  on_call None row work output duration program address w = same w
  on_call (Some words) row work output duration program address w = go (real.is_busy w.state program) (m.known (station_of program) work (count_of words))
    where
      go : (b k : Bool) → StepStays w (cond b (Stepped.refused (real.fault_at UnitBusy program address) w) (cond k (onto (address + 1) (real.answered m row work words output duration program w)) (Stepped.refused (real.unknown_at (station_of program) work program address) w)))
      go true k = same w
      go false false = same w
      go false true = still w _ refl refl

  on-send : (o : Option ℕ) (row duration program address : ℕ) (w : World S) → StepStays w (real.sent m o row duration program address w)
  on-send None row duration program address w = same w
  on-send (Some word) row duration program address w = go (real.is_busy w.state program)
    where
      line : (x : Option Message) → w.state.line ≡ x → StepStays w (real.on_line m x row word duration program address w)
      line (Some message) e = same w
      line None e = record { line = λ x q. absurd (let z : ◌≡◌ {A = ℕ} 0 1 = cc in omega arith); clock = refl }

      go : (b : Bool) → StepStays w (cond b (Stepped.refused (real.fault_at UnitBusy program address) w) (real.on_line m w.state.line row word duration program address w))
      go true = same w
      go false = line w.state.line refl

  step_stays : (x : Step) (program address : ℕ) (w : World S) → StepStays w (real.performed m x program address w)
  step_stays (Test variable relation word to) program address w = held (word_in w.state (station_of program) variable)
    where
      way : (b : Bool) → StepStays w (cond b (onto (address + 1) w) (onto to w))
      way true = same w
      way false = same w

      held : (o : Option ℕ) → StepStays w (real.tested m o relation word to program address w)
      held None = same w
      held (Some v) = way _
  step_stays (Future ticks to) program address w = still w _ refl refl
  step_stays Halt program address w = same w
  step_stays (Call row work inputs output duration) program address w = on_call (input_words inputs (word_in w.state (station_of program))) row work output duration program address w
  step_stays (Send row variable duration) program address w = on-send (word_in w.state (station_of program) variable) row duration program address w
  step_stays (Receive variable duration) program address w = go (real.is_busy w.state program)
    where
      go : (b : Bool) → StepStays w (cond b (Stepped.refused (real.fault_at UnitBusy program address) w) (onto (address + 1) (real.at w (real.with_job w.state program (Listen (w.state.granted + duration) variable address)))))
      go true = same w
      go false = still w _ refl refl
  step_stays (Keep variable cell) program address w = go (word_in w.state (station_of program) variable)
    where
      go : (o : Option ℕ) → Stays w (real.at w (real.kept_from m o cell w.state))
      go None = still w _ refl refl
      go (Some v) = still w _ refl refl
  step_stays Clear program address w = still w _ refl refl
  step_stays (Give cell variable word) program address w = still w _ refl refl

  abbrev world_of : Outcome S → World S
  world_of (Outcome.done v) = v
  world_of (Outcome.refused f v) = v

  steps-stay : (n : ℕ) (code : List Step) (program address : ℕ) (w : World S) → Stays w (world_of (real.steps m n code program address w))
  unfolding real.steps
  steps-stay zero code program address w = same w
  steps-stay (suc n) code program address w = go (real.performed m (get_or code address Halt) program address w) (step_stays (get_or code address Halt) program address w) (λ a v. steps-stay n code program a v)
    where
      go : (st : Stepped S) → StepStays w st → ((a : ℕ) (v : World S) → Stays v (world_of (real.steps m n code program a v))) → Stays w (world_of (real.onward m st (real.steps m n code program)))
      go (onto a v) t ih = then w v _ t (ih a v)
      go (halted v) t ih = t
      go (Stepped.refused f v) t ih = t

  turn-stays : (code : List Step) (program : ℕ) (w : World S) → Stays w (world_of (real.turn m code program w))
  turn-stays code program w = go (real.due_at m (real.unit_in w.state program).timer w.state.granted) (real.is_busy w.state program)
    where
      a : ℕ
      a = (real.unit_in w.state program).address

      u : World S
      u = real.at w (real.with_timer w.state program None a)

      go : (d b : Bool) → Stays w (world_of (cond d (cond b (Outcome.refused (real.fault_at UnitBusy program a) w) (real.steps m (length code + 1) code program a u)) (Outcome.done w)))
      go false b = same w
      go true true = same w
      go true false = then w u _ (still w u refl refl) (steps-stay (length code + 1) code program a u)

  ended-stays : (job : Job) (clock program : ℕ) (w : World S) → Stays w (world_of (real.ended m job clock program w))
  ended-stays Idle clock program w = same w
  ended-stays (Store end variable word) clock program w = go (eqb end clock)
    where
      go : (b : Bool) → Stays w (world_of (cond b (Outcome.done (real.stored m program variable word w)) (Outcome.done w)))
      go true = still w _ refl refl
      go false = same w
  ended-stays (Carry end) clock program w = go (eqb end clock)
    where
      go : (b : Bool) → Stays w (world_of (cond b (Outcome.done (real.at w (real.with_job w.state program Idle))) (Outcome.done w)))
      go true = still w _ refl refl
      go false = same w
  ended-stays (Listen end variable address) clock program w = go (eqb end clock)
    where
      heard : (o : Option Message) → Stays w (world_of (real.heard m o clock program variable address w))
      heard None = same w
      heard (Some x) = on (eqb x.end clock)
        where
          on : (b : Bool) → Stays w (world_of (cond b (Outcome.done (real.stored m program variable x.word w)) (Outcome.refused (real.fault_at NoMessage program address) w)))
          on true = still w _ refl refl
          on false = same w

      go : (b : Bool) → Stays w (world_of (cond b (real.heard m w.state.line clock program variable address w) (Outcome.done w)))
      go true = heard w.state.line
      go false = same w

  module _ (programs : List (List Step)) where
    first-stays : (n : ℕ) (w : World S) → Stays w (world_of (real.first_part m programs n w))
    unfolding real.first_part
    first-stays zero w = same w
    first-stays (suc n) w = go (real.first_part m programs n w) (first-stays n w)
      where
        go : (o : Outcome S) → Stays w (world_of o) → Stays w (world_of (real.and_then o (real.turn m (get_or programs n []) n)))
        go (Outcome.done v) t = then w v _ t (turn-stays (get_or programs n []) n v)
        go (Outcome.refused f v) t = t

    second-stays : (clock n : ℕ) (w : World S) → Stays w (world_of (real.second_part m programs clock n w))
    unfolding real.second_part
    second-stays clock zero w = same w
    second-stays clock (suc n) w = go (real.second_part m programs clock n w) (second-stays clock n w)
      where
        go : (o : Outcome S) → Stays w (world_of o) → Stays w (world_of (real.and_then o (λ v. real.ended m (real.unit_in v.state n).job clock n v)))
        go (Outcome.done v) t = then w v _ t (ended-stays (real.unit_in v.state n).job clock n v)
        go (Outcome.refused f v) t = t

    never : {B : Type 0} (o p : World S) (f : Fault TickPlace) → ◌≡◌ {A = Outcome S} (Outcome.refused f o) (Outcome.done p) → B
    never o p f e = absurd (let z : ◌≡◌ {A = ℕ} 0 1 = cc in omega arith)

    done-same : (w v : World S) → ◌≡◌ {A = Outcome S} (Outcome.done w) (Outcome.done v) → w ≡ v
    done-same w v e = cc

    pub line_stays : (w v : World S) (x : Message) → real.tick m programs w ≡ Outcome.done v → w.state.line ≡ Some x
        → v.state.line ≡ cond (eqb x.end v.state.granted) None (Some x)
    line_stays w v x h e = go w.state.stopped (ltb w.state.granted real.limit) h
      where
        c : ℕ
        c = w.state.granted + 1

        end : World S → World S
        end u = real.at (real.leaves m c u) (real.with_granted (real.leaves m c u).state c)

        there : (u : World S) → u.state.line ≡ Some x → end u ≡ v → v.state.line ≡ cond (eqb x.end v.state.granted) None (Some x)
        there u q z = subst (λ (y : World S). y.state.line ≡ cond (eqb x.end y.state.granted) None (Some x)) z (ap (λ (o : Option Message). real.left m o c) q)

        two : (u : World S) (o : Outcome S) → u.state.line ≡ Some x → Stays u (world_of o)
            → real.counted m programs w.state.granted (real.and_then o (λ u. Outcome.done (real.leaves m c u))) ≡ Outcome.done v
            → v.state.line ≡ cond (eqb x.end v.state.granted) None (Some x)
        two u (Outcome.done y) q t k = there y (t.line x q) (done-same (end y) v k)
        two u (Outcome.refused f y) q t k = never (real.at y (real.with_stopped y.state)) v f k

        one : (o : Outcome S) → Stays w (world_of o)
            → real.counted m programs w.state.granted (real.and_then o (λ u. real.and_then (real.second_part m programs c (length programs) u) (λ u. Outcome.done (real.leaves m c u)))) ≡ Outcome.done v
            → v.state.line ≡ cond (eqb x.end v.state.granted) None (Some x)
        one (Outcome.done u) t k = two u (real.second_part m programs c (length programs) u) (t.line x e) (second-stays c (length programs) u) k
        one (Outcome.refused f y) t k = never (real.at y (real.with_stopped y.state)) v f k

        go : (s l : Bool) → cond s (Outcome.refused (real.of_the_run Stopped) w) (cond l (real.counted m programs w.state.granted (real.parts m programs w)) (Outcome.refused (real.of_the_run LimitReached) w)) ≡ Outcome.done v
            → v.state.line ≡ cond (eqb x.end v.state.granted) None (Some x)
        go true l k = never w v (real.of_the_run Stopped) k
        go false false k = never w v (real.of_the_run LimitReached) k
        go false true k = one (real.first_part m programs (length programs) w) (first-stays (length programs) w) k

    -- The count of granted ticks: one more in a granted tick, and else as it was.
    parts-clock : (w : World S) → (world_of (real.parts m programs w)).state.granted ≡ w.state.granted
    parts-clock w = go (real.first_part m programs (length programs) w) (first-stays (length programs) w)
      where
        c : ℕ
        c = w.state.granted + 1

        last : (u : World S) (o : Outcome S) → Stays u (world_of o) → (world_of (real.and_then o (λ u. Outcome.done (real.leaves m c u)))).state.granted ≡ u.state.granted
        last u (Outcome.done y) t = t.clock
        last u (Outcome.refused f y) t = t.clock

        go : (o : Outcome S) → Stays w (world_of o)
            → (world_of (real.and_then o (λ v. real.and_then (real.second_part m programs c (length programs) v) (λ u. Outcome.done (real.leaves m c u))))).state.granted ≡ w.state.granted
        go (Outcome.done v) t = last v (real.second_part m programs c (length programs) v) (second-stays c (length programs) v) ∙ t.clock
        go (Outcome.refused f v) t = t.clock

    pub granted-more : (w v : World S) → real.tick m programs w ≡ Outcome.done v → v.state.granted ≡ w.state.granted + 1
    granted-more w v h = go w.state.stopped (ltb w.state.granted real.limit) h
      where
        count : (o : Outcome S) → real.counted m programs w.state.granted o ≡ Outcome.done v → v.state.granted ≡ w.state.granted + 1
        count (Outcome.done u) k = sym (ap (λ (y : World S). y.state.granted) (done-same (real.at u (real.with_granted u.state (w.state.granted + 1))) v k))
        count (Outcome.refused f u) k = never (real.at u (real.with_stopped u.state)) v f k

        go : (s l : Bool) → cond s (Outcome.refused (real.of_the_run Stopped) w) (cond l (real.counted m programs w.state.granted (real.parts m programs w)) (Outcome.refused (real.of_the_run LimitReached) w)) ≡ Outcome.done v
            → v.state.granted ≡ w.state.granted + 1
        go true l k = never w v (real.of_the_run Stopped) k
        go false false k = never w v (real.of_the_run LimitReached) k
        go false true k = count (real.parts m programs w) k

    pub granted-same : (w v : World S) (f : Fault TickPlace) → real.tick m programs w ≡ Outcome.refused f v → v.state.granted ≡ w.state.granted
    granted-same w v f h = go w.state.stopped (ltb w.state.granted real.limit) h
      where
        refused-same : (u : World S) (g : Fault TickPlace) → ◌≡◌ {A = Outcome S} (Outcome.refused g u) (Outcome.refused f v) → u ≡ v
        refused-same u g e = cc

        no : {B : Type 0} (u : World S) → ◌≡◌ {A = Outcome S} (Outcome.done u) (Outcome.refused f v) → B
        no u e = absurd (let z : ◌≡◌ {A = ℕ} 0 1 = cc in omega arith)

        count : (o : Outcome S) → (world_of o).state.granted ≡ w.state.granted → real.counted m programs w.state.granted o ≡ Outcome.refused f v → v.state.granted ≡ w.state.granted
        count (Outcome.done u) e k = no (real.at u (real.with_granted u.state (w.state.granted + 1))) k
        count (Outcome.refused g u) e k = sym (ap (λ (y : World S). y.state.granted) (refused-same (real.at u (real.with_stopped u.state)) g k)) ∙ e

        go : (s l : Bool) → cond s (Outcome.refused (real.of_the_run Stopped) w) (cond l (real.counted m programs w.state.granted (real.parts m programs w)) (Outcome.refused (real.of_the_run LimitReached) w)) ≡ Outcome.refused f v
            → v.state.granted ≡ w.state.granted
        go true l k = sym (ap (λ (y : World S). y.state.granted) (refused-same w (real.of_the_run Stopped) k))
        go false false k = sym (ap (λ (y : World S). y.state.granted) (refused-same w (real.of_the_run LimitReached) k))
        go false true k = count (real.parts m programs w) (parts-clock w) k
