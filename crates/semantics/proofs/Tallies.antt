-- What was performed tells the plant's state and the counts of the marks, for any programs.
use Rattle.std.proofs.Common.{◌≡◌, ℕ, zero, suc, ◌+◌, ◌<◌, ◌≤◌, Bool, true, false, cond, eqb, ltb, ◌⊎◌, List, [], ◌∷◌, ◌++◌, length, get_or, set, Some, None, Option, sym, refl, ap, ◌∙◌, subst, inl, inr, append-nil, add-zero, arith}
use Rattle.std.proofs.lemmas.List.{length-set, set_past}
use Rattle.std.proofs.lemmas.Bool.{cases_lt, cases_eq, eq-eqb, ne_eqb}
use Rattle.fault.specs.declared.refusal.Refusal.TheVariants.{UnitBusy, NoMessage, LimitReached, Stopped}
use Rattle.netcode.specs.declared.step.Step.{Step}
use Rattle.netcode.specs.declared.step.Step.TheVariants.{Test, Future, Halt, Call, Send, Receive, Keep, Clear, Give}
use Rattle.netcode.specs.Layouts.{station_of}
use Rattle.plant.specs.Model.{Model}
use Rattle.plant.specs.Replies.{asked, count_of}
use Rattle.plant.specs.declared.works.Words.{Words}
use Rattle.semantics.specs.declared.state.Mark.{Mark}
use Rattle.semantics.specs.declared.state.Job.{Job}
use Rattle.semantics.specs.declared.state.Job.TheVariants.{Idle, Store, Carry, Listen}
use Rattle.semantics.specs.declared.state.Message.{Message}
use Rattle.semantics.specs.declared.state.State.{State}
use Rattle.semantics.specs.declared.state.Request.{Request}
use Rattle.semantics.specs.declared.state.Request.TheVariants.{Tick, Rehearse, WordAt, MarkAt}
use Rattle.semantics.specs.Machine as real
use Rattle.semantics.specs.Machine.{World, Stepped, Outcome, onto, halted, mark_in, marked, blank_mark, input_words, word_in}
use Rattle.semantics.specs.Requests.{rehearsed_on, rehearsed, ticked, served, served_all}
use Rattle.semantics.specs.Events.{Event, called, sent, row_of, plant_after, times_of, call_event, event_of, events_on, step_events, turn_events, events_then, first_events, tick_events, rehearsal_events, request_events, events}
use Rattle.semantics.proofs.Lists.{set-read}

plant-on : (m : Model) (s : m.State) (es fs : List Event) → plant_after m (plant_after m s es) fs ≡ plant_after m s (es ++ fs)
plant-on m s [] fs = refl
plant-on m s (called row work ∷ es) fs = plant-on m (m.next s work) es fs
plant-on m s (sent row ∷ es) fs = plant-on m s es fs

times-on : (row : ℕ) (es fs : List Event) → times_of row (es ++ fs) ≡ times_of row es + times_of row fs
times-on row [] fs = let z = times_of row fs in omega arith
times-on row (e ∷ es) fs = go (eqb (row_of e) row) (times-on row es fs)
  where
    go : (t : Bool) → times_of row (es ++ fs) ≡ times_of row es + times_of row fs → cond t (times_of row (es ++ fs) + 1) (times_of row (es ++ fs)) ≡ cond t (times_of row es + 1) (times_of row es) + times_of row fs
    go true ih = omega arith
    go false ih = ih

module _ (m : Model) where
  abbrev S : Type 0
  S = m.State

  -- The events lead from one world to another, as far as plant and counts go.
  pub record Tallied (es : List Event) (w v : World S) : Type 0 where
    pub plant : v.plant ≡ plant_after m w.plant es
    pub size : length v.state.marks ≡ length w.state.marks
    pub counts : (row : ℕ) → row < length w.state.marks → (mark_in v.state row).count ≡ (mark_in w.state row).count + times_of row es

  quiet : (w v : World S) → v.plant ≡ w.plant → v.state.marks ≡ w.state.marks → Tallied [] w v
  quiet w v e f = record { plant = e; size = ap length f; counts = λ row l. ap (λ (xs : List Mark). (get_or xs row blank_mark).count) f ∙ sym (add-zero _) }

  then : (es fs : List Event) (w v u : World S) → Tallied es w v → Tallied fs v u → Tallied (es ++ fs) w u
  then es fs w v u a b = record {
    plant = b.plant ∙ ap (λ (s : S). plant_after m s fs) a.plant ∙ plant-on m w.plant es fs;
    size = b.size ∙ a.size;
    counts = λ row l. let x = a.counts row l in let s = a.size in let y = b.counts row (omega arith) in let z = times-on row es fs in omega arith;
  }

  -- A mark that is written.
  count-written : (s : State) (row k : ℕ) (f g : Option ℕ) (v : ℕ) → k < length s.marks → (mark_in (marked s row f g v) k).count ≡ (mark_in s k).count + cond (eqb row k) 1 0
  count-written s row k f g v l = go (cases_lt row (length s.marks))
    where
      x : Mark
      x = record { count = (mark_in s row).count + 1; tick = s.granted; first = f; second = g; given = Some v }

      go : (row < length s.marks) ⊎ (length s.marks ≤ row) → (get_or (set s.marks row x) k blank_mark).count ≡ (mark_in s k).count + cond (eqb row k) 1 0
      go (inl lr) = ap (λ (y : Mark). y.count) (set-read s.marks row k x blank_mark lr) ∙ on (cases_eq row k)
        where
          on : (row ≡ k) ⊎ (row ≡ k → ⊥) → (cond (eqb row k) x (mark_in s k)).count ≡ (mark_in s k).count + cond (eqb row k) 1 0
          on (inl e) = let t = eq-eqb row k e in ap (λ (q : Bool). (cond q x (mark_in s k)).count) t ∙ ap (λ (q : ℕ). (mark_in s q).count + 1) e ∙ ap (λ (q : Bool). (mark_in s k).count + cond q 1 0) (sym t)
          on (inr e) = let t = ne_eqb row k e in ap (λ (q : Bool). (cond q x (mark_in s k)).count) t ∙ sym (add-zero _) ∙ ap (λ (q : Bool). (mark_in s k).count + cond q 1 0) (sym t)
      go (inr lr) = let t = ne_eqb row k (λ e. omega arith) in ap (λ (xs : List Mark). (get_or xs k blank_mark).count) (set_past s.marks row x lr) ∙ sym (add-zero _) ∙ ap (λ (q : Bool). (mark_in s k).count + cond q 1 0) (sym t)

  one_time : (e : Event) (k : ℕ) → times_of k (e ∷ []) ≡ cond (eqb (row_of e) k) 1 0
  one_time e k = go (eqb (row_of e) k)
    where
      go : (t : Bool) → cond t (0 + 1) 0 ≡ cond t 1 0
      go true = refl
      go false = refl

  -- What a step comes to.
  abbrev StepTally : List Event → World S → Stepped S → Type 0
  StepTally es w (onto a v) = Tallied es w v
  StepTally es w (halted v) = Tallied [] w v
  StepTally es w (Stepped.refused f v) = Tallied [] w v

  same : (w : World S) → Tallied [] w w
  same w = quiet w w refl refl

  on_call : (o : Option Words) (row work output duration program address : ℕ) (w : World S)
      → StepTally (call_event o row (station_of program) work) w (real.called m o row work output duration program address w)
  on_call None row work output duration program address w = same w
  on_call (Some words) row work output duration program address w = go (real.is_busy w.state program) (m.known (station_of program) work (count_of words))
    where
      go : (b k : Bool) → StepTally (called row (asked (station_of program) work words) ∷ []) w
          (cond b (Stepped.refused (real.fault_at UnitBusy program address) w) (cond k (onto (address + 1) (real.answered m row work words output duration program w)) (Stepped.refused (real.unknown_at (station_of program) work program address) w)))
      go true k = same w
      go false false = same w
      go false true = record {
        plant = refl;
        size = length-set w.state.marks row _;
        counts = λ k l. count-written w.state row k _ _ _ l ∙ ap (λ (z : ℕ). (mark_in w.state k).count + z) (sym (one_time (called row (asked (station_of program) work words)) k));
      }

  on-send : (o : Option ℕ) (row duration program address : ℕ) (w : World S) → StepTally (sent row ∷ []) w (real.sent m o row duration program address w)
  on-send None row duration program address w = same w
  on-send (Some word) row duration program address w = go (real.is_busy w.state program)
    where
      line : (x : Option Message) → StepTally (sent row ∷ []) w (real.on_line m x row word duration program address w)
      line (Some message) = same w
      line None = record {
        plant = refl;
        size = length-set w.state.marks row _;
        counts = λ k l. count-written w.state row k _ _ _ l ∙ ap (λ (z : ℕ). (mark_in w.state k).count + z) (sym (one_time (sent row) k));
      }

      go : (b : Bool) → StepTally (sent row ∷ []) w (cond b (Stepped.refused (real.fault_at UnitBusy program address) w) (real.on_line m w.state.line row word duration program address w))
      go true = same w
      go false = line w.state.line

  step-tally : (x : Step) (program address : ℕ) (w : World S) → StepTally (event_of x program w.state) w (real.performed m x program address w)
  step-tally (Test variable relation word to) program address w = held (word_in w.state (station_of program) variable)
    where
      way : (b : Bool) → StepTally [] w (cond b (onto (address + 1) w) (onto to w))
      way true = same w
      way false = same w

      held : (o : Option ℕ) → StepTally [] w (real.tested m o relation word to program address w)
      held None = same w
      held (Some v) = way _
  step-tally (Future ticks to) program address w = quiet w _ refl refl
  step-tally Halt program address w = same w
  step-tally (Call row work inputs output duration) program address w = on_call (input_words inputs (word_in w.state (station_of program))) row work output duration program address w
  step-tally (Send row variable duration) program address w = on-send (word_in w.state (station_of program) variable) row duration program address w
  step-tally (Receive variable duration) program address w = go (real.is_busy w.state program)
    where
      go : (b : Bool) → StepTally [] w (cond b (Stepped.refused (real.fault_at UnitBusy program address) w) (onto (address + 1) (real.at w (real.with_job w.state program (Listen (w.state.granted + duration) variable address)))))
      go true = same w
      go false = quiet w _ refl refl
  step-tally (Keep variable cell) program address w = go (word_in w.state (station_of program) variable)
    where
      go : (o : Option ℕ) → Tallied [] w (real.at w (real.kept_from m o cell w.state))
      go None = quiet w _ refl refl
      go (Some v) = quiet w _ refl refl
  step-tally Clear program address w = quiet w _ refl refl
  step-tally (Give cell variable word) program address w = quiet w _ refl refl

  -- What a turn or a tick comes to, granted or refused.
  abbrev world_of : Outcome S → World S
  world_of (Outcome.done v) = v
  world_of (Outcome.refused f v) = v

  steps-tally : (n : ℕ) (code : List Step) (program address : ℕ) (w : World S) → Tallied (step_events m n code program address w) w (world_of (real.steps m n code program address w))
  unfolding step_events real.steps
  steps-tally zero code program address w = same w
  steps-tally (suc n) code program address w =
      go (event_of (get_or code address Halt) program w.state) (real.performed m (get_or code address Halt) program address w) (step-tally (get_or code address Halt) program address w) (λ a v. steps-tally n code program a v)
    where
      go : (es : List Event) (st : Stepped S) → StepTally es w st
          → ((a : ℕ) (v : World S) → Tallied (step_events m n code program a v) v (world_of (real.steps m n code program a v)))
          → Tallied (events_on m es st (step_events m n code program)) w (world_of (real.onward m st (real.steps m n code program)))
      go es (onto a v) t ih = then es (step_events m n code program a v) w v _ t (ih a v)
      go es (halted v) t ih = t
      go es (Stepped.refused f v) t ih = t

  turn-tally : (code : List Step) (program : ℕ) (w : World S) → Tallied (turn_events m code program w) w (world_of (real.turn m code program w))
  turn-tally code program w = go (real.due_at m (real.unit_in w.state program).timer w.state.granted) (real.is_busy w.state program)
    where
      a : ℕ
      a = (real.unit_in w.state program).address

      u : World S
      u = real.at w (real.with_timer w.state program None a)

      go : (d b : Bool) → Tallied (cond d (cond b [] (step_events m (length code + 1) code program a u)) []) w
          (world_of (cond d (cond b (Outcome.refused (real.fault_at UnitBusy program a) w) (real.steps m (length code + 1) code program a u)) (Outcome.done w)))
      go false b = same w
      go true true = same w
      go true false = then [] (step_events m (length code + 1) code program a u) w u _ (quiet w u refl refl) (steps-tally (length code + 1) code program a u)

  ended-tally : (job : Job) (clock program : ℕ) (w : World S) → Tallied [] w (world_of (real.ended m job clock program w))
  ended-tally Idle clock program w = same w
  ended-tally (Store end variable word) clock program w = go (eqb end clock)
    where
      go : (b : Bool) → Tallied [] w (world_of (cond b (Outcome.done (real.stored m program variable word w)) (Outcome.done w)))
      go true = quiet w _ refl refl
      go false = same w
  ended-tally (Carry end) clock program w = go (eqb end clock)
    where
      go : (b : Bool) → Tallied [] w (world_of (cond b (Outcome.done (real.at w (real.with_job w.state program Idle))) (Outcome.done w)))
      go true = quiet w _ refl refl
      go false = same w
  ended-tally (Listen end variable address) clock program w = go (eqb end clock)
    where
      heard : (o : Option Message) → Tallied [] w (world_of (real.heard m o clock program variable address w))
      heard None = same w
      heard (Some x) = on (eqb x.end clock)
        where
          on : (b : Bool) → Tallied [] w (world_of (cond b (Outcome.done (real.stored m program variable x.word w)) (Outcome.refused (real.fault_at NoMessage program address) w)))
          on true = quiet w _ refl refl
          on false = same w

      go : (b : Bool) → Tallied [] w (world_of (cond b (real.heard m w.state.line clock program variable address w) (Outcome.done w)))
      go true = heard w.state.line
      go false = same w

  module _ (programs : List (List Step)) where
    first-tally : (n : ℕ) (w : World S) → Tallied (first_events m programs n w) w (world_of (real.first_part m programs n w))
    unfolding first_events real.first_part
    first-tally zero w = same w
    first-tally (suc n) w = go (real.first_part m programs n w) (first-tally n w)
      where
        go : (o : Outcome S) → Tallied (first_events m programs n w) w (world_of o)
            → Tallied (first_events m programs n w ++ events_then m o (turn_events m (get_or programs n []) n)) w (world_of (real.and_then o (real.turn m (get_or programs n []) n)))
        go (Outcome.done v) t = then (first_events m programs n w) (turn_events m (get_or programs n []) n v) w v _ t (turn-tally (get_or programs n []) n v)
        go (Outcome.refused f v) t = then (first_events m programs n w) [] w v v t (same v)

    second-tally : (clock n : ℕ) (w : World S) → Tallied [] w (world_of (real.second_part m programs clock n w))
    unfolding real.second_part
    second-tally clock zero w = same w
    second-tally clock (suc n) w = go (real.second_part m programs clock n w) (second-tally clock n w)
      where
        go : (o : Outcome S) → Tallied [] w (world_of o) → Tallied [] w (world_of (real.and_then o (λ v. real.ended m (real.unit_in v.state n).job clock n v)))
        go (Outcome.done v) t = then [] [] w v _ t (ended-tally (real.unit_in v.state n).job clock n v)
        go (Outcome.refused f v) t = t

    parts-tally : (w : World S) → Tallied (first_events m programs (length programs) w) w (world_of (real.parts m programs w))
    parts-tally w = go (real.first_part m programs (length programs) w) (first-tally (length programs) w)
      where
        es : List Event
        es = first_events m programs (length programs) w

        c : ℕ
        c = w.state.granted + 1

        more : World S → Outcome S
        more v = real.and_then (real.second_part m programs c (length programs) v) (λ u. Outcome.done (real.leaves m c u))

        last : (v : World S) (o : Outcome S) → Tallied [] v (world_of o) → Tallied [] v (world_of (real.and_then o (λ u. Outcome.done (real.leaves m c u))))
        last v (Outcome.done u) t = then [] [] v u _ t (quiet u _ refl refl)
        last v (Outcome.refused f u) t = t

        go : (o : Outcome S) → Tallied es w (world_of o) → Tallied es w (world_of (real.and_then o more))
        go (Outcome.done v) t = subst (λ (xs : List Event). Tallied xs w (world_of (more v))) (append-nil es)
            (then es [] w v _ t (last v (real.second_part m programs c (length programs) v) (second-tally c (length programs) v)))
        go (Outcome.refused f v) t = t

    tick-tally : (w : World S) → Tallied (tick_events m programs w) w (world_of (real.tick m programs w))
    tick-tally w = go w.state.stopped (ltb w.state.granted real.limit)
      where
        es : List Event
        es = first_events m programs (length programs) w

        count : (o : Outcome S) → Tallied es w (world_of o) → Tallied es w (world_of (real.counted m programs w.state.granted o))
        count (Outcome.done v) t = subst (λ (xs : List Event). Tallied xs w (real.at v (real.with_granted v.state (w.state.granted + 1)))) (append-nil es) (then es [] w v _ t (quiet v _ refl refl))
        count (Outcome.refused f v) t = subst (λ (xs : List Event). Tallied xs w (real.at v (real.with_stopped v.state))) (append-nil es) (then es [] w v _ t (quiet v _ refl refl))

        go : (s l : Bool) → Tallied (cond s [] (cond l es [])) w
            (world_of (cond s (Outcome.refused (real.of_the_run Stopped) w) (cond l (real.counted m programs w.state.granted (real.parts m programs w)) (Outcome.refused (real.of_the_run LimitReached) w))))
        go true l = same w
        go false false = same w
        go false true = count (real.parts m programs w) (parts-tally w)

    rehearsal-tally : (n : ℕ) (w : World S) → Tallied (rehearsal_events m programs n w) w (rehearsed m programs n w).world
    unfolding rehearsal_events rehearsed
    rehearsal-tally zero w = same w
    rehearsal-tally (suc n) w = go (real.tick m programs w) (tick-tally w) (λ v. rehearsal-tally n v)
      where
        es : List Event
        es = tick_events m programs w

        go : (o : Outcome S) → Tallied es w (world_of o) → ((v : World S) → Tallied (rehearsal_events m programs n v) v (rehearsed m programs n v).world)
            → Tallied (es ++ events_then m o (rehearsal_events m programs n)) w (rehearsed_on m programs o (rehearsed m programs n)).world
        go (Outcome.done v) t ih = then es (rehearsal_events m programs n v) w v _ t (ih v)
        go (Outcome.refused f v) t ih = then es [] w v v t (same v)

    request-tally : (r : Request) (w : World S) → Tallied (request_events m programs r w) w (served m programs r w).world
    request-tally Tick w = go (real.tick m programs w) (tick-tally w)
      where
        go : (o : Outcome S) → Tallied (tick_events m programs w) w (world_of o) → Tallied (tick_events m programs w) w (ticked m programs o).world
        go (Outcome.done v) t = t
        go (Outcome.refused f v) t = t
    request-tally (Rehearse n) w = rehearsal-tally n w
    request-tally (WordAt station variable) w = same w
    request-tally (MarkAt row) w = same w

    pub requests-tally : (rs : List Request) (w : World S) → Tallied (events m programs rs w) w (served_all m programs rs w).world
    unfolding events served_all
    requests-tally [] w = same w
    requests-tally (r ∷ rs) w = then (request_events m programs r w) (events m programs rs (served m programs r w).world) w (served m programs r w).world _ (request-tally r w) (requests-tally rs (served m programs r w).world)
