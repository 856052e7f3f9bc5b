-- A tick in which nothing is due and nothing ends moves only the clock.
use Rattle.std.proofs.Common.{◌≡◌, ℕ, zero, suc, ◌+◌, ◌<◌, ◌≤◌, Bool, true, false, cond, eqb, ltb, List, [], length, get_or, Some, None, Option, sym, refl, ap, ◌∙◌, arith}
use Rattle.std.proofs.lemmas.Bool.{and_parts, leb-true, le-leb, lt-ltb}
use Rattle.std.proofs.lemmas.Bool.Decides.{nat_tests}
use Rattle.netcode.specs.declared.step.Step.{Step}
use Rattle.plant.specs.Model.{Model}
use Rattle.semantics.specs.declared.state.State.{State}
use Rattle.semantics.specs.declared.state.Job.{Job}
use Rattle.semantics.specs.declared.state.Job.TheVariants.{Idle, Store, Carry, Listen}
use Rattle.semantics.specs.declared.state.UnitState.{UnitState}
use Rattle.semantics.specs.declared.state.Message.{Message}
use Rattle.fault.specs.declared.refusal.Refusal.TheVariants.{Stopped, LimitReached}
use Rattle.semantics.specs.Machine.{World, Outcome, awake, due_at, turn, ended, left, leaves, with_line, at, and_then, first_part, second_part, parts, unit_in, limit, of_the_run, with_granted, counted, tick}
use Rattle.bench.specs.Quiet.{Quiet, quiet_timer, quiet_job, quiet_unit, quiet_line}

never : (a b : ℕ) → a < b → eqb b a ≡ false
never a b h = grind (arith, nat_tests)

module _ (m : Model) where
  not-due : (until clock : ℕ) (t : Option ℕ) → clock + 1 < until → quiet_timer until t ≡ true → due_at m t clock ≡ false
  not-due until clock None h q = refl
  not-due until clock (Some tick) h q = let k : until ≤ tick + 1 = leb-true _ _ q in never clock tick (omega arith)

  not-ended : (until clock program : ℕ) (j : Job) (w : World m.State) → clock < until → quiet_job until j ≡ true → ended m j clock program w ≡ Outcome.done w
  not-ended until clock program Idle w h q = refl
  not-ended until clock program (Store end variable word) w h q = let k : until ≤ end = leb-true _ _ q in rw (never clock end (omega arith))
  not-ended until clock program (Carry end) w h q = let k : until ≤ end = leb-true _ _ q in rw (never clock end (omega arith))
  not-ended until clock program (Listen end variable address) w h q = let k : until ≤ end = leb-true _ _ q in rw (never clock end (omega arith))

  stays : (until clock : ℕ) (line : Option Message) → clock < until → quiet_line until line ≡ true → left m line clock ≡ line
  stays until clock None h q = refl
  stays until clock (Some message) h q = let k : until ≤ message.end = leb-true _ _ q in rw (never clock message.end (omega arith))

  module _ (programs : List (List Step)) (until : ℕ) (w : World m.State) (quiet : Quiet until w.state) (before : w.state.granted + 1 < until) where
    still-first : (n : ℕ) → n ≤ 16 → first_part m programs n w ≡ Outcome.done w
    unfolding first_part
    still-first zero h = refl
    still-first (suc n) h =
        let e : due_at m (unit_in w.state n).timer w.state.granted ≡ false = not-due until w.state.granted (unit_in w.state n).timer before (and_parts _ _ (quiet.units n (omega arith))).0 in
        ap (λ (o : Outcome m.State). and_then o (turn m (get_or programs n []) n)) (still-first n (omega arith))
        ∙ ap (λ (b : Bool). cond b (awake m (get_or programs n []) n w) (Outcome.done w)) e

    still-second : (n : ℕ) → n ≤ 16 → second_part m programs (w.state.granted + 1) n w ≡ Outcome.done w
    unfolding second_part
    still-second zero h = refl
    still-second (suc n) h =
        ap (λ (o : Outcome m.State). and_then o (λ v. ended m (unit_in v.state n).job (w.state.granted + 1) n v)) (still-second n (omega arith))
        ∙ not-ended until (w.state.granted + 1) n (unit_in w.state n).job w before (and_parts _ _ (quiet.units n (omega arith))).1

    still-parts : length programs ≤ 16 → parts m programs w ≡ Outcome.done w
    still-parts h =
        ap (λ (o : Outcome m.State). and_then o (λ v. and_then (second_part m programs (w.state.granted + 1) (length programs) v) (λ u. Outcome.done (leaves m (w.state.granted + 1) u)))) (still-first (length programs) h)
        ∙ ap (λ (o : Outcome m.State). and_then o (λ u. Outcome.done (leaves m (w.state.granted + 1) u))) (still-second (length programs) h)
        ∙ ap (λ (line : Option Message). Outcome.done (at w (with_line w.state line))) (stays until (w.state.granted + 1) w.state.line before quiet.line)

-- What rests up to a tick rests up to an earlier one, and all rest up to 0.
less-timer : (a b : ℕ) (t : Option ℕ) → a ≤ b → quiet_timer b t ≡ true → quiet_timer a t ≡ true
less-timer a b None h q = refl
less-timer a b (Some tick) h q = let k : b ≤ tick + 1 = leb-true _ _ q in le-leb a (tick + 1) (omega arith)

less-job : (a b : ℕ) (j : Job) → a ≤ b → quiet_job b j ≡ true → quiet_job a j ≡ true
less-job a b Idle h q = refl
less-job a b (Store end variable word) h q = let k : b ≤ end = leb-true _ _ q in le-leb a end (omega arith)
less-job a b (Carry end) h q = let k : b ≤ end = leb-true _ _ q in le-leb a end (omega arith)
less-job a b (Listen end variable address) h q = let k : b ≤ end = leb-true _ _ q in le-leb a end (omega arith)

both-unit : (a b c : ℕ) (u : UnitState) → a ≤ b → a ≤ c → quiet_timer b u.timer ≡ true → quiet_job c u.job ≡ true → quiet_unit a u ≡ true
both-unit a b c u h k q r = rw (less-timer a b u.timer h q, less-job a c u.job k r)

pub less-unit : (a b : ℕ) (u : UnitState) → a ≤ b → quiet_unit b u ≡ true → quiet_unit a u ≡ true
less-unit a b u h q =
    let p = and_parts (quiet_timer b u.timer) (quiet_job b u.job) q in
    both-unit a b b u h h p.0 p.1

pub less-line : (a b : ℕ) (l : Option Message) → a ≤ b → quiet_line b l ≡ true → quiet_line a l ≡ true
less-line a b None h q = refl
less-line a b (Some message) h q = let k : b ≤ message.end = leb-true _ _ q in le-leb a message.end (omega arith)

none-timer : (t : Option ℕ) → quiet_timer 0 t ≡ true
none-timer None = refl
none-timer (Some tick) = le-leb 0 (tick + 1) (omega arith)

none-job : (j : Job) → quiet_job 0 j ≡ true
none-job Idle = refl
none-job (Store end variable word) = le-leb 0 end (omega arith)
none-job (Carry end) = le-leb 0 end (omega arith)
none-job (Listen end variable address) = le-leb 0 end (omega arith)

none-line : (l : Option Message) → quiet_line 0 l ≡ true
none-line None = refl
none-line (Some message) = le-leb 0 message.end (omega arith)

pub quiet_none : (s : State) → Quiet 0 s
quiet_none s = record { units = λ p h. rw (none-timer (unit_in s p).timer, none-job (unit_in s p).job); line = none-line s.line }

-- A quiet tick.
pub quiet-tick : (m : Model) (programs : List (List Step)) (until : ℕ) (w : World m.State) → Quiet until w.state → w.state.granted + 1 < until → length programs ≤ 16
    → w.state.stopped ≡ false → w.state.granted < limit → Outcome.done (at w (with_granted w.state (w.state.granted + 1))) ≡ tick m programs w
quiet-tick m programs until w quiet before few on under =
    ap (λ (o : Outcome m.State). counted m programs w.state.granted o) (sym (still-parts m programs until w quiet before few))
    ∙ ap (λ (b : Bool). cond b (counted m programs w.state.granted (parts m programs w)) (Outcome.refused (of_the_run LimitReached) w)) (sym (lt-ltb w.state.granted limit under))
    ∙ ap (λ (b : Bool). cond b (Outcome.refused (of_the_run Stopped) w) (cond (ltb w.state.granted limit) (counted m programs w.state.granted (parts m programs w)) (Outcome.refused (of_the_run LimitReached) w))) (sym on)
