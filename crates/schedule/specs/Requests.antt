-- Any list of calls after the making: tick, rehearse, and those that only view.
use Rattle.std.specs.Prelude.{◌≡◌, ℕ, zero, suc, ◌+◌, ◌-◌, min, Bool, true, false, cond, List, [], ◌∷◌, Some, None, Option, ◌==◌, nat_lt}
use Rattle.schedule.specs.Machine.{Bench}

abbrev pub limit : ℕ
limit = 16777215

pub data Call : Type 0 where
  tick : Call
  rehearse : ℕ → Call
  view : Call

pub record World (S : Type 0) : Type 0 where
  pub bench : Bench S
  pub granted : ℕ
  pub stopped : Bool

-- what a tick comes to: refused, or granted
pub data Outcome (S : Type 0) : Type 0 where
  fine : World S → Outcome S
  late : World S → Outcome S
  broken : World S → Outcome S

-- how a call ended: with all that was asked for, with 18, or with another refusal
pub data Ending : Type 0 where
  done : Ending
  full : Ending
  stop : Ending

pub record Reply : Type 0 where
  pub made : ℕ
  pub ending : Ending

module _ {S : Type 0} (step : ℕ → Bench S → Option (Bench S)) where
  abbrev pub moved : World S → Option (Bench S) → Outcome S
  moved w None = broken (record { bench = w.bench; granted = w.granted; stopped = true })
  moved w (Some c) = fine (record { bench = c; granted = suc w.granted; stopped = false })

  abbrev pub tick_of : World S → Outcome S
  tick_of w = cond w.stopped (broken w) (cond (w.granted == limit) (late w) (moved w (step w.granted w.bench)))

  abbrev pub on_with : Outcome S → (World S → World S) → World S
  on_with (fine w) f = f w
  on_with (late w) f = w
  on_with (broken w) f = w

  unfoldable pub ticks_of : ℕ → World S → World S
  ticks_of zero w = w
  ticks_of (suc m) w = on_with (tick_of w) (ticks_of m)

  abbrev pub call_of : Call → World S → World S
  call_of tick w = ticks_of 1 w
  call_of (rehearse m) w = ticks_of m w
  call_of view w = w

  unfoldable pub calls_of : List Call → World S → World S
  calls_of [] w = w
  calls_of (c ∷ cs) w = calls_of cs (call_of c w)

  -- what a call answers
  abbrev pub reply_on : Outcome S → (World S → Reply) → Reply
  reply_on (fine w) f = record { made = suc (f w).made; ending = (f w).ending }
  reply_on (late w) f = record { made = 0; ending = full }
  reply_on (broken w) f = record { made = 0; ending = stop }

  unfoldable pub reply_ticks : ℕ → World S → Reply
  reply_ticks zero w = record { made = 0; ending = done }
  reply_ticks (suc m) w = reply_on (tick_of w) (reply_ticks m)

  abbrev pub reply_of : Call → World S → Reply
  reply_of tick w = reply_ticks 1 w
  reply_of (rehearse m) w = reply_ticks m w
  reply_of view w = record { made = 0; ending = done }

abbrev pub wants : Call → ℕ
wants tick = 1
wants (rehearse m) = m
wants view = 0

unfoldable pub asked : List Call → ℕ
asked [] = 0
asked (c ∷ cs) = wants c + asked cs

-- the world after m ticks, all granted
pub record At {S : Type 0} (run : ℕ → Option (Bench S)) (m : ℕ) (w : World S) : Type 0 where
  pub granted : w.granted ≡ m
  pub going : w.stopped ≡ false
  pub bench : run m ≡ Some w.bench

-- where no tick is ever refused by the machine, exactly the first 16,777,215 that are asked for are granted
abbrev pub Granted : (S : Type 0) → Type 0
Granted S = (step : ℕ → Bench S → Option (Bench S)) (run : ℕ → Option (Bench S)) (w : World S)
    → ((m : ℕ) (b : Bench S) → run m ≡ Some b → run (suc m) ≡ step m b)
    → ((m : ℕ) → (b : Bench S) × (run m ≡ Some b))
    → At run 0 w → (cs : List Call) → At run (min (asked cs) limit) (calls_of step cs w)

-- what a call is to answer where so many ticks were asked for before: it makes those that the limit leaves, and 18 ends it where more were asked for
abbrev pub due_reply : ℕ → Call → Reply
due_reply m c = record { made = min (wants c) (limit - m); ending = cond (nat_lt (limit - m) (wants c)) full done }

abbrev pub Replied : (S : Type 0) → Type 0
Replied S = (step : ℕ → Bench S → Option (Bench S)) (run : ℕ → Option (Bench S)) (w : World S)
    → ((m : ℕ) (b : Bench S) → run m ≡ Some b → run (suc m) ≡ step m b)
    → ((m : ℕ) → (b : Bench S) × (run m ≡ Some b))
    → At run 0 w → (cs : List Call) (c : Call) → reply_of step c (calls_of step cs w) ≡ due_reply (asked cs) c
