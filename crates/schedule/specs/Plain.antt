-- THE RUN PROMISE as one statement: for every plant that keeps the law, every accepted sheet that it fits, and every list of calls.
use Rattle.std.specs.Prelude.{◌≡◌, ℕ, ◌*◌, ◌<◌, min, Bool, true, false, List, None, Option}
use Rattle.schedule.specs.Rows.{Row, Accepted}
use Rattle.plant.specs.Model.{Work}
use Rattle.schedule.specs.Machine.{Keep, Bench, Fit, start_of, program, tick}
use Rattle.schedule.specs.Cycles.{after_cycles, performs, blank_mark}
use Rattle.schedule.specs.Requests.{Call, World, Reply, limit, asked, calls_of, reply_of, due_reply}
use Rattle.schedule.specs.Marks.{MarkIs}
use Rattle.schedule.specs.Lawful.{ProgramOk, Limits}
use Rattle.schedule.specs.Sends.{Occupies}

-- the bench and the world at making
abbrev pub new_bench : {S : Type 0} → S → Bench S
new_bench p = record {
  places = λ s x. None;
  plant = p;
  cells = λ m. None;
  units = λ j. record { at = 0; pc = 0; busy = None };
  line = None;
  mark = λ k. blank_mark;
}

abbrev pub new_world : {S : Type 0} → S → World S
new_world p = record { bench = new_bench p; granted = 0; stopped = false }

module _ {S : Type 0} (next : S → Work → S) (answer : S → Work → ℕ) (knows : ℕ → ℕ → ℕ → Bool) (r : ℕ → Row) (n L : ℕ) (kp : ℕ → Keep) (nk stations : ℕ) where
  -- the world after a list of calls
  abbrev pub world_after : S → List Call → World S
  world_after p cs = calls_of (tick next answer knows r n L kp nk (2 * stations)) cs (new_world p)

  abbrev pub reply_after : S → List Call → Call → Reply
  reply_after p cs c = reply_of (tick next answer knows r n L kp nk (2 * stations)) c (world_after p cs)

  -- a bench that holds what the reading holds after q cycles
  pub record HoldsReading (p : S) (q : ℕ) (c : Bench S) : Type 0 where
    pub places : (s x : ℕ) → c.places s x ≡ (after_cycles next answer r n kp nk p q).places s x
    pub cells : (m : ℕ) → c.cells m ≡ (after_cycles next answer r n kp nk p q).cells m
    pub plant : c.plant ≡ (after_cycles next answer r n kp nk p q).plant

  pub record Promised (p : S) : Type 0 where
    -- making refuses no program
    pub programs : (j : ℕ) → j < 2 * stations → ProgramOk r nk (program r n L kp nk j)
    -- of the ticks asked for exactly the first 16,777,215 are granted; none stops the run
    pub granted : (cs : List Call) → (world_after p cs).granted ≡ min (asked cs) limit
    pub going : (cs : List Call) → (world_after p cs).stopped ≡ false
    -- and so every call answers
    pub replies : (cs : List Call) (c : Call) → reply_after p cs c ≡ due_reply (asked cs) c
    -- whole cycles
    pub cycles : (cs : List Call) (q : ℕ) → (world_after p cs).granted ≡ q * L → HoldsReading p q (world_after p cs).bench
    -- marks
    pub marks : (cs : List Call) (k : ℕ) → k < n → MarkIs next answer knows r n L kp nk p (world_after p cs).granted k ((world_after p cs).bench.mark k)
    -- no tick belongs to two performed sends
    pub sends : (q k q' k' x : ℕ) → k < n → k' < n → (r k).sends ≡ true → (r k').sends ≡ true
        → performs next answer knows r n L kp nk p q k ≡ true → performs next answer knows r n L kp nk p q' k' ≡ true
        → Occupies r L q k x → Occupies r L q' k' x → (q ≡ q') × (k ≡ k')

abbrev pub RunPromiseStands : (S : Type 0) → (S → Work → S) → (S → Work → ℕ) → Type 0
RunPromiseStands S next answer = (knows : ℕ → ℕ → ℕ → Bool) (r : ℕ → Row) (n L : ℕ) (kp : ℕ → Keep) (nk stations variables : ℕ) (basis : (ℕ → Option ℕ) → ℕ → Option ℕ) (p : S)
    → Limits r n L kp nk stations variables → ((c : ℕ → Option ℕ) → Accepted r n L (start_of kp nk c) (basis c)) → Fit next answer knows r n L kp nk stations
    → Promised next answer knows r n L kp nk stations p
