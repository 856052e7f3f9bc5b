-- The bench with its refusals: number, program and address; a refused tick keeps what its earlier steps did, and stops the run.
use Rattle.std.specs.Prelude.{◌≡◌, ℕ, zero, suc, ◌-◌, ◌*◌, ◌/◌, ◌<◌, min, Bool, true, false, cond, not, ◌&&◌, List, [], ◌∷◌, length, Some, None, Option, ◌==◌, nat_lt, slice_index_or}
use Rattle.schedule.specs.Rows.{Test, meets, Row, Accepted}
use Rattle.plant.specs.Model.{Work}
use Rattle.schedule.specs.Program.{Step}
use Rattle.schedule.specs.Machine.{Keep, Bench, Job, Message, Fit, is_none, is_line, program, start_of, present, own, begin, wait, taken, wiped, put, store, release, leave}
use Rattle.schedule.specs.Cycles.{performs}
use Rattle.schedule.specs.Requests.{Call, limit, wants, asked}
use Rattle.schedule.specs.Marks.{MarkIs}
use Rattle.schedule.specs.Lawful.{ProgramOk, Limits}
use Rattle.schedule.specs.Sends.{Occupies}
use Rattle.schedule.specs.Plain.{new_bench, HoldsReading}

pub record Fault : Type 0 where
  pub number : ℕ
  pub program : ℕ
  pub address : ℕ

-- a bench, and for each unit the address of the row's step that it began last
pub record Noted (S : Type 0) : Type 0 where
  pub bench : Bench S
  pub from : ℕ → ℕ

pub data Did (A : Type 0) : Type 0 where
  good : A → Did A
  bad : Fault → A → Did A

abbrev pub and_then : {A : Type 0} → Did A → (A → Did A) → Did A
and_then (good a) f = f a
and_then (bad x a) f = bad x a

module _ {S : Type 0} (next : S → Work → S) (answer : S → Work → ℕ) (knows : ℕ → ℕ → ℕ → Bool) (r : ℕ → Row) (n L : ℕ) (kp : ℕ → Keep) (nk : ℕ) where
  abbrev pub refuse : ℕ → ℕ → ℕ → Noted S → Did (Noted S)
  refuse number j a s = bad (record { number = number; program = j; address = a }) s

  abbrev pub change : Noted S → Bench S → Noted S
  change s b = record { bench = b; from = s.from }

  -- CALL tries 16, 17, 12; SEND 16, 17, 14; RECEIVE 17
  abbrev pub tries : Bool → Bool → Bool → Bool → Bool → Bool → Option ℕ
  tries o held free sends silent known =
      cond (o && not held) (Some 16) (cond (not free) (Some 17) (cond (o && (sends && not silent)) (Some 14) (cond (o && (not sends && not known)) (Some 12) None)))

  abbrev pub fault_of : ℕ → ℕ → Bench S → Option ℕ
  fault_of j k b = tries (own next answer knows r n L kp nk j k) (present (r k) b.places) (is_none (b.units j).busy) (r k).sends (is_none b.line) (knows (r k).st (r k).work (r k).count)

  abbrev pub acting : Option ℕ → ℕ → ℕ → ℕ → ℕ → (ℕ → Noted S → Did (Noted S)) → Noted S → Did (Noted S)
  acting None j k T pc go s = go (suc pc) (record { bench = begin next answer knows r n L kp nk j k T s.bench; from = λ i. cond (j == i) pc (s.from i) })
  acting (Some f) j k T pc go s = refuse f j pc s

  abbrev pub testing : Option ℕ → Test → ℕ → ℕ → ℕ → (ℕ → Noted S → Did (Noted S)) → Noted S → Did (Noted S)
  testing None t j pc a go s = refuse 16 j pc s
  testing (Some v) t j pc a go s = cond (meets t (Some v)) (go (suc pc) s) (go a s)

  abbrev pub step_of : Step → ℕ → ℕ → ℕ → (ℕ → Noted S → Did (Noted S)) → Noted S → Did (Noted S)
  step_of (Step.test t a) j T pc go s = testing (s.bench.places (j / 2) t.var) t j pc a go s
  step_of (Step.future m a) j T pc go s = go (suc pc) (change s (wait next answer knows r n L kp nk j T m a s.bench))
  step_of Step.halt j T pc go s = good s
  step_of (Step.act k) j T pc go s = acting (fault_of j k s.bench) j k T pc go s
  step_of (Step.keep x m) j T pc go s = go (suc pc) (change s (taken next answer knows r n L kp nk (j / 2) x m s.bench))
  step_of Step.clear j T pc go s = go (suc pc) (change s (wiped next answer knows r n L kp nk (j / 2) s.bench))
  step_of (Step.give m x w) j T pc go s = go (suc pc) (change s (put next answer knows r n L kp nk (j / 2) m x w s.bench))

  -- steps up to HALT; a program that keeps the rules never uses up its fuel
  unfoldable pub run_of : ℕ → ℕ → List Step → ℕ → ℕ → Noted S → Did (Noted S)
  run_of j T p zero pc s = refuse 13 j pc s
  run_of j T p (suc f) pc s = step_of (slice_index_or p pc Step.halt) j T pc (run_of j T p f) s

  -- THE FIRST PART
  abbrev pub turn_of : ℕ → ℕ → Noted S → Did (Noted S)
  turn_of j T s = cond ((s.bench.units j).at == T)
      (cond (is_none (s.bench.units j).busy) (run_of j T (program r n L kp nk j) (suc (length (program r n L kp nk j))) (s.bench.units j).pc s) (refuse 17 j (s.bench.units j).pc s))
      (good s)

  unfoldable pub first_of : ℕ → ℕ → Noted S → Did (Noted S)
  first_of T zero s = good s
  first_of T (suc j) s = and_then (first_of T j s) (turn_of j T)

  -- THE SECOND PART; a receiver's 15 is at its RECEIVE
  abbrev pub hearing : Option Message → ℕ → ℕ → ℕ → Noted S → Did (Noted S)
  hearing None T j k s = refuse 15 j (s.from j) s
  hearing (Some m) T j k s = cond (m.stop == T) (good (change s (store next answer knows r n L kp nk j k m.word s.bench))) (refuse 15 j (s.from j) s)

  abbrev pub landing : ℕ → ℕ → Job → Noted S → Did (Noted S)
  landing T j q s = cond (is_line j)
      (cond (own next answer knows r n L kp nk j q.row) (good (change s (release next answer knows r n L kp nk j s.bench))) (hearing s.bench.line T j q.row s))
      (good (change s (store next answer knows r n L kp nk j q.row q.word s.bench)))

  abbrev pub ending : Option Job → ℕ → ℕ → Noted S → Did (Noted S)
  ending None T j s = good s
  ending (Some q) T j s = cond (q.stop == T) (landing T j q s) (good s)

  unfoldable pub settle_of : ℕ → ℕ → Noted S → Did (Noted S)
  settle_of T zero s = good s
  settle_of T (suc j) s = and_then (settle_of T j s) (λ c. ending (c.bench.units j).busy T j c)

  abbrev pub tick_once : ℕ → ℕ → Noted S → Did (Noted S)
  tick_once units T s = and_then (first_of T units s) (λ c. and_then (settle_of (suc T) units c) (λ d. good (change d (leave next answer knows r n L kp nk (suc T) d.bench))))

-- CALLS
pub record Held (S : Type 0) : Type 0 where
  pub state : Noted S
  pub granted : ℕ
  pub stopped : Bool

pub data Tried (S : Type 0) : Type 0 where
  gone : Held S → Tried S
  refused : Fault → Held S → Tried S

pub record Answer : Type 0 where
  pub made : ℕ
  pub refusal : Option Fault

-- 18 and 19 have no place
abbrev pub plain_fault : ℕ → Fault
plain_fault m = record { number = m; program = 0; address = 0 }

module _ {S : Type 0} (step : ℕ → Noted S → Did (Noted S)) where
  abbrev pub after : Held S → Did (Noted S) → Tried S
  after w (good s) = gone (record { state = s; granted = suc w.granted; stopped = false })
  after w (bad f s) = refused f (record { state = s; granted = w.granted; stopped = true })

  -- a tick tries 19, 18, then the rest
  abbrev pub try_tick : Held S → Tried S
  try_tick w = cond w.stopped (refused (plain_fault 19) w) (cond (w.granted == limit) (refused (plain_fault 18) w) (after w (step w.granted w.state)))

  abbrev pub held_on : Tried S → (Held S → Held S) → Held S
  held_on (gone w) f = f w
  held_on (refused x w) f = w

  abbrev pub answer_on : Tried S → (Held S → Answer) → Answer
  answer_on (gone w) f = record { made = suc (f w).made; refusal = (f w).refusal }
  answer_on (refused x w) f = record { made = 0; refusal = Some x }

  -- up to m ticks: where they lead, and what is answered
  unfoldable pub held_ticks : ℕ → Held S → Held S
  held_ticks zero w = w
  held_ticks (suc m) w = held_on (try_tick w) (held_ticks m)

  unfoldable pub answer_ticks : ℕ → Held S → Answer
  answer_ticks zero w = record { made = 0; refusal = None }
  answer_ticks (suc m) w = answer_on (try_tick w) (answer_ticks m)

  unfoldable pub held_calls : List Call → Held S → Held S
  held_calls [] w = w
  held_calls (c ∷ cs) w = held_calls cs (held_ticks (wants c) w)

-- what a call is to answer where m ticks were asked for before
abbrev pub due_answer : ℕ → Call → Answer
due_answer m c = record { made = min (wants c) (limit - m); refusal = cond (nat_lt (limit - m) (wants c)) (Some (plain_fault 18)) None }

abbrev pub new_held : {S : Type 0} → S → Held S
new_held p = record { state = record { bench = new_bench p; from = λ j. 0 }; granted = 0; stopped = false }

module _ {S : Type 0} (next : S → Work → S) (answer : S → Work → ℕ) (knows : ℕ → ℕ → ℕ → Bool) (r : ℕ → Row) (n L : ℕ) (kp : ℕ → Keep) (nk stations : ℕ) where
  abbrev pub held_after : S → List Call → Held S
  held_after p cs = held_calls (tick_once next answer knows r n L kp nk (2 * stations)) cs (new_held p)

  abbrev pub answer_after : S → List Call → Call → Answer
  answer_after p cs c = answer_ticks (tick_once next answer knows r n L kp nk (2 * stations)) (wants c) (held_after p cs)

  pub record Kept (p : S) : Type 0 where
    -- making refuses no program
    pub programs : (j : ℕ) → j < 2 * stations → ProgramOk r nk (program r n L kp nk j)
    -- of the ticks asked for exactly the first 16,777,215 are granted; no refusal but 18 is ever given
    pub granted : (cs : List Call) → (held_after p cs).granted ≡ min (asked cs) limit
    pub going : (cs : List Call) → (held_after p cs).stopped ≡ false
    pub answers : (cs : List Call) (c : Call) → answer_after p cs c ≡ due_answer (asked cs) c
    -- whole cycles
    pub cycles : (cs : List Call) (q : ℕ) → (held_after p cs).granted ≡ q * L → HoldsReading next answer knows r n L kp nk stations p q (held_after p cs).state.bench
    -- marks
    pub marks : (cs : List Call) (k : ℕ) → k < n → MarkIs next answer knows r n L kp nk p (held_after p cs).granted k ((held_after p cs).state.bench.mark k)
    -- no tick belongs to two performed sends
    pub sends : (q k q' k' x : ℕ) → k < n → k' < n → (r k).sends ≡ true → (r k').sends ≡ true
        → performs next answer knows r n L kp nk p q k ≡ true → performs next answer knows r n L kp nk p q' k' ≡ true
        → Occupies r L q k x → Occupies r L q' k' x → (q ≡ q') × (k ≡ k')

abbrev pub NumberedPromise : (S : Type 0) → (S → Work → S) → (S → Work → ℕ) → Type 0
NumberedPromise S next answer = (knows : ℕ → ℕ → ℕ → Bool) (r : ℕ → Row) (n L : ℕ) (kp : ℕ → Keep) (nk stations variables : ℕ) (basis : (ℕ → Option ℕ) → ℕ → Option ℕ) (p : S)
    → Limits r n L kp nk stations variables → ((c : ℕ → Option ℕ) → Accepted r n L (start_of kp nk c) (basis c)) → Fit next answer knows r n L kp nk stations
    → Kept next answer knows r n L kp nk stations p
