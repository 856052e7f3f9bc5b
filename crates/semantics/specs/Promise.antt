-- THE RUN PROMISE. Take any sheet that the judge accepts, any plant that knows its works, in any state, and make a run of
-- the sheet's programs. Whatever is then asked of the run, in any order, the following holds.
use Rattle.std.specs.Prelude.{◌≡◌, ℕ, zero, suc, ◌+◌, ◌-◌, ◌*◌, ◌<◌, ◌≤◌, min, Bool, true, false, cond, ◌&&◌, ◌⊎◌, List, [], ◌∷◌, length, Some, None, nat_lt}
use Rattle.fault.specs.declared.refusal.Refusal.TheVariants.{LimitReached}
use Rattle.sheet.specs.declared.row.Head.{Head}
use Rattle.sheet.specs.declared.row.Row.{Row}
use Rattle.sheet.specs.declared.row.Row.TheVariants.{Keep as keep_row, Call as call_row, Send as send_row}
use Rattle.sheet.specs.Rows.{row_at}
use Rattle.judge.specs.Rules.{IsKeep}
use Rattle.netcode.specs.declared.step.Step.{Step}
use Rattle.netcode.specs.Rules.{first_broken}
use Rattle.plant.specs.Model.{Model}
use Rattle.plant.specs.Fit.{KnowsEach}
use Rattle.translate.specs.Translation.{translated, date_of, end_of}
use Rattle.translate.specs.Laws.{Sheet}
use Rattle.semantics.specs.declared.state.Mark.{Mark}
use Rattle.semantics.specs.declared.state.Request.{Request}
use Rattle.semantics.specs.declared.state.Request.TheVariants.{Tick, Rehearse, WordAt, MarkAt}
use Rattle.semantics.specs.declared.state.Reply.TheVariants.{Granted, Refused, Made}
use Rattle.semantics.specs.Machine.{World, limit, blank_mark, word_in, cell_in, mark_in, of_the_run}
use Rattle.semantics.specs.Reading.{after_cycles, performs, words}
use Rattle.semantics.specs.Requests.{served, after_requests}

-- The ticks that are asked for, rehearsals' too.
abbrev pub ticks_in : Request → ℕ
ticks_in Tick = 1
ticks_in (Rehearse n) = n
ticks_in (WordAt station variable) = 0
ticks_in (MarkAt row) = 0

unfoldable pub ticks_asked : List Request → ℕ
ticks_asked [] = 0
ticks_asked (r ∷ rs) = ticks_in r + ticks_asked rs

-- How many numbers below a bound pass a test.
unfoldable pub how_many : (ℕ → Bool) → ℕ → ℕ
how_many passes zero = 0
how_many passes (suc n) = cond (passes n) (suc (how_many passes n)) (how_many passes n)

abbrev pub IsSend : Row → Type 0
IsSend (keep_row k) = ⊥
IsSend (call_row c) = ⊥
IsSend (send_row s) = Unit {0}

module _ (m : Model) (h : Head) (rows : List Row) (start : m.State) where
  -- Cycle q's tick at the date of row n.
  abbrev pub tick_of : ℕ → ℕ → ℕ
  tick_of q n = q * h.cycle + date_of (row_at rows n)

  -- Cycle q counts for row n: its reading performs the row, and its tick at the row's date is granted.
  abbrev pub counts_for : ℕ → ℕ → ℕ → Bool
  counts_for granted n q = performs m rows start q n && nat_lt (tick_of q n) granted

  -- A mark with cycle q's tick and words of row n.
  abbrev pub mark_of : ℕ → ℕ → ℕ → Mark
  mark_of n q count = record {
    count = count;
    tick = tick_of q n;
    first = (words m rows start q n).first;
    second = (words m rows start q n).second;
    given = (words m rows start q n).given;
  }

  -- Row n's mark with so many ticks granted.
  pub record MarkTells (granted n : ℕ) (mark : Mark) : Type 0 where
    -- It counts the cycles that count for the row. All are below the granted ticks, so that any bound from there on will do.
    pub count : (bound : ℕ) → granted ≤ bound → mark.count ≡ how_many (counts_for granted n) bound
    -- It is as at first and none counts, or it has tick and words of the latest that counts.
    pub latest : (((q : ℕ) → counts_for granted n q ≡ false) × (mark ≡ blank_mark))
        ⊎ ((q : ℕ) × (counts_for granted n q ≡ true) × ((later : ℕ) → counts_for granted n later ≡ true → later ≤ q)
        × (mark ≡ mark_of n q mark.count))

  -- Cycle q's send in row n occupies a tick: as many as its duration, from the one that performs it.
  abbrev pub Occupies : ℕ → ℕ → ℕ → Type 0
  Occupies q n tick = (tick_of q n ≤ tick) × (tick < q * h.cycle + end_of (row_at rows n))

  -- A run of the programs of the sheet, after a list of requests.
  abbrev pub programs : List (List Step)
  programs = translated h rows

  abbrev pub run_after : List Request → World m.State
  run_after rs = after_requests m programs start rs

  pub record HoldsAfter (rs : List Request) : Type 0 where
    -- TICKS. Of all ticks asked for, rehearsals' too, exactly the first 16,777,215 are granted, and the rest refused 18.
    -- So no tick is ever refused 12, 14 to 17 or 19: no listener meets a silent line, and no step reads an absent word.
    pub granted : (run_after rs).state.granted ≡ min (ticks_asked rs) limit
    pub tick : (served m programs Tick (run_after rs)).reply
        ≡ cond (nat_lt (ticks_asked rs) limit) Granted (Refused (of_the_run LimitReached))
    pub rehearsal : (n : ℕ) → (served m programs (Rehearse n) (run_after rs)).reply
        ≡ Made (min n (limit - ticks_asked rs)) (cond (nat_lt (limit - ticks_asked rs) n) (Some (of_the_run LimitReached)) None)
    -- CYCLES. Whenever the granted ticks are whole cycles, every place of every station, every keep row's cell and the
    -- plant's state are those of the reading after as many cycles.
    pub places : (q : ℕ) → (run_after rs).state.granted ≡ q * h.cycle
        → (station variable : ℕ) → station < h.stations → variable < 64
        → word_in (run_after rs).state station variable ≡ (after_cycles m rows start q).places station variable
    pub cells : (q : ℕ) → (run_after rs).state.granted ≡ q * h.cycle
        → (n : ℕ) → n < length rows → IsKeep (row_at rows n)
        → cell_in (run_after rs).state n ≡ (after_cycles m rows start q).cells n
    pub plant : (q : ℕ) → (run_after rs).state.granted ≡ q * h.cycle → (run_after rs).plant ≡ (after_cycles m rows start q).plant
    -- MARKS. Each call's and each send's mark counts the cycles that count for it, with tick and words of the latest.
    pub marks : (n : ℕ) → n < length rows → (IsKeep (row_at rows n) → ⊥)
        → MarkTells (run_after rs).state.granted n (mark_in (run_after rs).state n)

  pub record Promised : Type 0 where
    -- Making draws no 13.
    pub making : first_broken 0 programs ≡ None
    -- After every list of requests the above holds.
    pub always : (rs : List Request) → HoldsAfter rs
    -- Two sends never share a tick: performances that share one are the same row's in the same cycle.
    pub sends : (q n p k tick : ℕ) → n < length rows → k < length rows → IsSend (row_at rows n) → IsSend (row_at rows k)
        → performs m rows start q n ≡ true → performs m rows start p k ≡ true
        → Occupies q n tick → Occupies p k tick → (q ≡ p) × (n ≡ k)

-- For every accepted sheet (its head is within its limits and counts its rows, and the rules of acceptance hold) whose
-- works the plant knows, and every state that the plant starts in.
abbrev pub RunPromiseOf : Model → Type 0
RunPromiseOf m =
    (h : Head) (rows : List Row) → Sheet h rows → KnowsEach m rows → (start : m.State) → Promised m h rows start
