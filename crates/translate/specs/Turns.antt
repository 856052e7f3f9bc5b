use Rattle.std.specs.Prelude.{◌≡◌, ℕ, zero, suc, ◌-◌, ◌<◌, ◌≤◌, Bool, true, cond, ◌⊎◌, List, [], ◌∷◌, ◌++◌, length, Some, None, Option, nat_lt, slice_index_or}
use Rattle.std.specs.List.{AllByRecursion}
use Rattle.sheet.specs.declared.row.Head.{Head}
use Rattle.sheet.specs.declared.row.Test.{Test}
use Rattle.sheet.specs.declared.row.Row.{Row}
use Rattle.sheet.specs.declared.row.Row.TheVariants.{Keep as keep_row, Call as call_row, Send as send_row}
use Rattle.sheet.specs.Rows.{row_at}
use Rattle.judge.specs.Rules.{Listens}
use Rattle.netcode.specs.declared.step.Step.{Step}
use Rattle.netcode.specs.declared.step.Step.TheVariants.{Test as test_step, Future, Halt, Call, Send, Receive, Keep, Clear, Give}
use Rattle.netcode.specs.Layouts.{work_program, line_program}
use Rattle.translate.specs.Laws.{Sheet}
use Rattle.translate.specs.Translation.{tests_in, date_of, end_of, act, address, preparation, opening_length, program_code}

-- What a program makes its unit do, from one wake up to HALT, over the rows and dates of the sheet.

-- What a unit has done since it was woken: the steps that it performed, in order, and when and where it is
-- due next, if it is: after so many ticks, at that address.
pub record Done : Type 0 where
  pub performed : List Step
  pub next : Option (ℕ × ℕ)

abbrev pub perform : Step → Done → Done
perform step done = record { performed = done.performed ++ (step ∷ []); next = done.next }

abbrev pub waits : ℕ → ℕ → Done → Done
waits ticks to done = record { performed = done.performed; next = Some (ticks, to) }

-- A program is run where the tests come out as `holds` says.
module _ (holds : Test → Bool) (program : List Step) where
  -- One step at `at`; `go` is what follows, from an address.
  abbrev pub one_step : Step → ℕ → (ℕ → Done → Option Done) → Done → Option Done
  one_step (test_step variable relation word to) at go done =
      cond (holds record { variable = variable; relation = relation; word = word }) (go (suc at) done) (go to done)
  one_step (Future ticks to) at go done = go (suc at) (waits ticks to done)
  one_step Halt at go done = Some done
  one_step (Call row work inputs output duration) at go done = go (suc at) (perform (Call row work inputs output duration) done)
  one_step (Send row variable duration) at go done = go (suc at) (perform (Send row variable duration) done)
  one_step (Receive variable duration) at go done = go (suc at) (perform (Receive variable duration) done)
  one_step (Keep variable cell) at go done = go (suc at) (perform (Keep variable cell) done)
  one_step Clear at go done = go (suc at) (perform Clear done)
  one_step (Give cell variable word) at go done = go (suc at) (perform (Give cell variable word) done)

  -- At most so many steps, up to HALT; nothing where that is not reached.
  unfoldable pub runs : ℕ → ℕ → Done → Option Done
  runs zero at done = None
  runs (suc most) at done = one_step (slice_index_or program at Halt) at (runs most) done

-- A row is program p's: a call of the station whose work program p is, or a send in which the station whose
-- line program p is sends or listens.
abbrev pub BelongsTo : ℕ → Row → Type 0
BelongsTo p (keep_row k) = ⊥
BelongsTo p (call_row c) = p ≡ work_program c.station
BelongsTo p (send_row s) = (p ≡ line_program s.station) ⊎ ((n : ℕ) × Listens s.listeners n × (p ≡ line_program n))

module _ (cycle : ℕ) (rows : List Row) (p : ℕ) where
  -- Row i is the program's, and has the date d.
  abbrev pub Due : ℕ → ℕ → Type 0
  Due d i = (i < length rows) × BelongsTo p (row_at rows i) × (date_of (row_at rows i) ≡ d)

  abbrev pub DateOf : ℕ → Type 0
  DateOf d = (i : ℕ) × Due d i

  -- x is the first of the program's dates not before e, or the end of the cycle.
  pub record FirstFrom (e x : ℕ) : Type 0 where
    pub late : e ≤ x
    pub date : DateOf x ⊎ (x ≡ cycle)
    pub within : x ≤ cycle
    pub first : (y : ℕ) → e ≤ y → y < x → DateOf y → ⊥

  -- Where the block of date x begins; at the end of the cycle the unit is due at address 0.
  abbrev pub block_at : ℕ → ℕ
  block_at x = cond (nat_lt x cycle) (address cycle rows p (opening_length cycle rows p) x) 0

  module _ (holds : Test → Bool) where
    abbrev pub TestsHold : ℕ → Type 0
    TestsHold i = AllByRecursion (λ t. holds t ≡ true) (tests_in (row_at rows i))

    -- Row i is the topmost of date d whose tests hold.
    pub record Topmost (d i : ℕ) : Type 0 where
      pub due : Due d i
      pub holding : TestsHold i
      pub above : (k : ℕ) → k < i → Due d k → TestsHold k → ⊥

    abbrev pub NoneHolds : ℕ → Type 0
    NoneHolds d = (k : ℕ) → Due d k → TestsHold k → ⊥

    -- The turn of date d, from address `at`, where the unit has done so much: it performs the topmost row of
    -- that date whose tests hold, and is next due at the first of its dates not before that row's end, or at
    -- the cycle's end; with none, at its next date or the cycle's end.
    pub record Turn (d at : ℕ) (before done : Done) : Type 0 where
      pub performs : (i : ℕ) → Topmost d i
          → (x : ℕ) × FirstFrom (end_of (row_at rows i)) x
          × (runs holds (program_code cycle rows p) (suc (length (program_code cycle rows p))) at before
          ≡ Some (perform (act p i (row_at rows i)) (waits (x - d) (block_at x) done)))
      pub idles : NoneHolds d
          → (x : ℕ) × FirstFrom (suc d) x
          × (runs holds (program_code cycle rows p) (suc (length (program_code cycle rows p))) at before
          ≡ Some (waits (x - d) (block_at x) done))

-- Every unit of an accepted sheet, woken for one of its dates, does the turn of that date. Woken at address
-- 0, it prepares its station and does the turn of date 0, whether or not that is one of its dates.
pub record TurnsStand : Type 0 where
  pub dated : (h : Head) (rows : List Row) → Sheet h rows → (p d : ℕ) → d < h.cycle → DateOf h.cycle rows p d
      → (holds : Test → Bool) (done : Done) → Turn h.cycle rows p holds d (block_at h.cycle rows p d) done done
  pub opened : (h : Head) (rows : List Row) → Sheet h rows → (p : ℕ)
      → (holds : Test → Bool) (done : Done)
      → Turn h.cycle rows p holds 0 0 done record { performed = done.performed ++ preparation rows p; next = done.next }
