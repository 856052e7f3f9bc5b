-- The rules that a bench asks of a program, the limits of a sheet's head and fields, and that translated programs keep the rules.
use Rattle.std.specs.Prelude.{◌≡◌, ℕ, ◌+◌, ◌*◌, ◌<◌, ◌≤◌, false, List, [], ◌∷◌, ◌++◌, length, Option, slice_index_or}
use Rattle.schedule.specs.Rows.{Test, Row, Mem, Accepted}
use Rattle.schedule.specs.Program.{Step}
use Rattle.schedule.specs.Machine.{Keep, start_of, program}

-- a call's, a send's or a receiver's step has its row's number and fields; rows are numbered after the keep rows
pub record ActOk (r : ℕ → Row) (nk k : ℕ) : Type 0 where
  pub row : nk + k < 128
  pub work : (r k).sends ≡ false → (r k).work < 256
  pub few : (r k).count ≤ 2
  pub first : 0 < (r k).count → (r k).one < 64
  pub second : 1 < (r k).count → (r k).two < 64
  pub output : (r k).out < 64
  pub long : 1 ≤ (r k).dur
  pub short : (r k).dur ≤ 65535

-- the step at address a of a program of len steps
abbrev pub StepOk : (ℕ → Row) → ℕ → ℕ → ℕ → Step → Type 0
StepOk r nk len a (Step.test t b) = (t.var < 64) × (a < b) × (b < len)
StepOk r nk len a (Step.future m b) = (1 ≤ m) × (m ≤ 65535) × (b < len)
StepOk r nk len a Step.halt = Unit {0}
StepOk r nk len a (Step.act k) = ActOk r nk k
StepOk r nk len a (Step.keep x m) = (x < 64) × (m < 16)
StepOk r nk len a Step.clear = Unit {0}
StepOk r nk len a (Step.give m x w) = (m < 16) × (x < 64)

pub record ProgramOk (r : ℕ → Row) (nk : ℕ) (p : List Step) : Type 0 where
  pub long : 1 ≤ length p
  pub short : length p ≤ 2048
  pub last : (front : List Step) × (p ≡ front ++ (Step.halt ∷ []))
  pub steps : (a : ℕ) → a < length p → StepOk r nk (length p) a (slice_index_or p a Step.halt)

-- the limits of the head and of the rows' fields
pub record Limits (r : ℕ → Row) (n L : ℕ) (kp : ℕ → Keep) (nk stations variables : ℕ) : Type 0 where
  pub few_stations : stations ≤ 8
  pub few_variables : variables ≤ 64
  pub rows : nk + n ≤ 128
  pub keeps : nk ≤ 16
  pub cycle : (1 ≤ L) × (L ≤ 65535)
  pub kept : (m : ℕ) → m < nk → ((kp m).st < stations) × ((kp m).from < variables) × ((kp m).into < variables)
  pub works : (k : ℕ) → k < n → (r k).sends ≡ false → (r k).work < 256
  pub few : (k : ℕ) → k < n → (r k).count ≤ 2
  pub first : (k : ℕ) → k < n → 0 < (r k).count → (r k).one < variables
  pub second : (k : ℕ) → k < n → 1 < (r k).count → (r k).two < variables
  pub output : (k : ℕ) → k < n → (r k).out < variables
  pub tests : (k : ℕ) → k < n → length (r k).tests ≤ 4
  pub tested : (k : ℕ) (t : Test) → k < n → Mem t (r k).tests → t.var < variables

-- no program of an accepted sheet is refused
abbrev pub ProgramsKeep : Type 0
ProgramsKeep = (r : ℕ → Row) (n L : ℕ) (kp : ℕ → Keep) (nk stations variables : ℕ) (basis : (ℕ → Option ℕ) → ℕ → Option ℕ)
    → Limits r n L kp nk stations variables → ((c : ℕ → Option ℕ) → Accepted r n L (start_of kp nk c) (basis c))
    → (j : ℕ) → j < 2 * stations → ProgramOk r nk (program r n L kp nk j)
