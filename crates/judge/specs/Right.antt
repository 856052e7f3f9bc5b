use Rattle.std.specs.Prelude.{◌≡◌, ℕ, ◌<◌, List, length, get_or, Some, None, Option, slice_index_or}
use Rattle.fault.specs.declared.place.RowPlace.{RowPlace}
use Rattle.fault.specs.declared.refusal.Fault.{Fault}
use Rattle.sheet.specs.declared.row.Head.{Head}
use Rattle.sheet.specs.declared.row.Row.{Row}
use Rattle.sheet.specs.Rows.{tests_of, row_at}
use Rattle.judge.specs.declared.need.Need.{Need}
use Rattle.judge.specs.declared.breach.Breach.{Breach}
use Rattle.judge.specs.declared.breach.Breach.TheVariants.{Outside, TestedTwice, TwoWriters, Clash, Unavailable}
use Rattle.judge.specs.Rules.{FieldsWithin, Placed, TestedOnce, SingleWriter, NoOverlap, Available, RowRules, Rules}
use Rattle.judge.specs.Verdict.{needs_of, fault_of, verdict}

-- Which refusal is right.

abbrev pub Within : Head → List Row → ℕ → Type 0
Within h rows r = FieldsWithin h (row_at rows r) × Placed rows r (row_at rows r)

abbrev pub TestedOnceAt : List Row → ℕ → Type 0
TestedOnceAt rows r = TestedOnce (row_at rows r)

-- The rows above `n` leave the row at `r` its variable, or its time.
abbrev pub WritersTo : List Row → ℕ → ℕ → Type 0
WritersTo rows r n = (u : ℕ) → u < n → SingleWriter (row_at rows u) (row_at rows r)

abbrev pub NoOverlapTo : List Row → ℕ → ℕ → Type 0
NoOverlapTo rows r n = (u : ℕ) → u < n → NoOverlap (row_at rows u) (row_at rows r)

abbrev pub Met : List Row → ℕ → Need → Type 0
Met rows r w = Available rows r w.station w.variable w.date (tests_of w.after)

-- The first of the needs that is not met is of the variable `v`.
abbrev pub FirstUnmet : List Row → ℕ → List Need → ℕ → Type 0
FirstUnmet rows r ws v =
    (k : ℕ) × (k < length ws) × ((d : Need) → (v ≡ (get_or ws k d).variable) × (Met rows r (slice_index_or ws k d) → ⊥))
    × ((j : ℕ) (d : Need) → j < k → Met rows r (slice_index_or ws j d))

-- A breach has the lowest number of all at its row, and names the topmost upper row that the row is in
-- conflict with, or the first variable that is not available.
abbrev pub Broken : Head → List Row → ℕ → Breach → Type 0
Broken h rows r Outside = Within h rows r → ⊥
Broken h rows r TestedTwice = Within h rows r × (TestedOnceAt rows r → ⊥)
Broken h rows r (TwoWriters u) =
    Within h rows r × TestedOnceAt rows r × (u < r) × (SingleWriter (row_at rows u) (row_at rows r) → ⊥) × WritersTo rows r u
Broken h rows r (Clash u) =
    Within h rows r × TestedOnceAt rows r × WritersTo rows r r × (u < r) × (NoOverlap (row_at rows u) (row_at rows r) → ⊥)
    × NoOverlapTo rows r u
Broken h rows r (Unavailable v) =
    Within h rows r × TestedOnceAt rows r × WritersTo rows r r × NoOverlapTo rows r r
    × FirstUnmet rows r (needs_of h (row_at rows r)) v

-- A refusal is of the topmost row that breaks a rule.
abbrev pub Names : Head → List Row → Fault RowPlace → Type 0
Names h rows f =
    (r : ℕ) × (b : Breach) × (f ≡ fault_of r b) × (r < length rows) × Broken h rows r b
    × ((u : ℕ) → u < r → RowRules h rows u) × (RowRules h rows r → ⊥)

-- Nothing is answered where the rules hold, and a refusal where they do not.
abbrev pub Right : Head → List Row → Option (Fault RowPlace) → Type 0
Right h rows None = Rules h rows
Right h rows (Some f) = Names h rows f × (Rules h rows → ⊥)

-- The verdict is nothing exactly where the rules hold.
abbrev pub AcceptsExactly : Type 0
AcceptsExactly =
    (h : Head) (rows : List Row) → (verdict h rows ≡ None → Rules h rows) × (Rules h rows → verdict h rows ≡ None)

-- Each refusal names the first breach, at its place.
abbrev pub NamesFirst : Type 0
NamesFirst = (h : Head) (rows : List Row) (f : Fault RowPlace) → verdict h rows ≡ Some f → Names h rows f
