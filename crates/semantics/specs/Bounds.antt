-- How great counts can be: a unit performs at most one call or send in a tick.
use Rattle.std.specs.Prelude.{ℕ, ◌≤◌}
use Rattle.semantics.specs.declared.state.State.{State}
use Rattle.semantics.specs.Machine.{mark_in}

-- No row was performed more than c times.
abbrev pub CountsWithin : ℕ → State → Type 0
CountsWithin c s = (row : ℕ) → (mark_in s row).count ≤ c
