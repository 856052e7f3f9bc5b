-- Up to a tick nothing is due and nothing ends.
use Rattle.std.specs.Prelude.{◌≡◌, ℕ, ◌+◌, ◌<◌, Bool, true, ◌&&◌, Some, None, Option, nat_le}
use Rattle.semantics.specs.declared.state.State.{State}
use Rattle.semantics.specs.declared.state.Job.{Job}
use Rattle.semantics.specs.declared.state.Job.TheVariants.{Idle, Store, Carry, Listen}
use Rattle.semantics.specs.declared.state.UnitState.{UnitState}
use Rattle.semantics.specs.declared.state.Message.{Message}
use Rattle.semantics.specs.Machine.{unit_in}

-- The clock can move on to any tick before `until`, and no timer, job or message has come to its tick.
abbrev pub quiet_timer : ℕ → Option ℕ → Bool
quiet_timer until None = true
quiet_timer until (Some tick) = nat_le until (tick + 1)

abbrev pub quiet_job : ℕ → Job → Bool
quiet_job until Idle = true
quiet_job until (Store end variable word) = nat_le until end
quiet_job until (Carry end) = nat_le until end
quiet_job until (Listen end variable address) = nat_le until end

abbrev pub quiet_unit : ℕ → UnitState → Bool
quiet_unit until u = quiet_timer until u.timer && quiet_job until u.job

abbrev pub quiet_line : ℕ → Option Message → Bool
quiet_line until None = true
quiet_line until (Some message) = nat_le until message.end

pub record Quiet (until : ℕ) (s : State) : Type 0 where
  pub units : (program : ℕ) → program < 16 → quiet_unit until (unit_in s program) ≡ true
  pub line : quiet_line until s.line ≡ true
