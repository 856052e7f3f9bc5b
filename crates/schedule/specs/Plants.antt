-- The law that a plant's meaning keeps: of works at two stations neither alters the other's answer, and both orders end
-- in the same state.
use Rattle.std.specs.Prelude.{ℕ}
use Rattle.plant.specs.Model.{Work}
use Rattle.plant.specs.Order as order

abbrev pub Lawful : (S : Type 0) → (S → Work → S) → (S → Work → ℕ) → Type 0
Lawful S next answer = order.Lawful next answer
