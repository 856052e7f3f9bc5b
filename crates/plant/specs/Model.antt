-- What a plant means: its states, the works it knows, and what a work answers and leaves.
use Rattle.std.specs.Prelude.{◌≡◌, ℕ, ◌<◌, Bool, true, cond}

-- A work as it is asked for: at which station, its number, how many inputs it has, and two words, which are 0
-- where there is no input.
pub record Work : Type 0 where
  pub station : ℕ
  pub number : ℕ
  pub count : ℕ
  pub first : ℕ
  pub second : ℕ

-- Which works are known goes by station, number and count of inputs alone, never by the state.
pub record Model : Type 1 where
  pub State : Type 0
  pub known : ℕ → ℕ → ℕ → Bool
  pub answer : State → Work → ℕ
  pub next : State → Work → State

abbrev pub knows : Model → Work → Bool
knows m w = m.known w.station w.number w.count

abbrev pub Elsewhere : Work → Work → Type 0
Elsewhere v w = v.station ≡ w.station → ⊥

-- The law of every plant. Of known works at two different stations
pub record Apart (m : Model) : Type 0 where
  -- neither alters the other's answer,
  pub answers : (v w : Work) → knows m v ≡ true → knows m w ≡ true → Elsewhere v w → (s : m.State)
      → m.answer (m.next s v) w ≡ m.answer s w
  -- and both orders end in the same state.
  pub orders : (v w : Work) → knows m v ≡ true → knows m w ≡ true → Elsewhere v w → (s : m.State)
      → m.next (m.next s v) w ≡ m.next (m.next s w) v
  -- No station above 7 and no work above 255 is known.
  pub limits : (station work count : ℕ) → m.known station work count ≡ true → (station < 8) × (work < 256)

-- The state after a work was asked for: one that is not known leaves it as it was.
abbrev pub leaves : (m : Model) → m.State → Work → m.State
leaves m s w = cond (knows m w) (m.next s w) s
