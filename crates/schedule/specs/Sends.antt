-- The ticks of a performed send, and that no tick belongs to two.
use Rattle.std.specs.Prelude.{◌≡◌, ℕ, ◌+◌, ◌*◌, ◌<◌, ◌≤◌, Bool, true, Option}
use Rattle.schedule.specs.Rows.{Row, Accepted}
use Rattle.plant.specs.Model.{Work}
use Rattle.schedule.specs.Machine.{Keep, start_of}
use Rattle.schedule.specs.Cycles.{performs}

-- row k of cycle q has tick x: as many ticks as its duration, from the one that performs it
abbrev pub Occupies : (ℕ → Row) → ℕ → ℕ → ℕ → ℕ → Type 0
Occupies r L q k x = (q * L + (r k).date ≤ x) × (x < q * L + (r k).date + (r k).dur)

-- two performances of sends that share a tick are one: the same row of the same cycle
abbrev pub SendsApart : (S : Type 0) → (S → Work → S) → (S → Work → ℕ) → Type 0
SendsApart S next answer = (knows : ℕ → ℕ → ℕ → Bool) (r : ℕ → Row) (n L : ℕ) (kp : ℕ → Keep) (nk : ℕ) (basis : (ℕ → Option ℕ) → ℕ → Option ℕ) (p : S)
    → ((c : ℕ → Option ℕ) → Accepted r n L (start_of kp nk c) (basis c))
    → (q k q' k' x : ℕ) → k < n → k' < n → (r k).sends ≡ true → (r k').sends ≡ true
    → performs next answer knows r n L kp nk p q k ≡ true → performs next answer knows r n L kp nk p q' k' ≡ true
    → Occupies r L q k x → Occupies r L q' k' x → (q ≡ q') × (k ≡ k')
