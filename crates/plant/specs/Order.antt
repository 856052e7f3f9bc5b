-- Works that are asked for one after another, in one order and in another.
use Rattle.std.specs.Prelude.{◌≡◌, ℕ, zero, suc, ◌<◌, Bool, true, false, cond, List, [], ◌∷◌, ◌==◌, ◌≢◌}
use Rattle.plant.specs.Model.{Model, Work, Elsewhere, leaves}
use Rattle.plant.specs.Replies.{replied}

-- The works at a station, in their order.
abbrev pub works_at : ℕ → List Work → List Work
works_at station [] = []
works_at station (w ∷ ws) = cond (w.station == station) (w ∷ works_at station ws) (works_at station ws)

-- The state that a list of works leaves, where one work takes a state to the next.
abbrev pub left_by : {S : Type 0} → (S → Work → S) → S → List Work → S
left_by next s [] = s
left_by next s (w ∷ ws) = left_by next (next s w) ws

-- The replies to the works at a station, in their order, when a list of works is asked for.
abbrev pub replies_at : {S R : Type 0} → (S → Work → S) → (S → Work → R) → ℕ → S → List Work → List R
replies_at next reply station s [] = []
replies_at next reply station s (w ∷ ws) =
    let rest = replies_at next reply station (next s w) ws in
    cond (w.station == station) (reply s w ∷ rest) rest

-- Two lists have the same works in the same order at each station.
abbrev pub SameAtEach : List Work → List Work → Type 0
SameAtEach ws vs = (station : ℕ) → works_at station ws ≡ works_at station vs

-- They leave the same state, and each station is replied to alike.
pub record Alike {S R : Type 0} (next : S → Work → S) (reply : S → Work → R) (s : S) (ws vs : List Work) : Type 0 where
  pub state : left_by next s ws ≡ left_by next s vs
  pub replies : (station : ℕ) → replies_at next reply station s ws ≡ replies_at next reply station s vs

-- The law over lists: from every state, any two lists with the same works in the same order at each station end
-- in the same state, and each station is replied to alike, its refusals too.
abbrev pub OrderStands : Model → Type 0
OrderStands m =
    (s : m.State) (ws vs : List Work) → SameAtEach ws vs → Alike (leaves m) (replied m) s ws vs

-- The law of two works, known or not.
pub record Lawful {S R : Type 0} (next : S → Work → S) (reply : S → Work → R) : Type 0 where
  pub quiet : (s : S) (v w : Work) → Elsewhere v w → reply (next s v) w ≡ reply s w
  pub swap : (s : S) (v w : Work) → Elsewhere v w → next (next s v) w ≡ next (next s w) v

-- Numbered works are taken from the top; `begun` says which of the first `n` are done.
unfoldable pub after_begun : {S : Type 0} → (S → Work → S) → (ℕ → Work) → (ℕ → Bool) → S → ℕ → S
after_begun next works begun s zero = s
after_begun next works begun s (suc k) =
    let p = after_begun next works begun s k in cond (begun k) (next p (works k)) p

-- Let the works `all` be what is done in the end, and `begun` what is done so far. If at the station of work j
-- just those above j are begun, j is replied to as in its turn from the top, and leaves the state of those begun
-- with j.
abbrev pub AnyOrder : {S R : Type 0} → (S → Work → S) → (S → Work → R) → Type 0
AnyOrder {S} {R} next reply =
    (works : ℕ → Work) (begun with-j all : ℕ → Bool) (s : S) (n j : ℕ) → j < n
    → ((k : ℕ) → k < n → (works k).station ≡ (works j).station → k < j → begun k ≡ all k)
    → ((k : ℕ) → k < n → (works k).station ≡ (works j).station → j < k → begun k ≡ false)
    → begun j ≡ false → with-j j ≡ true → ((k : ℕ) → (k ≢ j) → with-j k ≡ begun k)
    → (reply (after_begun next works begun s n) (works j) ≡ reply (after_begun next works all s j) (works j))
    × (next (after_begun next works begun s n) (works j) ≡ after_begun next works with-j s n)
