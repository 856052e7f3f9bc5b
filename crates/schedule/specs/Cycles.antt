-- The run promise over whole runs: any number of ticks from the bench's making.
use Rattle.std.specs.Prelude.{◌≡◌, ℕ, zero, suc, ◌+◌, ◌*◌, ◌<◌, ◌≤◌, Bool, cond, ◌&&◌, Some, None, Option, nat_lt}
use Rattle.schedule.specs.Rows.{Row, Places, Now, read_to, performed, Accepted}
use Rattle.plant.specs.Model.{Work}
use Rattle.schedule.specs.Machine.{Keep, Bench, Mark, Fit, Opened, cells_of, start_of, ticks, marked}

pub record Reading (S : Type 0) : Type 0 where
  pub places : Places
  pub cells : ℕ → Option ℕ
  pub plant : S

module _ {S : Type 0} (next : S → Work → S) (answer : S → Work → ℕ) (r : ℕ → Row) (n : ℕ) (kp : ℕ → Keep) (nk : ℕ) where
  -- a cycle's first two steps, and a cycle
  abbrev pub begins : Reading S → Now S
  begins x = record { places = start_of kp nk (cells_of kp nk x.places x.cells); plant = x.plant }

  abbrev pub cycle : Reading S → Reading S
  cycle x = record { places = (read_to next answer r (begins x) n).places; cells = cells_of kp nk x.places x.cells; plant = (read_to next answer r (begins x) n).plant }

  unfoldable pub after_cycles : S → ℕ → Reading S
  after_cycles p zero = record { places = λ s x. None; cells = λ m. None; plant = p }
  after_cycles p (suc q) = cycle (after_cycles p q)

abbrev pub blank_mark : Mark
blank_mark = record { count = 0; tick = 0; first = None; second = None; given = None }

module _ {S : Type 0} (next : S → Work → S) (answer : S → Work → ℕ) (knows : ℕ → ℕ → ℕ → Bool) (r : ℕ → Row) (n L : ℕ) (kp : ℕ → Keep) (nk : ℕ) where
  -- cycle q's reading performs row k
  abbrev pub performs : S → ℕ → ℕ → Bool
  performs p q k = performed next answer r (begins next answer r n kp nk (after_cycles next answer r n kp nk p q)) k

  abbrev pub mark_in : S → ℕ → ℕ → Mark → Mark
  mark_in p q k m = marked next answer knows r n L kp nk (q * L) (begins next answer r n kp nk (after_cycles next answer r n kp nk p q)) k m

  -- row k's mark after q whole cycles
  unfoldable pub mark_after : S → ℕ → ℕ → Mark
  mark_after p zero k = blank_mark
  mark_after p (suc q) k = let m = mark_after p q k in cond (performs p q k) (mark_in p q k m) m

  pub record Made (stations : ℕ) (b : Bench S) : Type 0 where
    pub places : (s x : ℕ) → b.places s x ≡ None
    pub cells : (m : ℕ) → b.cells m ≡ None
    pub mark : (k : ℕ) → b.mark k ≡ blank_mark
    pub ready : Opened next answer knows r n L kp nk stations 0 b

  -- after q whole cycles
  pub record Whole (p : S) (q : ℕ) (c : Bench S) : Type 0 where
    pub places : (s x : ℕ) → c.places s x ≡ (after_cycles next answer r n kp nk p q).places s x
    pub cells : (m : ℕ) → c.cells m ≡ (after_cycles next answer r n kp nk p q).cells m
    pub plant : c.plant ≡ (after_cycles next answer r n kp nk p q).plant
    pub mark : (k : ℕ) → k < n → c.mark k ≡ mark_after p q k

abbrev pub RunPromise : (S : Type 0) → (S → Work → S) → (S → Work → ℕ) → Type 0
RunPromise S next answer = (knows : ℕ → ℕ → ℕ → Bool) (r : ℕ → Row) (n L : ℕ) (kp : ℕ → Keep) (nk stations : ℕ) (basis : (ℕ → Option ℕ) → ℕ → Option ℕ) (b : Bench S)
    → 0 < L → ((m : ℕ) → m < nk → (kp m).st < stations)
    → ((c : ℕ → Option ℕ) → Accepted r n L (start_of kp nk c) (basis c)) → Fit next answer knows r n L kp nk stations → Made next answer knows r n L kp nk stations b
    -- after whole cycles everything is the reading's
    → ((q : ℕ) → (c : Bench S) × (ticks next answer knows r n L kp nk (2 * stations) 0 (q * L) b ≡ Some c) × Whole next answer knows r n L kp nk b.plant q c)
    -- and after any ticks none is refused, and a mark counts the rows begun
    × ((q t : ℕ) → t ≤ L → (c : Bench S) × (ticks next answer knows r n L kp nk (2 * stations) 0 (q * L + t) b ≡ Some c)
    × ((k : ℕ) → k < n → c.mark k ≡ cond (performs next answer knows r n L kp nk b.plant q k && nat_lt (r k).date t) (mark_in next answer knows r n L kp nk b.plant q k (mark_after next answer knows r n L kp nk b.plant q k)) (mark_after next answer knows r n L kp nk b.plant q k)))
