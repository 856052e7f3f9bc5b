-- What the marks say, over cycles: how many cycles count for a row, and the words of the latest.
use Rattle.std.specs.Prelude.{◌≡◌, ℕ, zero, suc, ◌+◌, ◌*◌, ◌<◌, ◌≤◌, Bool, true, false, cond, ◌&&◌, ◌⊎◌, Some, Option, nat_lt}
use Rattle.schedule.specs.Rows.{Row, Now, word1, word2, given, read_to, Accepted}
use Rattle.plant.specs.Model.{Work}
use Rattle.schedule.specs.Machine.{Keep, Bench, Mark, Fit, said, start_of, ticks}
use Rattle.schedule.specs.Cycles.{begins, after_cycles, performs, blank_mark, Made}

-- how many indices below a bound pass a test
unfoldable pub countb : (ℕ → Bool) → ℕ → ℕ
countb P zero = 0
countb P (suc n) = cond (P n) (suc (countb P n)) (countb P n)

module _ {S : Type 0} (next : S → Work → S) (answer : S → Work → ℕ) (knows : ℕ → ℕ → ℕ → Bool) (r : ℕ → Row) (n L : ℕ) (kp : ℕ → Keep) (nk : ℕ) where
  -- with m ticks granted, cycle q counts for row k: its reading performs the row, and its tick at the row's date is granted
  abbrev pub counts : S → ℕ → ℕ → ℕ → Bool
  counts p m k q = performs next answer knows r n L kp nk p q k && nat_lt (q * L + (r k).date) m

  -- what cycle q's reading has before row k
  abbrev pub before : S → ℕ → ℕ → Now S
  before p q k = read_to next answer r (begins next answer r n kp nk (after_cycles next answer r n kp nk p q)) k

  -- a mark with cycle q's tick and words of row k
  abbrev pub told : S → ℕ → ℕ → ℕ → Mark
  told p k q c = record {
    count = c;
    tick = q * L + (r k).date;
    first = said (nat_lt 0 (r k).count) (word1 (r k) (before p q k).places);
    second = said (nat_lt 1 (r k).count) (word2 (r k) (before p q k).places);
    given = Some (given next answer (r k) (before p q k));
  }

  -- row k's mark with m ticks granted
  pub record MarkIs (p : S) (m k : ℕ) (x : Mark) : Type 0 where
    -- it counts the cycles that count (all are below m, so that any bound from m on will do)
    pub count : (bound : ℕ) → m ≤ bound → x.count ≡ countb (counts p m k) bound
    -- and is blank, or has tick and words of the latest
    pub latest : (((q : ℕ) → counts p m k q ≡ false) × (x ≡ blank_mark))
        ⊎ ((q : ℕ) × (counts p m k q ≡ true) × ((q' : ℕ) → counts p m k q' ≡ true → q' ≤ q) × (x ≡ told p k q x.count))

abbrev pub MarksStand : (S : Type 0) → (S → Work → S) → (S → Work → ℕ) → Type 0
MarksStand S next answer = (knows : ℕ → ℕ → ℕ → Bool) (r : ℕ → Row) (n L : ℕ) (kp : ℕ → Keep) (nk stations : ℕ) (basis : (ℕ → Option ℕ) → ℕ → Option ℕ) (b : Bench S)
    → 0 < L → ((m : ℕ) → m < nk → (kp m).st < stations)
    → ((c : ℕ → Option ℕ) → Accepted r n L (start_of kp nk c) (basis c)) → Fit next answer knows r n L kp nk stations → Made next answer knows r n L kp nk stations b
    -- after any number of ticks none is refused, and every mark is as said
    → (m : ℕ) → (c : Bench S) × (ticks next answer knows r n L kp nk (2 * stations) 0 m b ≡ Some c)
    × ((k : ℕ) → k < n → MarkIs next answer knows r n L kp nk b.plant m k (c.mark k))
