-- A unit's program with addresses, how it is run, and the turn of a date without addresses.
use Rattle.std.specs.Prelude.{◌≡◌, ℕ, zero, suc, ◌+◌, ◌-◌, ◌*◌, ◌<◌, ◌≤◌, Bool, true, false, cond, ◌&&◌, List, [], ◌∷◌, ◌++◌, length, Some, None, Option, ◌==◌, nat_lt, slice_index_or}
use Rattle.schedule.specs.Rows.{Test}

pub data Step : Type 0 where
  test : Test → ℕ → Step
  future : ℕ → ℕ → Step
  halt : Step
  act : ℕ → Step
  keep : ℕ → ℕ → Step
  clear : Step
  give : ℕ → ℕ → ℕ → Step

-- what steps do to a state; None is a refusal
pub record Engine (S : Type 0) : Type 0 where
  pub ask : Test → S → Option Bool
  pub later : ℕ → ℕ → S → S
  pub perform : ℕ → S → Option S
  pub take : ℕ → ℕ → S → S
  pub wipe : S → S
  pub put : ℕ → ℕ → ℕ → S → S

module _ {S : Type 0} (e : Engine S) where
  abbrev pub tested : Option Bool → ℕ → ℕ → (ℕ → S → Option S) → S → Option S
  tested None pc a go s = None
  tested (Some true) pc a go s = go (suc pc) s
  tested (Some false) pc a go s = go a s

  abbrev pub acted : Option S → ℕ → (ℕ → S → Option S) → Option S
  acted None pc go = None
  acted (Some s) pc go = go (suc pc) s

  abbrev pub one : Step → ℕ → (ℕ → S → Option S) → S → Option S
  one (test t a) pc go s = tested (e.ask t s) pc a go s
  one (future n a) pc go s = go (suc pc) (e.later n a s)
  one halt pc go s = Some s
  one (act k) pc go s = acted (e.perform k s) pc go
  one (keep x m) pc go s = go (suc pc) (e.take x m s)
  one clear pc go s = go (suc pc) (e.wipe s)
  one (give m x w) pc go s = go (suc pc) (e.put m x w s)

  -- KEEP, CLEAR and GIVE in a row
  abbrev pub plainly : Step → S → S
  plainly (keep x m) s = e.take x m s
  plainly clear s = e.wipe s
  plainly (give m x w) s = e.put m x w s
  plainly (test t a) s = s
  plainly (future n a) s = s
  plainly halt s = s
  plainly (act k) s = s

  unfoldable pub heads : List Step → S → S
  heads [] s = s
  heads (x ∷ c) s = heads c (plainly x s)

  -- steps up to HALT; the fuel is never used up
  unfoldable pub exec : List Step → ℕ → ℕ → S → Option S
  exec p zero pc s = None
  exec p (suc f) pc s = one (slice_index_or p pc halt) pc (exec p f) s

  abbrev pub onward : Option Bool → Option Bool → Option Bool
  onward None r = None
  onward (Some true) r = r
  onward (Some false) r = Some false

  -- the tests of a row, in order
  unfoldable pub asks : List Test → S → Option Bool
  asks [] s = Some true
  asks (t ∷ c) s = onward (e.ask t s) (asks c s)

abbrev pub plain : Step → Bool
plain (keep x m) = true
plain clear = true
plain (give m x w) = true
plain (test t a) = false
plain (future n a) = false
plain halt = false
plain (act k) = false

abbrev pub Plain : List Step → Type 0
Plain [] = Unit {0}
Plain (x ∷ c) = (plain x ≡ true) × Plain c

-- one unit's share of a sheet
pub record Share : Type 0 where
  pub rows : ℕ
  pub cycle : ℕ
  pub mine : ℕ → Bool
  pub date : ℕ → ℕ
  pub stop : ℕ → ℕ
  pub tests : ℕ → List Test

module _ (h : Share) where
  abbrev pub row_len : ℕ → ℕ
  row_len k = length (h.tests k) + 3

  abbrev pub due : ℕ → ℕ → Bool
  due d k = h.mine k && h.date k == d

  -- m rows from row i on
  unfoldable pub rows_len : ℕ → ℕ → ℕ → ℕ
  rows_len d i zero = 0
  rows_len d i (suc m) = cond (due d i) (row_len i) 0 + rows_len d (suc i) m

  abbrev pub is_date : ℕ → Bool
  is_date d = nat_lt 0 (rows_len d 0 h.rows)

  -- the first date not before d, or the cycle's length
  unfoldable pub search_date : ℕ → ℕ → ℕ
  search_date zero d = d
  search_date (suc m) d = cond (is_date d) d (search_date m (suc d))

  abbrev pub wake : ℕ → ℕ
  wake d = search_date (h.cycle - d) d

  -- where the block of date d begins, after an opening of so many steps
  unfoldable pub addr : ℕ → ℕ → ℕ
  addr o zero = o
  addr o (suc d) = addr o d + cond (is_date d) (rows_len d 0 h.rows + 2) 0

  abbrev pub target : ℕ → ℕ → ℕ
  target o w = cond (nat_lt w h.cycle) (addr o w) 0

  unfoldable pub test_code : List Test → ℕ → List Step
  test_code [] a = []
  test_code (t ∷ c) a = test t a ∷ test_code c a

  abbrev pub row_code : ℕ → ℕ → ℕ → ℕ → List Step
  row_code o d k b = test_code (h.tests k) (b + row_len k) ++ (future (wake (h.stop k) - d) (target o (wake (h.stop k))) ∷ act k ∷ halt ∷ [])

  abbrev pub tail_code : ℕ → ℕ → List Step
  tail_code o d = future (wake (suc d) - d) (target o (wake (suc d))) ∷ halt ∷ []

  unfoldable pub rows_code : ℕ → ℕ → ℕ → ℕ → ℕ → List Step
  rows_code o d i zero b = tail_code o d
  rows_code o d i (suc m) b = cond (due d i) (row_code o d i b ++ rows_code o d (suc i) m (b + row_len i)) (rows_code o d (suc i) m b)

  unfoldable pub code_to : List Step → ℕ → List Step
  code_to pre zero = pre
  code_to pre (suc d) = code_to pre d ++ cond (is_date d) (rows_code (length pre) d 0 h.rows (addr (length pre) d)) []

  -- the opening: what a work unit does first, then the wait for the first date unless that is date 0
  abbrev pub open_len : List Step → ℕ
  open_len head = length head + cond (is_date 0) 0 2

  abbrev pub opening : List Step → List Step
  opening head = head ++ cond (is_date 0) [] (future (wake 0) (target (open_len head) (wake 0)) ∷ halt ∷ [])

  -- THE TURN of a date, without addresses but for the two that are set
  module _ {S : Type 0} (e : Engine S) where
    abbrev pub row_turn : ℕ → ℕ → ℕ → Option Bool → S → Option S → Option S
    row_turn o d k None s other = None
    row_turn o d k (Some true) s other = e.perform k (e.later (wake (h.stop k) - d) (target o (wake (h.stop k))) s)
    row_turn o d k (Some false) s other = other

    unfoldable pub turn : ℕ → ℕ → ℕ → ℕ → S → Option S
    turn o d i zero s = Some (e.later (wake (suc d) - d) (target o (wake (suc d))) s)
    turn o d i (suc m) s = cond (due d i) (row_turn o d i (asks e (h.tests i) s) s (turn o d (suc i) m s)) (turn o d (suc i) m s)

abbrev pub Layout : Type 0
Layout = (h : Share) (pre : List Step) (d : ℕ) → d < h.cycle → is_date h d ≡ true → (e : Engine ℕ) (s : ℕ)
    → exec e (code_to h pre h.cycle) (suc (length (code_to h pre h.cycle))) (addr h (length pre) d) s ≡ turn h e (length pre) d 0 h.rows s

-- from address 0 a program prepares its station and then does the turn of date 0, whether or not that is a date
abbrev pub Opening : Type 0
Opening = (h : Share) (head : List Step) → Plain head → 0 < h.cycle → (e : Engine ℕ) (s : ℕ)
    → exec e (code_to h (opening h head) h.cycle) (suc (length (code_to h (opening h head) h.cycle))) 0 s ≡ turn h e (open_len h head) 0 0 h.rows (heads e head s)

-- how long a program is
abbrev pub Sized : Type 0
Sized = (h : Share) (pre : List Step) → ((k : ℕ) → k < h.rows → length (h.tests k) ≤ 4) → length (code_to h pre h.cycle) ≤ length pre + 9 * h.rows
