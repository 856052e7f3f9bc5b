-- The bench over one cycle: keep rows, units with addresses, one line, marks, a plant.
-- None stands for every refusal (12, 14 to 17).
use Rattle.std.specs.Prelude.{◌≡◌, ℕ, zero, suc, ◌+◌, ◌*◌, ◌/◌, ◌%◌, ◌<◌, ◌≤◌, Bool, true, false, cond, not, ◌&&◌, ◌||◌, List, [], ◌∷◌, ◌++◌, length, Some, None, Option, ◌==◌, nat_lt}
use Rattle.schedule.specs.Rows.{Test, meets, Row, ends, Places, word1, word2, asked, Now, given, read_to, performed, Accepted}
use Rattle.plant.specs.Model.{Work}
use Rattle.schedule.specs.Pick.{pick}
use Rattle.schedule.specs.Program.{Step, Engine, exec, Share, code_to, opening, open_len}

pub record Job : Type 0 where
  pub stop : ℕ
  pub row : ℕ
  pub word : ℕ

pub record UnitState : Type 0 where
  pub at : ℕ
  pub pc : ℕ
  pub busy : Option Job

pub record Message : Type 0 where
  pub stop : ℕ
  pub word : ℕ

pub record Mark : Type 0 where
  pub count : ℕ
  pub tick : ℕ
  pub first : Option ℕ
  pub second : Option ℕ
  pub given : Option ℕ

pub record Bench (S : Type 0) : Type 0 where
  pub places : Places
  pub plant : S
  pub cells : ℕ → Option ℕ
  pub units : ℕ → UnitState
  pub line : Option Message
  pub mark : ℕ → Mark

-- a word, where there is one
abbrev pub said : Bool → ℕ → Option ℕ
said b w = cond b (Some w) None

abbrev pub is_none : {A : Type 0} → Option A → Bool
is_none None = true
is_none (Some v) = false

abbrev pub bind : {A : Type 0} → Option A → (A → Option A) → Option A
bind None f = None
bind (Some a) f = f a

-- unit 2 s is the work unit of station s, and unit 2 s + 1 its line unit
abbrev pub is_line : ℕ → Bool
is_line j = j % 2 == 1

abbrev pub owner : Row → ℕ
owner r = 2 * r.st + cond r.sends 1 0

abbrev pub mine : ℕ → Row → Bool
mine j r = cond (is_line j) (r.sends && (r.st == j / 2 || r.listeners (j / 2))) (not r.sends && r.st == j / 2)

abbrev pub share_of : (ℕ → Row) → ℕ → ℕ → ℕ → Share
share_of r n L j = record { rows = n; cycle = L; mine = λ k. mine j (r k); date = λ k. (r k).date; stop = λ k. ends (r k); tests = λ k. (r k).tests }

-- keep rows
pub record Keep : Type 0 where
  pub st : ℕ
  pub from : ℕ
  pub into : ℕ
  pub first : ℕ

-- a work program begins with a KEEP for each keep row of its station, CLEAR, and a GIVE for each
unfoldable pub keep_code : (ℕ → Keep) → ℕ → ℕ → List Step
keep_code kp s zero = []
keep_code kp s (suc m) = keep_code kp s m ++ cond ((kp m).st == s) (Step.keep (kp m).from m ∷ []) []

unfoldable pub give_code : (ℕ → Keep) → ℕ → ℕ → List Step
give_code kp s zero = []
give_code kp s (suc m) = give_code kp s m ++ cond ((kp m).st == s) (Step.give m (kp m).into (kp m).first ∷ []) []

abbrev pub head_of : (ℕ → Keep) → ℕ → ℕ → List Step
head_of kp nk j = cond (is_line j) [] (keep_code kp (j / 2) nk ++ (Step.clear ∷ give_code kp (j / 2) nk))

abbrev pub open_of : (ℕ → Row) → ℕ → ℕ → (ℕ → Keep) → ℕ → ℕ → ℕ
open_of r n L kp nk j = open_len (share_of r n L j) (head_of kp nk j)

abbrev pub program : (ℕ → Row) → ℕ → ℕ → (ℕ → Keep) → ℕ → ℕ → List Step
program r n L kp nk j = code_to (share_of r n L j) (opening (share_of r n L j) (head_of kp nk j)) L

abbrev pub take_in : Option ℕ → Option ℕ → Option ℕ
take_in None c = c
take_in (Some v) c = Some v

abbrev pub or_first : Option ℕ → ℕ → ℕ
or_first None w = w
or_first (Some v) w = v

-- every keep row takes its word in, and gives what its cell then holds
abbrev pub cells_of : (ℕ → Keep) → ℕ → Places → (ℕ → Option ℕ) → ℕ → Option ℕ
cells_of kp nk p c m = cond (nat_lt m nk) (take_in (p (kp m).st (kp m).from) (c m)) (c m)

abbrev pub start_of : (ℕ → Keep) → ℕ → (ℕ → Option ℕ) → Places
start_of kp nk c s x = pick (λ m. ((kp m).st == s) && (kp m).into == x) (λ m. or_first (c m) (kp m).first) nk

abbrev pub present : Row → Places → Bool
present r p = (not (nat_lt 0 r.count) || not (is_none (p r.st r.one))) && (not (nat_lt 1 r.count) || not (is_none (p r.st r.two)))

abbrev pub answered : Test → Option ℕ → Option Bool
answered t None = None
answered t (Some v) = Some (meets t (Some v))

module _ {S : Type 0} (next : S → Work → S) (answer : S → Work → ℕ) (knows : ℕ → ℕ → ℕ → Bool) (r : ℕ → Row) (n L : ℕ) (kp : ℕ → Keep) (nk : ℕ) where
  abbrev pub gives : Row → Bench S → ℕ
  gives q b = given next answer q (record { places = b.places; plant = b.plant })

  abbrev pub own : ℕ → ℕ → Bool
  own j k = owner (r k) == j

  abbrev pub guard : ℕ → ℕ → Bench S → Bool
  guard j k b = is_none (b.units j).busy && (not (own j k) || (present (r k) b.places && cond (r k).sends (is_none b.line) (knows (r k).st (r k).work (r k).count)))

  abbrev pub begin : ℕ → ℕ → ℕ → Bench S → Bench S
  begin j k T b = record {
    places = b.places;
    cells = b.cells;
    plant = cond (own j k && not (r k).sends) (next b.plant (asked (r k) b.places)) b.plant;
    units = λ i. cond (j == i) (record { at = (b.units j).at; pc = (b.units j).pc; busy = Some (record { stop = T + (r k).dur; row = k; word = cond (own j k) (gives (r k) b) 0 }) }) (b.units i);
    line = cond (own j k && (r k).sends) (Some (record { stop = T + (r k).dur; word = gives (r k) b })) b.line;
    mark = λ i. cond (own j k && k == i) (record { count = suc (b.mark k).count; tick = T; first = said (nat_lt 0 (r k).count) (word1 (r k) b.places); second = said (nat_lt 1 (r k).count) (word2 (r k) b.places); given = Some (gives (r k) b) }) (b.mark i);
  }

  abbrev pub wait : ℕ → ℕ → ℕ → ℕ → Bench S → Bench S
  wait j T ticks a b = record {
    places = b.places;
    cells = b.cells;
    plant = b.plant;
    units = λ i. cond (j == i) (record { at = T + ticks; pc = a; busy = (b.units j).busy }) (b.units i);
    line = b.line;
    mark = b.mark;
  }

  -- KEEP, CLEAR and GIVE at station s
  abbrev pub taken : ℕ → ℕ → ℕ → Bench S → Bench S
  taken s x m b = record {
    places = b.places;
    cells = λ i. cond (m == i) (take_in (b.places s x) (b.cells m)) (b.cells i);
    plant = b.plant;
    units = b.units;
    line = b.line;
    mark = b.mark;
  }

  abbrev pub wiped : ℕ → Bench S → Bench S
  wiped s b = record {
    places = λ q x. cond (s == q) None (b.places q x);
    cells = b.cells;
    plant = b.plant;
    units = b.units;
    line = b.line;
    mark = b.mark;
  }

  abbrev pub put : ℕ → ℕ → ℕ → ℕ → Bench S → Bench S
  put s m v w b = record {
    places = λ q x. cond (s == q && v == x) (Some (or_first (b.cells m) w)) (b.places q x);
    cells = b.cells;
    plant = b.plant;
    units = b.units;
    line = b.line;
    mark = b.mark;
  }

  -- what they come to together
  abbrev pub cells_at : ℕ → Bench S → ℕ → Option ℕ
  cells_at s b m = cond ((kp m).st == s) (cells_of kp nk b.places b.cells m) (b.cells m)

  abbrev pub prepared : ℕ → Bench S → Bench S
  prepared s b = record {
    places = λ q x. cond (s == q) (start_of kp nk (cells_at s b) s x) (b.places q x);
    cells = cells_at s b;
    plant = b.plant;
    units = b.units;
    line = b.line;
    mark = b.mark;
  }

  abbrev pub engine : ℕ → ℕ → Engine (Bench S)
  engine j T = record {
    ask = λ t b. answered t (b.places (j / 2) t.var);
    later = wait j T;
    perform = λ k b. cond (guard j k b) (Some (begin j k T b)) None;
    take = taken (j / 2);
    wipe = wiped (j / 2);
    put = put (j / 2);
  }

  abbrev pub turn_at : ℕ → ℕ → Bench S → Option (Bench S)
  turn_at j T b = cond ((b.units j).at == T)
      (cond (is_none (b.units j).busy) (exec (engine j T) (program r n L kp nk j) (suc (length (program r n L kp nk j))) (b.units j).pc b) None)
      (Some b)

  unfoldable pub first_to : ℕ → ℕ → Bench S → Option (Bench S)
  first_to T zero b = Some b
  first_to T (suc j) b = bind (first_to T j b) (turn_at j T)

  abbrev pub store : ℕ → ℕ → ℕ → Bench S → Bench S
  store j k w b = record {
    places = λ s x. cond (j / 2 == s && (r k).out == x) (Some w) (b.places s x);
    cells = b.cells;
    plant = b.plant;
    units = λ i. cond (j == i) (record { at = (b.units j).at; pc = (b.units j).pc; busy = None }) (b.units i);
    line = b.line;
    mark = b.mark;
  }

  abbrev pub release : ℕ → Bench S → Bench S
  release j b = record {
    places = b.places;
    cells = b.cells;
    plant = b.plant;
    units = λ i. cond (j == i) (record { at = (b.units j).at; pc = (b.units j).pc; busy = None }) (b.units i);
    line = b.line;
    mark = b.mark;
  }

  abbrev pub heard : Option Message → ℕ → ℕ → ℕ → Bench S → Option (Bench S)
  heard None T j k b = None
  heard (Some m) T j k b = cond (m.stop == T) (Some (store j k m.word b)) None

  abbrev pub land : ℕ → ℕ → Job → Bench S → Option (Bench S)
  land T j q b = cond (is_line j) (cond (own j q.row) (Some (release j b)) (heard b.line T j q.row b)) (Some (store j q.row q.word b))

  abbrev pub ended : Option Job → ℕ → ℕ → Bench S → Option (Bench S)
  ended None T j b = Some b
  ended (Some q) T j b = cond (q.stop == T) (land T j q b) (Some b)

  unfoldable pub settle_to : ℕ → ℕ → Bench S → Option (Bench S)
  settle_to T zero b = Some b
  settle_to T (suc j) b = bind (settle_to T j b) (λ c. ended (c.units j).busy T j c)

  abbrev pub left : Option Message → ℕ → Option Message
  left None T = None
  left (Some m) T = cond (m.stop == T) None (Some m)

  abbrev pub leave : ℕ → Bench S → Bench S
  leave T b = record { places = b.places; cells = b.cells; plant = b.plant; units = b.units; line = left b.line T; mark = b.mark }

  abbrev pub tick : ℕ → ℕ → Bench S → Option (Bench S)
  tick units T b = bind (first_to T units b) (λ c. bind (settle_to (suc T) units c) (λ d. Some (leave (suc T) d)))

  unfoldable pub ticks : ℕ → ℕ → ℕ → Bench S → Option (Bench S)
  ticks units base zero b = Some b
  ticks units base (suc t) b = bind (ticks units base t b) (tick units (base + t))

  -- what acceptance and fit say besides
  pub record Fit (stations : ℕ) : Type 0 where
    pub stationed : (k : ℕ) → k < n → (r k).st < stations
    pub listening : (k s : ℕ) → k < n → (r k).listeners s ≡ true → s < stations
    pub elsewhere : (k : ℕ) → k < n → (r k).listeners (r k).st ≡ false
    pub known : (k : ℕ) → k < n → (r k).sends ≡ false → knows (r k).st (r k).work (r k).count ≡ true

  -- a cycle that begins at tick base: every unit is due at address 0
  pub record Opened (stations base : ℕ) (b : Bench S) : Type 0 where
    pub at : (j : ℕ) → j < 2 * stations → (b.units j).at ≡ base
    pub pc : (j : ℕ) → j < 2 * stations → (b.units j).pc ≡ 0
    pub free : (j : ℕ) → j < 2 * stations → (b.units j).busy ≡ None
    pub line : b.line ≡ None
    pub out : (s x : ℕ) → stations ≤ s → b.places s x ≡ None

  -- what the reading has after the keep rows
  abbrev pub cells_after : Bench S → ℕ → Option ℕ
  cells_after b = cells_of kp nk b.places b.cells

  abbrev pub began : Bench S → Now S
  began b = record { places = start_of kp nk (cells_after b); plant = b.plant }

  abbrev pub marked : ℕ → Now S → ℕ → Mark → Mark
  marked base a k m = record {
    count = suc m.count;
    tick = base + (r k).date;
    first = said (nat_lt 0 (r k).count) (word1 (r k) (read_to next answer r a k).places);
    second = said (nat_lt 1 (r k).count) (word2 (r k) (read_to next answer r a k).places);
    given = Some (given next answer (r k) (read_to next answer r a k));
  }

  pub record Closed (stations base : ℕ) (b c : Bench S) : Type 0 where
    pub places : (s x : ℕ) → c.places s x ≡ (read_to next answer r (began b) n).places s x
    pub cells : (m : ℕ) → c.cells m ≡ cells_after b m
    pub plant : c.plant ≡ (read_to next answer r (began b) n).plant
    pub mark : (k : ℕ) → k < n → c.mark k ≡ cond (performed next answer r (began b) k) (marked base (began b) k (b.mark k)) (b.mark k)
    pub again : Opened stations (base + L) c

abbrev pub CyclePromise : (S : Type 0) → (S → Work → S) → (S → Work → ℕ) → Type 0
CyclePromise S next answer = (knows : ℕ → ℕ → ℕ → Bool) (r : ℕ → Row) (n L : ℕ) (kp : ℕ → Keep) (nk stations base : ℕ) (basis : ℕ → Option ℕ) (b : Bench S)
    → 0 < L → ((m : ℕ) → m < nk → (kp m).st < stations)
    → Accepted r n L (began next answer knows r n L kp nk b).places basis → Fit next answer knows r n L kp nk stations → Opened next answer knows r n L kp nk stations base b
    → (c : Bench S) × (ticks next answer knows r n L kp nk (2 * stations) base L b ≡ Some c) × Closed next answer knows r n L kp nk stations base b c

-- and at each date of it no tick was refused, and the marks of the rows begun are written
abbrev pub DatePromise : (S : Type 0) → (S → Work → S) → (S → Work → ℕ) → Type 0
DatePromise S next answer = (knows : ℕ → ℕ → ℕ → Bool) (r : ℕ → Row) (n L : ℕ) (kp : ℕ → Keep) (nk stations base : ℕ) (basis : ℕ → Option ℕ) (b : Bench S)
    → 0 < L → ((m : ℕ) → m < nk → (kp m).st < stations)
    → Accepted r n L (began next answer knows r n L kp nk b).places basis → Fit next answer knows r n L kp nk stations → Opened next answer knows r n L kp nk stations base b
    → (t : ℕ) → t ≤ L → (c : Bench S) × (ticks next answer knows r n L kp nk (2 * stations) base t b ≡ Some c)
    × ((k : ℕ) → k < n → c.mark k ≡ cond (performed next answer r (began next answer knows r n L kp nk b) k && nat_lt (r k).date t) (marked next answer knows r n L kp nk base (began next answer knows r n L kp nk b) k (b.mark k)) (b.mark k))
