-- Calls and sends with conditions, listeners and a plant: the untimed reading of one cycle, and the rules of acceptance.
use Rattle.std.specs.Prelude.{◌≡◌, ℕ, zero, suc, ◌+◌, ◌<◌, ◌≤◌, Bool, true, false, cond, not, ◌&&◌, ◌⊎◌, List, [], ◌∷◌, ◌++◌, Some, None, Option, ◌==◌, ◌≢◌, nat_lt}
use Rattle.plant.specs.Model.{Work}

pub record Test : Type 0 where
  pub var : ℕ
  pub equal : Bool
  pub word : ℕ

abbrev pub meets : Test → Option ℕ → Bool
meets t None = false
meets t (Some v) = cond t.equal (v == t.word) (not (v == t.word))

unfoldable pub all_meet : List Test → (ℕ → Option ℕ) → Bool
all_meet [] p = true
all_meet (t ∷ c) p = meets t (p t.var) && all_meet c p

-- a call or a send. A send has one input, which is its output, and gives what it reads
pub record Row : Type 0 where
  pub sends : Bool
  pub st : ℕ
  pub work : ℕ
  pub count : ℕ
  pub one : ℕ
  pub two : ℕ
  pub out : ℕ
  pub listeners : ℕ → Bool
  pub date : ℕ
  pub dur : ℕ
  pub tests : List Test

abbrev pub ends : Row → ℕ
ends r = r.date + r.dur

abbrev pub reaches : Row → ℕ → Bool
reaches r s = cond r.sends (r.listeners s) (r.st == s)

abbrev pub Places : Type 0
Places = ℕ → ℕ → Option ℕ

abbrev pub word_of : Option ℕ → ℕ
word_of None = 0
word_of (Some v) = v

abbrev pub word1 : Row → Places → ℕ
word1 r p = cond (nat_lt 0 r.count) (word_of (p r.st r.one)) 0

abbrev pub word2 : Row → Places → ℕ
word2 r p = cond (nat_lt 1 r.count) (word_of (p r.st r.two)) 0

abbrev pub asked : Row → Places → Work
asked r p = record { station = r.st; number = r.work; count = r.count; first = word1 r p; second = word2 r p }

pub record Now (S : Type 0) : Type 0 where
  pub places : Places
  pub plant : S

module _ {S : Type 0} (next : S → Work → S) (answer : S → Work → ℕ) where
  abbrev pub given : Row → Now S → ℕ
  given r n = cond r.sends (word1 r n.places) (answer n.plant (asked r n.places))

  abbrev pub do_row : Row → Now S → Now S
  do_row r n = record {
    places = λ s x. cond (all_meet r.tests (n.places r.st) && (reaches r s && r.out == x)) (Some (given r n)) (n.places s x);
    plant = cond (all_meet r.tests (n.places r.st) && not r.sends) (next n.plant (asked r n.places)) n.plant;
  }

  unfoldable pub read_to : (ℕ → Row) → Now S → ℕ → Now S
  read_to r a zero = a
  read_to r a (suc i) = do_row (r i) (read_to r a i)

abbrev pub Mem : Test → List Test → Type 0
Mem t [] = ⊥
Mem t (u ∷ c) = (t ≡ u) ⊎ Mem t c

abbrev pub Apart : Test → Test → Type 0
Apart t u = (t.var ≡ u.var)
    × (((t.equal ≡ true) × (u.equal ≡ true) × (t.word ≢ u.word)) ⊎ ((t.word ≡ u.word) × (t.equal ≡ not u.equal)))

abbrev pub Excludes : List Test → List Test → Type 0
Excludes c d = (t : Test) × (u : Test) × Mem t c × Mem u d × Apart t u

abbrev pub Within : List Test → List Test → Type 0
Within c d = (t : Test) → Mem t c → Mem t d

-- the row concerns a station: its own, or a listener's
abbrev pub Concerns : Row → ℕ → Type 0
Concerns r s = (r.st ≡ s) ⊎ ((r.sends ≡ true) × (r.listeners s ≡ true))

-- variable x is at supply for row i at station s after tests c; start is what the keep rows give
abbrev pub Supply : (ℕ → Row) → Places → ℕ → ℕ → List Test → ℕ → Type 0
Supply r start i s c x = ((w : ℕ) × (start s x ≡ Some w))
    ⊎ ((j : ℕ) × (j < i) × (reaches (r j) s ≡ true) × ((r j).out ≡ x) × (ends (r j) ≤ (r i).date) × Within (r j).tests c)

-- start: what the keep rows give; basis: the same by variable alone
pub record Accepted (r : ℕ → Row) (n L : ℕ) (start : Places) (basis : ℕ → Option ℕ) : Type 0 where
  pub long : (i : ℕ) → i < n → 0 < (r i).dur
  pub inside : (i : ℕ) → i < n → ends (r i) ≤ L
  pub copies : (i : ℕ) → i < n → (r i).sends ≡ true → ((r i).one ≡ (r i).out) × ((r i).count ≡ 1)
  pub kept : (s x w : ℕ) → start s x ≡ Some w → basis x ≡ Some w
  pub free : (i : ℕ) → i < n → (r i).sends ≡ false → basis (r i).out ≡ None
  pub writers : (i j : ℕ) → i < j → j < n → (r i).sends ≡ false → (r j).sends ≡ false → (r i).out ≡ (r j).out → Excludes (r i).tests (r j).tests
  pub calls : (i j : ℕ) → i < j → j < n → (r i).sends ≡ false → (r j).sends ≡ false → (r i).st ≡ (r j).st
      → Excludes (r i).tests (r j).tests ⊎ (ends (r i) ≤ (r j).date)
  pub lines : (i j : ℕ) → i < j → j < n → (r i).sends ≡ true → (r j).sends ≡ true
      → Excludes (r i).tests (r j).tests ⊎ ((ends (r i) ≤ (r j).date) ⊎ (ends (r j) ≤ (r i).date))
  pub tested : (i s : ℕ) → i < n → Concerns (r i) s → (c : List Test) (t : Test) (d : List Test) → (r i).tests ≡ c ++ (t ∷ d) → Supply r start i s c t.var
  pub first : (i : ℕ) → i < n → 0 < (r i).count → Supply r start i (r i).st (r i).tests (r i).one
  pub second : (i : ℕ) → i < n → 1 < (r i).count → Supply r start i (r i).st (r i).tests (r i).two

-- ONE VALUATION: at the end of a cycle there is one word for each variable; every place is empty or holds it,
-- and a row is performed exactly when its tests meet it, at its own station and at each listener
abbrev pub performed : {S : Type 0} → (S → Work → S) → (S → Work → ℕ) → (ℕ → Row) → Now S → ℕ → Bool
performed next answer r a i = all_meet (r i).tests ((read_to next answer r a i).places (r i).st)

abbrev pub OneValuation : (S : Type 0) → (S → Work → S) → (S → Work → ℕ) → (ℕ → Row) → Now S → Type 0
OneValuation S next answer r a = (n L : ℕ) (basis : ℕ → Option ℕ) → Accepted r n L a.places basis
    → (v : ℕ → Option ℕ)
    × ((s x w : ℕ) → (read_to next answer r a n).places s x ≡ Some w → v x ≡ Some w)
    × ((i : ℕ) → i < n → performed next answer r a i ≡ all_meet (r i).tests v)
