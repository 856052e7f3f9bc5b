use Rattle.std.proofs.Common.{◌≡◌, ℕ, zero, suc, ◌+◌, ◌/◌, ◌%◌, ◌^◌, ◌<◌, ◌≤◌, Bool, true, false, cond, List, [], ◌∷◌, ◌++◌, length, get_or, take, Some, None, Decides, Option, refl, ⊎_elim, arith}
use Rattle.std.specs.List.{AllByRecursion}
use Rattle.std.proofs.ByRecursion.{All-append}
use Rattle.std.proofs.lemmas.Bool.{cases_eq, false≢true}
use Rattle.std.proofs.lemmas.Bool.Decides.{Decides-eqb}
use Rattle.sheet.specs.declared.row.Head.{Head}
use Rattle.sheet.specs.declared.row.Condition.{Condition}
use Rattle.sheet.specs.declared.row.Condition.TheVariants.{Always, One, Two, Three, Four}
use Rattle.sheet.specs.declared.row.Inputs.{Inputs}
use Rattle.sheet.specs.declared.row.Inputs.TheVariants.{Nothing, Single, Pair}
use Rattle.sheet.specs.declared.row.Call.{Call}
use Rattle.sheet.specs.declared.row.Send.{Send}
use Rattle.judge.specs.declared.need.Need.{Need}
use Rattle.sheet.specs.declared.row.Row.{Row}
use Rattle.sheet.specs.declared.row.Row.TheVariants.{Keep as keep_row, Call as call_row, Send as send_row}
use Rattle.sheet.specs.Rows.{tests_of, inputs_of}
use Rattle.judge.specs.Verdict.{provides, available, first_unavailable, listens, need_at, test_needs, input_needs, heard_needs, listener_needs, needs_of}
use Rattle.judge.specs.Rules.{Listens, FieldsWithin, Provides, Available, TestsAvailable, ReadsAvailable}
use Rattle.judge.specs.Right.{Met, FirstUnmet}
use Rattle.judge.proofs.Decided.{provides-decides}
use Rattle.judge.proofs.Searches.{some-decides}

pub met-decides : (rows : List Row) (r : ℕ) (w : Need) → r ≤ length rows → Decides (available (take r rows) w) (Met rows r w)
met-decides rows r w l =
    some-decides (λ x. provides x w) (λ x. Provides x w.station w.variable w.date (tests_of w.after)) (λ x. provides-decides x w) rows r l

-- The answer of the search among needs.
abbrev pub UnavailableAt : List Row → ℕ → List Need → Option ℕ → Type 0
UnavailableAt rows r ws None = AllByRecursion (Met rows r) ws
UnavailableAt rows r ws (Some v) = FirstUnmet rows r ws v

met-more : (rows : List Row) (r : ℕ) (w : Need) (ws : List Need) (n : ℕ) → Met rows r w
    → ((j : ℕ) (d : Need) → j < n → Met rows r (get_or ws j d)) → (j : ℕ) (d : Need) → j < suc n → Met rows r (get_or (w ∷ ws) j d)
met-more rows r w ws n m a zero d h = m
met-more rows r w ws n m a (suc j) d h = a j d (omega arith)

unavailable-step : (rows : List Row) (r : ℕ) (w : Need) (ws : List Need) (b : Bool) (o : Option ℕ) → Decides b (Met rows r w)
    → UnavailableAt rows r ws o → UnavailableAt rows r (w ∷ ws) (cond b o (Some w.variable))
unavailable-step rows r w ws true None e a = (e.0 refl, a)
unavailable-step rows r w ws true (Some v) e a =
    (suc a.0, omega (arith, a.1), a.2, met-more rows r w ws a.0 (e.0 refl) a.3)
unavailable-step rows r w ws false o e a =
    (0, omega arith, (λ d. (refl, λ m. false≢true (e.1 m))), λ j d h. absurd (omega arith))

pub unavailable-answers : (rows : List Row) (r : ℕ) (ws : List Need) → r ≤ length rows
    → UnavailableAt rows r ws (first_unavailable (take r rows) ws)
unavailable-answers rows r [] l = tt
unavailable-answers rows r (w ∷ ws) l =
    unavailable-step rows r w ws (available (take r rows) w) (first_unavailable (take r rows) ws) (met-decides rows r w l)
    (unavailable-answers rows r ws l)

pub all_split : {X : Type 0} (P : X → Type 0) (xs ys : List X) → AllByRecursion P (xs ++ ys) → AllByRecursion P xs × AllByRecursion P ys
all_split P [] ys a = (tt, a)
all_split P (x ∷ xs) ys a = let s = all_split P xs ys a.1 in ((a.0, s.0), s.1)

module _ (rows : List Row) (r : ℕ) where
  tests-to : (n d : ℕ) (c : Condition) → AllByRecursion (Met rows r) (test_needs n d c) → TestsAvailable rows r n d (tests_of c)
  tests-to n d Always a i h = absurd (omega arith)
  tests-to n d (One t) a zero h = a.0
  tests-to n d (One t) a (suc i) h = absurd (omega arith)
  tests-to n d (Two t u) a zero h = a.0
  tests-to n d (Two t u) a (suc zero) h = a.1.0
  tests-to n d (Two t u) a (suc (suc i)) h = absurd (omega arith)
  tests-to n d (Three t u v) a zero h = a.0
  tests-to n d (Three t u v) a (suc zero) h = a.1.0
  tests-to n d (Three t u v) a (suc (suc zero)) h = a.1.1.0
  tests-to n d (Three t u v) a (suc (suc (suc i))) h = absurd (omega arith)
  tests-to n d (Four t u v x) a zero h = a.0
  tests-to n d (Four t u v x) a (suc zero) h = a.1.0
  tests-to n d (Four t u v x) a (suc (suc zero)) h = a.1.1.0
  tests-to n d (Four t u v x) a (suc (suc (suc zero))) h = a.1.1.1.0
  tests-to n d (Four t u v x) a (suc (suc (suc (suc i)))) h = absurd (omega arith)

  tests-from : (n d : ℕ) (c : Condition) → TestsAvailable rows r n d (tests_of c) → AllByRecursion (Met rows r) (test_needs n d c)
  tests-from n d Always a = tt
  tests-from n d (One t) a = (a 0 (omega arith), tt)
  tests-from n d (Two t u) a = (a 0 (omega arith), (a 1 (omega arith), tt))
  tests-from n d (Three t u v) a = (a 0 (omega arith), (a 1 (omega arith), (a 2 (omega arith), tt)))
  tests-from n d (Four t u v x) a = (a 0 (omega arith), (a 1 (omega arith), (a 2 (omega arith), (a 3 (omega arith), tt))))

  inputs-to : (c : Call Condition) (i : Inputs) → AllByRecursion (Met rows r) (input_needs c i)
      → AllByRecursion (λ v. Available rows r c.station v c.date (tests_of c.condition)) (inputs_of i)
  inputs-to c Nothing a = tt
  inputs-to c (Single x) a = a
  inputs-to c (Pair x y) a = a

  inputs-from : (c : Call Condition) (i : Inputs) → AllByRecursion (λ v. Available rows r c.station v c.date (tests_of c.condition)) (inputs_of i)
      → AllByRecursion (Met rows r) (input_needs c i)
  inputs-from c Nothing a = tt
  inputs-from c (Single x) a = a
  inputs-from c (Pair x y) a = a

  -- The stations from `n`, `k` of them, that listen have their tests available.
  abbrev Heard : Send Condition → ℕ → ℕ → Type 0
  Heard s k n = (m : ℕ) → n ≤ m → m < n + k → Listens s.listeners m → TestsAvailable rows r m s.date (tests_of s.condition)

  picked-to : (b : Bool) (L : Type 0) (xs : List Need) → Decides b L → AllByRecursion (Met rows r) (cond b xs []) → L → AllByRecursion (Met rows r) xs
  picked-to true L xs e a l = a
  picked-to false L xs e a l = absurd (false≢true (e.1 l))

  picked-from : (b : Bool) (L : Type 0) (xs : List Need) → Decides b L → (L → AllByRecursion (Met rows r) xs) → AllByRecursion (Met rows r) (cond b xs [])
  picked-from true L xs e f = f (e.0 refl)
  picked-from false L xs e f = tt

  heard-to : (s : Send Condition) (k n : ℕ) → AllByRecursion (Met rows r) (listener_needs s k n) → Heard s k n
  heard-to s zero n a m h l x = absurd (omega arith)
  heard-to s (suc k) n a m h l x =
      let p = all_split (Met rows r) (heard_needs s n) (listener_needs s k (n + 1)) a in
      ⊎_elim (λ (e : m ≡ n). tests-to m s.date s.condition (at m e p.0 x)) (λ (q : m ≡ n → ⊥). heard-to s k (n + 1) p.1 m (omega arith) (omega arith) x) (cases_eq m n)
    where
      at : (m : ℕ) → m ≡ n → AllByRecursion (Met rows r) (heard_needs s n) → Listens s.listeners m → AllByRecursion (Met rows r) (test_needs m s.date s.condition)
      at m e b y =
          rw e (picked-to (listens s.listeners n) (Listens s.listeners n) (test_needs n s.date s.condition) (Decides-eqb (s.listeners / 2 ^ n % 2) 1) b (rw e at y))

  heard-from : (s : Send Condition) (k n : ℕ) → Heard s k n → AllByRecursion (Met rows r) (listener_needs s k n)
  heard-from s zero n f = tt
  heard-from s (suc k) n f =
      All-append (Met rows r) (heard_needs s n) (listener_needs s k (n + 1))
      (picked-from (listens s.listeners n) (Listens s.listeners n) (test_needs n s.date s.condition) (Decides-eqb (s.listeners / 2 ^ n % 2) 1)
      (λ l. tests-from n s.date s.condition (f n (omega arith) (omega arith) l)))
      (heard-from s k (n + 1) (λ m h l x. f m (omega arith) (omega arith) x))

  pub reads-to : (h : Head) (x : Row) → FieldsWithin h x → AllByRecursion (Met rows r) (needs_of h x) → ReadsAvailable rows r x
  reads-to h (keep_row k) f a = tt
  reads-to h (call_row c) f a =
      let p = all_split (Met rows r) (test_needs c.station c.date c.condition) (input_needs c c.inputs) a in
      (tests-to c.station c.date c.condition p.0, inputs-to c c.inputs p.1)
  reads-to h (send_row s) f a =
      let p = all_split (Met rows r) (test_needs s.station s.date s.condition) (need_at s.station s.date s.variable s.condition ∷ listener_needs s h.stations 0) a in
      (tests-to s.station s.date s.condition p.0, (p.1.0, λ n x. heard-to s h.stations 0 p.1.1 n (omega arith) (omega (arith, f.1.1.1.0 n x)) x))

  pub reads-from : (h : Head) (x : Row) → ReadsAvailable rows r x → AllByRecursion (Met rows r) (needs_of h x)
  reads-from h (keep_row k) a = tt
  reads-from h (call_row c) a =
      All-append (Met rows r) (test_needs c.station c.date c.condition) (input_needs c c.inputs)
      (tests-from c.station c.date c.condition a.0) (inputs-from c c.inputs a.1)
  reads-from h (send_row s) a =
      All-append (Met rows r) (test_needs s.station s.date s.condition) (need_at s.station s.date s.variable s.condition ∷ listener_needs s h.stations 0)
      (tests-from s.station s.date s.condition a.0) (a.1.0, heard-from s h.stations 0 (λ m h l x. a.1.1 m x))
