-- Running a program from the address of a date is the turn of that date.
use Rattle.std.proofs.Common.{◌≡◌, ℕ, zero, suc, ◌+◌, ◌-◌, ◌<◌, ◌≤◌, Bool, true, false, cond, ◌⊎◌, List, [], ◌∷◌, ◌++◌, length, get_or, Some, None, Option, sym, refl, ap, ◌∙◌, subst, ap₂, inl, inr, ⊎_elim, append_assoc, append-nil, add-zero, add-suc, zero-add, add-one, arith, length-append}
use lib.Seq.{get_or_at}
use Rattle.std.proofs.lemmas.Bool.{cases_Bool, cond-true, cond-false, both_ways}
use Rattle.schedule.specs.Rows.{Test}
use Rattle.schedule.proofs.Wake.{wake-skip, due-date}
use Rattle.schedule.specs.Program.{Step, Engine, tested, acted, one, exec, asks, onward, Share, row_len, due, rows_len, is_date, wake, addr, target, test_code, row_code, rows_code, code_to, row_turn, turn, Layout, opening, open_len, Opening, plain, Plain, plainly, heads}

-- the code c stands in p at pc
Has : List Step → ℕ → List Step → Type 0
Has p pc c = (pre : List Step) × (post : List Step) × (p ≡ pre ++ (c ++ post)) × (length pre ≡ pc)

has-head : (p : List Step) (pc : ℕ) (x : Step) (c : List Step) → Has p pc (x ∷ c) → get_or p pc Step.halt ≡ x
unfolding Has
has-head p pc x c (pre, post, e, l) = ap (λ q. get_or q pc Step.halt) e ∙ get_or_at pre x (c ++ post) Step.halt pc l

has-below : (p : List Step) (pc : ℕ) (x : Step) (c : List Step) → Has p pc (x ∷ c) → pc < length p
unfolding Has
has-below p pc x c (pre, post, e, l) = let a = ap length e ∙ length-append pre (x ∷ (c ++ post)) in omega arith

has_right : (p : List Step) (pc : ℕ) (a b : List Step) → Has p pc (a ++ b) → Has p (pc + length a) b
unfolding Has
has_right p pc a b (pre, post, e, l) = (pre ++ a, post, e ∙ ap (λ q. pre ++ q) (append_assoc a b post) ∙ sym (append_assoc pre a (b ++ post)), length-append pre a ∙ ap (λ k. k + length a) l)

has_left : (p : List Step) (pc : ℕ) (a b : List Step) → Has p pc (a ++ b) → Has p pc a
unfolding Has
has_left p pc a b (pre, post, e, l) = (pre, b ++ post, e ∙ ap (λ q. pre ++ q) (append_assoc a b post), l)

has-tail : (p : List Step) (pc : ℕ) (x : Step) (c : List Step) → Has p pc (x ∷ c) → Has p (suc pc) c
has-tail p pc x c h = rw add-one at (has_right p pc (x ∷ []) c h)

module _ {S : Type 0} (e : Engine S) (p : List Step) where
  -- with enough fuel the run from pc comes to z
  Runs : ℕ → S → Option S → Type 0
  Runs pc s z = (f : ℕ) → length p ≤ f + pc → exec e p f pc s ≡ z

  -- one step
  by-step : (pc : ℕ) (x : Step) (c : List Step) (s : S) (z : Option S) → Has p pc (x ∷ c)
      → ((f : ℕ) → length p ≤ f + suc pc → one e x pc (exec e p f) s ≡ z) → Runs pc s z
  unfolding Runs exec
  by-step pc x c s z h k zero l = absurd (omega (arith, has-below p pc x c h))
  by-step pc x c s z h k (suc f) l = ap (λ y. one e y pc (exec e p f) s) (has-head p pc x c h) ∙ k f (omega arith)

  runs-halt : (pc : ℕ) (c : List Step) (s : S) → Has p pc (Step.halt ∷ c) → Runs pc s (Some s)
  runs-halt pc c s h = by-step pc Step.halt c s (Some s) h (λ f l. refl)

  runs-future : (pc n a : ℕ) (c : List Step) (s : S) (z : Option S) → Has p pc (Step.future n a ∷ c) → Runs (suc pc) (e.later n a s) z → Runs pc s z
  unfolding Runs
  runs-future pc n a c s z h k = by-step pc (Step.future n a) c s z h (λ f l. k f l)

  runs-act : (pc k : ℕ) (c : List Step) (s : S) → Has p pc (Step.act k ∷ Step.halt ∷ c) → Runs pc s (e.perform k s)
  unfolding Runs
  runs-act pc k c s h = by-step pc (Step.act k) (Step.halt ∷ c) s (e.perform k s) h (λ f l. go f l (e.perform k s))
    where
      go : (f : ℕ) → length p ≤ f + suc pc → (o : Option S) → acted e o pc (exec e p f) ≡ o
      go f l None = refl
      go f l (Some u) = runs-halt (suc pc) c u (has-tail p pc (Step.act k) (Step.halt ∷ c) h) f l

  runs-test : (pc : ℕ) (t : Test) (a : ℕ) (c : List Step) (s : S) (z : Option S) → Has p pc (Step.test t a ∷ c) → pc < a
      → (e.ask t s ≡ Some true → Runs (suc pc) s z) → (e.ask t s ≡ Some false → Runs a s z) → (e.ask t s ≡ None → z ≡ None) → Runs pc s z
  unfolding Runs
  runs-test pc t a c s z h l yes' no' none = by-step pc (Step.test t a) c s z h (λ f g. go f g (e.ask t s) refl)
    where
      go : (f : ℕ) → length p ≤ f + suc pc → (o : Option Bool) → e.ask t s ≡ o → tested e o pc a (exec e p f) s ≡ z
      go f g None q = sym (none q)
      go f g (Some true) q = yes' q f g
      go f g (Some false) q = no' q f (omega arith)

  -- the tests of a row
  runs-tests : (h : Share) (c : List Test) (pc a : ℕ) (more : List Step) (s : S) (z : Option S) → Has p pc (test_code h c a ++ more) → pc + length c < a
      → (asks e c s ≡ Some true → Runs (pc + length c) s z) → (asks e c s ≡ Some false → Runs a s z) → (asks e c s ≡ None → z ≡ None) → Runs pc s z
  unfolding test_code asks
  runs-tests h [] pc a more s z k l yes' no' none = rw add-zero at (yes' refl)
  runs-tests h (t ∷ c) pc a more s z k l yes' no' none =
      runs-test pc t a (test_code h c a ++ more) s z k (omega arith)
      (λ q. runs-tests h c (suc pc) a more s z (has-tail p pc _ _ k) (omega arith)
      (λ m. rw e1 at (yes' (step q ∙ m))) (λ m. no' (step q ∙ m)) (λ m. none (step q ∙ m)))
      (λ q. no' (stop q))
      (λ q. none (gone q))
    where
      e1 : pc + length (t ∷ c) ≡ suc pc + length c
      e1 = omega arith

      step : e.ask t s ≡ Some true → asks e (t ∷ c) s ≡ asks e c s
      step q = ap (λ o. onward e o (asks e c s)) q

      stop : e.ask t s ≡ Some false → asks e (t ∷ c) s ≡ Some false
      stop q = ap (λ o. onward e o (asks e c s)) q

      gone : e.ask t s ≡ None → asks e (t ∷ c) s ≡ None
      gone q = ap (λ o. onward e o (asks e c s)) q

pub length-tests : (h : Share) (c : List Test) (a : ℕ) → length (test_code h c a) ≡ length c
unfolding test_code
length-tests h [] a = refl
length-tests h (t ∷ c) a = ap suc (length-tests h c a)

pub length-row : (h : Share) (o d k b : ℕ) → length (row_code h o d k b) ≡ row_len h k
length-row h o d k b = length-append (test_code h (h.tests k) (b + row_len h k)) _ ∙ ap (λ n. n + 3) (length-tests h (h.tests k) (b + row_len h k))

pub length-rows : (h : Share) (o d i m b : ℕ) → length (rows_code h o d i m b) ≡ rows_len h d i m + 2
unfolding rows_code rows_len
length-rows h o d i zero b = refl
length-rows h o d i (suc m) b = go (cases_Bool (due h d i)) (length-rows h o d (suc i) m)
  where
    go : (due h d i ≡ true) ⊎ (due h d i ≡ false) → ((b : ℕ) → length (rows_code h o d (suc i) m b) ≡ rows_len h d (suc i) m + 2) → length (rows_code h o d i (suc m) b) ≡ rows_len h d i (suc m) + 2
    go (inl q) ih =
        let a = ap length (cond-true (due h d i) (row_code h o d i b ++ rows_code h o d (suc i) m (b + row_len h i)) (rows_code h o d (suc i) m b) q)
        ∙ length-append (row_code h o d i b) (rows_code h o d (suc i) m (b + row_len h i)) ∙ ap₂ ◌+◌ (length-row h o d i b) (ih (b + row_len h i)) in
        let c : cond (due h d i) (row_len h i) 0 ≡ row_len h i = cond-true _ _ _ q in
        omega arith
    go (inr q) ih =
        let a = ap length (cond-false (due h d i) (row_code h o d i b ++ rows_code h o d (suc i) m (b + row_len h i)) (rows_code h o d (suc i) m b) q) ∙ ih b in
        let c : cond (due h d i) (row_len h i) 0 ≡ 0 = cond-false _ _ _ q in
        omega arith

module _ {S : Type 0} (e : Engine S) (p : List Step) (h : Share) (o d : ℕ) where
  runs-row : (i b : ℕ) (s : S) (rest : List Step) (other : Option S) → Has p b (row_code h o d i b ++ rest) → (Has p (b + row_len h i) rest → Runs e p (b + row_len h i) s other)
      → Runs e p b s (row_turn h e o d i (asks e (h.tests i) s) s other)
  runs-row i b s rest other k more =
      runs-tests e p h c b (b + row_len h i) fin s _ row (omega arith)
      (λ m. subst (λ u. Runs e p (b + length c) s (row_turn h e o d i u s other)) (sym m) (runs-future e p (b + length c) _ _ _ s _ fins (runs-act e p (suc (b + length c)) i [] _ (has-tail p (b + length c) _ _ fins))))
      (λ m. subst (λ u. Runs e p (b + row_len h i) s (row_turn h e o d i u s other)) (sym m) (more after))
      (λ m. ap (λ u. row_turn h e o d i u s other) m)
    where
      c : List Test
      c = h.tests i

      fin : List Step
      fin = Step.future (wake h (h.stop i) - d) (target h o (wake h (h.stop i))) ∷ Step.act i ∷ Step.halt ∷ []

      row : Has p b (test_code h c (b + row_len h i) ++ fin)
      row = has_left p b (row_code h o d i b) rest k

      fins : Has p (b + length c) fin
      fins = subst (λ z. Has p (b + z) fin) (length-tests h c (b + row_len h i)) (has_right p b (test_code h c (b + row_len h i)) fin row)

      after : Has p (b + row_len h i) rest
      after = subst (λ z. Has p (b + z) rest) (length-row h o d i b) (has_right p b (row_code h o d i b) rest k)

  runs-rows : (m i b : ℕ) (s : S) → Has p b (rows_code h o d i m b) → Runs e p b s (turn h e o d i m s)
  unfolding rows_code turn
  runs-rows zero i b s k = runs-future e p b _ _ _ s _ k (runs-halt e p (suc b) [] _ (has-tail p b _ _ k))
  runs-rows (suc m) i b s k = go (cases_Bool (due h d i)) (runs-rows m (suc i))
    where
      go : (due h d i ≡ true) ⊎ (due h d i ≡ false) → ((b : ℕ) (s : S) → Has p b (rows_code h o d (suc i) m b) → Runs e p b s (turn h e o d (suc i) m s)) → Runs e p b s (turn h e o d i (suc m) s)
      go (inr q) ih = subst (Runs e p b s) (sym (cond-false (due h d i) _ _ q)) (ih b s (subst (Has p b) (cond-false (due h d i) _ _ q) k))
      go (inl q) ih = subst (Runs e p b s) (sym (cond-true (due h d i) _ _ q)) (runs-row i b s _ _ (subst (Has p b) (cond-true (due h d i) _ _ q) k) (λ z. ih (b + row_len h i) s z))

module _ (h : Share) (pre : List Step) where
  pub length-code : (d : ℕ) → length (code_to h pre d) ≡ addr h (length pre) d
  unfolding code_to addr
  length-code zero = refl
  length-code (suc d) = length-append (code_to h pre d) _ ∙ ap₂ ◌+◌ (length-code d) (go (cases_Bool (is_date h d)))
    where
      block : List Step
      block = rows_code h (length pre) d 0 h.rows (addr h (length pre) d)

      go : (is_date h d ≡ true) ⊎ (is_date h d ≡ false) → length (cond (is_date h d) block []) ≡ cond (is_date h d) (rows_len h d 0 h.rows + 2) 0
      go (inl q) = ap length (cond-true (is_date h d) block [] q) ∙ length-rows h (length pre) d 0 h.rows (addr h (length pre) d) ∙ sym (cond-true (is_date h d) _ _ q)
      go (inr q) = ap length (cond-false (is_date h d) block [] q) ∙ sym (cond-false (is_date h d) _ _ q)

  -- the code up to a later date begins with the code up to an earlier one
  more-code : (d k : ℕ) → (post : List Step) × (code_to h pre (d + k) ≡ code_to h pre d ++ post)
  unfolding code_to
  more-code d zero = ([], ap (code_to h pre) (add-zero d) ∙ sym (append-nil (code_to h pre d)))
  more-code d (suc k) = go (more-code d k)
    where
      go : (post : List Step) × (code_to h pre (d + k) ≡ code_to h pre d ++ post) → (post : List Step) × (code_to h pre (d + suc k) ≡ code_to h pre d ++ post)
      go (post, q) = (post ++ new, ap (code_to h pre) (add-suc d k) ∙ ap (λ z. z ++ new) q ∙ append_assoc (code_to h pre d) post new)
        where
          new : List Step
          new = cond (is_date h (d + k)) (rows_code h (length pre) (d + k) 0 h.rows (addr h (length pre) (d + k))) []

  has_block : (d : ℕ) → d < h.cycle → is_date h d ≡ true → Has (code_to h pre h.cycle) (addr h (length pre) d) (rows_code h (length pre) d 0 h.rows (addr h (length pre) d))
  unfolding code_to Has
  has_block d l q = go (more-code (suc d) (h.cycle - suc d))
    where
      block : List Step
      block = rows_code h (length pre) d 0 h.rows (addr h (length pre) d)

      e1 : suc d + (h.cycle - suc d) ≡ h.cycle
      e1 = omega arith

      go : (post : List Step) × (code_to h pre (suc d + (h.cycle - suc d)) ≡ code_to h pre (suc d) ++ post) → Has (code_to h pre h.cycle) (addr h (length pre) d) block
      go (post, z) = (code_to h pre d, post, ap (code_to h pre) (sym e1) ∙ z ∙ ap (λ c. (code_to h pre d ++ c) ++ post) (cond-true (is_date h d) block [] q) ∙ append_assoc (code_to h pre d) block post, length-code d)

pub layout-any : {S : Type 0} (h : Share) (pre : List Step) (d : ℕ) → d < h.cycle → is_date h d ≡ true → (e : Engine S) (s : S)
    → exec e (code_to h pre h.cycle) (suc (length (code_to h pre h.cycle))) (addr h (length pre) d) s ≡ turn h e (length pre) d 0 h.rows s
unfolding Runs
layout-any h pre d l q e s = runs-rows e _ h (length pre) d h.rows 0 (addr h (length pre) d) s (has_block h pre d l q) (suc (length (code_to h pre h.cycle))) (omega arith)

pub layout-stands : Layout
layout-stands h pre d l q e s = layout-any h pre d l q e s

-- THE OPENING
pub length-opening : (h : Share) (head : List Step) → length (opening h head) ≡ open_len h head
length-opening h head = length-append head _ ∙ ap (λ z. length head + z) (go (is_date h 0))
  where
    o : ℕ
    o = open_len h head

    go : (d : Bool) → length (cond d [] (Step.future (wake h 0) (target h o (wake h 0)) ∷ Step.halt ∷ [])) ≡ cond d 0 2
    go true = refl
    go false = refl

-- steps that only go on
module _ {S : Type 0} (e : Engine S) where
  one_plain : (x : Step) (pc : ℕ) (go : ℕ → S → Option S) (s : S) → plain x ≡ true → one e x pc go s ≡ go (suc pc) (plainly e x s)
  one_plain (Step.keep x m) pc go s q = refl
  one_plain Step.clear pc go s q = refl
  one_plain (Step.give m x w) pc go s q = refl
  one_plain (Step.test t a) pc go s q = absurd (both_ways false refl q)
  one_plain (Step.future n a) pc go s q = absurd (both_ways false refl q)
  one_plain Step.halt pc go s q = absurd (both_ways false refl q)
  one_plain (Step.act k) pc go s q = absurd (both_ways false refl q)

  pub heads-append : (c d : List Step) (s : S) → heads e (c ++ d) s ≡ heads e d (heads e c s)
  unfolding heads
  heads-append [] d s = refl
  heads-append (x ∷ c) d s = heads-append c d (plainly e x s)

  runs-heads : (p c more : List Step) (pc : ℕ) (s : S) (z : Option S) → Plain c → Has p pc (c ++ more) → Runs e p (pc + length c) (heads e c s) z → Runs e p pc s z
  unfolding heads Runs
  runs-heads p [] more pc s z q h k = subst (λ x. Runs e p x s z) (add-zero pc) k
  runs-heads p (x ∷ c) more pc s z (q, qs) h k =
      by-step e p pc x (c ++ more) s z h (λ f l. one_plain x pc (exec e p f) s q ∙ runs-heads p c more (suc pc) (plainly e x s) z qs (has-tail p pc x (c ++ more) h) (subst (λ y. Runs e p y (heads e c (plainly e x s)) z) e1 k) f l)
    where
      e1 : pc + suc (length c) ≡ suc pc + length c
      e1 = omega arith

-- no row at date d: the turn is the tail
turn-none : {S : Type 0} (h : Share) (e : Engine S) (o d m i : ℕ) (s : S) → ((k : ℕ) → i ≤ k → k < i + m → due h d k ≡ false) → turn h e o d i m s ≡ Some (e.later (wake h (suc d) - d) (target h o (wake h (suc d))) s)
unfolding turn
turn-none h e o d zero i s q = refl
turn-none h e o d (suc m) i s q = cond-false _ _ _ (q i (omega arith) (omega arith)) ∙ turn-none h e o d m (suc i) s (λ k a b. q k (omega arith) (omega arith))

module _ {S : Type 0} (h : Share) (head : List Step) (flat : Plain head) (pos : 0 < h.cycle) (e : Engine S) where
  pre : List Step
  pre = opening h head

  p : List Step
  p = code_to h pre h.cycle

  first_code : List Step
  first_code = head

  then-code : List Step
  then-code = cond (is_date h 0) [] (Step.future (wake h 0) (target h (open_len h head) (wake h 0)) ∷ Step.halt ∷ [])

  has-pre : Has p 0 (first_code ++ then-code)
  unfolding Has p pre code_to first_code then-code
  has-pre = go (more-code h pre 0 h.cycle)
    where
      go : (post : List Step) × (code_to h pre (0 + h.cycle) ≡ code_to h pre 0 ++ post) → Has p 0 (first_code ++ then-code)
      go (post, z) = ([], post, ap (code_to h pre) (sym (zero-add h.cycle)) ∙ z, refl)

  abbrev o : ℕ
  o = open_len h head

  abbrev pc1 : ℕ
  pc1 = length head

  first-length : 0 + length first_code ≡ pc1
  unfolding first_code
  first-length = zero-add (length head)

  -- what follows the preparation comes to the turn
  from-date : (s : S) → is_date h 0 ≡ true → Runs e p pc1 s (turn h e o 0 0 h.rows s)
  unfolding p pre addr
  from-date s q = subst (λ x. Runs e p x s (turn h e o 0 0 h.rows s)) (length-opening h head ∙ at_one) (subst (λ x. Runs e p (length (opening h head)) s (turn h e x 0 0 h.rows s)) (length-opening h head)
      (runs-rows e p h (length (opening h head)) 0 h.rows 0 (length (opening h head)) s (has_block h (opening h head) 0 pos q)))
    where
      at_one : open_len h head ≡ pc1
      at_one = let c : ◌≡◌ {A = ℕ} (cond (is_date h 0) 0 2) 0 = cond-true _ _ _ q in omega arith

  from-wait : (s : S) → is_date h 0 ≡ false → Runs e p pc1 s (turn h e o 0 0 h.rows s)
  unfolding then-code
  from-wait s q = subst (Runs e p pc1 s) (sym to-turn) (runs-future e p pc1 (wake h 0) (target h o (wake h 0)) (Step.halt ∷ []) s _ has (runs-halt e p (suc pc1) [] _ (has-tail p pc1 _ _ has)))
    where
      has : Has p pc1 (Step.future (wake h 0) (target h o (wake h 0)) ∷ Step.halt ∷ [])
      has = subst (λ x. Has p x (Step.future (wake h 0) (target h o (wake h 0)) ∷ Step.halt ∷ [])) first-length
          (subst (Has p (0 + length first_code)) (cond-false (is_date h 0) [] (Step.future (wake h 0) (target h (open_len h head) (wake h 0)) ∷ Step.halt ∷ []) q) (has_right p 0 first_code then-code has-pre))

      same : wake h 1 ≡ wake h 0
      same = sym (wake-skip h 0 pos q)

      minus : wake h 1 - 0 ≡ wake h 1
      minus = omega arith

      nobody : (k : ℕ) → 0 ≤ k → k < 0 + h.rows → due h 0 k ≡ false
      nobody k a b = ⊎_elim (λ z. absurd (both_ways (is_date h 0) q (due-date h 0 k (omega arith) z))) (λ z. z) (cases_Bool (due h 0 k))

      to-turn : turn h e o 0 0 h.rows s ≡ Some (e.later (wake h 0) (target h o (wake h 0)) s)
      to-turn = turn-none h e o 0 h.rows 0 s nobody ∙ ap₂ (λ x y. Some (e.later x (target h o y) s)) (minus ∙ same) same

  from-there : (s : S) → Runs e p pc1 s (turn h e o 0 0 h.rows s)
  from-there s = ⊎_elim (from-date s) (from-wait s) (cases_Bool (is_date h 0))

  opened : (s : S) → Runs e p 0 s (turn h e o 0 0 h.rows (heads e head s))
  unfolding first_code
  opened s = runs-heads e p head then-code 0 s _ flat has-pre (subst (λ x. Runs e p x (heads e head s) (turn h e o 0 0 h.rows (heads e head s))) (sym (zero-add (length head))) (from-there (heads e head s)))

  pub opening-any : (s : S) → exec e (code_to h (opening h head) h.cycle) (suc (length (code_to h (opening h head) h.cycle))) 0 s ≡ turn h e (open_len h head) 0 0 h.rows (heads e head s)
  unfolding p pre Runs
  opening-any s = opened s (suc (length (code_to h (opening h head) h.cycle))) (omega arith)

pub opening-stands : Opening
opening-stands h head flat pos e s = opening-any h head flat pos e s
