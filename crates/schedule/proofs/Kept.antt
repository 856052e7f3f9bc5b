-- Translated programs keep the rules of programs.
use Rattle.std.proofs.Common.{◌≡◌, ℕ, zero, suc, ◌+◌, ◌-◌, ◌*◌, ◌/◌, ◌<◌, ◌≤◌, Bool, true, false, cond, eqb, ◌⊎◌, List, [], ◌∷◌, ◌++◌, length, get_or, None, sym, refl, ap, ◌∙◌, subst, inl, inr, append_assoc, append-nil, add-zero, add-suc, zero-add, arith, length-append}
use Rattle.std.proofs.lemmas.Bool.{cases_Bool, cond-true, cond-false, and_parts, eqb-true, lt-ltb, le-ltb, cases_lt}
use Rattle.schedule.specs.Rows.{Test, Row, Mem, ends}
use Rattle.schedule.specs.Program.{Step, Share, row_len, due, rows_len, is_date, search_date, wake, addr, target, test_code, row_code, rows_code, code_to, open_len, opening}
use Rattle.schedule.specs.Machine.{Keep, is_line, share_of, program, keep_code, give_code, head_of}
use Rattle.schedule.specs.Lawful.{ActOk, StepOk, ProgramOk, Limits, ProgramsKeep}
use Rattle.schedule.proofs.Wake.{wake-le, wake-most, wake-skip}
use Rattle.schedule.proofs.Blocks.{length-row, length-code, length-opening}
use Rattle.schedule.proofs.Size.{sized}
use Rattle.schedule.proofs.Openings.{length-head}

-- steps from an address on
module _ (P : ℕ → Step → Type 0) where
  abbrev Fine : ℕ → List Step → Type 0
  Fine a [] = Unit {0}
  Fine a (x ∷ c) = P a x × Fine (suc a) c

  fine-append : (c d : List Step) (a : ℕ) → Fine a c → Fine (a + length c) d → Fine a (c ++ d)
  fine-append [] d a f g = subst (λ z. Fine z d) (add-zero a) g
  fine-append (x ∷ c) d a (y, f) g = let e : a + suc (length c) ≡ suc a + length c = omega arith in (y, fine-append c d (suc a) f (subst (λ z. Fine z d) e g))

  fine-at : (c : List Step) (a i : ℕ) → Fine a c → i < length c → P (a + i) (get_or c i Step.halt)
  fine-at [] a i f l = absurd (omega arith)
  fine-at (x ∷ c) a zero (y, f) l = subst (λ z. P z x) (sym (add-zero a)) y
  fine-at (x ∷ c) a (suc i) (y, f) l = let e : suc a + i ≡ a + suc i = omega arith in subst (λ z. P z (get_or c i Step.halt)) e (fine-at c (suc a) i f (omega arith))

-- the last step is HALT
Ends : List Step → Type 0
Ends p = (front : List Step) × (p ≡ front ++ (Step.halt ∷ []))

ends-after : (c d : List Step) → Ends d → Ends (c ++ d)
unfolding Ends
ends-after c d (f, e) = (c ++ f, ap (λ z. c ++ z) e ∙ sym (append_assoc c f (Step.halt ∷ [])))

ends-long : (p : List Step) → Ends p → 1 ≤ length p
unfolding Ends
ends-long p (f, e) = let a = ap length e ∙ length-append f (Step.halt ∷ []) in omega arith

module _ (h : Share) where
  search-top : (m d : ℕ) → search_date h m d ≤ d + m
  unfolding search_date
  search-top zero d = omega arith
  search-top (suc m) d = go (cases_Bool (is_date h d)) (search-top m (suc d))
    where
      go : (is_date h d ≡ true) ⊎ (is_date h d ≡ false) → search_date h m (suc d) ≤ suc d + m → cond (is_date h d) d (search_date h m (suc d)) ≤ d + suc m
      go (inl q) l = let e : cond (is_date h d) d (search_date h m (suc d)) ≡ d = cond-true _ _ _ q in omega arith
      go (inr q) l = let e : cond (is_date h d) d (search_date h m (suc d)) ≡ search_date h m (suc d) = cond-false _ _ _ q in omega arith

  wake-top : (d : ℕ) → d ≤ h.cycle → wake h d ≤ h.cycle
  wake-top d l = let a = search-top (h.cycle - d) d in omega arith

  addr-add : (o d k : ℕ) → addr h o d ≤ addr h o (d + k)
  unfolding addr
  addr-add o d zero = let e = ap (addr h o) (add-zero d) in omega arith
  addr-add o d (suc k) = let e = ap (addr h o) (add-suc d k) in let a = addr-add o d k in omega arith

  addr_up : (o d e : ℕ) → d ≤ e → addr h o d ≤ addr h o e
  addr_up o d e l = let a = addr-add o d (e - d) in let q : d + (e - d) ≡ e = omega arith in let b = ap (addr h o) q in omega arith

  -- the block of a date fits in
  block_in : (o d : ℕ) → d < h.cycle → is_date h d ≡ true → addr h o d + (rows_len h d 0 h.rows + 2) ≤ addr h o h.cycle
  unfolding addr
  block_in o d l q = let a : addr h o (suc d) ≤ addr h o h.cycle = addr_up o (suc d) h.cycle l in let c : cond (is_date h d) (rows_len h d 0 h.rows + 2) 0 ≡ rows_len h d 0 h.rows + 2 = cond-true _ _ _ q in omega arith

  target-in : (o d : ℕ) → d ≤ h.cycle → 0 < addr h o h.cycle → target h o (wake h d) < addr h o h.cycle
  target-in o d l pos = go (cases_lt (wake h d) h.cycle)
    where
      go : (wake h d < h.cycle) ⊎ (h.cycle ≤ wake h d) → target h o (wake h d) < addr h o h.cycle
      go (inr g) = let e : target h o (wake h d) ≡ 0 = cond-false _ _ _ (le-ltb (wake h d) h.cycle g) in omega arith
      go (inl g) = on (wake-most h d l)
        where
          on : (is_date h (wake h d) ≡ true) ⊎ (wake h d ≡ h.cycle) → target h o (wake h d) < addr h o h.cycle
          on (inl q) = let e : target h o (wake h d) ≡ addr h o (wake h d) = cond-true _ _ _ (lt-ltb (wake h d) h.cycle g) in omega (arith, block_in o (wake h d) g q)
          on (inr q) = absurd (omega arith)

  ends-rows : (o d m i b : ℕ) → Ends (rows_code h o d i m b)
  unfolding rows_code Ends
  ends-rows o d zero i b = (Step.future (wake h (suc d) - d) (target h o (wake h (suc d))) ∷ [], refl)
  ends-rows o d (suc m) i b = go (cases_Bool (due h d i)) (ends-rows o d m (suc i))
    where
      go : (due h d i ≡ true) ⊎ (due h d i ≡ false) → ((b : ℕ) → Ends (rows_code h o d (suc i) m b)) → Ends (cond (due h d i) (row_code h o d i b ++ rows_code h o d (suc i) m (b + row_len h i)) (rows_code h o d (suc i) m b))
      go (inl q) ih = subst Ends (sym (cond-true _ _ _ q)) (ends-after (row_code h o d i b) _ (ih (b + row_len h i)))
      go (inr q) ih = subst Ends (sym (cond-false _ _ _ q)) (ih b)

  module _ (pre : List Step) where
    abbrev block : ℕ → List Step
    block d = rows_code h (length pre) d 0 h.rows (addr h (length pre) d)

    ends_more : (d : ℕ) → Ends (code_to h pre d) → Ends (code_to h pre (suc d))
    unfolding code_to
    ends_more d e = go (cases_Bool (is_date h d))
      where
        go : (is_date h d ≡ true) ⊎ (is_date h d ≡ false) → Ends (code_to h pre d ++ cond (is_date h d) (block d) [])
        go (inl q) = subst (λ z. Ends (code_to h pre d ++ z)) (sym (cond-true _ _ _ q)) (ends-after (code_to h pre d) (block d) (ends-rows (length pre) d h.rows 0 (addr h (length pre) d)))
        go (inr q) = subst (λ z. Ends (code_to h pre d ++ z)) (sym (cond-false _ _ _ q)) (subst Ends (sym (append-nil (code_to h pre d))) e)

    ends-code : (is_date h 0 ≡ false → Ends pre) → (d : ℕ) → Ends (code_to h pre (suc d))
    unfolding code_to
    ends-code start zero = go (cases_Bool (is_date h 0))
      where
        go : (is_date h 0 ≡ true) ⊎ (is_date h 0 ≡ false) → Ends (pre ++ cond (is_date h 0) (block 0) [])
        go (inl q) = subst (λ z. Ends (pre ++ z)) (sym (cond-true _ _ _ q)) (ends-after pre (block 0) (ends-rows (length pre) 0 h.rows 0 (addr h (length pre) 0)))
        go (inr q) = subst (λ z. Ends (pre ++ z)) (sym (cond-false _ _ _ q)) (subst Ends (sym (append-nil pre)) (start q))
    ends-code start (suc d) = ends_more (suc d) (ends-code start d)

-- the steps of a program, over any rules that hold of its tests, waits and acts
module _ (h : Share) (o len : ℕ) (P : ℕ → Step → Type 0) (size : len ≡ addr h o h.cycle) (pos : 0 < len)
    (runs : (k : ℕ) → k < h.rows → (h.date k < h.stop k) × (h.stop k ≤ h.cycle))
    (good-test : (k a b : ℕ) (t : Test) → k < h.rows → Mem t (h.tests k) → a < b → b < len → P a (Step.test t b))
    (good-wait : (a m b : ℕ) → 1 ≤ m → m ≤ h.cycle → b < len → P a (Step.future m b))
    (good-halt : (a : ℕ) → P a Step.halt) (good-act : (k a : ℕ) → k < h.rows → P a (Step.act k)) where
  fine-wait : (a d e : ℕ) → d < e → e ≤ h.cycle → P a (Step.future (wake h e - d) (target h o (wake h e)))
  fine-wait a d e l m =
      let x = wake-le h e in
      let y = wake-top h e m in
      let z = target-in h o e m (omega arith) in
      good-wait a _ _ (omega arith) (omega arith) (omega arith)

  fine-tests : (k : ℕ) → k < h.rows → (c : List Test) (a b : ℕ) → ((t : Test) → Mem t c → Mem t (h.tests k)) → a + length c < b → b < len → Fine P a (test_code h c b)
  unfolding test_code
  fine-tests k lk [] a b sub l m = tt
  fine-tests k lk (t ∷ c) a b sub l m = (good-test k a b t lk (sub t (inl refl)) (omega arith) m, fine-tests k lk c (suc a) b (λ u z. sub u (inr z)) (omega arith) m)

  fine-row : (d k b : ℕ) → k < h.rows → due h d k ≡ true → b + row_len h k < len → Fine P b (row_code h o d k b)
  fine-row d k b lk q l = fine-append P (test_code h (h.tests k) (b + row_len h k)) _ b
      (fine-tests k lk (h.tests k) b (b + row_len h k) (λ t z. z) (omega arith) l)
      (fine-wait _ d (h.stop k) r.0 r.1, (good-act k _ lk, (good-halt _, tt)))
    where
      r : (d < h.stop k) × (h.stop k ≤ h.cycle)
      r = let e : h.date k ≡ d = eqb-true _ _ (and_parts (h.mine k) _ q).1 in let x = runs k lk in (omega (arith, x.0), x.1)

  fine-rows : (d m i b : ℕ) → d < h.cycle → i + m ≤ h.rows → b + (rows_len h d i m + 2) ≤ len → Fine P b (rows_code h o d i m b)
  unfolding rows_code rows_len
  fine-rows d zero i b l e f = (fine-wait b d (suc d) (omega arith) l, (good-halt _, tt))
  fine-rows d (suc m) i b l e f = go (cases_Bool (due h d i)) (λ b g. fine-rows d m (suc i) b l (omega arith) g)
    where
      go : (due h d i ≡ true) ⊎ (due h d i ≡ false) → ((b : ℕ) → b + (rows_len h d (suc i) m + 2) ≤ len → Fine P b (rows_code h o d (suc i) m b))
          → Fine P b (cond (due h d i) (row_code h o d i b ++ rows_code h o d (suc i) m (b + row_len h i)) (rows_code h o d (suc i) m b))
      go (inl q) ih =
          let c : cond (due h d i) (row_len h i) 0 ≡ row_len h i = cond-true _ _ _ q in
          subst (Fine P b) (sym (cond-true _ _ _ q))
          (fine-append P (row_code h o d i b) _ b (fine-row d i b (omega arith) q (omega arith)) (subst (λ z. Fine P (b + z) (rows_code h o d (suc i) m (b + row_len h i))) (sym (length-row h o d i b)) (ih (b + row_len h i) (omega arith))))
      go (inr q) ih =
          let c : cond (due h d i) (row_len h i) 0 ≡ 0 = cond-false _ _ _ q in
          subst (Fine P b) (sym (cond-false _ _ _ q)) (ih b (omega arith))

  fine-code : (pre : List Step) → length pre ≡ o → Fine P 0 pre → (d : ℕ) → d ≤ h.cycle → Fine P 0 (code_to h pre d)
  unfolding code_to
  fine-code pre e f zero l = f
  fine-code pre e f (suc d) l = fine-append P (code_to h pre d) _ 0 (fine-code pre e f d (omega arith)) (subst (λ z. Fine P z new) (sym there) (go (cases_Bool (is_date h d))))
    where
      new : List Step
      new = cond (is_date h d) (rows_code h (length pre) d 0 h.rows (addr h (length pre) d)) []

      there : 0 + length (code_to h pre d) ≡ addr h o d
      there = zero-add _ ∙ length-code h pre d ∙ ap (λ z. addr h z d) e

      go : (is_date h d ≡ true) ⊎ (is_date h d ≡ false) → Fine P (addr h o d) new
      go (inl q) = subst (Fine P (addr h o d)) (sym (cond-true _ _ _ q)) (subst (λ z. Fine P (addr h o d) (rows_code h z d 0 h.rows (addr h z d))) (sym e) (fine-rows d h.rows 0 (addr h o d) l (omega arith) (omega (arith, block_in h o d l q))))
      go (inr q) = subst (Fine P (addr h o d)) (sym (cond-false _ _ _ q)) tt

module _ (r : ℕ → Row) (n L : ℕ) (kp : ℕ → Keep) (nk stations variables : ℕ) (lim : Limits r n L kp nk stations variables)
    (long : (k : ℕ) → k < n → 0 < (r k).dur) (inside : (k : ℕ) → k < n → ends (r k) ≤ L) (j : ℕ) where
  abbrev h : Share
  h = share_of r n L j

  abbrev w : List Step
  w = head_of kp nk j

  abbrev pre : List Step
  pre = opening h w

  abbrev o : ℕ
  o = open_len h w

  abbrev p : List Step
  p = program r n L kp nk j

  abbrev pos_l : 1 ≤ L
  pos_l = lim.cycle.0

  size : length p ≡ addr h o L
  size = length-code h pre L ∙ ap (λ z. addr h z L) (length-opening h w)

  opening-ends : is_date h 0 ≡ false → Ends pre
  unfolding Ends
  opening-ends q = subst Ends (ap (λ z. w ++ z) (sym (cond-false (is_date h 0) [] _ q))) (ends-after w _ (Step.future (wake h 0) (target h o (wake h 0)) ∷ [], refl))

  prog-ends : Ends p
  prog-ends = let e : suc (L - 1) ≡ L = omega arith in subst (λ z. Ends (code_to h pre z)) e (ends-code h pre opening-ends (L - 1))

  abbrev P : ℕ → Step → Type 0
  P = StepOk r nk (length p)

  acts : (k : ℕ) → k < n → ActOk r nk k
  acts k l = record {
    row = omega (arith, lim.rows);
    work = lim.works k l;
    few = lim.few k l;
    first = λ c. omega (arith, lim.first k l c, lim.few_variables);
    second = λ c. omega (arith, lim.second k l c, lim.few_variables);
    output = omega (arith, lim.output k l, lim.few_variables);
    long = long k l;
    short = omega (arith, inside k l, lim.cycle.1);
  }

  keeps-fine : (m a : ℕ) → m ≤ nk → Fine P a (keep_code kp (j / 2) m)
  unfolding keep_code
  keeps-fine zero a l = tt
  keeps-fine (suc m) a l = fine-append P (keep_code kp (j / 2) m) _ a (keeps-fine m a (omega arith)) (go (eqb (kp m).st (j / 2)) _)
    where
      go : (z : Bool) (a : ℕ) → Fine P a (cond z (Step.keep (kp m).from m ∷ []) [])
      go true a = ((omega (arith, (lim.kept m l).1, lim.few_variables), omega (arith, lim.keeps)), tt)
      go false a = tt

  gives-fine : (m a : ℕ) → m ≤ nk → Fine P a (give_code kp (j / 2) m)
  unfolding give_code
  gives-fine zero a l = tt
  gives-fine (suc m) a l = fine-append P (give_code kp (j / 2) m) _ a (gives-fine m a (omega arith)) (go (eqb (kp m).st (j / 2)) _)
    where
      go : (z : Bool) (a : ℕ) → Fine P a (cond z (Step.give m (kp m).into (kp m).first ∷ []) [])
      go true a = ((omega (arith, lim.keeps), omega (arith, (lim.kept m l).2, lim.few_variables)), tt)
      go false a = tt

  head-fine : Fine P 0 w
  head-fine = go (is_line j)
    where
      go : (z : Bool) → Fine P 0 (cond z [] (keep_code kp (j / 2) nk ++ (Step.clear ∷ give_code kp (j / 2) nk)))
      go true = tt
      go false = fine-append P (keep_code kp (j / 2) nk) _ 0 (keeps-fine nk 0 (omega arith)) (tt, gives-fine nk _ (omega arith))

  opening-fine : Fine P 0 pre
  opening-fine = fine-append P w _ 0 head-fine (rest (cases_Bool (is_date h 0)))
    where
      a : ℕ
      a = 0 + length w

      rest : (is_date h 0 ≡ true) ⊎ (is_date h 0 ≡ false) → Fine P a (cond (is_date h 0) [] (Step.future (wake h 0) (target h o (wake h 0)) ∷ Step.halt ∷ []))
      rest (inl q) = subst (Fine P a) (sym (cond-true _ _ _ q)) tt
      rest (inr q) = subst (Fine P a) (sym (cond-false _ _ _ q)) (
        (
          omega (arith, wake-skip h 0 pos_l q, wake-le h 1),
          omega (arith, wake-top h 0 (omega arith), lim.cycle.1),
          omega (arith, size, target-in h o 0 (omega arith) (omega (arith, size, ends-long p prog-ends))),
        ),
        (tt, tt),
      )

  all-fine : Fine P 0 p
  all-fine = fine-code h o (length p) P size (ends-long p prog-ends)
      (λ k l. (omega (arith, long k l), inside k l))
      (λ k a b t l m ab bl. (omega (arith, lim.tested k t l m, lim.few_variables), ab, bl))
      (λ a m b l g bl. (l, omega (arith, lim.cycle.1), bl))
      (λ a. tt) (λ k a l. acts k l)
      pre (length-opening h w) opening-fine L (omega arith)

  few-steps : open_len h w ≤ 2 * nk + 3
  few-steps = let a = length-head kp nk j in omega (arith, go (is_date h 0))
    where
      go : (d : Bool) → cond d 0 2 ≤ 2
      go true = omega arith
      go false = omega arith

  pub program-ok : ProgramOk r nk p
  unfolding Ends
  program-ok = record {
    long = ends-long p prog-ends;
    short = omega (arith, sized h pre (λ k l. lim.tests k l), length-opening h w, few-steps, lim.rows);
    last = prog-ends;
    steps = λ a l. subst (λ z. P z (get_or p a Step.halt)) (zero-add a) (fine-at P p 0 a all-fine l);
  }

pub programs-keep : ProgramsKeep
programs-keep r n L kp nk stations variables basis lim ok j l = program-ok r n L kp nk stations variables lim (ok (λ m. None)).long (ok (λ m. None)).inside j
