-- Every row that a schedule's program begins is one of the program's own.
use Rattle.std.proofs.Common.{◌≡◌, ℕ, zero, suc, ◌+◌, ◌<◌, ◌≤◌, Bool, true, false, cond, ◌⊎◌, List, [], ◌∷◌, ◌++◌, length, get_or, sym, refl, subst, inl, inr, arith}
use Rattle.std.proofs.lemmas.Bool.{cases_Bool, cond-true, cond-false, and_parts, both_ways}
use Rattle.schedule.specs.Rows.{Test, Row}
use Rattle.schedule.specs.Program.{Step, Share, Plain, plain, row_len, due, is_date, addr, test_code, row_code, rows_code, code_to, opening}
use Rattle.schedule.specs.Machine.{Keep, mine, share_of, head_of, program}
use Rattle.schedule.proofs.Openings.{head_plain}

module _ (P : Step → Type 0) where
  abbrev Each : List Step → Type 0
  Each [] = Unit {0}
  Each (x ∷ c) = P x × Each c

  each_append : (c d : List Step) → Each c → Each d → Each (c ++ d)
  each_append [] d a b = b
  each_append (x ∷ c) d (y, a) b = (y, each_append c d a b)

  each_at : (c : List Step) (i : ℕ) → P Step.halt → Each c → P (get_or c i Step.halt)
  each_at [] i z a = z
  each_at (x ∷ c) zero z (y, a) = y
  each_at (x ∷ c) (suc i) z (y, a) = each_at c i z a

module _ (r : ℕ → Row) (n L : ℕ) (kp : ℕ → Keep) (nk j : ℕ) where
  abbrev pub Own : Step → Type 0
  Own (Step.test t a) = Unit {0}
  Own (Step.future m a) = Unit {0}
  Own Step.halt = Unit {0}
  Own (Step.act k) = (k < n) × (mine j (r k) ≡ true)
  Own (Step.keep x c) = Unit {0}
  Own Step.clear = Unit {0}
  Own (Step.give c x v) = Unit {0}

  abbrev h : Share
  h = share_of r n L j

  of_plain : (x : Step) → plain x ≡ true → Own x
  of_plain (Step.test t a) e = tt
  of_plain (Step.future m a) e = tt
  of_plain Step.halt e = tt
  of_plain (Step.act k) e = absurd (both_ways false refl e)
  of_plain (Step.keep x c) e = tt
  of_plain Step.clear e = tt
  of_plain (Step.give c x v) e = tt

  plain-each : (c : List Step) → Plain c → Each Own c
  plain-each [] p = tt
  plain-each (x ∷ c) (y, p) = (of_plain x y, plain-each c p)

  each-tests : (c : List Test) (b : ℕ) → Each Own (test_code h c b)
  unfolding test_code
  each-tests [] b = tt
  each-tests (t ∷ c) b = (tt, each-tests c b)

  each_row : (o d k b : ℕ) → k < n → due h d k ≡ true → Each Own (row_code h o d k b)
  each_row o d k b l q = each_append Own (test_code h (h.tests k) (b + row_len h k)) _ (each-tests (h.tests k) (b + row_len h k))
      (tt, ((l, (and_parts (h.mine k) _ q).0), (tt, tt)))

  each_rows : (o d m i b : ℕ) → i + m ≤ n → Each Own (rows_code h o d i m b)
  unfolding rows_code
  each_rows o d zero i b l = (tt, (tt, tt))
  each_rows o d (suc m) i b l = go (cases_Bool (due h d i)) (λ b. each_rows o d m (suc i) b (omega arith))
    where
      go : (due h d i ≡ true) ⊎ (due h d i ≡ false) → ((b : ℕ) → Each Own (rows_code h o d (suc i) m b))
          → Each Own (cond (due h d i) (row_code h o d i b ++ rows_code h o d (suc i) m (b + row_len h i)) (rows_code h o d (suc i) m b))
      go (inl q) ih = subst (Each Own) (sym (cond-true _ _ _ q)) (each_append Own (row_code h o d i b) _ (each_row o d i b (omega arith) q) (ih (b + row_len h i)))
      go (inr q) ih = subst (Each Own) (sym (cond-false _ _ _ q)) (ih b)

  each-code : (pre : List Step) → Each Own pre → (d : ℕ) → Each Own (code_to h pre d)
  unfolding code_to
  each-code pre a zero = a
  each-code pre a (suc d) = each_append Own (code_to h pre d) _ (each-code pre a d) (go (is_date h d))
    where
      go : (q : Bool) → Each Own (cond q (rows_code h (length pre) d 0 h.rows (addr h (length pre) d)) [])
      go true = each_rows (length pre) d n 0 (addr h (length pre) d) (omega arith)
      go false = tt

  pub owned : (a : ℕ) → Own (get_or (program r n L kp nk j) a Step.halt)
  owned a = each_at Own (program r n L kp nk j) a tt (each-code (opening h (head_of kp nk j)) first L)
    where
      rest : (q : Bool) (x : Step) → Own x → Each Own (cond q [] (x ∷ Step.halt ∷ []))
      rest true x o = tt
      rest false x o = (o, (tt, tt))

      first : Each Own (opening h (head_of kp nk j))
      first = each_append Own (head_of kp nk j) _ (plain-each (head_of kp nk j) (head_plain kp nk j)) (rest (is_date h 0) _ tt)
