-- The lengths of a program's parts, and where its blocks begin.
use Rattle.std.proofs.Common.{◌≡◌, ℕ, zero, suc, ◌+◌, ◌-◌, ◌*◌, ◌<◌, ◌≤◌, Bool, true, false, cond, ◌⊎◌, List, [], ◌∷◌, ◌++◌, length, sym, refl, ap, ◌∙◌, ap₂, inl, inr, append-nil, add-zero, add-suc, arith, length-append}
use Rattle.std.proofs.lemmas.Bool.{cases_Bool, cond-true, cond-false}
use Rattle.sheet.specs.declared.row.Test.{Test}
use Rattle.sheet.specs.declared.row.Condition.{Condition}
use Rattle.sheet.specs.declared.row.Condition.TheVariants.{Always, One, Two, Three, Four}
use Rattle.sheet.specs.declared.row.Row.{Row}
use Rattle.sheet.specs.declared.row.Row.TheVariants.{Keep as keep_row, Call as call_row, Send as send_row}
use Rattle.sheet.specs.Rows.{tests_of, condition_of, row_at}
use Rattle.netcode.specs.declared.step.Step.{Step}
use Rattle.netcode.specs.declared.step.Step.TheVariants.{Halt}
use Rattle.translate.specs.Translation.{tests_in, end_of, act, is_due, is_date, first_date, row_length, rows_length, address, wait_for, tests_code, row_code, rows_code, code_to, preparation, opening_length, opening, program_code}
use Rattle.translate.proofs.Dates.{first-none-before, some-row}

-- A condition has at most four tests.
pub condition-few : (c : Condition) → length (tests_of c) ≤ 4
condition-few Always = omega arith
condition-few (One a) = omega arith
condition-few (Two a b) = omega arith
condition-few (Three a b c) = omega arith
condition-few (Four a b c d) = omega arith

-- The tests of a row are those of its condition.
pub tests-in : (row : Row) → tests_of (condition_of row) ≡ tests_in row
tests-in (keep_row k) = refl
tests-in (call_row c) = refl
tests-in (send_row s) = refl

pub tests-few : (row : Row) → length (tests_in row) ≤ 4
tests-few (keep_row k) = omega arith
tests-few (call_row c) = condition-few c.condition
tests-few (send_row s) = condition-few s.condition

module _ (cycle : ℕ) (rows : List Row) (p : ℕ) where
  pub rows_few : (d m i : ℕ) → rows_length cycle rows p d i m ≤ 7 * m
  unfolding rows_length
  rows_few d zero i = omega arith
  rows_few d (suc m) i = go (is_due cycle rows p d i) (rows_few d m (suc i)) (tests-few (row_at rows i))
    where
      go : (b : Bool) → rows_length cycle rows p d (suc i) m ≤ 7 * m → length (tests_in (row_at rows i)) ≤ 4 → cond b (row_length cycle rows p i) 0 + rows_length cycle rows p d (suc i) m ≤ 7 * suc m
      go true l t = omega arith
      go false l t = omega arith

  -- One row more of a block.
  pub length-step : (d i n : ℕ) → i < n → rows_length cycle rows p d i (n - i) ≡ cond (is_due cycle rows p d i) (row_length cycle rows p i) 0 + rows_length cycle rows p d (i + 1) (n - (i + 1))
  unfolding rows_length
  length-step d i n l =
      let z : n - i ≡ suc (n - (i + 1)) = omega arith in
      let y : suc i ≡ i + 1 = omega arith in
      ap (rows_length cycle rows p d i) z ∙ ap (λ (k : ℕ). cond (is_due cycle rows p d i) (row_length cycle rows p i) 0 + rows_length cycle rows p d k (n - (i + 1))) y

  -- No block begins between a date and the first not before it.
  pub none_between : (e y : ℕ) → e ≤ y → y < first_date cycle rows p e → is_date cycle rows p y ≡ false
  none_between e y a b = go (cases_Bool (is_date cycle rows p y))
    where
      go : (is_date cycle rows p y ≡ true) ⊎ (is_date cycle rows p y ≡ false) → is_date cycle rows p y ≡ false
      go (inr q) = q
      go (inl q) = absurd (before e y a b q)
        where
          before : (e y : ℕ) → e ≤ y → y < first_date cycle rows p e → is_date cycle rows p y ≡ true → ⊥
          before e y a b q =
              let r = some-row cycle rows p y (length rows) q in
              let z = first-none-before cycle rows p e (length rows) r.0 r.1 r.2 (omega (arith, r.3)) in
              omega (arith, z, r.3)

  address-skips : (o e k : ℕ) → e + k ≤ first_date cycle rows p e → address cycle rows p o (e + k) ≡ address cycle rows p o e
  unfolding address
  address-skips o e zero l = ap (address cycle rows p o) (add-zero e)
  address-skips o e (suc k) l =
      ap (address cycle rows p o) (add-suc e k)
      ∙ ap (λ (b : ℕ). address cycle rows p o (e + k) + b) (cond-false _ _ _ (none_between e (e + k) (omega arith) (omega arith)))
      ∙ add-zero _ ∙ address-skips o e k (omega arith)

  pub address-skip : (o e x : ℕ) → e ≤ x → x ≤ first_date cycle rows p e → address cycle rows p o x ≡ address cycle rows p o e
  address-skip o e x a b = let z : e + (x - e) ≡ x = omega arith in ap (address cycle rows p o) (sym z) ∙ address-skips o e (x - e) (omega arith)

  pub address-none : (o : ℕ) → address cycle rows p o 0 ≡ o
  unfolding address
  address-none o = refl

  -- One block more.
  pub address_more : (o d k : ℕ) → is_date cycle rows p d ≡ true → k ≡ rows_length cycle rows p d 0 (length rows)
      → address cycle rows p o d + (k + 2) ≡ address cycle rows p o (suc d)
  unfolding address
  address_more o d k q e = ap (λ (b : ℕ). address cycle rows p o d + b) (ap (λ (x : ℕ). x + 2) e ∙ sym (cond-true _ _ _ q))

  code-skips : (pre : List Step) (e k : ℕ) → e + k ≤ first_date cycle rows p e → code_to cycle rows p pre (e + k) ≡ code_to cycle rows p pre e
  unfolding code_to
  code-skips pre e zero l = ap (code_to cycle rows p pre) (add-zero e)
  code-skips pre e (suc k) l =
      ap (code_to cycle rows p pre) (add-suc e k)
      ∙ ap (λ (b : List Step). code_to cycle rows p pre (e + k) ++ b) (cond-false _ _ _ (none_between e (e + k) (omega arith) (omega arith)))
      ∙ append-nil _ ∙ code-skips pre e k (omega arith)

  pub code-skip : (pre : List Step) (e x : ℕ) → e ≤ x → x ≤ first_date cycle rows p e → code_to cycle rows p pre x ≡ code_to cycle rows p pre e
  code-skip pre e x a b = let z : e + (x - e) ≡ x = omega arith in ap (code_to cycle rows p pre) (sym z) ∙ code-skips pre e (x - e) (omega arith)

  pub code-none : (pre : List Step) → code_to cycle rows p pre 0 ≡ pre
  unfolding code_to
  code-none pre = refl

  pub code-more : (pre : List Step) (d : ℕ) → is_date cycle rows p d ≡ true
      → code_to cycle rows p pre (suc d) ≡ code_to cycle rows p pre d ++ rows_code cycle rows p (length pre) d 0 (length rows) (address cycle rows p (length pre) d)
  unfolding code_to
  code-more pre d q = ap (λ (b : List Step). code_to cycle rows p pre d ++ b) (cond-true _ _ _ q)

  -- The lengths of the code.
  pub tests-length : (ts : List Test) (b : ℕ) → length (tests_code ts b) ≡ length ts
  tests-length [] b = refl
  tests-length (t ∷ ts) b = ap suc (tests-length ts b)

  pub row-length : (o d i b : ℕ) → length (row_code cycle rows p o d i b) ≡ row_length cycle rows p i
  row-length o d i b =
      length-append (tests_code (tests_in (row_at rows i)) (b + row_length cycle rows p i)) (wait_for cycle rows p o d (end_of (row_at rows i)) ∷ act p i (row_at rows i) ∷ Halt ∷ [])
      ∙ ap (λ (k : ℕ). k + 3) (tests-length (tests_in (row_at rows i)) (b + row_length cycle rows p i))

  pub rows-length : (o d m i b : ℕ) → length (rows_code cycle rows p o d i m b) ≡ rows_length cycle rows p d i m + 2
  unfolding rows_code rows_length
  rows-length o d zero i b = refl
  rows-length o d (suc m) i b = go (is_due cycle rows p d i) (rows-length o d m (suc i))
    where
      go : (z : Bool) → ((b : ℕ) → length (rows_code cycle rows p o d (suc i) m b) ≡ rows_length cycle rows p d (suc i) m + 2)
          → length (cond z (row_code cycle rows p o d i b ++ rows_code cycle rows p o d (suc i) m (b + row_length cycle rows p i)) (rows_code cycle rows p o d (suc i) m b)) ≡ cond z (row_length cycle rows p i) 0 + rows_length cycle rows p d (suc i) m + 2
      go true ih =
          let x = length-append (row_code cycle rows p o d i b) (rows_code cycle rows p o d (suc i) m (b + row_length cycle rows p i)) in
          let y = row-length o d i b in
          let z = ih (b + row_length cycle rows p i) in
          omega arith
      go false ih = let z = ih b in omega arith

  pub code-length : (pre : List Step) (d : ℕ) → length (code_to cycle rows p pre d) ≡ address cycle rows p (length pre) d
  unfolding code_to address
  code-length pre zero = refl
  code-length pre (suc d) = length-append (code_to cycle rows p pre d) _ ∙ ap₂ (λ (a b : ℕ). a + b) (code-length pre d) (go (is_date cycle rows p d))
    where
      go : (z : Bool) → length (cond z (rows_code cycle rows p (length pre) d 0 (length rows) (address cycle rows p (length pre) d)) []) ≡ cond z (rows_length cycle rows p d 0 (length rows) + 2) 0
      go true = rows-length (length pre) d (length rows) 0 (address cycle rows p (length pre) d)
      go false = refl

  pub opening-length : length (opening cycle rows p) ≡ opening_length cycle rows p
  opening-length = length-append (preparation rows p) _ ∙ ap (λ (k : ℕ). length (preparation rows p) + k) (go (is_date cycle rows p 0))
    where
      go : (z : Bool) → length (cond z [] (wait_for cycle rows p (opening_length cycle rows p) 0 0 ∷ Halt ∷ [])) ≡ cond z 0 2
      go true = refl
      go false = refl

  pub program-length : length (program_code cycle rows p) ≡ address cycle rows p (opening_length cycle rows p) cycle
  program-length = code-length (opening cycle rows p) cycle ∙ ap (λ (o : ℕ). address cycle rows p o cycle) opening-length

  address-add : (o d k : ℕ) → address cycle rows p o d ≤ address cycle rows p o (d + k)
  unfolding address
  address-add o d zero = let e = ap (address cycle rows p o) (add-zero d) in omega arith
  address-add o d (suc k) = let e = ap (address cycle rows p o) (add-suc d k) in let a = address-add o d k in omega arith

  pub address-up : (o d e : ℕ) → d ≤ e → address cycle rows p o d ≤ address cycle rows p o e
  address-up o d e l = let a = address-add o d (e - d) in let q : d + (e - d) ≡ e = omega arith in let b = ap (address cycle rows p o) q in omega arith
