-- The programs of a sheet are those of its schedule, step by step.
use Rattle.std.proofs.Common.{◌≡◌, ℕ, zero, suc, ◌+◌, ◌-◌, ◌/◌, ◌%◌, ◌<◌, ◌≤◌, Bool, true, false, cond, not, ◌&&◌, ◌||◌, eqb, ltb, ◌⊎◌, List, [], ◌∷◌, ◌++◌, map, length, sym, refl, ap, ◌∙◌, ap₂, inl, inr, append-nil, add-zero, add-suc, zero-add, arith}
use Rattle.std.proofs.lemmas.Bool.{cases_Bool, cases_eq, cond-true, cond-false, eq-eqb, ne_eqb, false≢true, true≢false}
use Rattle.std.proofs.lemmas.List.{map-append, length-map}
use Rattle.sheet.specs.declared.row.Relation.{Relation}
use Rattle.sheet.specs.declared.row.Relation.TheVariants.{Equal, Unequal}
use Rattle.sheet.specs.declared.row.Test.{Test}
use Rattle.sheet.specs.declared.row.Row.{Row}
use Rattle.sheet.specs.declared.row.Row.TheVariants.{Keep as keep_row, Call as call_row, Send as send_row}
use Rattle.sheet.specs.Rows.{row_at}
use Rattle.judge.specs.Verdict.{is_keep, listens}
use Rattle.netcode.specs.declared.step.Step.{Step}
use Rattle.netcode.specs.declared.step.Step.TheVariants.{Test as test_step, Future, Halt, Keep, Clear, Give}
use Rattle.netcode.specs.Layouts.{line_program, station_of}
use Rattle.schedule.specs.Rows.{Test as Asked, ends}
use Rattle.schedule.specs.Program.{Step as PlannedStep, Share, row_len, due, rows_len, is_date as planned_date, search_date, wake, addr, target, test_code, row_code as planned_row, rows_code as planned_rows, code_to as planned_to, open_len, opening as planned_opening}
use Rattle.schedule.specs.Machine.{is_line as planned_line, mine, share_of, keep_code, give_code, head_of, program}
use Rattle.translate.specs.Schedules.{keep_count, is_equal, as_tests, as_row, as_keep, rows_of, row_total, keeps_of, relation_from, concrete}
use Rattle.translate.specs.Ordered.{Ordered}
use Rattle.translate.specs.Translation.{tests_in, date_of, end_of, is_line, belongs, act, keep_step, give_step, is_due, is_date, first_date, row_length, rows_length, address, wait_for, tests_code, row_code, rows_code, block_code, code_to, keeps_to, gives_to, preparation, opening_length, opening, program_code}
use Rattle.translate.proofs.Dates.{first-here, first-skip, first-end, date-from-steps}

-- The keep rows at the front.
pub keep-few : (rows : List Row) → keep_count rows ≤ length rows
keep-few [] = omega arith
keep-few (keep_row k ∷ rows) = let l = keep-few rows in omega arith
keep-few (call_row c ∷ rows) = omega arith
keep-few (send_row s ∷ rows) = omega arith

pub keep-front : (rows : List Row) (i : ℕ) → i < keep_count rows → is_keep (row_at rows i) ≡ true
keep-front [] i l = absurd (omega arith)
keep-front (keep_row k ∷ rows) zero l = refl
keep-front (keep_row k ∷ rows) (suc i) l = keep-front rows i (omega arith)
keep-front (call_row c ∷ rows) i l = absurd (omega arith)
keep-front (send_row s ∷ rows) i l = absurd (omega arith)

-- What a row is in both.
pub length-as : (ts : List Test) → length (as_tests ts) ≡ length ts
length-as [] = refl
length-as (t ∷ ts) = ap suc (length-as ts)

pub tests_same : (row : Row) → (as_row row).tests ≡ as_tests (tests_in row)
tests_same (keep_row k) = refl
tests_same (call_row c) = refl
tests_same (send_row s) = refl

tests-many : (row : Row) → length (tests_in row) ≡ length (as_row row).tests
tests-many row = sym (ap length (tests_same row) ∙ length-as (tests_in row))

pub date-same : (row : Row) → date_of row ≡ (as_row row).date
date-same (keep_row k) = refl
date-same (call_row c) = refl
date-same (send_row s) = refl

pub end_same : (row : Row) → end_of row ≡ ends (as_row row)
end_same (keep_row k) = refl
end_same (call_row c) = refl
end_same (send_row s) = refl

pub line_same : (p : ℕ) → is_line p ≡ planned_line p
line_same p = go (cases_eq (p % 2) 1)
  where
    go : (p % 2 ≡ 1) ⊎ (p % 2 ≡ 1 → ⊥) → is_line p ≡ planned_line p
    go (inl e) = eq-eqb p (line_program (station_of p)) (omega arith) ∙ sym (eq-eqb (p % 2) 1 e)
    go (inr e) = ne_eqb p (line_program (station_of p)) (λ q. e (omega arith)) ∙ sym (ne_eqb (p % 2) 1 e)

pub mine-same : (p : ℕ) (row : Row) → is_keep row ≡ false → belongs p row ≡ mine p (as_row row)
mine-same p (keep_row k) e = absurd (true≢false e)
mine-same p (call_row c) e = rw (line_same p) (go (planned_line p) (eqb c.station (station_of p)))
  where
    go : (b x : Bool) → (not b && x) ≡ cond b false x
    go true x = refl
    go false x = refl
mine-same p (send_row s) e = rw (line_same p) (go (planned_line p) (eqb s.station (station_of p) || listens s.listeners (station_of p)))
  where
    go : (b x : Bool) → (b && x) ≡ cond b x false
    go true x = refl
    go false x = refl

keep-idle : (p : ℕ) (row : Row) → is_keep row ≡ true → belongs p row ≡ false
keep-idle p (keep_row k) e = refl
keep-idle p (call_row c) e = absurd (false≢true e)
keep-idle p (send_row s) e = absurd (false≢true e)

pub relation-same : (r : Relation) → relation_from (is_equal r) ≡ r
relation-same Equal = refl
relation-same Unequal = refl

module _ (cycle : ℕ) (rows : List Row) (p : ℕ) (ord : Ordered cycle rows) where
  abbrev nk : ℕ
  nk = keep_count rows

  abbrev n : ℕ
  n = row_total rows

  abbrev h : Share
  h = share_of (rows_of rows) n cycle p

  abbrev C : PlannedStep → Step
  C = concrete rows p

  pub total : nk + n ≡ length rows
  total = let l = keep-few rows in omega arith

  pub due-same : (d i : ℕ) → i < n → is_due cycle rows p d (nk + i) ≡ due h d i
  due-same d i l = ap₂ (λ (x y : Bool). x && y) (mine-same p (row_at rows (nk + i)) (ord.after (nk + i) (omega arith) (omega arith))) (ap (λ (z : ℕ). eqb z d) (date-same (row_at rows (nk + i))))

  idle : (d i : ℕ) → i < nk → is_due cycle rows p d i ≡ false
  idle d i l = rw (keep-idle p (row_at rows i) (keep-front rows i l))

  rows_same : (d m i : ℕ) → i + m ≤ n → rows_length cycle rows p d (nk + i) m ≡ rows_len h d i m
  unfolding rows_length rows_len
  rows_same d zero i l = refl
  rows_same d (suc m) i l =
      let e : suc (nk + i) ≡ nk + suc i = omega arith in
      ap₂ (λ (x y : ℕ). x + y)
      (ap₂ (λ (b : Bool) (k : ℕ). cond b (k + 3) 0) (due-same d i (omega arith)) (tests-many (row_at rows (nk + i))))
      (ap (λ (z : ℕ). rows_length cycle rows p d z m) e ∙ rows_same d m (suc i) (omega arith))

  rows-skip : (d k m i : ℕ) → i + k ≤ nk → rows_length cycle rows p d i (k + m) ≡ rows_length cycle rows p d (i + k) m
  unfolding rows_length
  rows-skip d zero m i l = ap₂ (rows_length cycle rows p d) (sym (add-zero i)) (zero-add m)
  rows-skip d (suc k) m i l =
      let e : suc k + m ≡ suc (k + m) = omega arith in
      let f : suc i + k ≡ i + suc k = omega arith in
      ap (rows_length cycle rows p d i) e
      ∙ ap (λ (x : ℕ). x + rows_length cycle rows p d (suc i) (k + m)) (cond-false _ _ _ (idle d i (omega arith)))
      ∙ zero-add _ ∙ rows-skip d k m (suc i) (omega arith) ∙ ap (λ (z : ℕ). rows_length cycle rows p d z m) f

  rows_all : (d : ℕ) → rows_length cycle rows p d 0 (length rows) ≡ rows_len h d 0 n
  rows_all d =
      let e : 0 + nk ≡ nk + 0 = omega arith in
      ap (rows_length cycle rows p d 0) (sym total) ∙ rows-skip d nk n 0 (omega arith)
      ∙ ap (λ (z : ℕ). rows_length cycle rows p d z n) e ∙ rows_same d n 0 (omega arith)

  pub is-date : (d : ℕ) → is_date cycle rows p d ≡ planned_date h d
  is-date d = date-from-steps cycle rows p d (length rows) ∙ ap (ltb 0) (rows_all d)

  first-search : (m d : ℕ) → d + m ≡ cycle → first_date cycle rows p d ≡ search_date h m d
  unfolding search_date
  first-search zero d e = let z : d ≡ cycle = omega arith in rw z (first-end cycle rows p (length rows))
  first-search (suc m) d e = go (cases_Bool (planned_date h d)) (first-search m (suc d) (omega arith))
    where
      go : (planned_date h d ≡ true) ⊎ (planned_date h d ≡ false) → first_date cycle rows p (suc d) ≡ search_date h m (suc d) → first_date cycle rows p d ≡ cond (planned_date h d) d (search_date h m (suc d))
      go (inl q) ih = first-here cycle rows p d (omega arith) (is-date d ∙ q) ∙ sym (cond-true _ _ _ q)
      go (inr q) ih = first-skip cycle rows p d (length rows) (is-date d ∙ q) ∙ ih ∙ sym (cond-false _ _ _ q)

  pub first-wake : (d : ℕ) → d ≤ cycle → first_date cycle rows p d ≡ wake h d
  first-wake d l = first-search (cycle - d) d (omega arith)

  pub address_same : (o d : ℕ) → address cycle rows p o d ≡ addr h o d
  unfolding address addr
  address_same o zero = refl
  address_same o (suc d) = ap₂ (λ (x y : ℕ). x + y) (address_same o d) (ap₂ (λ (b : Bool) (k : ℕ). cond b (k + 2) 0) (is-date d) (rows_all d))

  wait-same : (o d e : ℕ) → e ≤ cycle → wait_for cycle rows p o d e ≡ C (PlannedStep.future (wake h e - d) (target h o (wake h e)))
  wait-same o d e l = rw (first-wake e l, address_same o (wake h e))

  tests-code : (ts : List Test) (b : ℕ) → tests_code ts b ≡ map C (test_code h (as_tests ts) b)
  unfolding test_code
  tests-code [] b = refl
  tests-code (t ∷ ts) b = ap₂ (λ (r : Relation) (c : List Step). test_step t.variable r t.word b ∷ c) (sym (relation-same t.relation)) (tests-code ts b)

  row-code : (o d i b : ℕ) → i < n → row_code cycle rows p o d (nk + i) b ≡ map C (planned_row h o d i b)
  row-code o d i b l =
      let row = row_at rows (nk + i) in
      let e : end_of row ≤ cycle = ord.inside (nk + i) (omega arith) in
      ap₂ (λ (x y : List Step). x ++ y)
      (tests-code (tests_in row) (b + row_length cycle rows p (nk + i)) ∙ ap₂ (λ (c : List Asked) (k : ℕ). map C (test_code h c (b + (k + 3)))) (sym (tests_same row)) (tests-many row))
      (ap (λ (s : Step). s ∷ act p (nk + i) row ∷ Halt ∷ []) (wait-same o d (end_of row) e ∙ ap (λ (z : ℕ). C (PlannedStep.future (wake h z - d) (target h o (wake h z)))) (end_same row)))
      ∙ sym (map-append C (test_code h (h.tests i) (b + row_len h i)) _)

  rows_code_lem : (o d m i b : ℕ) → d < cycle → i + m ≤ n → rows_code cycle rows p o d (nk + i) m b ≡ map C (planned_rows h o d i m b)
  unfolding rows_code planned_rows
  rows_code_lem o d zero i b ld l = ap (λ (s : Step). s ∷ Halt ∷ []) (wait-same o d (suc d) ld)
  rows_code_lem o d (suc m) i b ld l = go (cases_Bool (due h d i)) (λ c. ap (λ (z : ℕ). rows_code cycle rows p o d z m c) next ∙ rows_code_lem o d m (suc i) c ld (omega arith))
    where
      next : suc (nk + i) ≡ nk + suc i
      next = omega arith

      go : (due h d i ≡ true) ⊎ (due h d i ≡ false)
          → ((c : ℕ) → rows_code cycle rows p o d (suc (nk + i)) m c ≡ map C (planned_rows h o d (suc i) m c))
          → cond (is_due cycle rows p d (nk + i)) (row_code cycle rows p o d (nk + i) b ++ rows_code cycle rows p o d (suc (nk + i)) m (b + row_length cycle rows p (nk + i))) (rows_code cycle rows p o d (suc (nk + i)) m b)
          ≡ map C (cond (due h d i) (planned_row h o d i b ++ planned_rows h o d (suc i) m (b + row_len h i)) (planned_rows h o d (suc i) m b))
      go (inl q) ih =
          cond-true _ _ _ (due-same d i (omega arith) ∙ q)
          ∙ ap₂ (λ (x y : List Step). x ++ y) (row-code o d i b (omega arith))
          (ap (λ (k : ℕ). rows_code cycle rows p o d (suc (nk + i)) m (b + (k + 3))) (tests-many (row_at rows (nk + i))) ∙ ih (b + row_len h i))
          ∙ sym (map-append C (planned_row h o d i b) _)
          ∙ sym (ap (map C) (cond-true _ _ _ q))
      go (inr q) ih = cond-false _ _ _ (due-same d i (omega arith) ∙ q) ∙ ih b ∙ sym (ap (map C) (cond-false _ _ _ q))

  code-skip : (o d k m i b : ℕ) → i + k ≤ nk → rows_code cycle rows p o d i (k + m) b ≡ rows_code cycle rows p o d (i + k) m b
  unfolding rows_code
  code-skip o d zero m i b l = ap₂ (λ (x y : ℕ). rows_code cycle rows p o d x y b) (sym (add-zero i)) (zero-add m)
  code-skip o d (suc k) m i b l =
      let e : suc k + m ≡ suc (k + m) = omega arith in
      let f : suc i + k ≡ i + suc k = omega arith in
      ap (λ (z : ℕ). rows_code cycle rows p o d i z b) e ∙ cond-false _ _ _ (idle d i (omega arith))
      ∙ code-skip o d k m (suc i) b (omega arith) ∙ ap (λ (z : ℕ). rows_code cycle rows p o d z m b) f

  block-code : (o d b : ℕ) → d < cycle → rows_code cycle rows p o d 0 (length rows) b ≡ map C (planned_rows h o d 0 n b)
  block-code o d b l =
      let e : 0 + nk ≡ nk + 0 = omega arith in
      ap (λ (z : ℕ). rows_code cycle rows p o d 0 z b) (sym total) ∙ code-skip o d nk n 0 b (omega arith)
      ∙ ap (λ (z : ℕ). rows_code cycle rows p o d z n b) e ∙ rows_code_lem o d n 0 b l (omega arith)

  code_same : (pre : List PlannedStep) (d : ℕ) → d ≤ cycle → code_to cycle rows p (map C pre) d ≡ map C (planned_to h pre d)
  unfolding code_to planned_to
  code_same pre zero l = refl
  code_same pre (suc d) l = ap₂ (λ (x y : List Step). x ++ y) (code_same pre d (omega arith)) (go (cases_Bool (planned_date h d))) ∙ sym (map-append C (planned_to h pre d) _)
    where
      o : ℕ
      o = length pre

      go : (planned_date h d ≡ true) ⊎ (planned_date h d ≡ false)
          → block_code cycle rows p (length (map C pre)) d ≡ map C (cond (planned_date h d) (planned_rows h o d 0 n (addr h o d)) [])
      go (inl q) =
          cond-true _ _ _ (is-date d ∙ q)
          ∙ ap (λ (z : ℕ). rows_code cycle rows p z d 0 (length rows) (address cycle rows p z d)) (length-map pre C)
          ∙ ap (λ (z : ℕ). rows_code cycle rows p o d 0 (length rows) z) (address_same o d)
          ∙ block-code o d (addr h o d) l ∙ sym (ap (map C) (cond-true _ _ _ q))
      go (inr q) = cond-false _ _ _ (is-date d ∙ q) ∙ sym (ap (map C) (cond-false _ _ _ q))

  -- KEEPs and GIVEs.
  keep_same : (m : ℕ) (row : Row) → is_keep row ≡ true → keep_step p m row ≡ map C (cond (eqb (as_keep row).st (p / 2)) (PlannedStep.keep (as_keep row).from m ∷ []) [])
  keep_same m (keep_row k) e = go (eqb k.station (p / 2))
    where
      go : (b : Bool) → cond b (Keep k.taken m ∷ []) [] ≡ map C (cond b (PlannedStep.keep k.taken m ∷ []) [])
      go true = refl
      go false = refl
  keep_same m (call_row c) e = absurd (false≢true e)
  keep_same m (send_row s) e = absurd (false≢true e)

  give-same : (m : ℕ) (row : Row) → is_keep row ≡ true → give_step p m row ≡ map C (cond (eqb (as_keep row).st (p / 2)) (PlannedStep.give m (as_keep row).into (as_keep row).first ∷ []) [])
  give-same m (keep_row k) e = go (eqb k.station (p / 2))
    where
      go : (b : Bool) → cond b (Give m k.given k.first ∷ []) [] ≡ map C (cond b (PlannedStep.give m k.given k.first ∷ []) [])
      go true = refl
      go false = refl
  give-same m (call_row c) e = absurd (false≢true e)
  give-same m (send_row s) e = absurd (false≢true e)

  no-keep : (m : ℕ) (row : Row) → is_keep row ≡ false → (keep_step p m row ≡ []) × (give_step p m row ≡ [])
  no-keep m (keep_row k) e = absurd (true≢false e)
  no-keep m (call_row c) e = (refl, refl)
  no-keep m (send_row s) e = (refl, refl)

  keeps_same : (m : ℕ) → m ≤ nk → keeps_to rows p m ≡ map C (keep_code (keeps_of rows) (p / 2) m)
  unfolding keeps_to keep_code
  keeps_same zero l = refl
  keeps_same (suc m) l = ap₂ (λ (x y : List Step). x ++ y) (keeps_same m (omega arith)) (keep_same m (row_at rows m) (keep-front rows m l)) ∙ sym (map-append C (keep_code (keeps_of rows) (p / 2) m) _)

  gives_same : (m : ℕ) → m ≤ nk → gives_to rows p m ≡ map C (give_code (keeps_of rows) (p / 2) m)
  unfolding gives_to give_code
  gives_same zero l = refl
  gives_same (suc m) l = ap₂ (λ (x y : List Step). x ++ y) (gives_same m (omega arith)) (give-same m (row_at rows m) (keep-front rows m l)) ∙ sym (map-append C (give_code (keeps_of rows) (p / 2) m) _)

  keeps-rest : (k : ℕ) → nk + k ≤ length rows → keeps_to rows p (nk + k) ≡ keeps_to rows p nk
  unfolding keeps_to
  keeps-rest zero l = ap (keeps_to rows p) (add-zero nk)
  keeps-rest (suc k) l =
      ap (keeps_to rows p) (add-suc nk k)
      ∙ ap (λ (x : List Step). keeps_to rows p (nk + k) ++ x) (no-keep (nk + k) (row_at rows (nk + k)) (ord.after (nk + k) (omega arith) (omega arith))).0
      ∙ append-nil _ ∙ keeps-rest k (omega arith)

  gives-rest : (k : ℕ) → nk + k ≤ length rows → gives_to rows p (nk + k) ≡ gives_to rows p nk
  unfolding gives_to
  gives-rest zero l = ap (gives_to rows p) (add-zero nk)
  gives-rest (suc k) l =
      ap (gives_to rows p) (add-suc nk k)
      ∙ ap (λ (x : List Step). gives_to rows p (nk + k) ++ x) (no-keep (nk + k) (row_at rows (nk + k)) (ord.after (nk + k) (omega arith) (omega arith))).1
      ∙ append-nil _ ∙ gives-rest k (omega arith)

  pub preparation-same : preparation rows p ≡ map C (head_of (keeps_of rows) nk p)
  preparation-same = ap (λ (b : Bool). cond b [] (keeps_to rows p (length rows) ++ (Clear ∷ gives_to rows p (length rows)))) (line_same p) ∙ go (planned_line p)
    where
      K : List PlannedStep
      K = keep_code (keeps_of rows) (p / 2) nk

      G : List PlannedStep
      G = give_code (keeps_of rows) (p / 2) nk

      ks : keeps_to rows p (length rows) ≡ map C K
      ks = ap (keeps_to rows p) (sym total) ∙ keeps-rest n (omega (arith, total)) ∙ keeps_same nk (omega arith)

      gs : gives_to rows p (length rows) ≡ map C G
      gs = ap (gives_to rows p) (sym total) ∙ gives-rest n (omega (arith, total)) ∙ gives_same nk (omega arith)

      go : (b : Bool) → cond b [] (keeps_to rows p (length rows) ++ (Clear ∷ gives_to rows p (length rows))) ≡ map C (cond b [] (K ++ (PlannedStep.clear ∷ G)))
      go true = refl
      go false = ap₂ (λ (x y : List Step). x ++ (Clear ∷ y)) ks gs ∙ sym (map-append C K (PlannedStep.clear ∷ G))

  abbrev W : List PlannedStep
  W = head_of (keeps_of rows) nk p

  pub opening-length : opening_length cycle rows p ≡ open_len h W
  opening-length = ap₂ (λ (x : ℕ) (b : Bool). x + cond b 0 2) (ap length preparation-same ∙ length-map W C) (is-date 0)

  opening-same : opening cycle rows p ≡ map C (planned_opening h W)
  opening-same =
      ap₂ (λ (x : List Step) (b : Bool). x ++ cond b [] (wait_for cycle rows p (opening_length cycle rows p) 0 0 ∷ Halt ∷ [])) preparation-same (is-date 0)
      ∙ ap (λ (y : List Step). map C W ++ y) (go (planned_date h 0)) ∙ sym (map-append C W _)
    where
      F : PlannedStep
      F = PlannedStep.future (wake h 0) (target h (open_len h W) (wake h 0))

      w : wait_for cycle rows p (opening_length cycle rows p) 0 0 ≡ C F
      w = let z : wake h 0 - 0 ≡ wake h 0 = omega arith in
          ap (λ (o : ℕ). wait_for cycle rows p o 0 0) opening-length ∙ wait-same (open_len h W) 0 0 (omega arith) ∙ ap (λ (t : ℕ). Future t (target h (open_len h W) (wake h 0))) z

      go : (b : Bool) → cond b [] (wait_for cycle rows p (opening_length cycle rows p) 0 0 ∷ Halt ∷ []) ≡ map C (cond b [] (F ∷ PlannedStep.halt ∷ []))
      go true = refl
      go false = ap (λ (s : Step). s ∷ Halt ∷ []) w

  -- Program p of the sheet is program p of its schedule.
  pub program-maps : program_code cycle rows p ≡ map (concrete rows p) (program (rows_of rows) (row_total rows) cycle (keeps_of rows) (keep_count rows) p)
  program-maps = ap (λ (o : List Step). code_to cycle rows p o cycle) opening-same ∙ code_same (planned_opening h W) cycle (omega arith)
