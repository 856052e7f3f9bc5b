-- A sheet that keeps the rules of acceptance is a schedule that keeps its own.
use Rattle.std.proofs.Common.{◌≡◌, ℕ, zero, suc, ◌+◌, ◌-◌, ◌<◌, ◌≤◌, true, false, not, ◌&&◌, ltb, ◌⊎◌, List, [], ◌∷◌, ◌++◌, length, take, sym, refl, ap, ◌∙◌, subst, inl, inr, arith}
use Rattle.std.specs.List.{AllByRecursion}
use Rattle.std.proofs.lemmas.Bool.{cases_Bool, cases_lt, cases_order, and_parts, ltb-true, eqb-true, eq-eqb, ne_eqb, false≢true, true≢false}
use Rattle.sheet.specs.declared.row.Head.{Head}
use Rattle.sheet.specs.declared.row.Relation.{Relation}
use Rattle.sheet.specs.declared.row.Relation.TheVariants.{Equal, Unequal}
use Rattle.sheet.specs.declared.row.Test.{Test}
use Rattle.sheet.specs.declared.row.Condition.{Condition}
use Rattle.sheet.specs.declared.row.Inputs.{Inputs}
use Rattle.sheet.specs.declared.row.Inputs.TheVariants.{Nothing, Single, Pair}
use Rattle.sheet.specs.declared.row.Row.{Row}
use Rattle.sheet.specs.declared.row.Row.TheVariants.{Keep as keep_row, Call as call_row, Send as send_row}
use Rattle.sheet.specs.Rows.{tests_of, inputs_of, row_at, test_at, head_within}
use Rattle.judge.specs.Verdict.{is_keep}
use Rattle.judge.specs.Rules.{Any, FieldsWithin, IsKeep, Placed, OpposedWords, Opposed, Exclude, SingleWriter, NoOverlap, Among, Provides, Available, TestsAvailable, ReadsAvailable, Rules}
use Rattle.schedule.specs.Rows.{Test as Asked, Row as Planned, ends, reaches, Mem, Apart, Excludes, Within, Concerns}
use Rattle.schedule.specs.Lawful.{Limits}
use Rattle.schedule.specs.Promise.{Available as Supplied, Judged}
use Rattle.translate.specs.Translation.{tests_in, end_of}
use Rattle.translate.specs.Schedules.{keep_count, is_equal, input_count, first_input, second_input, as_test, as_tests, as_row, as_keep, rows_of, row_total, keeps_of}
use Rattle.translate.specs.Ordered.{Ordered}
use Rattle.translate.specs.Stores.{Bounded}
use Rattle.translate.proofs.Lengths.{condition-few}
use Rattle.translate.proofs.Maps.{length-as, keep-few, keep-front, tests_same}

-- Keep rows stand above all others.
keep-is : (row : Row) → IsKeep row → is_keep row ≡ true
keep-is (keep_row k) e = refl
keep-is (call_row c) e = absurd e
keep-is (send_row s) e = absurd e

count-all : (rows : List Row) (i : ℕ) → i < length rows → ((u : ℕ) → u ≤ i → is_keep (row_at rows u) ≡ true) → i < keep_count rows
count-all [] i l f = absurd (omega arith)
count-all (keep_row k ∷ rows) zero l f = omega arith
count-all (keep_row k ∷ rows) (suc i) l f = let a = count-all rows i (omega arith) (λ u m. f (suc u) (omega arith)) in omega arith
count-all (call_row c ∷ rows) i l f = absurd (false≢true (f 0 (omega arith)))
count-all (send_row s ∷ rows) i l f = absurd (false≢true (f 0 (omega arith)))

placed-keep : (rows : List Row) (i : ℕ) (row : Row) → Placed rows i row → is_keep row ≡ true → (i < 16) × ((u : ℕ) → u < i → is_keep (row_at rows u) ≡ true)
placed-keep rows i (keep_row k) pl e = (pl.0, λ u l. keep-is (row_at rows u) (pl.1 u l))
placed-keep rows i (call_row c) pl e = absurd (false≢true e)
placed-keep rows i (send_row s) pl e = absurd (false≢true e)

-- Tests.
opposed-as : (s t : Test) → Opposed s t → Apart (as_test s) (as_test t)
opposed-as s t (v, o) = (v, go s.relation t.relation o)
  where
    go : (a b : Relation) → OpposedWords a s.word b t.word
        → ((is_equal a ≡ true) × (is_equal b ≡ true) × (s.word ≡ t.word → ⊥)) ⊎ ((s.word ≡ t.word) × (is_equal a ≡ not (is_equal b)))
    go Equal Equal o = inl (refl, refl, o)
    go Equal Unequal o = inr (o, refl)
    go Unequal Equal o = inr (o, refl)
    go Unequal Unequal o = absurd o

any-opposed : (s : Test) (ts : List Test) → Any (λ t. Opposed s t) ts → (u : Asked) × Mem u (as_tests ts) × Apart (as_test s) u
any-opposed s [] a = absurd a
any-opposed s (t ∷ ts) (inl o) = (as_test t, inl refl, opposed-as s t o)
any-opposed s (t ∷ ts) (inr a) = let r = any-opposed s ts a in (r.0, inr r.1, r.2)

excludes : (ss ts : List Test) → Exclude ss ts → Excludes (as_tests ss) (as_tests ts)
excludes [] ts a = absurd a
excludes (s ∷ ss) ts (inl a) = let r = any-opposed s ts a in (as_test s, r.0, inl refl, r.1, r.2)
excludes (s ∷ ss) ts (inr a) = let r = excludes ss ts a in (r.0, r.1, inr r.2, r.3, r.4)

any_same : (s : Test) (ts : List Test) → Any (λ t. s ≡ t) ts → Mem (as_test s) (as_tests ts)
any_same s [] a = absurd a
any_same s (t ∷ ts) (inl e) = inl (ap as_test e)
any_same s (t ∷ ts) (inr a) = inr (any_same s ts a)

among : (ss ts : List Test) → Among ss ts → Within (as_tests ss) (as_tests ts)
among [] ts a t m = absurd m
among (s ∷ ss) ts (x, a) t (inl e) = subst (λ (z : Asked). Mem z (as_tests ts)) (sym e) (any_same s ts x)
among (s ∷ ss) ts (x, a) t (inr m) = among ss ts a t m

mem-tests : (P : ℕ → Type 0) (ts : List Test) → AllByRecursion (λ t. P t.variable) ts → (t : Asked) → Mem t (as_tests ts) → P t.var
mem-tests P [] a t m = absurd m
mem-tests P (u ∷ ts) (x, a) t (inl e) = subst (λ (z : Asked). P z.var) (sym e) x
mem-tests P (u ∷ ts) (x, a) t (inr m) = mem-tests P ts a t m

few-tests : (c : Condition) → length (as_tests (tests_of c)) ≤ 4
few-tests c = omega (arith, length-as (tests_of c), condition-few c)

-- A test with those before and after it.
split : (ts : List Test) (c : List Asked) (t : Asked) (d : List Asked) → as_tests ts ≡ c ++ (t ∷ d)
    → (length c < length ts) × (as_test (test_at ts (length c)) ≡ t) × (as_tests (take (length c) ts) ≡ c)
split [] [] t d e = let z : ◌≡◌ {A = ℕ} 0 1 = cc in absurd (omega arith)
split [] (u ∷ c) t d e = let z : ◌≡◌ {A = ℕ} 0 1 = cc in absurd (omega arith)
split (s ∷ ts) [] t d e = (omega arith, (cc), refl)
split (s ∷ ts) (u ∷ c) t d e =
    let a : as_test s ≡ u = cc in
    let b : as_tests ts ≡ c ++ (t ∷ d) = cc in
    let r = split ts c t d b in
    (omega (arith, r.0), r.1, cc r.2)

-- A row within its limits.
pub record Fields (h : Head) (r : Planned) : Type 0 where
  pub station : r.st < h.stations
  pub work : r.work < 256
  pub few : r.count ≤ 2
  pub first : 0 < r.count → r.one < h.variables
  pub second : 1 < r.count → r.two < h.variables
  pub output : r.out < h.variables
  pub long : 0 < r.dur
  pub inside : ends r ≤ h.cycle
  pub tests : length r.tests ≤ 4
  pub tested : (t : Asked) → Mem t r.tests → t.var < h.variables
  pub copies : r.sends ≡ true → (r.one ≡ r.out) × (r.count ≡ 1)
  pub listening : (s : ℕ) → r.listeners s ≡ true → s < h.stations
  pub elsewhere : r.listeners r.st ≡ false

call-inputs : (v : ℕ) (i : Inputs) → AllByRecursion (λ x. x < v) (inputs_of i)
    → (input_count i ≤ 2) × (0 < input_count i → first_input i < v) × (1 < input_count i → second_input i < v)
call-inputs v Nothing a = (omega arith, λ l. absurd (omega arith), λ l. absurd (omega arith))
call-inputs v (Single x) a = (omega arith, λ l. a.0, λ l. absurd (omega arith))
call-inputs v (Pair x y) a = (omega arith, λ l. a.0, λ l. a.1.0)

fields-of : (h : Head) (row : Row) → is_keep row ≡ false → FieldsWithin h row → Fields h (as_row row)
fields-of h (keep_row k) e f = absurd (true≢false e)
fields-of h (call_row c) e (st, (wk, (ins, (out, ((lo, en), ts))))) =
    let i = call-inputs h.variables c.inputs ins in
    record {
      station = st;
      work = omega arith;
      few = i.0;
      first = i.1;
      second = i.2;
      output = out;
      long = lo;
      inside = en;
      tests = few-tests c.condition;
      tested = mem-tests (λ v. v < h.variables) (tests_of c.condition) ts;
      copies = λ q. absurd (false≢true q);
      listening = λ s q. absurd (false≢true q);
      elsewhere = refl;
    }
fields-of h (send_row s) e (st, (v, (some, (ex, (om, ((lo, en), ts)))))) = record {
  station = st;
  work = omega arith;
  few = omega arith;
  first = λ l. v;
  second = λ l. absurd (omega arith);
  output = v;
  long = lo;
  inside = en;
  tests = few-tests s.condition;
  tested = mem-tests (λ x. x < h.variables) (tests_of s.condition) ts;
  copies = λ q. (refl, refl);
  listening = λ n q. ex n (eqb-true _ _ q);
  elsewhere = ne_eqb _ _ om;
}

end-within : (h : Head) (row : Row) → FieldsWithin h row → end_of row ≤ h.cycle
end-within h (keep_row k) f = omega arith
end-within h (call_row c) f = f.1.1.1.1.0.1
end-within h (send_row s) f = f.1.1.1.1.1.0.1

keep-within : (h : Head) (row : Row) → is_keep row ≡ true → FieldsWithin h row
    → ((as_keep row).st < h.stations) × ((as_keep row).from < h.variables) × ((as_keep row).into < h.variables)
keep-within h (keep_row k) e f = (f.0, f.1.0, f.1.1)
keep-within h (call_row c) e f = absurd (false≢true e)
keep-within h (send_row s) e f = absurd (false≢true e)

-- Two rows.
keeps-apart : (a b : Row) → is_keep a ≡ true → is_keep b ≡ true → SingleWriter a b → (as_keep a).into ≡ (as_keep b).into → ⊥
keeps-apart (keep_row k) (keep_row l) e f w = w
keeps-apart (keep_row k) (call_row c) e f w = absurd (false≢true f)
keeps-apart (keep_row k) (send_row s) e f w = absurd (false≢true f)
keeps-apart (call_row c) b e f w = absurd (false≢true e)
keeps-apart (send_row s) b e f w = absurd (false≢true e)

keep-unwritten : (a b : Row) → is_keep a ≡ true → is_keep b ≡ false → SingleWriter a b → (as_row b).sends ≡ false → (as_row b).out ≡ (as_keep a).into → ⊥
keep-unwritten (keep_row k) (keep_row l) e f w s q = absurd (true≢false f)
keep-unwritten (keep_row k) (call_row c) e f w s q = w (sym q)
keep-unwritten (keep_row k) (send_row t) e f w s q = absurd (true≢false s)
keep-unwritten (call_row c) b e f w s q = absurd (false≢true e)
keep-unwritten (send_row t) b e f w s q = absurd (false≢true e)

writers-apart : (a b : Row) → is_keep a ≡ false → is_keep b ≡ false → SingleWriter a b → (as_row a).sends ≡ false → (as_row b).sends ≡ false
    → (as_row a).out ≡ (as_row b).out → Excludes (as_row a).tests (as_row b).tests
writers-apart (keep_row k) b e f w s t q = absurd (true≢false e)
writers-apart (call_row c) (keep_row l) e f w s t q = absurd (true≢false f)
writers-apart (call_row c) (call_row d) e f w s t q = excludes (tests_of c.condition) (tests_of d.condition) (w q)
writers-apart (call_row c) (send_row d) e f w s t q = absurd (true≢false t)
writers-apart (send_row c) b e f w s t q = absurd (true≢false s)

calls-apart : (a b : Row) → is_keep a ≡ false → is_keep b ≡ false → NoOverlap a b → (as_row a).sends ≡ false → (as_row b).sends ≡ false
    → (as_row a).st ≡ (as_row b).st → Excludes (as_row a).tests (as_row b).tests ⊎ (ends (as_row a) ≤ (as_row b).date)
calls-apart (keep_row k) b e f w s t q = absurd (true≢false e)
calls-apart (call_row c) (keep_row l) e f w s t q = absurd (true≢false f)
calls-apart (call_row c) (call_row d) e f w s t q = go (w q)
  where
    go : Exclude (tests_of c.condition) (tests_of d.condition) ⊎ (c.date + c.duration ≤ d.date) → Excludes (as_tests (tests_of c.condition)) (as_tests (tests_of d.condition)) ⊎ (c.date + c.duration ≤ d.date)
    go (inl x) = inl (excludes (tests_of c.condition) (tests_of d.condition) x)
    go (inr l) = inr l
calls-apart (call_row c) (send_row d) e f w s t q = absurd (true≢false t)
calls-apart (send_row c) b e f w s t q = absurd (true≢false s)

sends-apart : (a b : Row) → is_keep a ≡ false → is_keep b ≡ false → NoOverlap a b → (as_row a).sends ≡ true → (as_row b).sends ≡ true
    → Excludes (as_row a).tests (as_row b).tests ⊎ ((ends (as_row a) ≤ (as_row b).date) ⊎ (ends (as_row b) ≤ (as_row a).date))
sends-apart (keep_row k) b e f w s t = absurd (true≢false e)
sends-apart (call_row c) b e f w s t = absurd (false≢true s)
sends-apart (send_row c) (keep_row l) e f w s t = absurd (true≢false f)
sends-apart (send_row c) (call_row d) e f w s t = absurd (false≢true t)
sends-apart (send_row c) (send_row d) e f w s t = go w
  where
    go : Exclude (tests_of c.condition) (tests_of d.condition) ⊎ ((c.date + c.duration ≤ d.date) ⊎ (d.date + d.duration ≤ c.date))
        → Excludes (as_tests (tests_of c.condition)) (as_tests (tests_of d.condition)) ⊎ ((c.date + c.duration ≤ d.date) ⊎ (d.date + d.duration ≤ c.date))
    go (inl x) = inl (excludes (tests_of c.condition) (tests_of d.condition) x)
    go (inr l) = inr l

-- What a row provides.
keep-provides : (row : Row) (s x d : ℕ) (ts : List Test) → is_keep row ≡ true → Provides row s x d ts → ((as_keep row).st ≡ s) × ((as_keep row).into ≡ x)
keep-provides (keep_row k) s x d ts e v = v
keep-provides (call_row c) s x d ts e v = absurd (false≢true e)
keep-provides (send_row c) s x d ts e v = absurd (false≢true e)

row-provides : (row : Row) (s x d : ℕ) (ts : List Test) → is_keep row ≡ false → Provides row s x d ts
    → (reaches (as_row row) s ≡ true) × ((as_row row).out ≡ x) × (ends (as_row row) ≤ d) × Within (as_row row).tests (as_tests ts)
row-provides (keep_row k) s x d ts e v = absurd (true≢false e)
row-provides (call_row c) s x d ts e (a, (b, (f, g))) = (eq-eqb _ _ a, b, f, among (tests_of c.condition) ts g)
row-provides (send_row c) s x d ts e (a, (b, (f, g))) = (eq-eqb _ _ a, b, f, among (tests_of c.condition) ts g)

-- Needs of one row at a station after the tests before one of its own.
reads-tests : (rows : List Row) (r : ℕ) (row : Row) (s : ℕ) → is_keep row ≡ false → ReadsAvailable rows r row → Concerns (as_row row) s
    → (ts : List Test) → as_tests ts ≡ (as_row row).tests → TestsAvailable rows r s (as_row row).date (tests_in row)
reads-tests rows r (keep_row k) s e v c ts z = absurd (true≢false e)
reads-tests rows r (call_row q) s e v (inl c) ts z = subst (λ (n : ℕ). TestsAvailable rows r n q.date (tests_of q.condition)) c v.0
reads-tests rows r (call_row q) s e v (inr c) ts z = absurd (false≢true c.0)
reads-tests rows r (send_row q) s e v (inl c) ts z = subst (λ (n : ℕ). TestsAvailable rows r n q.date (tests_of q.condition)) c v.0
reads-tests rows r (send_row q) s e v (inr c) ts z = v.1.1 s (eqb-true _ _ c.1)

reads_first : (rows : List Row) (r : ℕ) (row : Row) → is_keep row ≡ false → ReadsAvailable rows r row → 0 < (as_row row).count
    → Available rows r (as_row row).st (as_row row).one (as_row row).date (tests_in row)
reads_first rows r (keep_row k) e v l = absurd (true≢false e)
reads_first rows r (call_row c) e v l = go c.inputs v.1 l
  where
    go : (i : Inputs) → AllByRecursion (λ x. Available rows r c.station x c.date (tests_of c.condition)) (inputs_of i) → 0 < input_count i → Available rows r c.station (first_input i) c.date (tests_of c.condition)
    go Nothing a l = absurd (omega arith)
    go (Single x) a l = a.0
    go (Pair x y) a l = a.0
reads_first rows r (send_row s) e v l = v.1.0

reads_second : (rows : List Row) (r : ℕ) (row : Row) → is_keep row ≡ false → ReadsAvailable rows r row → 1 < (as_row row).count
    → Available rows r (as_row row).st (as_row row).two (as_row row).date (tests_in row)
reads_second rows r (keep_row k) e v l = absurd (true≢false e)
reads_second rows r (call_row c) e v l = go c.inputs v.1 l
  where
    go : (i : Inputs) → AllByRecursion (λ x. Available rows r c.station x c.date (tests_of c.condition)) (inputs_of i) → 1 < input_count i → Available rows r c.station (second_input i) c.date (tests_of c.condition)
    go Nothing a l = absurd (omega arith)
    go (Single x) a l = absurd (omega arith)
    go (Pair x y) a l = a.1.0
reads_second rows r (send_row s) e v l = absurd (omega arith)

module _ (h : Head) (rows : List Row) (rules : Rules h rows) where
  abbrev nk : ℕ
  nk = keep_count rows

  abbrev n : ℕ
  n = row_total rows

  abbrev at : ℕ → Row
  at i = row_at rows (nk + i)

  below : (i : ℕ) → i < n → nk + i < length rows
  below i l = let a = keep-few rows in omega arith

  after : (i : ℕ) → nk ≤ i → i < length rows → is_keep (row_at rows i) ≡ false
  after i a l = go (cases_Bool (is_keep (row_at rows i)))
    where
      go : (is_keep (row_at rows i) ≡ true) ⊎ (is_keep (row_at rows i) ≡ false) → is_keep (row_at rows i) ≡ false
      go (inr e) = e
      go (inl e) =
          let f = (placed-keep rows i (row_at rows i) (rules i l).placed e).1 in
          absurd (omega (arith, count-all rows i l (λ u m. on u m f (cases_order u i))))
        where
          on : (u : ℕ) → u ≤ i → ((u : ℕ) → u < i → is_keep (row_at rows u) ≡ true) → (u ≡ i) ⊎ ((u < i) ⊎ (i < u)) → is_keep (row_at rows u) ≡ true
          on u m f (inl q) = subst (λ (z : ℕ). is_keep (row_at rows z) ≡ true) (sym q) e
          on u m f (inr (inl q)) = f u q
          on u m f (inr (inr q)) = absurd (omega arith)

  pub ordered : Ordered h.cycle rows
  ordered = record { after = after; inside = λ i l. end-within h (row_at rows i) (rules i l).fields }

  not-keep : (i : ℕ) → i < n → is_keep (at i) ≡ false
  not-keep i l = after (nk + i) (omega arith) (below i l)

  -- Each call or send is within its limits.
  pub fields : (i : ℕ) → i < n → Fields h (rows_of rows i)
  fields i l = fields-of h (at i) (not-keep i l) (rules (nk + i) (below i l)).fields

  supplied : (i s x : ℕ) (ts : List Test) → i < n → Available rows (nk + i) s x (rows_of rows i).date ts
      → Supplied (rows_of rows) n h.cycle (keeps_of rows) nk i s (as_tests ts) x
  supplied i s x ts l (u, lu, v) = go (cases_lt u nk)
    where
      go : (u < nk) ⊎ (nk ≤ u) → Supplied (rows_of rows) n h.cycle (keeps_of rows) nk i s (as_tests ts) x
      go (inl k) = let q = keep-provides (row_at rows u) s x _ ts (keep-front rows u k) v in inl (u, k, q.0, q.1)
      go (inr k) =
          let z : u ≡ nk + (u - nk) = omega arith in
          let q = row-provides (at (u - nk)) s x _ ts (not-keep (u - nk) (omega arith)) (subst (λ (y : ℕ). Provides (row_at rows y) s x (rows_of rows i).date ts) z v) in
          inr (u - nk, omega arith, q.0, q.1, q.2, q.3)

  abbrev needs : (i : ℕ) → i < n → ReadsAvailable rows (nk + i) (at i)
  needs i l = (rules (nk + i) (below i l)).reads

  tests-as : (row : Row) → (as_row row).tests ≡ as_tests (tests_in row)
  tests-as row = tests_same row

  tested : (i s : ℕ) → i < n → Concerns (rows_of rows i) s → (c : List Asked) (t : Asked) (d : List Asked) → (rows_of rows i).tests ≡ c ++ (t ∷ d)
      → Supplied (rows_of rows) n h.cycle (keeps_of rows) nk i s c t.var
  tested i s l k c t d e =
      let ts = tests_in (at i) in
      let p = split ts c t d (sym (tests-as (at i)) ∙ e) in
      let a = reads-tests rows (nk + i) (at i) s (not-keep i l) (needs i l) k ts (sym (tests-as (at i))) (length c) p.0 in
      let b = supplied i s (test_at ts (length c)).variable (take (length c) ts) l a in
      subst (λ (z : List Asked). Supplied (rows_of rows) n h.cycle (keeps_of rows) nk i s z t.var) p.2
      (subst (λ (z : Asked). Supplied (rows_of rows) n h.cycle (keeps_of rows) nk i s (as_tests (take (length c) ts)) z.var) p.1 b)

  first : (i : ℕ) → i < n → 0 < (rows_of rows i).count → Supplied (rows_of rows) n h.cycle (keeps_of rows) nk i (rows_of rows i).st (rows_of rows i).tests (rows_of rows i).one
  first i l c = subst (λ (z : List Asked). Supplied (rows_of rows) n h.cycle (keeps_of rows) nk i (rows_of rows i).st z (rows_of rows i).one) (sym (tests-as (at i)))
      (supplied i (rows_of rows i).st (rows_of rows i).one (tests_in (at i)) l (reads_first rows (nk + i) (at i) (not-keep i l) (needs i l) c))

  second : (i : ℕ) → i < n → 1 < (rows_of rows i).count → Supplied (rows_of rows) n h.cycle (keeps_of rows) nk i (rows_of rows i).st (rows_of rows i).tests (rows_of rows i).two
  second i l c = subst (λ (z : List Asked). Supplied (rows_of rows) n h.cycle (keeps_of rows) nk i (rows_of rows i).st z (rows_of rows i).two) (sym (tests-as (at i)))
      (supplied i (rows_of rows i).st (rows_of rows i).two (tests_in (at i)) l (reads_second rows (nk + i) (at i) (not-keep i l) (needs i l) c))

  once : (m m' : ℕ) → m < nk → m' < nk → (keeps_of rows m).into ≡ (keeps_of rows m').into → m ≡ m'
  once m m' l l' e = go (cases_order m m')
    where
      few : nk ≤ length rows
      few = keep-few rows

      go : (m ≡ m') ⊎ ((m < m') ⊎ (m' < m)) → m ≡ m'
      go (inl q) = q
      go (inr (inl q)) = absurd (keeps-apart (row_at rows m) (row_at rows m') (keep-front rows m l) (keep-front rows m' l') ((rules m' (omega (arith, few))).writers m q) e)
      go (inr (inr q)) = absurd (keeps-apart (row_at rows m') (row_at rows m) (keep-front rows m' l') (keep-front rows m l) ((rules m (omega (arith, few))).writers m' q) (sym e))

  -- The rules of acceptance, on the schedule.
  pub judged : Judged (rows_of rows) (row_total rows) h.cycle (keeps_of rows) (keep_count rows)
  judged = record {
    long = λ i l. (fields i l).long;
    inside = λ i l. (fields i l).inside;
    copies = λ i l q. (fields i l).copies q;
    once = once;
    unwritten = λ i m l k s q. keep-unwritten (row_at rows m) (at i) (keep-front rows m k) (not-keep i l) ((rules (nk + i) (below i l)).writers m (omega arith)) s q;
    writers = λ i j l k s t q. writers-apart (at i) (at j) (not-keep i (omega arith)) (not-keep j k) ((rules (nk + j) (below j k)).writers (nk + i) (omega arith)) s t q;
    calls = λ i j l k s t q. calls-apart (at i) (at j) (not-keep i (omega arith)) (not-keep j k) ((rules (nk + j) (below j k)).overlaps (nk + i) (omega arith)) s t q;
    lines = λ i j l k s t. sends-apart (at i) (at j) (not-keep i (omega arith)) (not-keep j k) ((rules (nk + j) (below j k)).overlaps (nk + i) (omega arith)) s t;
    tested = tested;
    first = first;
    second = second;
  }

  keeps-few : nk ≤ 16
  keeps-few = go (cases_lt 0 nk)
    where
      go : (0 < nk) ⊎ (nk ≤ 0) → nk ≤ 16
      go (inl q) = let few = keep-few rows in omega (arith, (placed-keep rows (nk - 1) (row_at rows (nk - 1)) (rules (nk - 1) (omega arith)).placed (keep-front rows (nk - 1) (omega arith))).0)
      go (inr q) = omega arith

  -- The limits, on the schedule.
  pub limits : head_within h ≡ true → h.rows ≡ length rows
      → Limits (rows_of rows) (row_total rows) h.cycle (keeps_of rows) (keep_count rows) h.stations h.variables
  limits w len =
      let a = and_parts ((ltb 0 h.stations && ltb h.stations 9) && (ltb 0 h.variables && ltb h.variables 65)) _ w in
      let b = and_parts (ltb 0 h.stations && ltb h.stations 9) _ a.0 in
      let s = and_parts (ltb 0 h.stations) _ b.0 in
      let v = and_parts (ltb 0 h.variables) _ b.1 in
      let c = and_parts (ltb 0 h.cycle && ltb h.cycle 65536) _ a.1 in
      let t = and_parts (ltb 0 h.cycle) _ c.0 in
      record {
        few_stations = omega (arith, ltb-true _ _ s.1);
        few_variables = omega (arith, ltb-true _ _ v.1);
        rows = omega (arith, ltb-true _ _ c.1, keep-few rows);
        keeps = keeps-few;
        cycle = (omega (arith, ltb-true _ _ t.0), omega (arith, ltb-true _ _ t.1));
        kept = λ m l. let few = keep-few rows in keep-within h (row_at rows m) (keep-front rows m l) (rules m (omega arith)).fields;
        works = λ k l q. (fields k l).work;
        few = λ k l. (fields k l).few;
        first = λ k l q. (fields k l).first q;
        second = λ k l q. (fields k l).second q;
        output = λ k l. (fields k l).output;
        tests = λ k l. (fields k l).tests;
        tested = λ k t l m. (fields k l).tested t m;
      }

  -- The limits that the code counts on.
  pub bounded : head_within h ≡ true → length rows ≤ h.rows → Bounded h.cycle rows
  bounded w len =
      let a = and_parts ((ltb 0 h.stations && ltb h.stations 9) && (ltb 0 h.variables && ltb h.variables 65)) _ w in
      let c = and_parts (ltb 0 h.cycle && ltb h.cycle 65536) _ a.1 in
      let t = and_parts (ltb 0 h.cycle) _ c.0 in
      record {
        few = omega (arith, ltb-true _ _ c.1);
        long = omega (arith, ltb-true _ _ t.0);
        short = omega (arith, ltb-true _ _ t.1);
        inside = λ i l. end-within h (row_at rows i) (rules i l).fields;
      }
