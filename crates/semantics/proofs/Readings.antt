-- The reading of a sheet is the reading of its schedule.
use Rattle.std.proofs.Common.{◌≡◌, ℕ, zero, suc, ◌+◌, ◌<◌, ◌≤◌, Bool, true, false, cond, not, ◌&&◌, eqb, ltb, ◌⊎◌, List, [], ◌∷◌, length, Some, None, Option, sym, refl, ap, ◌∙◌, subst, ap₂, inl, inr, add-zero, add-suc, arith}
use Rattle.std.proofs.lemmas.Bool.{cases_lt, cond-true, cond-false, both_ways, lt-ltb, le-ltb}
use Rattle.sheet.specs.declared.row.Relation.{Relation}
use Rattle.sheet.specs.declared.row.Relation.TheVariants.{Equal, Unequal}
use Rattle.sheet.specs.declared.row.Test.{Test}
use Rattle.sheet.specs.declared.row.Inputs.{Inputs}
use Rattle.sheet.specs.declared.row.Inputs.TheVariants.{Nothing, Single, Pair}
use Rattle.sheet.specs.declared.row.Condition.{Condition}
use Rattle.sheet.specs.declared.row.Call.{Call}
use Rattle.sheet.specs.declared.row.Row.{Row}
use Rattle.sheet.specs.declared.row.Row.TheVariants.{Keep as keep_row, Call as call_row, Send as send_row}
use Rattle.sheet.specs.Rows.{tests_of, row_at, inputs_of}
use Rattle.judge.specs.Verdict.{is_keep}
use Rattle.plant.specs.Model.{Model, Work, leaves}
use Rattle.plant.specs.Fit.{KnowsEach}
use Rattle.schedule.specs.Rows.{meets, all_meet, Row as Planned, Now as PlannedNow, Places as PlannedPlaces, word_of as planned_word, word1, word2, asked, given, do_row, read_to as planned_to}
use Rattle.schedule.specs.Pick.{pick}
use Rattle.schedule.specs.Machine.{said, take_in, or_first as or_first_of, cells_of, start_of}
use Rattle.schedule.specs.Cycles as planned
use Rattle.translate.specs.Schedules.{keep_count, as_test, as_tests, as_row, as_keep, input_count, first_input, second_input, is_equal, rows_of, row_total, keeps_of}
use Rattle.translate.specs.Ordered.{Ordered}
use Rattle.translate.proofs.Maps.{keep-few, keep-front}
use Rattle.semantics.specs.Reading as reading
use Rattle.semantics.specs.Reading.{Places, Cells, Now, Reading, holds, all_hold, passes, word_of, work_of, asks, keeps, kept_cells, filled, or_first, gives, given_by, is_performed, performed, taken, read_to, begins, cycle, after_cycles, performs, first_read, second_read, words_of, listens}
use Rattle.semantics.proofs.Guarded.{guarded}

pub record NowAlike {S : Type 0} (x : Now S) (y : PlannedNow S) : Type 0 where
  pub places : (s v : ℕ) → x.places s v ≡ y.places s v
  pub plant : x.plant ≡ y.plant

word_same : (o : Option ℕ) → word_of o ≡ planned_word o
word_same None = refl
word_same (Some v) = refl

test-same : (t : Test) (o : Option ℕ) → holds t o ≡ meets (as_test t) o
test-same t None = refl
test-same t (Some v) = go t.relation
  where
    go : (q : Relation) → passes q v t.word ≡ cond (is_equal q) (eqb v t.word) (not (eqb v t.word))
    go Equal = refl
    go Unequal = refl

tests_same : (ts : List Test) (at p : ℕ → Option ℕ) → ((v : ℕ) → at v ≡ p v) → all_hold ts at ≡ all_meet (as_tests ts) p
unfolding all_hold all_meet
tests_same [] at p e = refl
tests_same (t ∷ ts) at p e = ap₂ (λ (x y : Bool). x && y) (test-same t (at t.variable) ∙ ap (meets (as_test t)) (e t.variable)) (tests_same ts at p e)

-- A call with its inputs.
abbrev called : Call Condition → Inputs → Planned
called c i = record {
  sends = false;
  st = c.station;
  work = c.work;
  count = input_count i;
  one = first_input i;
  two = second_input i;
  out = c.output;
  listeners = λ n. false;
  date = c.date;
  dur = c.duration;
  tests = as_tests (tests_of c.condition);
}

work-same : (c : Call Condition) (i : Inputs) (at : ℕ → Option ℕ) (p : PlannedPlaces) → ((v : ℕ) → at v ≡ p c.station v) → work_of c i at ≡ asked (called c i) p
work-same c Nothing at p e = refl
work-same c (Single a) at p e = ap (λ (z : ℕ). record { station = c.station; number = c.work; count = 1; first = z; second = 0 }) (word_same (at a) ∙ ap planned_word (e a))
work-same c (Pair a b) at p e = ap₂ (λ (z y : ℕ). record { station = c.station; number = c.work; count = 2; first = z; second = y }) (word_same (at a) ∙ ap planned_word (e a)) (word_same (at b) ∙ ap planned_word (e b))

first-same : (c : Call Condition) (i : Inputs) (at : ℕ → Option ℕ) (p : PlannedPlaces) → ((v : ℕ) → at v ≡ p c.station v) → first_read i at ≡ said (ltb 0 (input_count i)) (word1 (called c i) p)
first-same c Nothing at p e = refl
first-same c (Single a) at p e = ap Some (word_same (at a) ∙ ap planned_word (e a))
first-same c (Pair a b) at p e = ap Some (word_same (at a) ∙ ap planned_word (e a))

second-same : (c : Call Condition) (i : Inputs) (at : ℕ → Option ℕ) (p : PlannedPlaces) → ((v : ℕ) → at v ≡ p c.station v) → second_read i at ≡ said (ltb 1 (input_count i)) (word2 (called c i) p)
second-same c Nothing at p e = refl
second-same c (Single a) at p e = refl
second-same c (Pair a b) at p e = ap Some (word_same (at b) ∙ ap planned_word (e b))

count_same : (i : Inputs) → length (inputs_of i) ≡ input_count i
count_same Nothing = refl
count_same (Single a) = refl
count_same (Pair a b) = refl

module _ (m : Model) where
  abbrev S : Type 0
  S = m.State

  Known : Row → Type 0
  Known x = (c : Call Condition) → x ≡ call_row c → m.known c.station c.work (input_count c.inputs) ≡ true

  -- Whether a row is performed, what it gives, and what it leaves.
  performed-same : (x : Row) (a : Now S) (b : PlannedNow S) → is_keep x ≡ false → NowAlike a b → is_performed x a.places ≡ all_meet (as_row x).tests (b.places (as_row x).st)
  performed-same (keep_row k) a b nk al = absurd (both_ways true nk refl)
  performed-same (call_row c) a b nk al = tests_same (tests_of c.condition) (a.places c.station) (b.places c.station) (al.places c.station)
  performed-same (send_row s) a b nk al = tests_same (tests_of s.condition) (a.places s.station) (b.places s.station) (al.places s.station)

  given-same : (c : Call Condition) (a : Now S) (b : PlannedNow S) → m.known c.station c.work (input_count c.inputs) ≡ true → NowAlike a b
      → m.answer a.plant (asks c a.places) ≡ guarded m b.plant (asked (as_row (call_row c)) b.places)
  given-same c a b kn al =
      ap₂ (λ (p : S) (w : Work). m.answer p w) al.plant (work-same c c.inputs (a.places c.station) b.places (al.places c.station))
      ∙ sym (cond-true _ _ _ kn)

  row-alike : (x : Row) (a : Now S) (b : PlannedNow S) → is_keep x ≡ false → Known x → NowAlike a b → NowAlike (taken m x a) (do_row (leaves m) (guarded m) (as_row x) b)
  unfolding Known
  row-alike (keep_row k) a b nk kn al = absurd (both_ways true nk refl)
  row-alike (call_row c) a b nk kn al = go (is_performed (call_row c) a.places) (all_meet (as_tests (tests_of c.condition)) (b.places c.station)) (performed-same (call_row c) a b nk al)
    where
      row : Planned
      row = as_row (call_row c)

      go : (q t : Bool) → q ≡ t → NowAlike (cond q (performed m (call_row c) a) a)
          (record {
            places = λ s v. cond (t && (eqb c.station s && eqb c.output v)) (Some (guarded m b.plant (asked row b.places))) (b.places s v);
            plant = cond (t && true) (leaves m b.plant (asked row b.places)) b.plant;
          })
      go true true e = record {
        places = λ s v. ap₂ (λ (o p : Option ℕ). cond (eqb c.station s && eqb c.output v) o p) (ap Some (given-same c a b (kn c refl) al)) (al.places s v);
        plant = ap₂ (λ (p : S) (w : Work). m.next p w) al.plant (work-same c c.inputs (a.places c.station) b.places (al.places c.station)) ∙ sym (cond-true _ _ _ (kn c refl));
      }
      go false false e = record { places = al.places; plant = al.plant }
      go true false e = absurd (both_ways true e refl)
      go false true e = absurd (both_ways false refl e)
  row-alike (send_row c) a b nk kn al = go (is_performed (send_row c) a.places) (all_meet (as_tests (tests_of c.condition)) (b.places c.station)) (performed-same (send_row c) a b nk al)
    where
      row : Planned
      row = as_row (send_row c)

      go : (q t : Bool) → q ≡ t → NowAlike (cond q (performed m (send_row c) a) a)
          (record {
            places = λ s v. cond (t && (listens c s && eqb c.variable v)) (Some (planned_word (b.places c.station c.variable))) (b.places s v);
            plant = cond (t && false) (leaves m b.plant (asked row b.places)) b.plant;
          })
      go true true e = record {
        places = λ s v. ap₂ (λ (o p : Option ℕ). cond (listens c s && eqb c.variable v) o p) (ap Some (word_same (a.places c.station c.variable) ∙ ap planned_word (al.places c.station c.variable))) (al.places s v);
        plant = al.plant;
      }
      go false false e = record { places = al.places; plant = al.plant }
      go true false e = absurd (both_ways true e refl)
      go false true e = absurd (both_ways false refl e)

  keep_taken : (x : Row) (a : Now S) → is_keep x ≡ true → taken m x a ≡ a
  keep_taken (keep_row k) a e = refl
  keep_taken (call_row c) a e = absurd (both_ways false refl e)
  keep_taken (send_row s) a e = absurd (both_ways false refl e)

  -- The words of a row.
  pub record WordsAlike (x : Row) (a : Now S) (b : PlannedNow S) : Type 0 where
    pub first : (words_of m x a).first ≡ said (ltb 0 (as_row x).count) (word1 (as_row x) b.places)
    pub second : (words_of m x a).second ≡ said (ltb 1 (as_row x).count) (word2 (as_row x) b.places)
    pub given : (words_of m x a).given ≡ Some (given (leaves m) (guarded m) (as_row x) b)

  words_same : (x : Row) (a : Now S) (b : PlannedNow S) → is_keep x ≡ false → Known x → NowAlike a b → WordsAlike x a b
  unfolding Known
  words_same (keep_row k) a b nk kn al = absurd (both_ways true nk refl)
  words_same (call_row c) a b nk kn al = record {
    first = first-same c c.inputs (a.places c.station) b.places (al.places c.station);
    second = second-same c c.inputs (a.places c.station) b.places (al.places c.station);
    given = ap Some (given-same c a b (kn c refl) al);
  }
  words_same (send_row s) a b nk kn al = record {
    first = ap Some (word_same (a.places s.station s.variable) ∙ ap planned_word (al.places s.station s.variable));
    second = refl;
    given = ap Some (word_same (a.places s.station s.variable) ∙ ap planned_word (al.places s.station s.variable));
  }

  module _ (h-cycle : ℕ) (rows : List Row) (ordered : Ordered h-cycle rows) (known : KnowsEach m rows) where
    abbrev r : ℕ → Planned
    r = rows_of rows

    abbrev n : ℕ
    n = row_total rows

    abbrev nk : ℕ
    nk = keep_count rows

    below : (k : ℕ) → k < n → nk + k < length rows
    below k l = let a = keep-few rows in omega arith

    not-keep : (k : ℕ) → k < n → is_keep (row_at rows (nk + k)) ≡ false
    not-keep k l = ordered.after (nk + k) (omega arith) (below k l)

    known-row : (k : ℕ) → Known (row_at rows (nk + k))
    unfolding Known
    known-row k c e = ap (λ (z : ℕ). m.known c.station c.work z) (sym (count_same c.inputs)) ∙ known (nk + k) c e

    read_keeps : (a : Now S) (i : ℕ) → i ≤ nk → read_to m rows a i ≡ a
    unfolding read_to
    read_keeps a zero l = refl
    read_keeps a (suc i) l = ap (taken m (row_at rows i)) (read_keeps a i (omega arith)) ∙ keep_taken (row_at rows i) a (keep-front rows i l)

    read_alike : (a : Now S) (b : PlannedNow S) → NowAlike a b → (k : ℕ) → k ≤ n → NowAlike (read_to m rows a (nk + k)) (planned_to (leaves m) (guarded m) r b k)
    unfolding read_to planned_to
    read_alike a b al zero l = subst (λ (x : Now S). NowAlike x b) (sym (ap (read_to m rows a) (add-zero nk) ∙ read_keeps a nk (omega arith))) al
    read_alike a b al (suc k) l = subst (λ (z : ℕ). NowAlike (read_to m rows a z) (do_row (leaves m) (guarded m) (r k) (planned_to (leaves m) (guarded m) r b k))) (sym (add-suc nk k))
        (row-alike (row_at rows (nk + k)) (read_to m rows a (nk + k)) (planned_to (leaves m) (guarded m) r b k) (not-keep k l) (known-row k) (read_alike a b al k (omega arith)))

    -- What keep rows give.
    first_word : (o : Option ℕ) (v : ℕ) → or_first o v ≡ or_first_of o v
    first_word None v = refl
    first_word (Some u) v = refl

    give-same : (x : Row) (c d : Option ℕ) (p : Places) (o : Option ℕ) (s v : ℕ) → is_keep x ≡ true → c ≡ d → p s v ≡ o
        → gives x c p s v ≡ cond (eqb (as_keep x).st s && eqb (as_keep x).into v) (Some (or_first_of d (as_keep x).first)) o
    give-same (keep_row k) c d p o s v e q f = ap₂ (λ (a b : Option ℕ). cond (eqb k.station s && eqb k.given v) a b) (ap Some (first_word c k.first ∙ ap (λ (z : Option ℕ). or_first_of z k.first) q)) f
    give-same (call_row k) c d p o s v e q f = absurd (both_ways false refl e)
    give-same (send_row k) c d p o s v e q f = absurd (both_ways false refl e)

    give-none : (x : Row) (c : Option ℕ) (p : Places) (s v : ℕ) → is_keep x ≡ false → gives x c p s v ≡ p s v
    give-none (keep_row k) c p s v e = absurd (both_ways true e refl)
    give-none (call_row k) c p s v e = refl
    give-none (send_row k) c p s v e = refl

    given-front : (c d : Cells) → ((i : ℕ) → c i ≡ d i) → (s v i : ℕ) → i ≤ nk
        → given_by rows c i s v ≡ pick (λ k. eqb (keeps_of rows k).st s && eqb (keeps_of rows k).into v) (λ k. or_first_of (d k) (keeps_of rows k).first) i
    unfolding given_by pick
    given-front c d e s v zero l = refl
    given-front c d e s v (suc i) l = give-same (row_at rows i) (c i) (d i) (given_by rows c i) _ s v (keep-front rows i l) (e i) (given-front c d e s v i (omega arith))

    given-rest : (c : Cells) (s v k : ℕ) → k ≤ n → given_by rows c (nk + k) s v ≡ given_by rows c nk s v
    unfolding given_by
    given-rest c s v zero l = ap (λ (z : ℕ). given_by rows c z s v) (add-zero nk)
    given-rest c s v (suc k) l = ap (λ (z : ℕ). given_by rows c z s v) (add-suc nk k) ∙ give-none (row_at rows (nk + k)) (c (nk + k)) (given_by rows c (nk + k)) s v (not-keep k l) ∙ given-rest c s v k (omega arith)

    total : nk + n ≡ length rows
    total = let a = keep-few rows in omega arith

    given-all : (c d : Cells) → ((i : ℕ) → c i ≡ d i) → (s v : ℕ) → given_by rows c (length rows) s v ≡ start_of (keeps_of rows) nk d s v
    given-all c d e s v = ap (λ (z : ℕ). given_by rows c z s v) (sym total) ∙ given-rest c s v n (omega arith) ∙ given-front c d e s v nk (omega arith)

    filled-same : (o p c d : Option ℕ) → o ≡ p → c ≡ d → filled o c ≡ take_in p d
    filled-same None None c d e f = f
    filled-same (Some v) (Some u) c d e f = e
    filled-same None (Some u) c d e f = absurd (let z : ◌≡◌ {A = ℕ} 0 1 = cc in omega arith)
    filled-same (Some v) None c d e f = absurd (let z : ◌≡◌ {A = ℕ} 0 1 = cc in omega arith)

    keeps_same : (x : Row) (p q : Places) (c d : Option ℕ) → is_keep x ≡ true → ((s v : ℕ) → p s v ≡ q s v) → c ≡ d → keeps x p c ≡ take_in (q (as_keep x).st (as_keep x).from) d
    keeps_same (keep_row k) p q c d e f g = filled-same (p k.station k.taken) (q k.station k.taken) c d (f k.station k.taken) g
    keeps_same (call_row k) p q c d e f g = absurd (both_ways false refl e)
    keeps_same (send_row k) p q c d e f g = absurd (both_ways false refl e)

    keeps-none : (x : Row) (p : Places) (c : Option ℕ) → is_keep x ≡ false → keeps x p c ≡ c
    keeps-none (keep_row k) p c e = absurd (both_ways true e refl)
    keeps-none (call_row k) p c e = refl
    keeps-none (send_row k) p c e = refl

    cells_same : (p q : Places) (c d : Cells) → ((s v : ℕ) → p s v ≡ q s v) → ((i : ℕ) → c i ≡ d i) → (i : ℕ) → kept_cells rows p c i ≡ cells_of (keeps_of rows) nk q d i
    cells_same p q c d f g i = go (cases_lt i nk)
      where
        few : nk ≤ length rows
        few = keep-few rows

        go : (i < nk) ⊎ (nk ≤ i) → kept_cells rows p c i ≡ cells_of (keeps_of rows) nk q d i
        go (inl l) = cond-true _ _ _ (lt-ltb i (length rows) (omega (arith, few))) ∙ keeps_same (row_at rows i) p q (c i) (d i) (keep-front rows i l) f (g i) ∙ sym (cond-true _ _ _ (lt-ltb i nk l))
        go (inr l) = on (cases_lt i (length rows)) ∙ g i ∙ sym (cond-false _ _ _ (le-ltb i nk l))
          where
            on : (i < length rows) ⊎ (length rows ≤ i) → kept_cells rows p c i ≡ c i
            on (inl k) = cond-true _ _ _ (lt-ltb i (length rows) k) ∙ keeps-none (row_at rows i) p (c i) (ordered.after i l k)
            on (inr k) = cond-false _ _ _ (le-ltb i (length rows) k)

    -- Whole cycles.
    pub record ReadingAlike (x : Reading S) (y : planned.Reading S) : Type 0 where
      pub places : (s v : ℕ) → x.places s v ≡ y.places s v
      pub cells : (i : ℕ) → x.cells i ≡ y.cells i
      pub plant : x.plant ≡ y.plant

    begins-alike : (x : Reading S) (y : planned.Reading S) → ReadingAlike x y → NowAlike (begins m rows x) (planned.begins (leaves m) (guarded m) r n (keeps_of rows) nk y)
    begins-alike x y al = record {
      places = given-all (kept_cells rows x.places x.cells) (cells_of (keeps_of rows) nk y.places y.cells) (cells_same x.places y.places x.cells y.cells al.places al.cells);
      plant = al.plant;
    }

    pub cycles-alike : (start : S) (q : ℕ) → ReadingAlike (after_cycles m rows start q) (planned.after_cycles (leaves m) (guarded m) r n (keeps_of rows) nk start q)
    unfolding after_cycles planned.after_cycles
    cycles-alike start zero = record { places = λ s v. refl; cells = λ i. refl; plant = refl }
    cycles-alike start (suc q) = next (cycles-alike start q)
      where
        x : Reading S
        x = after_cycles m rows start q

        y : planned.Reading S
        y = planned.after_cycles (leaves m) (guarded m) r n (keeps_of rows) nk start q

        next : ReadingAlike x y → ReadingAlike (cycle m rows x) (planned.cycle (leaves m) (guarded m) r n (keeps_of rows) nk y)
        next al = record { places = done.places; cells = cells_same x.places y.places x.cells y.cells al.places al.cells; plant = done.plant }
          where
            done : NowAlike (read_to m rows (begins m rows x) (length rows)) (planned_to (leaves m) (guarded m) r (planned.begins (leaves m) (guarded m) r n (keeps_of rows) nk y) n)
            done = subst (λ (z : ℕ). NowAlike (read_to m rows (begins m rows x) z) (planned_to (leaves m) (guarded m) r (planned.begins (leaves m) (guarded m) r n (keeps_of rows) nk y) n)) total
                (read_alike (begins m rows x) (planned.begins (leaves m) (guarded m) r n (keeps_of rows) nk y) (begins-alike x y al) n (omega arith))

    -- Before row k of cycle q.
    pub before-alike : (start : S) (q k : ℕ) → k ≤ n
        → NowAlike (reading.before m rows start q (nk + k)) (planned_to (leaves m) (guarded m) r (planned.begins (leaves m) (guarded m) r n (keeps_of rows) nk (planned.after_cycles (leaves m) (guarded m) r n (keeps_of rows) nk start q)) k)
    before-alike start q k l = read_alike (begins m rows (after_cycles m rows start q)) (planned.begins (leaves m) (guarded m) r n (keeps_of rows) nk (planned.after_cycles (leaves m) (guarded m) r n (keeps_of rows) nk start q))
        (begins-alike (after_cycles m rows start q) (planned.after_cycles (leaves m) (guarded m) r n (keeps_of rows) nk start q) (cycles-alike start q)) k l

    pub performs-same : (start : S) (q k : ℕ) → k < n → performs m rows start q (nk + k) ≡ planned.performs (leaves m) (guarded m) m.known r n h-cycle (keeps_of rows) nk start q k
    performs-same start q k l = performed-same (row_at rows (nk + k)) _ _ (not-keep k l) (before-alike start q k (omega arith))

    pub words-alike : (start : S) (q k : ℕ) → k < n
        → WordsAlike (row_at rows (nk + k)) (reading.before m rows start q (nk + k)) (planned_to (leaves m) (guarded m) r (planned.begins (leaves m) (guarded m) r n (keeps_of rows) nk (planned.after_cycles (leaves m) (guarded m) r n (keeps_of rows) nk start q)) k)
    words-alike start q k l = words_same (row_at rows (nk + k)) _ _ (not-keep k l) (known-row k) (before-alike start q k (omega arith))

    -- Every call is known, as the schedule asks it.
    known_as : (x : Row) → is_keep x ≡ false → Known x → (as_row x).sends ≡ false → m.known (as_row x).st (as_row x).work (as_row x).count ≡ true
    unfolding Known
    known_as (keep_row k) e kn s = absurd (both_ways true e refl)
    known_as (call_row c) e kn s = kn c refl
    known_as (send_row c) e kn s = absurd (both_ways true s refl)

    pub known-call : (k : ℕ) → k < n → (r k).sends ≡ false → m.known (r k).st (r k).work (r k).count ≡ true
    known-call k l s = known_as (row_at rows (nk + k)) (not-keep k l) (known-row k) s
