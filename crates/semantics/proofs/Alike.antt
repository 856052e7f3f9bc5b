-- A run and a schedule's bench that hold the same, and steps that keep it so.
use Rattle.std.proofs.Common.{◌≡◌, ℕ, suc, ◌+◌, ◌/◌, ◌<◌, ◌≤◌, Bool, true, false, cond, not, ◌&&◌, eqb, ltb, ◌⊎◌, length, Some, None, Option, sym, refl, ap, ◌∙◌, subst, ap₂, inl, inr, add-one, arith}
use Rattle.std.proofs.lemmas.List.{length-set}
use Rattle.std.proofs.lemmas.Bool.{cases_eq, eq-eqb, ne_eqb, cond-true, cond-false}
use Rattle.plant.specs.Model.{Model, Work, knows, leaves}
use Rattle.plant.specs.Replies.{asked}
use Rattle.plant.specs.declared.works.Words.{Words}
use Rattle.schedule.specs.Rows.{Row, word1, word2, asked as asked_of}
use Rattle.schedule.specs.Machine.{Keep, Bench, UnitState as PlannedUnit, Job as PlannedJob, Message as PlannedMessage, Mark as PlannedMark, said, is_line, take_in, or_first, own, begin, wait, taken, wiped, put, store, release, leave, left}
use Rattle.semantics.specs.declared.state.Mark.{Mark}
use Rattle.semantics.specs.declared.state.Job.{Job}
use Rattle.semantics.specs.declared.state.Job.TheVariants.{Idle, Store, Carry, Listen}
use Rattle.semantics.specs.declared.state.UnitState.{UnitState}
use Rattle.semantics.specs.declared.state.Message.{Message}
use Rattle.semantics.specs.declared.state.State.{State}
use Rattle.semantics.specs.Reading.{or_first as or_first_word}
use Rattle.semantics.specs.Machine as real
use Rattle.semantics.specs.Machine.{World, place_of, word_in, cell_in, mark_in, unit_in, with_word, with_mark, with_unit, with_job, with_timer, with_cleared, blank_mark, new_unit}
use Rattle.semantics.proofs.Lists.{set-read, place_same, emptied-read, length-emptied}
use Rattle.semantics.proofs.Guarded.{guarded}

abbrev pub as_mark : PlannedMark → Mark
as_mark x = record { count = x.count; tick = x.tick; first = x.first; second = x.second; given = x.given }

abbrev pub as_line : Option PlannedMessage → Option Message
as_line None = None
as_line (Some x) = Some record { end = x.stop; word = x.word }

-- A timer that is set, or one that was spent before the tick `late`.
abbrev pub Timed : ℕ → Option ℕ → ℕ → Type 0
Timed late timer at = (timer ≡ Some at) ⊎ ((timer ≡ None) × (at < late))

pub record Shape (s : State) : Type 0 where
  pub places : length s.places ≡ 512
  pub cells : length s.cells ≡ 16
  pub marks : length s.marks ≡ 128
  pub units : length s.units ≡ 16

module _ (m : Model) (r : ℕ → Row) (n L : ℕ) (kp : ℕ → Keep) (nk : ℕ) where
  abbrev pub owns : ℕ → ℕ → Bool
  owns j k = own (leaves m) (guarded m) m.known r n L kp nk j k

  -- The job of unit j, with the address of a RECEIVE.
  abbrev pub job_of : ℕ → PlannedJob → ℕ → Job
  job_of j q a = cond (is_line j) (cond (owns j q.row) (Carry q.stop) (Listen q.stop (r q.row).out a)) (Store q.stop (r q.row).out q.word)

  abbrev pub JobAlike : ℕ → Option PlannedJob → Job → Type 0
  JobAlike j None job = job ≡ Idle
  JobAlike j (Some q) job = (a : ℕ) × (q.row < n) × (job ≡ job_of j q a)

  pub record UnitAlike (late j : ℕ) (b : PlannedUnit) (u : UnitState) : Type 0 where
    pub timer : Timed late u.timer b.at
    pub address : u.address ≡ b.pc
    pub job : JobAlike j b.busy u.job

  pub record Alike (late : ℕ → ℕ) (b : Bench m.State) (w : World m.State) : Type 0 where
    pub shape : Shape w.state
    pub plant : w.plant ≡ b.plant
    pub places : (s x : ℕ) → s < 8 → x < 64 → word_in w.state s x ≡ b.places s x
    pub cells : (c : ℕ) → c < 16 → cell_in w.state c ≡ b.cells c
    pub marks : (k : ℕ) → k < n → mark_in w.state (nk + k) ≡ as_mark (b.mark k)
    pub units : (j : ℕ) → j < 16 → UnitAlike (late j) j (b.units j) (unit_in w.state j)
    pub line : w.state.line ≡ as_line b.line

  -- A unit that is written.
  put-unit : (late : ℕ → ℕ) (j i : ℕ) (s : State) (b : PlannedUnit) (c : PlannedUnit) (u : UnitState) → Shape s → j < 16
      → UnitAlike (late j) j b u → ((j ≡ i → ⊥) → UnitAlike (late i) i c (unit_in s i))
      → UnitAlike (late i) i (cond (eqb j i) b c) (unit_in (with_unit s j u) i)
  put-unit late j i s b c u sh lj same other = go (cases_eq j i)
    where
      e : unit_in (with_unit s j u) i ≡ cond (eqb j i) u (unit_in s i)
      e = set-read s.units j i u new_unit (let z = sh.units in omega arith)

      go : (j ≡ i) ⊎ (j ≡ i → ⊥) → UnitAlike (late i) i (cond (eqb j i) b c) (unit_in (with_unit s j u) i)
      go (inl q) =
          subst (λ (x : PlannedUnit). UnitAlike (late i) i x (unit_in (with_unit s j u) i)) (sym (cond-true _ _ _ (eq-eqb j i q)))
          (subst (λ (x : UnitState). UnitAlike (late i) i b x) (sym (e ∙ cond-true _ _ _ (eq-eqb j i q)))
          (subst (λ (x : ℕ). UnitAlike (late x) x b u) q same))
      go (inr q) =
          subst (λ (x : PlannedUnit). UnitAlike (late i) i x (unit_in (with_unit s j u) i)) (sym (cond-false _ _ _ (ne_eqb j i q)))
          (subst (λ (x : UnitState). UnitAlike (late i) i c x) (sym (e ∙ cond-false _ _ _ (ne_eqb j i q))) (other q))

  unit-shape : (s : State) (j : ℕ) (u : UnitState) → Shape s → Shape (with_unit s j u)
  unit-shape s j u sh = record { places = sh.places; cells = sh.cells; marks = sh.marks; units = length-set s.units j u ∙ sh.units }

  timed-up : (late more : ℕ) (t : Option ℕ) (at : ℕ) → late ≤ more → Timed late t at → Timed more t at
  timed-up late more t at l (inl e) = inl e
  timed-up late more t at l (inr (e, f)) = inr (e, omega arith)

  unit-up : (late more j : ℕ) (b : PlannedUnit) (u : UnitState) → late ≤ more → UnitAlike late j b u → UnitAlike more j b u
  unit-up late more j b u l a = record { timer = timed-up late more u.timer b.at l a.timer; address = a.address; job = a.job }

  pub alike-up : (late more : ℕ → ℕ) (b : Bench m.State) (w : World m.State) → ((i : ℕ) → late i ≤ more i) → Alike late b w → Alike more b w
  alike-up late more b w up a = record {
    shape = a.shape;
    plant = a.plant;
    places = a.places;
    cells = a.cells;
    marks = a.marks;
    line = a.line;
    units = λ i l. unit-up (late i) (more i) i (b.units i) (unit_in w.state i) (up i) (a.units i l);
  }

  -- FUTURE
  pub wait-alike : (late : ℕ → ℕ) (b : Bench m.State) (w : World m.State) (j T ticks a : ℕ) → j < 16 → w.state.granted ≡ T → Alike late b w
      → Alike late (wait (leaves m) (guarded m) m.known r n L kp nk j T ticks a b) (real.later m ticks a j w)
  wait-alike late b w j T ticks a lj e_t al = record {
    shape = unit-shape w.state j _ al.shape;
    plant = al.plant;
    places = al.places;
    cells = al.cells;
    marks = al.marks;
    line = al.line;
    units = λ i l. put-unit late j i w.state _ (b.units i) _ al.shape lj
        (record { timer = inl (ap (λ (z : ℕ). Some (z + ticks)) e_t); address = refl; job = (al.units j lj).job }) (λ ne. al.units i l);
  }

  -- Coming due spends the timer.
  pub spend-alike : (late more : ℕ → ℕ) (b : Bench m.State) (w : World m.State) (j : ℕ) → j < 16 → ((i : ℕ) → late i ≤ more i) → (b.units j).at < more j
      → Alike late b w → Alike more b (real.at w (with_timer w.state j None (unit_in w.state j).address))
  spend-alike late more b w j lj up lt al = record {
    shape = unit-shape w.state j _ al.shape;
    plant = al.plant;
    places = al.places;
    cells = al.cells;
    marks = al.marks;
    line = al.line;
    units = λ i l. subst (λ (x : PlannedUnit). UnitAlike (more i) i x (unit_in (with_timer w.state j None (unit_in w.state j).address) i)) (same i (cases_eq j i))
        (put-unit more j i w.state (b.units j) (b.units i) _ al.shape lj
        (record { timer = inr (refl, lt); address = (al.units j lj).address; job = (al.units j lj).job })
        (λ ne. unit-up (late i) (more i) i (b.units i) (unit_in w.state i) (up i) (al.units i l)));
  }
    where
      same : (i : ℕ) → (j ≡ i) ⊎ (j ≡ i → ⊥) → cond (eqb j i) (b.units j) (b.units i) ≡ b.units i
      same i (inl e) = cond-true _ _ _ (eq-eqb j i e) ∙ ap (λ (z : ℕ). b.units z) e
      same i (inr e) = cond-false _ _ _ (ne_eqb j i e)

  -- KEEP
  pub keep-alike : (late : ℕ → ℕ) (b : Bench m.State) (w : World m.State) (s x c : ℕ) → s < 8 → x < 64 → c < 16 → Alike late b w
      → Alike late (taken (leaves m) (guarded m) m.known r n L kp nk s x c b) (real.at w (real.kept_from m (word_in w.state s x) c w.state))
  keep-alike late b w s x c ls lx lc al = go (word_in w.state s x) (b.places s x) refl (al.places s x ls lx)
    where
      go : (o p : Option ℕ) → word_in w.state s x ≡ o → o ≡ p → Alike late
          (record { places = b.places; cells = λ i. cond (eqb c i) (take_in p (b.cells c)) (b.cells i); plant = b.plant; units = b.units; line = b.line; mark = b.mark })
          (real.at w (real.kept_from m o c w.state))
      go None None e f = record {
        shape = al.shape;
        plant = al.plant;
        places = al.places;
        marks = al.marks;
        line = al.line;
        units = al.units;
        cells = λ i l. al.cells i l ∙ sym (same i (cases_eq c i));
      }
        where
          same : (i : ℕ) → (c ≡ i) ⊎ (c ≡ i → ⊥) → cond (eqb c i) (b.cells c) (b.cells i) ≡ b.cells i
          same i (inl q) = cond-true _ _ _ (eq-eqb c i q) ∙ ap (λ (z : ℕ). b.cells z) q
          same i (inr q) = cond-false _ _ _ (ne_eqb c i q)
      go (Some v) (Some u) e f = record {
        shape = record { places = al.shape.places; cells = length-set w.state.cells c (Some v) ∙ al.shape.cells; marks = al.shape.marks; units = al.shape.units };
        plant = al.plant;
        places = al.places;
        marks = al.marks;
        line = al.line;
        units = al.units;
        cells = λ i l. set-read w.state.cells c i (Some v) None (let z = al.shape.cells in omega arith) ∙ ap₂ (λ (p q : Option ℕ). cond (eqb c i) p q) f (al.cells i l);
      }
      go None (Some u) e f = absurd (let z : ◌≡◌ {A = ℕ} 0 1 = cc in omega arith)
      go (Some v) None e f = absurd (let z : ◌≡◌ {A = ℕ} 0 1 = cc in omega arith)

  -- CLEAR
  pub clear-alike : (late : ℕ → ℕ) (b : Bench m.State) (w : World m.State) (s : ℕ) → s < 8 → Alike late b w
      → Alike late (wiped (leaves m) (guarded m) m.known r n L kp nk s b) (real.at w (with_cleared w.state s))
  clear-alike late b w s ls al = record {
    shape = record { places = length-emptied s 64 w.state.places ∙ al.shape.places; cells = al.shape.cells; marks = al.shape.marks; units = al.shape.units };
    plant = al.plant;
    cells = al.cells;
    marks = al.marks;
    line = al.line;
    units = al.units;
    places = λ q y lq ly. emptied-read s q y w.state.places ls ly al.shape.places ∙ ap (λ (o : Option ℕ). cond (eqb s q) None o) (al.places q y lq ly);
  }

  -- A word that is put in a place.
  word-shape : (s : State) (q x : ℕ) (o : Option ℕ) → Shape s → Shape (with_word s q x o)
  word-shape s q x o sh = record { places = length-set s.places (place_of q x) o ∙ sh.places; cells = sh.cells; marks = sh.marks; units = sh.units }

  word-places : (b : Bench m.State) (s : State) (q x : ℕ) (o u : Option ℕ) → q < 8 → x < 64 → Shape s → ((p y : ℕ) → p < 8 → y < 64 → word_in s p y ≡ b.places p y) → o ≡ u
      → (p y : ℕ) → p < 8 → y < 64 → word_in (with_word s q x o) p y ≡ cond (eqb q p && eqb x y) u (b.places p y)
  word-places b s q x o u lq lx sh al e p y lp ly =
      set-read s.places (place_of q x) (place_of p y) o None (let z = sh.places in omega arith)
      ∙ ap₂ (λ (t : Bool) (z : Option ℕ). cond t o z) (place_same q x p y lx ly) (al p y lp ly)
      ∙ ap (λ (z : Option ℕ). cond (eqb q p && eqb x y) z (b.places p y)) e

  -- GIVE
  or-first : (o : Option ℕ) (v : ℕ) → or_first_word o v ≡ or_first o v
  or-first None v = refl
  or-first (Some u) v = refl

  pub give-alike : (late : ℕ → ℕ) (b : Bench m.State) (w : World m.State) (s c x v : ℕ) → s < 8 → x < 64 → c < 16 → Alike late b w
      → Alike late (put (leaves m) (guarded m) m.known r n L kp nk s c x v b) (real.at w (with_word w.state s x (Some (or_first_word (cell_in w.state c) v))))
  give-alike late b w s c x v ls lx lc al = record {
    shape = word-shape w.state s x _ al.shape;
    plant = al.plant;
    cells = al.cells;
    marks = al.marks;
    line = al.line;
    units = al.units;
    places = word-places b w.state s x _ _ ls lx al.shape al.places (ap Some (or-first (cell_in w.state c) v ∙ ap (λ (o : Option ℕ). or_first o v) (al.cells c lc)));
  }

  -- A unit whose job is written.
  job-unit : (late : ℕ → ℕ) (b : Bench m.State) (s : State) (j i : ℕ) (busy : Option PlannedJob) (job : Job) → Shape s → j < 16
      → ((i : ℕ) → i < 16 → UnitAlike (late i) i (b.units i) (unit_in s i)) → JobAlike j busy job → i < 16
      → UnitAlike (late i) i (cond (eqb j i) (record { at = (b.units j).at; pc = (b.units j).pc; busy = busy }) (b.units i)) (unit_in (with_job s j job) i)
  job-unit late b s j i busy job sh lj al jb li = put-unit late j i s _ (b.units i) _ sh lj
      (record { timer = (al j lj).timer; address = (al j lj).address; job = jb }) (λ ne. al i li)

  -- What is stored, and a unit that is idle again.
  pub store-alike : (late : ℕ → ℕ) (b : Bench m.State) (w : World m.State) (j k v : ℕ) → j < 16 → j / 2 < 8 → (r k).out < 64 → Alike late b w
      → Alike late (store (leaves m) (guarded m) m.known r n L kp nk j k v b) (real.stored m j (r k).out v w)
  store-alike late b w j k v lj ls lx al = record {
    shape = unit-shape (with_word w.state (j / 2) (r k).out (Some v)) j _ (word-shape w.state (j / 2) (r k).out (Some v) al.shape);
    plant = al.plant;
    cells = al.cells;
    marks = al.marks;
    line = al.line;
    places = word-places b w.state (j / 2) (r k).out (Some v) (Some v) ls lx al.shape al.places refl;
    units = λ i l. job-unit late b (with_word w.state (j / 2) (r k).out (Some v)) j i None Idle (word-shape w.state (j / 2) (r k).out (Some v) al.shape) lj al.units refl l;
  }

  pub release-alike : (late : ℕ → ℕ) (b : Bench m.State) (w : World m.State) (j : ℕ) → j < 16 → Alike late b w
      → Alike late (release (leaves m) (guarded m) m.known r n L kp nk j b) (real.at w (with_job w.state j Idle))
  release-alike late b w j lj al = record {
    shape = unit-shape w.state j _ al.shape;
    plant = al.plant;
    places = al.places;
    cells = al.cells;
    marks = al.marks;
    line = al.line;
    units = λ i l. job-unit late b w.state j i None Idle al.shape lj al.units refl l;
  }

  -- A message that ends leaves the line.
  left-alike : (o : Option PlannedMessage) (c : ℕ) → real.left m (as_line o) c ≡ as_line (left (leaves m) (guarded m) m.known r n L kp nk o c)
  left-alike None c = refl
  left-alike (Some x) c = go (eqb x.stop c)
    where
      go : (t : Bool) → ◌≡◌ {A = Option Message} (cond t None (Some record { end = x.stop; word = x.word })) (as_line (cond t None (Some x)))
      go true = refl
      go false = refl

  pub leave-alike : (late : ℕ → ℕ) (b : Bench m.State) (w : World m.State) (c : ℕ) → Alike late b w
      → Alike late (leave (leaves m) (guarded m) m.known r n L kp nk c b) (real.leaves m c w)
  leave-alike late b w c al = record {
    shape = record { places = al.shape.places; cells = al.shape.cells; marks = al.shape.marks; units = al.shape.units };
    plant = al.plant;
    places = al.places;
    cells = al.cells;
    marks = al.marks;
    units = al.units;
    line = ap (λ (o : Option Message). real.left m o c) al.line ∙ left-alike b.line c;
  }

  -- A row that is begun, by whether the unit owns it and whether it sends.
  abbrev said_by : Bool → ℕ → Bench m.State → ℕ
  said_by d k b = cond d (word1 (r k) b.places) (guarded m b.plant (asked_of (r k) b.places))

  abbrev pub begun_by : Bool → Bool → ℕ → ℕ → ℕ → Bench m.State → Bench m.State
  begun_by o d j k T b = record {
    places = b.places;
    cells = b.cells;
    plant = cond (o && not d) (leaves m b.plant (asked_of (r k) b.places)) b.plant;
    units = λ i. cond (eqb j i) (record { at = (b.units j).at; pc = (b.units j).pc; busy = Some (record { stop = T + (r k).dur; row = k; word = cond o (said_by d k b) 0 }) }) (b.units i);
    line = cond (o && d) (Some (record { stop = T + (r k).dur; word = said_by d k b })) b.line;
    mark = λ i. cond (o && eqb k i) (record { count = suc (b.mark k).count; tick = T; first = said (ltb 0 (r k).count) (word1 (r k) b.places); second = said (ltb 1 (r k).count) (word2 (r k) b.places); given = Some (said_by d k b) }) (b.mark i);
  }

  begun-is : (j k T : ℕ) (b : Bench m.State) → begin (leaves m) (guarded m) m.known r n L kp nk j k T b ≡ begun_by (owns j k) (r k).sends j k T b
  begun-is j k T b = refl

  mark-shape : (s : State) (row : ℕ) (x : Mark) → Shape s → Shape (with_mark s row x)
  mark-shape s row x sh = record { places = sh.places; cells = sh.cells; marks = length-set s.marks row x ∙ sh.marks; units = sh.units }

  mark-read : (s : State) (k i : ℕ) (x : Mark) (y z : PlannedMark) → Shape s → nk + k < 128 → x ≡ as_mark y → mark_in s (nk + i) ≡ as_mark z
      → mark_in (with_mark s (nk + k) x) (nk + i) ≡ as_mark (cond (eqb k i) y z)
  mark-read s k i x y z sh lk ex ez = set-read s.marks (nk + k) (nk + i) x blank_mark (let q = sh.marks in omega arith) ∙ go (cases_eq k i)
    where
      go : (k ≡ i) ⊎ (k ≡ i → ⊥) → cond (eqb (nk + k) (nk + i)) x (mark_in s (nk + i)) ≡ as_mark (cond (eqb k i) y z)
      go (inl e) = cond-true _ _ _ (eq-eqb (nk + k) (nk + i) (ap (λ (q : ℕ). nk + q) e)) ∙ ex ∙ ap as_mark (sym (cond-true _ _ _ (eq-eqb k i e)))
      go (inr e) = cond-false _ _ _ (ne_eqb (nk + k) (nk + i) (λ q. e (omega arith))) ∙ ez ∙ ap as_mark (sym (cond-false _ _ _ (ne_eqb k i e)))

  marked-shape : (s : State) (row : ℕ) (f g : Option ℕ) (v : ℕ) → Shape s → Shape (real.marked s row f g v)
  marked-shape s row f g v sh = mark-shape s row _ sh

  same-mark : (a c t u : ℕ) (f g p q x y : Option ℕ) → a ≡ c → t ≡ u → f ≡ g → p ≡ q → x ≡ y
      → ◌≡◌ {A = Mark} (record { count = a; tick = t; first = f; second = p; given = x }) (record { count = c; tick = u; first = g; second = q; given = y })
  same-mark a c t u f g p q x y e1 e2 e3 e4 e5 = cc

  counted-more : (b : Bench m.State) (w : World m.State) (late : ℕ → ℕ) (k : ℕ) → k < n → Alike late b w → (mark_in w.state (nk + k)).count + 1 ≡ suc (b.mark k).count
  counted-more b w late k l al = add-one _ ∙ ap (λ (x : Mark). suc x.count) (al.marks k l)

  -- CALL
  pub call-alike : (late : ℕ → ℕ) (b : Bench m.State) (w : World m.State) (j k T : ℕ) (words : Words) → j < 16 → k < n → nk + k < 128 → w.state.granted ≡ T
      → is_line j ≡ false → asked (j / 2) (r k).work words ≡ asked_of (r k) b.places
      → real.first_word words ≡ said (ltb 0 (r k).count) (word1 (r k) b.places) → real.second_word words ≡ said (ltb 1 (r k).count) (word2 (r k) b.places)
      → knows m (asked_of (r k) b.places) ≡ true → Alike late b w
      → Alike late (begun_by true false j k T b) (real.answered m (nk + k) (r k).work words (r k).out (r k).dur j w)
  call-alike late b w j k T words lj lk lrow e_t nl ea ef es kn al = record {
    shape = unit-shape s1 j _ sh1;
    places = al.places;
    cells = al.cells;
    line = al.line;
    plant = ap₂ (λ (p : m.State) (a : Work). m.next p a) al.plant ea ∙ sym (cond-true _ _ _ kn);
    marks = λ i l. mark-read w.state k i _ _ (b.mark i) al.shape lrow
        (same-mark _ _ _ _ _ _ _ _ _ _ (counted-more b w late k lk al) e_t ef es (ap Some said-so)) (al.marks i l);
    units = λ i l. job-unit late b s1 j i _ _ sh1 lj al.units
        (0, lk, ap₂ (λ (t v : ℕ). Store (t + (r k).dur) (r k).out v) e_t said-so ∙ sym (cond-false _ _ _ nl)) l;
  }
    where
      s1 : State
      s1 = real.marked w.state (nk + k) (real.first_word words) (real.second_word words) (m.answer w.plant (asked (j / 2) (r k).work words))

      sh1 : Shape s1
      sh1 = marked-shape w.state (nk + k) (real.first_word words) (real.second_word words) _ al.shape

      said-so : m.answer w.plant (asked (j / 2) (r k).work words) ≡ guarded m b.plant (asked_of (r k) b.places)
      said-so = ap₂ (λ (p : m.State) (a : Work). m.answer p a) al.plant ea ∙ sym (cond-true _ _ _ kn)

  -- SEND
  pub send-alike : (late : ℕ → ℕ) (b : Bench m.State) (w : World m.State) (j k T word : ℕ) → j < 16 → k < n → nk + k < 128 → w.state.granted ≡ T
      → is_line j ≡ true → owns j k ≡ true → word ≡ word1 (r k) b.places
      → Some word ≡ said (ltb 0 (r k).count) (word1 (r k) b.places) → None ≡ said (ltb 1 (r k).count) (word2 (r k) b.places)
      → Alike late b w
      → Alike late (begun_by true true j k T b) (real.carried m (nk + k) word (r k).dur j w)
  send-alike late b w j k T word lj lk lrow e_t il ow ew ef es al = record {
    shape = sh2;
    places = al.places;
    cells = al.cells;
    plant = al.plant;
    line = ap₂ (λ (t v : ℕ). Some (record { end = t + (r k).dur; word = v })) e_t ew;
    marks = λ i l. mark-read w.state k i _ _ (b.mark i) al.shape lrow
        (same-mark _ _ _ _ _ _ _ _ _ _ (counted-more b w late k lk al) e_t ef es (ap Some ew)) (al.marks i l);
    units = λ i l. job-unit late b s1 j i _ _ sh1 lj al.units
        (0, lk, ap (λ (t : ℕ). Carry (t + (r k).dur)) e_t ∙ sym (cond-true _ _ _ il ∙ cond-true _ _ _ ow)) l;
  }
    where
      s1 : State
      s1 = real.marked w.state (nk + k) (Some word) None word

      sh1 : Shape s1
      sh1 = marked-shape w.state (nk + k) (Some word) None word al.shape

      u : Shape (with_job s1 j (Carry (w.state.granted + (r k).dur)))
      u = unit-shape s1 j _ sh1

      sh2 : Shape (real.carried m (nk + k) word (r k).dur j w).state
      sh2 = record { places = u.places; cells = u.cells; marks = u.marks; units = u.units }

  -- RECEIVE
  pub listen-alike : (late : ℕ → ℕ) (b : Bench m.State) (w : World m.State) (j k T a : ℕ) → j < 16 → k < n → w.state.granted ≡ T
      → is_line j ≡ true → owns j k ≡ false → Alike late b w
      → Alike late (begun_by false true j k T b) (real.at w (with_job w.state j (Listen (w.state.granted + (r k).dur) (r k).out a)))
  listen-alike late b w j k T a lj lk e_t il ow al = record {
    shape = unit-shape w.state j _ al.shape;
    plant = al.plant;
    places = al.places;
    cells = al.cells;
    marks = al.marks;
    line = al.line;
    units = λ i l. job-unit late b w.state j i _ _ al.shape lj al.units
        (a, lk, ap (λ (t : ℕ). Listen (t + (r k).dur) (r k).out a) e_t ∙ sym (cond-true _ _ _ il ∙ cond-false _ _ _ ow)) l;
  }

  -- The count of granted ticks is not compared.
  pub granted-alike : (late : ℕ → ℕ) (b : Bench m.State) (w : World m.State) (t : ℕ) → Alike late b w → Alike late b (real.at w (real.with_granted w.state t))
  granted-alike late b w t al = record {
    shape = record { places = al.shape.places; cells = al.shape.cells; marks = al.shape.marks; units = al.shape.units };
    plant = al.plant;
    places = al.places;
    cells = al.cells;
    marks = al.marks;
    units = al.units;
    line = al.line;
  }
