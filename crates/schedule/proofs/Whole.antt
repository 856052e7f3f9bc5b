-- Cycle after cycle.
use Rattle.std.proofs.Common.{◌≡◌, ℕ, zero, suc, ◌+◌, ◌*◌, ◌<◌, ◌≤◌, Bool, cond, ◌&&◌, ltb, Some, Option, sym, refl, ap, ◌∙◌, subst, ap₂, add-zero, add-suc, zero-add, zero-mul, arith}
use mathlib.Core.Path.{fun_ext}
use Rattle.schedule.specs.Rows.{Row, read_to, performed, Accepted}
use Rattle.plant.specs.Model.{Work}
use Rattle.schedule.specs.Plants.{Lawful}
use Rattle.schedule.specs.Machine.{Keep, Bench, Fit, Opened, Closed, cells_of, start_of, tick, ticks, marked, began, bind}
use Rattle.schedule.specs.Cycles.{Reading, begins, after_cycles, performs, mark_in, mark_after, Made, Whole, RunPromise}
use Rattle.schedule.proofs.Turns.{cycle-stands, dates-stand}

module _ {S : Type 0} (next : S → Work → S) (answer : S → Work → ℕ) (law : Lawful S next answer) (knows : ℕ → ℕ → ℕ → Bool) (r : ℕ → Row) (n L : ℕ) (kp : ℕ → Keep) (nk stations : ℕ)
    (basis : (ℕ → Option ℕ) → ℕ → Option ℕ) (b : Bench S) (pos_l : 0 < L) (kin : (m : ℕ) → m < nk → (kp m).st < stations) (ok : (c : ℕ → Option ℕ) → Accepted r n L (start_of kp nk c) (basis c))
    (fit : Fit next answer knows r n L kp nk stations) (made : Made next answer knows r n L kp nk stations b) where
  abbrev go : ℕ → ℕ → Bench S → Option (Bench S)
  go = ticks next answer knows r n L kp nk (2 * stations)

  -- ticks in two parts
  ticks-add : (base t : ℕ) (c d : Bench S) → go 0 base c ≡ Some d → go 0 (base + t) c ≡ go base t d
  unfolding ticks
  ticks-add base zero c d e = ap (λ m. go 0 m c) (add-zero base) ∙ e
  ticks-add base (suc t) c d e = ap (λ m. go 0 m c) (add-suc base t) ∙ ap₂ (λ o m. bind o (tick next answer knows r n L kp nk (2 * stations) m)) (ticks-add base t c d e) (zero-add (base + t))

  abbrev Stand : ℕ → Type 0
  Stand q = (c : Bench S) × (go 0 (q * L) b ≡ Some c) × Whole next answer knows r n L kp nk b.plant q c × Opened next answer knows r n L kp nk stations (q * L) c

  abbrev now : ℕ → Reading S
  now q = after_cycles next answer r n kp nk b.plant q

  same_start : (q : ℕ) (c : Bench S) → Whole next answer knows r n L kp nk b.plant q c → began next answer knows r n L kp nk c ≡ begins next answer r n kp nk (now q)
  same_start q c w = λ i. begins next answer r n kp nk (record { places = fun_ext (λ s. fun_ext (λ x. w.places s x)) i; cells = fun_ext w.cells i; plant = w.plant i })

  same-cells : (q : ℕ) (c : Bench S) → Whole next answer knows r n L kp nk b.plant q c → (m : ℕ) → cells_of kp nk c.places c.cells m ≡ cells_of kp nk (now q).places (now q).cells m
  same-cells q c w m = λ i. cells_of kp nk (fun_ext (λ s. fun_ext (λ x. w.places s x)) i) (fun_ext w.cells i) m

  stand : (q : ℕ) → Stand q
  unfolding ticks after_cycles mark_after
  stand zero = (b, ap (λ m. go 0 m b) (zero-mul L), record { places = made.places; cells = made.cells; plant = refl; mark = λ k l. made.mark k }, subst (λ m. Opened next answer knows r n L kp nk stations m b) (sym (zero-mul L)) made.ready)
  stand (suc q) = step (stand q)
    where
      e : q * L + L ≡ suc q * L
      e = omega arith

      step : Stand q → Stand (suc q)
      step (c, z, w, o) = on (cycle-stands next answer law knows r n L kp nk stations (q * L) (basis (cells_of kp nk c.places c.cells)) c pos_l kin (ok (cells_of kp nk c.places c.cells)) fit o)
        where
          on : (d : Bench S) × (go (q * L) L c ≡ Some d) × Closed next answer knows r n L kp nk stations (q * L) c d → Stand (suc q)
          on (d, y, x) = (
            d,
            ap (λ m. go 0 m b) (sym e) ∙ ticks-add (q * L) L b c z ∙ y,
            record {
              places = λ s v. x.places s v ∙ ap (λ a. (read_to next answer r a n).places s v) (same_start q c w);
              cells = λ m. x.cells m ∙ same-cells q c w m;
              plant = x.plant ∙ ap (λ a. (read_to next answer r a n).plant) (same_start q c w);
              mark = λ k l. x.mark k l ∙ ap₂ (λ a m. cond (performed next answer r a k) (marked next answer knows r n L kp nk (q * L) a k m) m) (same_start q c w) (w.mark k l);
            },
            subst (λ m. Opened next answer knows r n L kp nk stations m d) e x.again,
          )

  whole : (q : ℕ) → (c : Bench S) × (go 0 (q * L) b ≡ Some c) × Whole next answer knows r n L kp nk b.plant q c
  whole q = let s = stand q in (s.0, s.1, s.2)

  between : (q t : ℕ) → t ≤ L → (c : Bench S) × (go 0 (q * L + t) b ≡ Some c)
      × ((k : ℕ) → k < n → c.mark k ≡ cond (performs next answer knows r n L kp nk b.plant q k && ltb (r k).date t) (mark_in next answer knows r n L kp nk b.plant q k (mark_after next answer knows r n L kp nk b.plant q k)) (mark_after next answer knows r n L kp nk b.plant q k))
  between q t lt = from (stand q)
    where
      Goal : Type 0
      Goal = (c : Bench S) × (go 0 (q * L + t) b ≡ Some c)
          × ((k : ℕ) → k < n → c.mark k ≡ cond (performs next answer knows r n L kp nk b.plant q k && ltb (r k).date t) (mark_in next answer knows r n L kp nk b.plant q k (mark_after next answer knows r n L kp nk b.plant q k)) (mark_after next answer knows r n L kp nk b.plant q k))

      from : Stand q → Goal
      from (c, z, w, o) = on (dates-stand next answer law knows r n L kp nk stations (q * L) (basis (cells_of kp nk c.places c.cells)) c pos_l kin (ok (cells_of kp nk c.places c.cells)) fit o t lt)
        where
          on : (d : Bench S) × (go (q * L) t c ≡ Some d) × ((k : ℕ) → k < n → d.mark k ≡ cond (performed next answer r (began next answer knows r n L kp nk c) k && ltb (r k).date t) (marked next answer knows r n L kp nk (q * L) (began next answer knows r n L kp nk c) k (c.mark k)) (c.mark k)) → Goal
          on (d, y, x) = (d, ticks-add (q * L) t b c z ∙ y, λ k l. x k l ∙ ap₂ (λ a m. cond (performed next answer r a k && ltb (r k).date t) (marked next answer knows r n L kp nk (q * L) a k m) m) (same_start q c w) (w.mark k l))

pub run-stands : {S : Type 0} (next : S → Work → S) (answer : S → Work → ℕ) → Lawful S next answer → RunPromise S next answer
run-stands next answer law knows r n L kp nk stations basis b pos_l kin ok fit made =
    (whole next answer law knows r n L kp nk stations basis b pos_l kin ok fit made, between next answer law knows r n L kp nk stations basis b pos_l kin ok fit made)
