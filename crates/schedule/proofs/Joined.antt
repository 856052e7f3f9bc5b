-- All parts of the run promise together.
use Rattle.std.proofs.Common.{◌≡◌, ℕ, suc, ◌*◌, ◌<◌, min, Bool, List, Some, Option, sym, refl, ap, ◌∙◌, subst, ap₂, zero-add}
use Rattle.schedule.specs.Rows.{Row, Accepted}
use Rattle.plant.specs.Model.{Work}
use Rattle.schedule.specs.Plants.{Lawful}
use Rattle.schedule.specs.Machine.{Keep, Bench, Fit, start_of, tick, ticks, bind}
use Rattle.schedule.specs.Cycles.{Made, Whole}
use Rattle.schedule.specs.Requests.{Call, limit, asked, At}
use Rattle.schedule.specs.Marks.{MarkIs}
use Rattle.schedule.specs.Lawful.{Limits}
use Rattle.schedule.specs.Plain.{new_bench, new_world, world_after, HoldsReading, Promised, RunPromiseStands}
use Rattle.schedule.proofs.Apart.{sends-apart}
use Rattle.schedule.proofs.Marked.{marks-stand}
use Rattle.schedule.proofs.Kept.{programs-keep}
use Rattle.schedule.proofs.Counted.{granted-stands, replied-stands}
use Rattle.schedule.proofs.Whole.{run-stands}

module _ {S : Type 0} (next : S → Work → S) (answer : S → Work → ℕ) (law : Lawful S next answer) (knows : ℕ → ℕ → ℕ → Bool) (r : ℕ → Row) (n L : ℕ) (kp : ℕ → Keep) (nk stations variables : ℕ)
    (basis : (ℕ → Option ℕ) → ℕ → Option ℕ) (p : S) (lim : Limits r n L kp nk stations variables)
    (ok : (c : ℕ → Option ℕ) → Accepted r n L (start_of kp nk c) (basis c)) (fit : Fit next answer knows r n L kp nk stations) where
  abbrev step : ℕ → Bench S → Option (Bench S)
  step = tick next answer knows r n L kp nk (2 * stations)

  abbrev run : ℕ → Option (Bench S)
  run m = ticks next answer knows r n L kp nk (2 * stations) 0 m (new_bench p)

  made : Made next answer knows r n L kp nk stations (new_bench p)
  made = record {
    places = λ s x. refl;
    cells = λ m. refl;
    mark = λ k. refl;
    ready = record { at = λ j l. refl; pc = λ j l. refl; free = λ j l. refl; line = refl; out = λ s x l. refl };
  }

  kin : (m : ℕ) → m < nk → (kp m).st < stations
  kin m l = (lim.kept m l).0

  pub goes : (m : ℕ) (b : Bench S) → run m ≡ Some b → run (suc m) ≡ step m b
  unfolding ticks
  goes m b e = ap₂ (λ o k. bind o (step k)) e (zero-add m)

  pub marks : (m : ℕ) → (c : Bench S) × (run m ≡ Some c) × ((k : ℕ) → k < n → MarkIs next answer knows r n L kp nk p m k (c.mark k))
  marks m = marks-stand next answer law knows r n L kp nk stations basis (new_bench p) lim.cycle.0 kin ok fit made m

  pub all : (m : ℕ) → (b : Bench S) × (run m ≡ Some b)
  all m = let g = marks m in (g.0, g.1)

  start : At run 0 (new_world p)
  unfolding ticks
  start = record { granted = refl; going = refl; bench = refl }

  at : (cs : List Call) → At run (min (asked cs) limit) (world_after next answer knows r n L kp nk stations p cs)
  at cs = granted-stands step run (new_world p) goes all start cs

  -- the bench of the world is the one that so many ticks leave
  there : (cs : List Call) → run (world_after next answer knows r n L kp nk stations p cs).granted ≡ Some (world_after next answer knows r n L kp nk stations p cs).bench
  there cs = ap run (at cs).granted ∙ (at cs).bench

  same : (o : Option (Bench S)) (b c : Bench S) → o ≡ Some b → o ≡ Some c → b ≡ c
  same o b c x y = cc

  pub holds : (m : ℕ) (b : Bench S) (q : ℕ) → run m ≡ Some b → m ≡ q * L → HoldsReading next answer knows r n L kp nk stations p q b
  holds m b q e z = go ((run-stands next answer law knows r n L kp nk stations basis (new_bench p) lim.cycle.0 kin ok fit made).0 q)
    where
      go : (c : Bench S) × (run (q * L) ≡ Some c) × Whole next answer knows r n L kp nk p q c → HoldsReading next answer knows r n L kp nk stations p q b
      go (c, x, h) = subst (HoldsReading next answer knows r n L kp nk stations p q) (same (run (q * L)) c b x (ap run (sym z) ∙ e)) (record { places = h.places; cells = h.cells; plant = h.plant })

  pub marked : (m : ℕ) (b : Bench S) (k : ℕ) → run m ≡ Some b → k < n → MarkIs next answer knows r n L kp nk p m k (b.mark k)
  marked m b k e l = go (marks m)
    where
      go : (c : Bench S) × (run m ≡ Some c) × ((k : ℕ) → k < n → MarkIs next answer knows r n L kp nk p m k (c.mark k)) → MarkIs next answer knows r n L kp nk p m k (b.mark k)
      go (c, x, h) = subst (λ (d : Bench S). MarkIs next answer knows r n L kp nk p m k (d.mark k)) (same (run m) c b x e) (h k l)

  pub promised : Promised next answer knows r n L kp nk stations p
  promised = record {
    programs = programs-keep r n L kp nk stations variables basis lim ok;
    granted = λ cs. (at cs).granted;
    going = λ cs. (at cs).going;
    replies = λ cs c. replied-stands step run (new_world p) goes all start cs c;
    cycles = λ cs q. holds (world_after next answer knows r n L kp nk stations p cs).granted (world_after next answer knows r n L kp nk stations p cs).bench q (there cs);
    marks = λ cs k. marked (world_after next answer knows r n L kp nk stations p cs).granted (world_after next answer knows r n L kp nk stations p cs).bench k (there cs);
    sends = sends-apart next answer knows r n L kp nk basis p ok;
  }

pub run-promise-stands : {S : Type 0} (next : S → Work → S) (answer : S → Work → ℕ) → Lawful S next answer → RunPromiseStands S next answer
run-promise-stands next answer law knows r n L kp nk stations variables basis p lim ok fit = promised next answer law knows r n L kp nk stations variables basis p lim ok fit
