-- A run of an accepted sheet's programs, tick by tick and request by request.
use Rattle.std.proofs.Common.{◌≡◌, ℕ, zero, suc, ◌+◌, ◌-◌, ◌*◌, ◌<◌, ◌≤◌, min, Bool, true, false, cond, eqb, ltb, ◌⊎◌, List, [], ◌∷◌, map, length, get_or, Some, None, Option, sym, refl, ap, ◌∙◌, subst, inl, inr, arith}
use Rattle.std.proofs.lemmas.List.{get_or_past, get_or-replicate, length-replicate}
use Rattle.std.proofs.lemmas.Bool.{cases_lt, cond-true, cond-false, both_ways, lt-ltb, le-ltb}
use Rattle.fault.specs.declared.refusal.Fault.{Fault}
use Rattle.fault.specs.declared.refusal.Refusal.TheVariants.{LimitReached}
use Rattle.fault.specs.declared.place.TickPlace.{TickPlace}
use Rattle.sheet.specs.declared.row.Head.{Head}
use Rattle.sheet.specs.declared.row.Row.{Row}
use Rattle.sheet.specs.declared.row.Row.TheVariants.{Keep as keep_row, Call as call_row, Send as send_row}
use Rattle.sheet.specs.Rows.{row_at}
use Rattle.judge.specs.Rules.{IsKeep}
use Rattle.judge.specs.Verdict.{is_keep}
use Rattle.netcode.specs.declared.step.Step.{Step}
use Rattle.netcode.specs.Layouts.{program_count}
use Rattle.plant.specs.Model.{Model, Apart, leaves}
use Rattle.plant.specs.Fit.{KnowsEach}
use Rattle.schedule.specs.Rows.{Row as Planned, Accepted}
use Rattle.schedule.specs.Plants.{Lawful}
use Rattle.schedule.specs.Lawful.{Limits, ProgramOk, StepOk}
use Rattle.schedule.specs.Promise.{Judged}
use Rattle.schedule.specs.Program.{Step as PlannedStep}
use Rattle.schedule.specs.Pick.{pick}
use Rattle.schedule.specs.Machine.{Bench, Fit, or_first, start_of, program, tick, ticks}
use Rattle.schedule.specs.Plain.{new_bench}
use Rattle.schedule.proofs.Joined as joined
use Rattle.schedule.proofs.Judged.{accepted-now}
use Rattle.schedule.proofs.Kept.{program-ok}
use Rattle.translate.specs.Schedules.{keep_count, rows_of, row_total, keeps_of, concrete}
use Rattle.translate.specs.Translation.{translated}
use Rattle.translate.specs.Laws.{Sheet}
use Rattle.translate.specs.Ordered.{Ordered}
use Rattle.translate.proofs.Judging.{judged, limits, fields, ordered}
use Rattle.translate.proofs.Lawfulness.{programs-lawful, each-program}
use Rattle.translate.proofs.Maps.{keep-few, program-maps}
use Rattle.semantics.specs.declared.state.Request.{Request}
use Rattle.semantics.specs.declared.state.Request.TheVariants.{Tick, Rehearse, WordAt, MarkAt}
use Rattle.semantics.specs.Machine as real
use Rattle.semantics.specs.Machine.{World, Outcome, limit, place_of, new_unit, blank_mark, of_the_run}
use Rattle.semantics.specs.Requests.{Rehearsal, rehearsed, rehearsed_on, ticked, served, served_all, at_making}
use Rattle.semantics.specs.Promise.{ticks_in, ticks_asked}
use Rattle.semantics.proofs.Guarded.{guarded, guarded-lawful}
use Rattle.semantics.proofs.Alike.{Alike, UnitAlike}
use Rattle.semantics.proofs.Stepping.{Going, Fine, RowFine}
use Rattle.semantics.proofs.Owned.{Own, owned}
use Rattle.semantics.proofs.Ticking.{Reached, tick-alike}
use Rattle.semantics.proofs.Readings.{known-call}

module _ (m : Model) (law : Apart m) (h : Head) (rows : List Row) (sheet : Sheet h rows) (known : KnowsEach m rows) (start : m.State) where
  abbrev S : Type 0
  S = m.State

  abbrev r : ℕ → Planned
  r = rows_of rows

  abbrev n : ℕ
  n = row_total rows

  abbrev nk : ℕ
  nk = keep_count rows

  abbrev L : ℕ
  L = h.cycle

  abbrev programs : List (List Step)
  programs = translated h rows

  pub lim : Limits r n L (keeps_of rows) nk h.stations h.variables
  lim = limits h rows sheet.rules sheet.within sheet.counted

  jud : Judged r n L (keeps_of rows) nk
  jud = judged h rows sheet.rules

  pub ord : Ordered L rows
  ord = ordered h rows sheet.rules

  pub fit : Fit (leaves m) (guarded m) m.known r n L (keeps_of rows) nk h.stations
  fit = record {
    stationed = λ k l. (fields h rows sheet.rules k l).station;
    listening = λ k s l. (fields h rows sheet.rules k l).listening s;
    elsewhere = λ k l. (fields h rows sheet.rules k l).elsewhere;
    known = λ k l s. known-call m L rows ord known k l s;
  }

  no-keep : (x : Row) → is_keep x ≡ false → IsKeep x → ⊥
  no-keep (keep_row k) e i = both_ways true e refl
  no-keep (call_row k) e i = i
  no-keep (send_row k) e i = i

  row_fine : (k : ℕ) → k < n → RowFine m rows L k
  row_fine k l = record {
    call = no-keep (row_at rows (nk + k)) (ord.after (nk + k) (omega arith) (let a = keep-few rows in omega arith));
    row = omega (arith, lim.rows);
    first = λ q. omega (arith, lim.first k l q, lim.few_variables);
    second = λ q. omega (arith, lim.second k l q, lim.few_variables);
    output = omega (arith, lim.output k l, lim.few_variables);
  }

  -- The steps of each program.
  fine-from : (j len a : ℕ) (x : PlannedStep) → StepOk r nk len a x → Own r n L (keeps_of rows) nk j x → Fine m rows L j x
  fine-from j len a (PlannedStep.test t b) s o = s.0
  fine-from j len a (PlannedStep.future k b) s o = tt
  fine-from j len a PlannedStep.halt s o = tt
  fine-from j len a (PlannedStep.act k) s o = o
  fine-from j len a (PlannedStep.keep x c) s o = s
  fine-from j len a PlannedStep.clear s o = tt
  fine-from j len a (PlannedStep.give c x v) s o = s

  fine : (j a : ℕ) → j < 16 → Fine m rows L j (get_or (program r n L (keeps_of rows) nk j) a PlannedStep.halt)
  fine j a lj = go (cases_lt a (length p))
    where
      p : List PlannedStep
      p = program r n L (keeps_of rows) nk j

      keeps : ProgramOk r nk p
      keeps = program-ok r n L (keeps_of rows) nk h.stations h.variables lim jud.long jud.inside j

      go : (a < length p) ⊎ (length p ≤ a) → Fine m rows L j (get_or p a PlannedStep.halt)
      go (inl l) = fine-from j (length p) a (get_or p a PlannedStep.halt) (keeps.steps a l) (owned r n L (keeps_of rows) nk j a)
      go (inr l) = subst (Fine m rows L j) (sym (get_or_past p a PlannedStep.halt l)) tt

  count : length programs ≡ 2 * h.stations
  count = programs-lawful.count h rows ∙ twice
    where
      twice : program_count h.stations ≡ 2 * h.stations
      twice = omega (arith, lim.few_stations)

  maps : (j : ℕ) → j < length programs → get_or programs j [] ≡ map (concrete rows j) (program r n L (keeps_of rows) nk j)
  maps j l = each-program h rows j (let e = programs-lawful.count h rows in omega arith) ∙ program-maps L rows j ord

  abbrev pub bases : (ℕ → Option ℕ) → ℕ → Option ℕ
  bases c x = pick (λ k. eqb (keeps_of rows k).into x) (λ k. or_first (c k) (keeps_of rows k).first) nk

  pub accepted : (c : ℕ → Option ℕ) → Accepted r n L (start_of (keeps_of rows) nk c) (bases c)
  accepted c = accepted-now r n L (keeps_of rows) nk jud c

  pub lawful : Lawful S (leaves m) (guarded m)
  lawful = guarded-lawful m law

  -- The schedule's bench after so many ticks.
  abbrev pub run : ℕ → Option (Bench S)
  run T = ticks (leaves m) (guarded m) m.known r n L (keeps_of rows) nk (2 * h.stations) 0 T (new_bench start)

  -- A run after T granted ticks.
  pub record At (T : ℕ) (w : World S) : Type 0 where
    pub bench : Bench S
    pub there : run T ≡ Some bench
    pub alike : Alike m r n L (keeps_of rows) nk (λ _. T) bench w
    pub going : Going T w.state

  pub at-start : At 0 (at_making m programs start)
  unfolding ticks
  at-start = record {
    bench = new_bench start;
    there = refl;
    going = record { granted = refl; going = refl };
    alike = record {
      shape = record { places = length-replicate {A = Option ℕ} 512 None; cells = length-replicate {A = Option ℕ} 16 None; marks = length-replicate 128 blank_mark; units = length-replicate 16 new_unit };
      plant = refl;
      places = λ s x ls lx. get_or-replicate 512 (place_of s x) None None (omega arith);
      cells = λ c l. get_or-replicate 16 c None None l;
      marks = λ k l. get_or-replicate 128 (nk + k) blank_mark blank_mark (row_fine k l).row;
      units = λ j l. subst (λ u. UnitAlike m r n L (keeps_of rows) nk 0 j ((new_bench start).units j) u) (sym (get_or-replicate 16 j new_unit new_unit l)) (record { timer = inl refl; address = refl; job = refl });
      line = refl;
    };
  }

  some-bench : (o : Option (Bench S)) (b c : Bench S) → o ≡ Some b → o ≡ Some c → b ≡ c
  some-bench o b c p q = cc

  -- Below the limit a tick is granted; at the limit it is refused, and nothing is changed.
  unfoldable pub Granted : ℕ → World S → Type 0
  Granted T w = (v : World S) × (real.tick m programs w ≡ Outcome.done v) × At (suc T) v

  pub at_tick : (T : ℕ) (w : World S) → T < limit → At T w → Granted T w
  unfolding Granted
  at_tick T w l a = go (joined.all (leaves m) (guarded m) lawful m.known r n L (keeps_of rows) nk h.stations h.variables bases start lim accepted fit (suc T))
    where
      go : (c : Bench S) × (run (suc T) ≡ Some c) → (v : World S) × (real.tick m programs w ≡ Outcome.done v) × At (suc T) v
      go (c, e) = end (tick-alike m rows L row_fine fine programs (let q = count in omega (arith, lim.few_stations)) maps T a.bench c w l a.alike a.going step)
        where
          step : tick (leaves m) (guarded m) m.known r n L (keeps_of rows) nk (length programs) T a.bench ≡ Some c
          step = ap (λ (z : ℕ). tick (leaves m) (guarded m) m.known r n L (keeps_of rows) nk z T a.bench) count
              ∙ sym (joined.goes (leaves m) (guarded m) lawful m.known r n L (keeps_of rows) nk h.stations h.variables bases start lim accepted fit T a.bench a.there) ∙ e

          end : Reached m rows L (λ _. suc T) (suc T) c (real.tick m programs w) → (v : World S) × (real.tick m programs w ≡ Outcome.done v) × At (suc T) v
          end (v, x, y, z) = (v, x, record { bench = c; there = e; alike = y; going = z })

  pub at-limit : (T : ℕ) (w : World S) → limit ≤ T → At T w → real.tick m programs w ≡ Outcome.refused (of_the_run LimitReached) w
  at-limit T w l a = cond-false _ _ _ a.going.going ∙ cond-false _ _ _ (ap (λ (z : ℕ). ltb z limit) a.going.granted ∙ le-ltb T limit l)

  -- Rehearsals.
  abbrev ended_by : ℕ → ℕ → Option (Fault TickPlace)
  ended_by T k = cond (ltb (limit - T) k) (Some (of_the_run LimitReached)) None

  pub record Rehearsed (T k : ℕ) (x : Rehearsal S) : Type 0 where
    pub made : x.count ≡ min k (limit - T)
    pub ended : x.ended ≡ ended_by T k
    pub leads : At (min (T + k) limit) x.world

  same_test : (a b c d : ℕ) → (a < b → c < d) → (b ≤ a → d ≤ c) → ltb a b ≡ ltb c d
  same_test a b c d f g = go (cases_lt a b)
    where
      go : (a < b) ⊎ (b ≤ a) → ltb a b ≡ ltb c d
      go (inl l) = lt-ltb a b l ∙ sym (lt-ltb c d (f l))
      go (inr l) = le-ltb a b l ∙ sym (le-ltb c d (g l))

  pub at-rehearse : (k T : ℕ) (w : World S) → T ≤ limit → At T w → Rehearsed T k (rehearsed m programs k w)
  unfolding rehearsed Granted
  at-rehearse zero T w l a = record {
    made = omega arith;
    ended = sym (cond-false _ _ _ (le-ltb (limit - T) 0 (omega arith)));
    leads = let e : T ≡ min (T + 0) limit = omega arith in subst (λ (z : ℕ). At z w) e a;
  }
  at-rehearse (suc k) T w l a = go (cases_lt T limit) (λ v lt b. at-rehearse k (suc T) v lt b)
    where
      go : (T < limit) ⊎ (limit ≤ T) → ((v : World S) → suc T ≤ limit → At (suc T) v → Rehearsed (suc T) k (rehearsed m programs k v))
          → Rehearsed T (suc k) (rehearsed_on m programs (real.tick m programs w) (rehearsed m programs k))
      go (inl lt) ih = on (at_tick T w lt a)
        where
          on : Granted T w → Rehearsed T (suc k) (rehearsed_on m programs (real.tick m programs w) (rehearsed m programs k))
          on (v, e, b) = subst (λ (o : Outcome S). Rehearsed T (suc k) (rehearsed_on m programs o (rehearsed m programs k))) (sym e) (more (ih v lt b))
            where
              more : Rehearsed (suc T) k (rehearsed m programs k v) → Rehearsed T (suc k) (rehearsed_on m programs (Outcome.done v) (rehearsed m programs k))
              more x = record {
                made = let e = x.made in omega arith;
                ended = x.ended ∙ ap (λ (t : Bool). cond t (Some (of_the_run LimitReached)) None) (same_test (limit - suc T) k (limit - T) (suc k) (λ q. omega arith) (λ q. omega arith));
                leads = let q : min (suc T + k) limit ≡ min (T + suc k) limit = omega arith in subst (λ (z : ℕ). At z (rehearsed m programs k v).world) q x.leads;
              }
      go (inr ge) ih = subst (λ (o : Outcome S). Rehearsed T (suc k) (rehearsed_on m programs o (rehearsed m programs k))) (sym (at-limit T w ge a)) (record {
        made = omega arith;
        ended = sym (cond-true _ _ _ (lt-ltb (limit - T) (suc k) (omega arith)));
        leads = let q : T ≡ min (T + suc k) limit = omega arith in subst (λ (z : ℕ). At z w) q a;
      })

  -- One request, and a list of them.
  at-request : (x : Request) (T : ℕ) (w : World S) → T ≤ limit → At T w → At (min (T + ticks_in x) limit) (served m programs x w).world
  unfolding Granted
  at-request Tick T w l a = go (cases_lt T limit)
    where
      go : (T < limit) ⊎ (limit ≤ T) → At (min (T + 1) limit) (served m programs Tick w).world
      go (inl lt) = on (at_tick T w lt a)
        where
          on : Granted T w → At (min (T + 1) limit) (served m programs Tick w).world
          on (v, e, b) = let q : suc T ≡ min (T + 1) limit = omega arith in
              subst (λ (z : ℕ). At z (served m programs Tick w).world) q (subst (λ (o : Outcome S). At (suc T) (ticked m programs o).world) (sym e) b)
      go (inr ge) = let q : T ≡ min (T + 1) limit = omega arith in
          subst (λ (z : ℕ). At z (served m programs Tick w).world) q (subst (λ (o : Outcome S). At T (ticked m programs o).world) (sym (at-limit T w ge a)) a)
  at-request (Rehearse k) T w l a = (at-rehearse k T w l a).leads
  at-request (WordAt s v) T w l a = let q : T ≡ min (T + 0) limit = omega arith in subst (λ (z : ℕ). At z w) q a
  at-request (MarkAt row) T w l a = let q : T ≡ min (T + 0) limit = omega arith in subst (λ (z : ℕ). At z w) q a

  at-requests : (rs : List Request) (T : ℕ) (w : World S) → T ≤ limit → At T w → At (min (T + ticks_asked rs) limit) (served_all m programs rs w).world
  unfolding ticks_asked served_all
  at-requests [] T w l a = let q : T ≡ min (T + 0) limit = omega arith in subst (λ (z : ℕ). At z w) q a
  at-requests (x ∷ rs) T w l a =
      let q : min (min (T + ticks_in x) limit + ticks_asked rs) limit ≡ min (T + (ticks_in x + ticks_asked rs)) limit = omega arith in
      subst (λ (z : ℕ). At z (served_all m programs rs (served m programs x w).world).world) q
      (at-requests rs (min (T + ticks_in x) limit) (served m programs x w).world (omega arith) (at-request x T w l a))

  pub after-requests : (rs : List Request) → At (min (ticks_asked rs) limit) (served_all m programs rs (at_making m programs start)).world
  after-requests rs = let q : min (0 + ticks_asked rs) limit ≡ min (ticks_asked rs) limit = omega arith in
      subst (λ (z : ℕ). At z (served_all m programs rs (at_making m programs start)).world) q (at-requests rs 0 (at_making m programs start) (omega arith) at-start)
