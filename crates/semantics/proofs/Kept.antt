-- The run promise.
use Rattle.std.proofs.Common.{◌≡◌, ℕ, zero, suc, ◌+◌, ◌-◌, ◌*◌, ◌<◌, ◌≤◌, min, Bool, true, false, cond, ◌&&◌, ltb, ◌⊎◌, List, length, Some, None, Option, sym, refl, ap, ◌∙◌, subst, ap₂, inl, inr, arith}
use Rattle.std.proofs.lemmas.Bool.{cases_lt, cond-true, cond-false, both_ways, lt-ltb, le-ltb}
use Rattle.fault.specs.declared.refusal.Refusal.TheVariants.{LimitReached}
use Rattle.sheet.specs.declared.row.Head.{Head}
use Rattle.sheet.specs.declared.row.Row.{Row}
use Rattle.sheet.specs.declared.row.Row.TheVariants.{Keep as keep_row, Call as call_row, Send as send_row}
use Rattle.sheet.specs.Rows.{row_at}
use Rattle.judge.specs.Rules.{IsKeep}
use Rattle.judge.specs.Verdict.{is_keep}
use Rattle.plant.specs.Model.{Model, Apart, leaves}
use Rattle.plant.specs.Fit.{KnowsEach}
use Rattle.schedule.specs.Rows.{Row as Planned, ends}
use Rattle.schedule.specs.Machine.{Mark as PlannedMark}
use Rattle.schedule.specs.Marks.{countb, MarkIs, counts, told}
use Rattle.schedule.specs.Cycles.{blank_mark as blank_planned, after_cycles as planned_cycles}
use Rattle.schedule.specs.Plain.{HoldsReading}
use Rattle.schedule.proofs.Joined as joined
use Rattle.schedule.proofs.Apart.{sends-apart}
use Rattle.translate.specs.Schedules.{keep_count, as_row, rows_of, row_total, keeps_of}
use Rattle.translate.specs.Translation.{translated, date_of, end_of}
use Rattle.translate.specs.Laws.{Sheet}
use Rattle.translate.proofs.Lawfulness.{programs-lawful}
use Rattle.translate.proofs.Maps.{keep-few, keep-front, date-same, end_same}
use Rattle.semantics.specs.declared.state.Mark.{Mark}
use Rattle.semantics.specs.declared.state.Request.{Request}
use Rattle.semantics.specs.declared.state.Request.TheVariants.{Rehearse}
use Rattle.semantics.specs.declared.state.Reply.TheVariants.{Granted as granted_reply, Refused, Made}
use Rattle.semantics.specs.Machine as real
use Rattle.semantics.specs.Machine.{World, Outcome, limit, blank_mark, mark_in, of_the_run}
use Rattle.semantics.specs.Requests.{ticked, served}
use Rattle.semantics.specs.Reading.{after_cycles, performs}
use Rattle.semantics.specs.Promise.{ticks_asked, how_many, IsSend, MarkTells, HoldsAfter, Promised, RunPromiseOf, counts_for, mark_of, run_after, Occupies}
use Rattle.semantics.proofs.Guarded.{guarded}
use Rattle.semantics.proofs.Alike.{as_mark}
use Rattle.semantics.proofs.Readings.{ReadingAlike, cycles-alike, performs-same, words-alike}
use Rattle.semantics.proofs.Runs.{At, Granted, lim, ord, fit, accepted, lawful, bases, at_tick, at-limit, at-rehearse, after-requests}

is-keep : (x : Row) → IsKeep x → is_keep x ≡ true
is-keep (keep_row k) i = refl
is-keep (call_row k) i = absurd i
is-keep (send_row k) i = absurd i

keep-is : (x : Row) → is_keep x ≡ true → IsKeep x
keep-is (keep_row k) e = tt
keep-is (call_row k) e = absurd (both_ways false refl e)
keep-is (send_row k) e = absurd (both_ways false refl e)

is-send : (x : Row) → IsSend x → (is_keep x ≡ false) × ((as_row x).sends ≡ true)
is-send (keep_row k) i = absurd i
is-send (call_row k) i = absurd i
is-send (send_row k) i = (refl, refl)

count_same : (P Q : ℕ → Bool) → ((q : ℕ) → P q ≡ Q q) → (b : ℕ) → countb P b ≡ how_many Q b
unfolding countb how_many
count_same P Q e zero = refl
count_same P Q e (suc b) = ap₂ (λ (t : Bool) (z : ℕ). cond t (suc z) z) (e b) (count_same P Q e b)

same-mark : (c t u : ℕ) (f g p q x y : Option ℕ) → t ≡ u → f ≡ g → p ≡ q → x ≡ y
    → ◌≡◌ {A = Mark} (record { count = c; tick = t; first = f; second = p; given = x }) (record { count = c; tick = u; first = g; second = q; given = y })
same-mark c t u f g p q x y e2 e3 e4 e5 = cc

module _ (m : Model) (law : Apart m) (h : Head) (rows : List Row) (sheet : Sheet h rows) (known : KnowsEach m rows) (start : m.State) where
  abbrev S : Type 0
  S = m.State

  abbrev r : ℕ → Planned
  r = rows_of rows

  abbrev n : ℕ
  n = row_total rows

  abbrev nk : ℕ
  nk = keep_count rows

  abbrev L : ℕ
  L = h.cycle

  abbrev There : ℕ → World S → Type 0
  There T w = At m law h rows sheet known start T w

  -- Calls and sends, counted after the keep rows.
  beyond : (i : ℕ) → i < length rows → is_keep (row_at rows i) ≡ false → nk ≤ i
  beyond i l e = go (cases_lt i nk)
    where
      go : (i < nk) ⊎ (nk ≤ i) → nk ≤ i
      go (inl q) = absurd (both_ways (is_keep (row_at rows i)) e (keep-front rows i q))
      go (inr q) = q

  not-keep : (x : Row) → (IsKeep x → ⊥) → is_keep x ≡ false
  not-keep (keep_row k) i = absurd (i tt)
  not-keep (call_row k) i = refl
  not-keep (send_row k) i = refl

  counts_same : (T k q : ℕ) → k < n → counts (leaves m) (guarded m) m.known r n L (keeps_of rows) nk start T k q ≡ counts_for m h rows start T (nk + k) q
  counts_same T k q l = ap₂ (λ (x : Bool) (d : ℕ). x && ltb (q * L + d) T) (sym (performs-same m L rows (ord m law h rows sheet known start) known start q k l)) (sym (date-same (row_at rows (nk + k))))

  told_same : (k q c : ℕ) → k < n → as_mark (told (leaves m) (guarded m) m.known r n L (keeps_of rows) nk start k q c) ≡ mark_of m h rows start (nk + k) q c
  told_same k q c l =
      let w = words-alike m L rows (ord m law h rows sheet known start) known start q k l in
      same-mark c _ _ _ _ _ _ _ _ (ap (λ (d : ℕ). q * L + d) (sym (date-same (row_at rows (nk + k))))) (sym w.first) (sym w.second) (sym w.given)

  mark-tells : (T k : ℕ) (x : PlannedMark) → k < n → MarkIs (leaves m) (guarded m) m.known r n L (keeps_of rows) nk start T k x → MarkTells m h rows start T (nk + k) (as_mark x)
  mark-tells T k x l is = record {
    count = λ b lb. is.count b lb ∙ count_same _ _ (λ q. counts_same T k q l) b;
    latest = go is.latest;
  }
    where
      go : (((q : ℕ) → counts (leaves m) (guarded m) m.known r n L (keeps_of rows) nk start T k q ≡ false) × (x ≡ blank_planned))
          ⊎ ((q : ℕ) × (counts (leaves m) (guarded m) m.known r n L (keeps_of rows) nk start T k q ≡ true) × ((p : ℕ) → counts (leaves m) (guarded m) m.known r n L (keeps_of rows) nk start T k p ≡ true → p ≤ q)
          × (x ≡ told (leaves m) (guarded m) m.known r n L (keeps_of rows) nk start k q x.count))
          → (((q : ℕ) → counts_for m h rows start T (nk + k) q ≡ false) × (as_mark x ≡ blank_mark))
          ⊎ ((q : ℕ) × (counts_for m h rows start T (nk + k) q ≡ true) × ((p : ℕ) → counts_for m h rows start T (nk + k) p ≡ true → p ≤ q) × (as_mark x ≡ mark_of m h rows start (nk + k) q x.count))
      go (inl (a, b)) = inl (λ q. sym (counts_same T k q l) ∙ a q, ap as_mark b)
      go (inr (q, a, b, c)) = inr (q, sym (counts_same T k q l) ∙ a, λ p e. b p (counts_same T k p l ∙ e), ap as_mark c ∙ told_same k q x.count l)

  holds_at : (T : ℕ) (w : World S) (a : There T w) (q : ℕ) → T ≡ q * L
      → HoldsReading (leaves m) (guarded m) m.known r n L (keeps_of rows) nk h.stations start q a.bench
  holds_at T w a q e = joined.holds (leaves m) (guarded m) (lawful m law h rows sheet known start) m.known r n L (keeps_of rows) nk h.stations h.variables
      (bases m law h rows sheet known start) start (lim m law h rows sheet known start) (accepted m law h rows sheet known start) (fit m law h rows sheet known start) T a.bench q a.there e

  marked-at : (T : ℕ) (w : World S) (a : There T w) (k : ℕ) → k < n → MarkTells m h rows start T (nk + k) (mark_in w.state (nk + k))
  marked-at T w a k l = subst (MarkTells m h rows start T (nk + k)) (sym (a.alike.marks k l))
      (mark-tells T k (a.bench.mark k) l (joined.marked (leaves m) (guarded m) (lawful m law h rows sheet known start) m.known r n L (keeps_of rows) nk h.stations h.variables
      (bases m law h rows sheet known start) start (lim m law h rows sheet known start) (accepted m law h rows sheet known start) (fit m law h rows sheet known start) T a.bench k a.there l))

  tick-reply : (A T : ℕ) (w : World S) → T ≡ min A limit → There T w
      → (ticked m (translated h rows) (real.tick m (translated h rows) w)).reply ≡ cond (ltb A limit) granted_reply (Refused (of_the_run LimitReached))
  unfolding Granted
  tick-reply A T w e a = go (cases_lt A limit)
    where
      go : (A < limit) ⊎ (limit ≤ A) → (ticked m (translated h rows) (real.tick m (translated h rows) w)).reply ≡ cond (ltb A limit) granted_reply (Refused (of_the_run LimitReached))
      go (inl l) = on (at_tick m law h rows sheet known start T w (omega arith) a)
        where
          on : Granted m law h rows sheet known start T w → (ticked m (translated h rows) (real.tick m (translated h rows) w)).reply ≡ cond (ltb A limit) granted_reply (Refused (of_the_run LimitReached))
          on (v, x, b) = ap (λ (o : Outcome S). (ticked m (translated h rows) o).reply) x ∙ sym (cond-true _ _ _ (lt-ltb A limit l))
      go (inr l) = ap (λ (o : Outcome S). (ticked m (translated h rows) o).reply) (at-limit m law h rows sheet known start T w (omega arith) a) ∙ sym (cond-false _ _ _ (le-ltb A limit l))

  rehearse-reply : (A T k : ℕ) (w : World S) → T ≡ min A limit → There T w
      → (served m (translated h rows) (Rehearse k) w).reply ≡ Made (min k (limit - A)) (cond (ltb (limit - A) k) (Some (of_the_run LimitReached)) None)
  rehearse-reply A T k w e a =
      let x = at-rehearse m law h rows sheet known start k T w (omega arith) a in
      let q : limit - T ≡ limit - A = omega arith in
      ap₂ (λ (c : ℕ) o. Made c o) x.made x.ended ∙ ap (λ (z : ℕ). Made (min k z) (cond (ltb z k) (Some (of_the_run LimitReached)) None)) q

  -- A run after T granted ticks, of A that were asked for.
  after : (rs : List Request) → There (min (ticks_asked rs) limit) (run_after m h rows start rs) → HoldsAfter m h rows start rs
  after rs a = record {
    granted = a.going.granted;
    tick = tick-reply (ticks_asked rs) T w refl a;
    rehearsal = λ k. rehearse-reply (ticks_asked rs) T k w refl a;
    places = λ q e s x ls lx. a.alike.places s x (omega (arith, (lim m law h rows sheet known start).few_stations)) lx ∙ (holds_at T w a q (sym a.going.granted ∙ e)).places s x ∙ sym ((read q).places s x);
    cells = λ q e i l k. a.alike.cells i (omega (arith, keep-below i l k, (lim m law h rows sheet known start).keeps)) ∙ (holds_at T w a q (sym a.going.granted ∙ e)).cells i ∙ sym ((read q).cells i);
    plant = λ q e. a.alike.plant ∙ (holds_at T w a q (sym a.going.granted ∙ e)).plant ∙ sym (read q).plant;
    marks = λ i l k. marks i l (not-keep (row_at rows i) k);
  }
    where
      T : ℕ
      T = min (ticks_asked rs) limit

      w : World S
      w = run_after m h rows start rs

      read : (q : ℕ) → ReadingAlike m L rows (ord m law h rows sheet known start) known (after_cycles m rows start q) (planned_cycles (leaves m) (guarded m) r n (keeps_of rows) nk start q)
      read q = cycles-alike m L rows (ord m law h rows sheet known start) known start q

      keep-below : (i : ℕ) → i < length rows → IsKeep (row_at rows i) → i < nk
      keep-below i l k = go (cases_lt i nk)
        where
          go : (i < nk) ⊎ (nk ≤ i) → i < nk
          go (inl q) = q
          go (inr q) = absurd (both_ways (is_keep (row_at rows i)) ((ord m law h rows sheet known start).after i q l) (is-keep (row_at rows i) k))

      marks : (i : ℕ) → i < length rows → is_keep (row_at rows i) ≡ false → MarkTells m h rows start w.state.granted i (mark_in w.state i)
      marks i l k =
          let ge = beyond i l k in
          let few = keep-few rows in
          let e : nk + (i - nk) ≡ i = omega arith in
          subst (λ (z : ℕ). MarkTells m h rows start z i (mark_in w.state i)) (sym a.going.granted)
          (subst (λ (z : ℕ). MarkTells m h rows start T z (mark_in w.state z)) e (marked-at T w a (i - nk) (omega arith)))

  send-numbers : (i : ℕ) → i < length rows → IsSend (row_at rows i) → (k : ℕ) × (k < n) × (i ≡ nk + k) × ((r k).sends ≡ true)
  send-numbers i l s =
      let q = is-send (row_at rows i) s in
      let ge = beyond i l q.0 in
      let few = keep-few rows in
      let e : i ≡ nk + (i - nk) = omega arith in
      (i - nk, omega arith, e, subst (λ (z : ℕ). (as_row (row_at rows z)).sends ≡ true) e q.1)

  sends : (q i p j x : ℕ) → i < length rows → j < length rows → IsSend (row_at rows i) → IsSend (row_at rows j)
      → performs m rows start q i ≡ true → performs m rows start p j ≡ true
      → Occupies m h rows start q i x → Occupies m h rows start p j x → (q ≡ p) × (i ≡ j)
  sends q i p j x li lj si sj di dj oi oj = go (send-numbers i li si) (send-numbers j lj sj)
    where
      moved : (q k x i : ℕ) → i ≡ nk + k → Occupies m h rows start q i x → (q * L + (r k).date ≤ x) × (x < q * L + (r k).date + (r k).dur)
      moved q k x i e (a, b) =
          let d : date_of (row_at rows i) ≡ (r k).date = date-same (row_at rows i) ∙ ap (λ (z : ℕ). (as_row (row_at rows z)).date) e in
          let f : end_of (row_at rows i) ≡ (r k).date + (r k).dur = end_same (row_at rows i) ∙ ap (λ (z : ℕ). ends (as_row (row_at rows z))) e in
          (omega arith, omega arith)

      go : (k : ℕ) × (k < n) × (i ≡ nk + k) × ((r k).sends ≡ true) → (k : ℕ) × (k < n) × (j ≡ nk + k) × ((r k).sends ≡ true) → (q ≡ p) × (i ≡ j)
      go (k, lk, ei, sk) (o, lo, ej, so) =
          let z = sends-apart (leaves m) (guarded m) m.known r n L (keeps_of rows) nk (bases m law h rows sheet known start) start (accepted m law h rows sheet known start) q k p o x lk lo sk so
          (sym (performs-same m L rows (ord m law h rows sheet known start) known start q k lk) ∙ subst (λ (z : ℕ). performs m rows start q z ≡ true) ei di)
          (sym (performs-same m L rows (ord m law h rows sheet known start) known start p o lo) ∙ subst (λ (z : ℕ). performs m rows start p z ≡ true) ej dj)
          (moved q k x i ei oi) (moved p o x j ej oj) in
          (z.0, ei ∙ ap (λ (y : ℕ). nk + y) z.1 ∙ sym ej)

  pub promised : Promised m h rows start
  promised = record {
    making = programs-lawful.unbroken h rows sheet;
    always = λ rs. after rs (after-requests m law h rows sheet known start rs);
    sends = sends;
  }

pub run-promise : (m : Model) → Apart m → RunPromiseOf m
run-promise m law h rows sheet known start = promised m law h rows sheet known start
