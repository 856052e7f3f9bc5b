use Rattle.std.proofs.Common.{◌≡◌, ℕ, ◌<◌, ◌≤◌, Bool, true, false, cond, List, length, take, is_some, Some, None, Decides, Option, refl, arith}
use Rattle.std.specs.List.{AllByRecursion}
use Rattle.std.proofs.ByRecursion.{All-get_or}
use Rattle.std.proofs.lemmas.Bool.{true≢false, false≢true}
use Rattle.std.proofs.lemmas.Bool.Decides.{Decides-and, Decides-ltb}
use Rattle.sheet.specs.declared.row.Head.{Head}
use Rattle.sheet.specs.declared.row.Condition.TheVariants.{Always}
use Rattle.judge.specs.declared.need.Need.{Need}
use Rattle.sheet.specs.declared.row.Row.{Row}
use Rattle.sheet.specs.declared.row.Row.TheVariants.{Keep as keep_row, Call as call_row, Send as send_row}
use Rattle.judge.specs.declared.breach.Breach.{Breach}
use Rattle.judge.specs.declared.breach.Breach.TheVariants.{Outside, TestedTwice}
use Rattle.fault.specs.declared.place.RowPlace.{RowPlace}
use Rattle.fault.specs.declared.refusal.Fault.{Fault}
use Rattle.fault.specs.Scan.{first_bad, FirstBad}
use Rattle.fault.proofs.Scans.{first-is}
use Rattle.sheet.specs.Rows.{row_at, no_row}
use Rattle.judge.specs.Verdict.{is_keep, placed, within, tested_once, two_writers, overlapping, first_writer, first_overlap, first_unavailable, need_at, needs_of, as_unavailable, or_clash, or_writers, breach_of, fault_here, verdict}
use Rattle.judge.specs.Rules.{IsKeep, Placed, SingleWriter, NoOverlap, RowRules, Rules}
use Rattle.judge.specs.Right.{Within, TestedOnceAt, WritersTo, NoOverlapTo, Met, FirstUnmet, Broken, Right, AcceptsExactly, NamesFirst}
use Rattle.std.proofs.lemmas.List.{length-take-le}
use Rattle.judge.proofs.Logic.{always}
use Rattle.judge.proofs.Decided.{fields-decides, keep-decides, once-decides, writer-decides, overlap-decides}
use Rattle.judge.proofs.Searches.{PlaceBelow, place-answers, all-decides, not-of, not-off}
use Rattle.judge.proofs.Availables.{UnavailableAt, unavailable-answers, reads-to, reads-from}

placed-decides : (rows : List Row) (r : ℕ) (x : Row) → r ≤ length rows → Decides (placed (take r rows) x) (Placed rows r x)
placed-decides rows r (keep_row k) l =
    rw (length-take-le r rows l) (Decides-and _ _ (Decides-ltb r 16) (all-decides is_keep IsKeep keep-decides rows r l))
placed-decides rows r (call_row c) l = always
placed-decides rows r (send_row s) l = always

within-decides : (h : Head) (rows : List Row) (r : ℕ) → r ≤ length rows → Decides (within h (take r rows) (row_at rows r)) (Within h rows r)
within-decides h rows r l = Decides-and _ _ (fields-decides h (row_at rows r)) (placed-decides rows r (row_at rows r) l)

-- What is said of one row is right.
module _ (h : Head) (rows : List Row) (r : ℕ) where
  abbrev RowRight : Option Breach → Type 0
  RowRight None = RowRules h rows r
  RowRight (Some why) = Broken h rows r why × (RowRules h rows r → ⊥)

  after-within : (b : Bool) (rest : Option Breach) → Decides b (Within h rows r) → (Within h rows r → RowRight rest)
      → RowRight (cond b rest (Some Outside))
  after-within true rest d k = k (d.0 refl)
  after-within false rest d k =
      ((λ w. false≢true (d.1 w)), λ s. false≢true (d.1 (s.fields, s.placed)))

  after-once : (b : Bool) (rest : Option Breach) → Within h rows r → Decides b (TestedOnceAt rows r) → (TestedOnceAt rows r → RowRight rest)
      → RowRight (cond b rest (Some TestedTwice))
  after-once true rest w d k = k (d.0 refl)
  after-once false rest w d k = ((w, λ o. false≢true (d.1 o)), λ s. false≢true (d.1 s.tested))

  writer-kept : (u : ℕ) → two_writers (row_at rows u) (row_at rows r) ≡ false → SingleWriter (row_at rows u) (row_at rows r)
  writer-kept u e = (writer-decides (row_at rows u) (row_at rows r)).0 (not-of (two_writers (row_at rows u) (row_at rows r)) e)

  writer-lost : (u : ℕ) → two_writers (row_at rows u) (row_at rows r) ≡ true → SingleWriter (row_at rows u) (row_at rows r) → ⊥
  writer-lost u e o =
      not-off (two_writers (row_at rows u) (row_at rows r)) e ((writer-decides (row_at rows u) (row_at rows r)).1 o)

  after-writers : (o : Option ℕ) (rest : Option Breach) → Within h rows r → TestedOnceAt rows r
      → PlaceBelow (λ u. two_writers (row_at rows u) (row_at rows r)) r o → (WritersTo rows r r → RowRight rest) → RowRight (or_writers o rest)
  after-writers None rest w n a k = k (λ u l. writer-kept u (a u l))
  after-writers (Some u) rest w n a k =
      ((w, n, a.0, writer-lost u a.1, λ j l. writer-kept j (a.2 j l)), λ s. writer-lost u a.1 (s.writers u (a.0)))

  overlap-kept : (u : ℕ) → overlapping (row_at rows u) (row_at rows r) ≡ false → NoOverlap (row_at rows u) (row_at rows r)
  overlap-kept u e = (overlap-decides (row_at rows u) (row_at rows r)).0 (not-of (overlapping (row_at rows u) (row_at rows r)) e)

  overlap-lost : (u : ℕ) → overlapping (row_at rows u) (row_at rows r) ≡ true → NoOverlap (row_at rows u) (row_at rows r) → ⊥
  overlap-lost u e o =
      not-off (overlapping (row_at rows u) (row_at rows r)) e ((overlap-decides (row_at rows u) (row_at rows r)).1 o)

  after-overlap : (o : Option ℕ) (rest : Option Breach) → Within h rows r → TestedOnceAt rows r → WritersTo rows r r
      → PlaceBelow (λ u. overlapping (row_at rows u) (row_at rows r)) r o → (NoOverlapTo rows r r → RowRight rest) → RowRight (or_clash o rest)
  after-overlap None rest w n t a k = k (λ u l. overlap-kept u (a u l))
  after-overlap (Some u) rest w n t a k =
      ((w, n, t, a.0, overlap-lost u a.1, λ j l. overlap-kept j (a.2 j l)), λ s. overlap-lost u a.1 (s.overlaps u (a.0)))

  unmet : (ws : List Need) (v : ℕ) → FirstUnmet rows r ws v → AllByRecursion (Met rows r) ws → ⊥
  unmet ws v f a = (f.2 (need_at 0 0 0 Always)).1 (All-get_or (Met rows r) ws f.0 (need_at 0 0 0 Always) f.1 a)

  after-all : (o : Option ℕ) → Within h rows r → TestedOnceAt rows r → WritersTo rows r r → NoOverlapTo rows r r
      → UnavailableAt rows r (needs_of h (row_at rows r)) o → RowRight (as_unavailable o)
  after-all None w n t p a =
      record { fields = w.0; placed = w.1; tested = n; writers = t; overlaps = p; reads = reads-to rows r h (row_at rows r) w.0 a }
  after-all (Some v) w n t p a =
      ((w, n, t, p, a), λ s. unmet (needs_of h (row_at rows r)) v a (reads-from rows r h (row_at rows r) s.reads))

  row-right : r ≤ length rows → RowRight (breach_of h (take r rows) (row_at rows r))
  row-right l =
      after-within (within h (take r rows) (row_at rows r)) _ (within-decides h rows r l) (λ w.
      after-once (tested_once (row_at rows r)) _ w (once-decides (row_at rows r)) (λ n.
      after-writers (first_writer (take r rows) (row_at rows r)) _ w n (place-answers (λ x. two_writers x (row_at rows r)) rows r l) (λ t.
      after-overlap (first_overlap (take r rows) (row_at rows r)) _ w n t (place-answers (λ x. overlapping x (row_at rows r)) rows r l) (λ p.
      after-all (first_unavailable (take r rows) (needs_of h (row_at rows r))) w n t p (unavailable-answers rows r (needs_of h (row_at rows r)) l)))))

row_kept : (h : Head) (rows : List Row) (r : ℕ) → r ≤ length rows → breach_of h (take r rows) (row_at rows r) ≡ None → RowRules h rows r
row_kept h rows r l e = rw e at (row-right h rows r l)

row-broken : (h : Head) (rows : List Row) (r : ℕ) (b : Breach) → r ≤ length rows → breach_of h (take r rows) (row_at rows r) ≡ Some b
    → Broken h rows r b × (RowRules h rows r → ⊥)
row-broken h rows r b l e = rw e at (row-right h rows r l)

right-from : (h : Head) (rows : List Row) (o : Option (ℕ × Breach)) → FirstBad (λ r x. breach_of h (take r rows) x) rows o
    → Right h rows (fault_here o)
right-from h rows None a = λ r l. row_kept h rows r (omega arith) (a r no_row l)
right-from h rows (Some rb) a =
    let r = rb.0 in
    let l : r < length rows = a.0 in
    let b = row-broken h rows r rb.1 (omega arith) (a.1 no_row) in
    ((r, rb.1, refl, l, b.0, (λ u m. row_kept h rows u (omega arith) (a.2 u no_row m)), b.1), λ s. b.1 (s r l))

pub right : (h : Head) (rows : List Row) → Right h rows (verdict h rows)
right h rows =
    right-from h rows (first_bad (λ r x. breach_of h (take r rows) x) 0 rows)
    (first-is (λ r x. breach_of h (take r rows) x) rows (first_bad (λ r x. breach_of h (take r rows) x) 0 rows) refl)

pub right-at : (h : Head) (rows : List Row) (o : Option (Fault RowPlace)) → o ≡ verdict h rows → Right h rows o
right-at h rows o e = rw e (right h rows)

none_from : (h : Head) (rows : List Row) (o : Option (Fault RowPlace)) → Right h rows o → Rules h rows → o ≡ None
none_from h rows None a s = refl
none_from h rows (Some f) a s = absurd (a.1 s)

pub accepts-exactly : AcceptsExactly
accepts-exactly h rows = ((λ e. rw e at (right h rows)), none_from h rows (verdict h rows) (right h rows))

pub names-first : NamesFirst
names-first h rows f e = (rw e at (right h rows)).0

rules-from : (h : Head) (rows : List Row) (o : Option (Fault RowPlace)) → Right h rows o → is_some o ≡ false → Rules h rows
rules-from h rows None a e = a
rules-from h rows (Some f) a e = absurd (true≢false e)

-- A sheet that the judge finds nothing in keeps the rules.
pub accepted-rules : (h : Head) (rows : List Row) → is_some (verdict h rows) ≡ false → Rules h rows
accepted-rules h rows e = rules-from h rows (verdict h rows) (right h rows) e
