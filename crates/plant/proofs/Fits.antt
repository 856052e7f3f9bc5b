-- What the answer of fit means.
use Rattle.std.proofs.Common.{◌≡◌, ℕ, zero, suc, ◌+◌, ◌<◌, Bool, true, false, cond, List, [], ◌∷◌, length, get_or, drop, Ok, Err, Result, sym, refl, ap, ◌∙◌, zero-add, arith}
use Rattle.std.proofs.lemmas.List.{at_drop_more}
use Rattle.std.proofs.lemmas.Bool.{both_ways}
use Rattle.fault.specs.declared.refusal.Fault.{Fault}
use Rattle.fault.specs.declared.place.FitPlace.{FitPlace}
use Rattle.sheet.specs.Rows.{no_row}
use Rattle.sheet.specs.declared.row.Condition.{Condition}
use Rattle.sheet.specs.declared.row.Call.{Call}
use Rattle.sheet.specs.declared.row.Row.{Row}
use Rattle.sheet.specs.declared.row.Row.TheVariants.{Keep as keep_row, Call as call_row, Send as send_row}
use Rattle.plant.specs.Model.{Model}
use Rattle.plant.specs.Fit.{knows_call, unfit, row_fit, unless_unfit, fit_from, KnowsEach, KnowsAbove, FirstUnknown, Fit}

pub fit-more : (m : Model) (rows : List Row) (i : ℕ) (d : Row) (o : Result (Unit {0}) (Fault FitPlace)) → i < length rows
    → o ≡ row_fit m i (get_or rows i d) → fit_from m i (drop i rows) ≡ unless_unfit o (fit_from m (i + 1) (drop (i + 1) rows))
fit-more m rows i d o h q =
    at_drop_more (fit_from m i) rows i d h
    ∙ ap (λ (x : Result (Unit {0}) (Fault FitPlace)). unless_unfit x (fit_from m (i + 1) (drop (i + 1) rows))) (sym q)

-- The same of rows that are numbered from `i` on.
record FitFrom (m : Model) (i : ℕ) (rows : List Row) (r : Result (Unit {0}) (Fault FitPlace)) : Type 0 where
  good : r ≡ Ok tt → KnowsEach m rows
  when_good : KnowsEach m rows → r ≡ Ok tt
  refused : (f : Fault FitPlace) → r ≡ Err f → (k : ℕ) × (c : Call Condition) × (f ≡ unfit c (i + k)) × FirstUnknown m rows k c
  when_refused : (k : ℕ) (c : Call Condition) → FirstUnknown m rows k c → r ≡ Err (unfit c (i + k))

keep-never : (c : Call Condition) → no_row ≡ call_row c → ⊥
keep-never c e = let z : ◌≡◌ {A = ℕ} 0 1 = cc in omega arith

ok-never : (f : Fault FitPlace) → ◌≡◌ {A = Result (Unit {0}) (Fault FitPlace)} (Ok tt) (Err f) → ⊥
ok-never f e = let z : ◌≡◌ {A = ℕ} 0 1 = cc in omega arith

same-call : (b c : Call Condition) → call_row b ≡ call_row c → b ≡ c
same-call b c e = cc

same-fault : (f g : Fault FitPlace) → ◌≡◌ {A = Result (Unit {0}) (Fault FitPlace)} (Err f) (Err g) → f ≡ g
same-fault f g e = cc

-- A row that asks for nothing unknown leaves it to the rest.
past : (m : Model) (i : ℕ) (r : Row) (rs : List Row) (x : Result (Unit {0}) (Fault FitPlace))
    → ((c : Call Condition) → r ≡ call_row c → knows_call m c ≡ true) → FitFrom m (i + 1) rs x → FitFrom m i (r ∷ rs) x
past m i r rs x h ih = record { good = λ e. each (ih.good e); when_good = λ k. ih.when_good (λ j c q. k (suc j) c q); refused = below; when_refused = named }
  where
    on : (k : ℕ) → i + 1 + k ≡ i + suc k
    on k = omega arith

    each : KnowsEach m rs → KnowsEach m (r ∷ rs)
    each k zero c q = h c q
    each k (suc j) c q = k j c q

    above : (n : ℕ) → KnowsAbove m rs n → KnowsAbove m (r ∷ rs) (suc n)
    above n k zero c l q = h c q
    above n k (suc j) c l q = k j c (omega arith) q

    below : (f : Fault FitPlace) → x ≡ Err f → (k : ℕ) × (c : Call Condition) × (f ≡ unfit c (i + k)) × FirstUnknown m (r ∷ rs) k c
    below f e =
        let p = ih.refused f e in
        let u = p.3 in
        (suc p.0, p.1, p.2 ∙ ap (unfit p.1) (on p.0), record { here = u.here; unknown = u.unknown; above = above p.0 u.above })

    named : (k : ℕ) (c : Call Condition) → FirstUnknown m (r ∷ rs) k c → x ≡ Err (unfit c (i + k))
    named zero c u = absurd (both_ways (knows_call m c) u.unknown (h c u.here))
    named (suc k) c u =
        ih.when_refused k c (record { here = u.here; unknown = u.unknown; above = λ j b l q. u.above (suc j) b (omega arith) q })
        ∙ ap (λ (n : ℕ). Err (unfit c n)) (on k)

-- A call whose work is unknown is refused.
here : (m : Model) (i : ℕ) (b : Call Condition) (rs : List Row) → knows_call m b ≡ false → FitFrom m i (call_row b ∷ rs) (Err (unfit b i))
here m i b rs h = record {
  good = λ e. absurd (ok-never (unfit b i) (sym e));
  when_good = λ k. absurd (both_ways (knows_call m b) h (k 0 b refl));
  refused = λ f e. (0, b, sym (same-fault (unfit b i) f e) ∙ ap (unfit b) at, record { here = refl; unknown = h; above = λ j c l q. absurd (omega arith) });
  when_refused = named;
}
  where
    at : i ≡ i + 0
    at = omega arith

    named : (k : ℕ) (c : Call Condition) → FirstUnknown m (call_row b ∷ rs) k c
        → ◌≡◌ {A = Result (Unit {0}) (Fault FitPlace)} (Err (unfit b i)) (Err (unfit c (i + k)))
    named zero c u = ap (λ (d : Call Condition). Err (unfit d i)) (same-call b c u.here) ∙ ap (λ (n : ℕ). Err (unfit c n)) at
    named (suc k) c u = absurd (both_ways (knows_call m b) h (u.above 0 b (omega arith) refl))

fits-from : (m : Model) (i : ℕ) (rows : List Row) → FitFrom m i rows (fit_from m i rows)
fits-from m i [] = record {
  good = λ e k c q. absurd (keep-never c q);
  when_good = λ h. refl;
  refused = λ f e. absurd (ok-never f e);
  when_refused = λ k c u. absurd (keep-never c u.here);
}
fits-from m i (keep_row k ∷ rs) =
    past m i (keep_row k) rs (fit_from m (i + 1) rs) (λ c e. let z : ◌≡◌ {A = ℕ} 0 1 = cc in absurd (omega arith)) (fits-from m (i + 1) rs)
fits-from m i (send_row s ∷ rs) =
    past m i (send_row s) rs (fit_from m (i + 1) rs) (λ c e. let z : ◌≡◌ {A = ℕ} 0 1 = cc in absurd (omega arith)) (fits-from m (i + 1) rs)
fits-from m i (call_row b ∷ rs) = go (knows_call m b) refl (fits-from m (i + 1) rs)
  where
    go : (v : Bool) → knows_call m b ≡ v → FitFrom m (i + 1) rs (fit_from m (i + 1) rs)
        → FitFrom m i (call_row b ∷ rs) (unless_unfit (cond v (Ok tt) (Err (unfit b i))) (fit_from m (i + 1) rs))
    go true e ih = past m i (call_row b) rs (fit_from m (i + 1) rs) (λ c q. ap (knows_call m) (sym (same-call b c q)) ∙ e) ih
    go false e ih = here m i b rs e

pub fit-means : (m : Model) (rows : List Row) (r : Result (Unit {0}) (Fault FitPlace)) → r ≡ fit_from m 0 rows → Fit m rows r
fit-means m rows r e =
    let t = fits-from m 0 rows in
    record {
      good = λ q. t.good (sym e ∙ q);
      when_good = λ h. e ∙ t.when_good h;
      refused = λ f q. let p = t.refused f (sym e ∙ q) in (p.0, p.1, p.2 ∙ ap (unfit p.1) (zero-add p.0), p.3);
      when_refused = λ k c u. e ∙ t.when_refused k c u ∙ ap (λ (n : ℕ). Err (unfit c n)) (zero-add k);
    }
