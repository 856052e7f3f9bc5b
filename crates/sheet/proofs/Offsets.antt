-- What the offset of a fault says of the bytes before and after it.
use Rattle.std.proofs.Common.{◌≡◌, ℕ, ◌^◌, ◌<◌, true, ◌⊎◌, List, ◌++◌, length, take, drop, Ok, Err, Result, sym, refl, ap, ◌∙◌, subst, inl, inr, arith}
use Rattle.std.proofs.lemmas.List.{take_at}
use Rattle.fault.specs.declared.refusal.Fault.{Fault}
use Rattle.fault.specs.declared.refusal.Refusal.{Refusal}
use Rattle.fault.specs.declared.refusal.Refusal.TheVariants.{EndsEarly, NotShortest, Strange, TooShort, Trailing, HeadOutside}
use Rattle.fault.specs.declared.place.Offset.{Offset}
use Rattle.fault.specs.declared.place.BytesPlace.{BytesPlace}
use Rattle.fault.specs.declared.place.BytesPlace.TheVariants.{Offset as at_offset, Needed, Head as of_head}
use Rattle.fault.specs.Refusals.{number_of}
use Rattle.wire.specs.Numbers.{numeral, value_of, number_at, after_number, fault_at}
use Rattle.wire.specs.Bytes.{bytes_of, spelled, Bytes}
use Rattle.wire.proofs.Spelled.{Reads, reads-spelled, number_spelled}
use Rattle.wire.proofs.Faults.{early, no_number, fault-kind}
use Rattle.sheet.specs.declared.row.Head.{Head}
use Rattle.sheet.specs.declared.row.Row.{Row}
use Rattle.sheet.specs.Rows.{head_within}
use Rattle.sheet.specs.Sheets.{head_from, rows_from, up_then, raised, sheet_in}
use Rattle.sheet.specs.Forms.{IsSheet, head_numbers, sheet_numbers, sheet_form}
use Rattle.sheet.specs.Theorems.{OffsetsAlwaysTell, WholeBefore, Unfinished, NoNumber, offset_fault}
use Rattle.sheet.proofs.Follow.{never-err, Stops, stops-later}
use Rattle.sheet.proofs.RowReaders.{head-reads, head-stops, rows-stop}
use Rattle.sheet.proofs.Exact.{by_less, by-test, sheet-numbers}

up-err : {A B : Type 0} {C : Type 0} (r : Result A (Fault Offset)) (k : A → Result B (Fault BytesPlace)) (g : Fault BytesPlace) → up_then r k ≡ Err g
    → ((f : Fault Offset) → r ≡ Err f → raised f ≡ g → C) → ((a : A) → r ≡ Ok a → k a ≡ Err g → C) → C
up-err (Ok a) k g e c d = d a refl e
up-err {B = B} (Err f) k g e c d = c f refl (same e)
  where
    same : ◌≡◌ {A = Result B (Fault BytesPlace)} (Err (raised f)) (Err g) → raised f ≡ g
    same q = cc

module _ (bs : List ℕ) (room : ℕ) where
  -- Why a sheet is refused: reading stopped, there is too little room, the head is outside, something follows.
  pub data Cause (g : Fault BytesPlace) : Type 0 where
    stopped : (f : Fault Offset) → raised f ≡ g → Stops (number_at bs) (after_number bs) 0 f → Cause g
    short : (n : ℕ) → ◌≡◌ {A = Fault BytesPlace} record { refusal = TooShort; place = Needed n } g → Cause g
    outside : ◌≡◌ {A = Fault BytesPlace} record { refusal = HeadOutside; place = of_head } g → Cause g
    follows : (h : Head) (rows : List Row) (end : ℕ) → Reads (number_at bs) (after_number bs) 0 (sheet_numbers h rows) end
        → head_within h ≡ true → h.rows ≡ length rows → end < length bs → offset_fault Trailing end ≡ g → Cause g

  err-same : {B : Type 0} {x g : Fault BytesPlace} → ◌≡◌ {A = Result B (Fault BytesPlace)} (Err x) (Err g) → x ≡ g
  err-same e = cc

  cause : (g : Fault BytesPlace) → sheet_in bs room ≡ Err g → Cause g
  cause g e =
      up-err (head_from bs 0) _ g e (λ f h q. stopped f q (head-stops (number_at bs) (after_number bs) 0 f h)) (λ k hk e1.
      by_less room k.0.rows _ _ _ e1 (λ lt w. short k.0.rows (err-same w)) (λ le e2.
      by-test (head_within k.0) _ _ _ e2 (λ ok e3.
      up-err (rows_from k.0.rows bs k.1) _ g e3 (λ f h q.
      stopped f q (stops-later (number_at bs) (after_number bs) 0 (head_numbers k.0) k.1 f (head-reads (number_at bs) (after_number bs) 0 k.0 k.1 hk) (rows-stop (number_at bs) (after_number bs) k.0.rows k.1 f h)))
      (λ rs hr e4.
      by_less rs.1 (length bs) _ _ _ e4
      (λ lt w. let ns = sheet-numbers bs k.0 k.1 rs.0 rs.1 hk hr in follows k.0 rs.0 rs.1 ns.0 ok (sym ns.1) lt (err-same w))
      (λ all w. absurd (never-err w))))
      (λ no w. outside (err-same w))))

-- Two faults with refusals of different numbers differ.
apart : (f g : Fault BytesPlace) → f ≡ g → (number_of f.refusal ≡ number_of g.refusal → ⊥) → ⊥
apart f g e n = n (ap (λ (x : Fault BytesPlace). number_of x.refusal) e)

before : (bs : List ℕ) (ns : List ℕ) (end : ℕ) → Bytes bs → Reads (number_at bs) (after_number bs) 0 ns end → take end bs ≡ spelled ns
before bs ns end b r =
    let s = reads-spelled bs 0 ns end b r in
    let e : length (spelled ns) ≡ end = omega (arith, s.1) in
    ap (take end) s.0 ∙ take_at (spelled ns) (drop end bs) end e

place_of : (f : Fault Offset) (g : Fault BytesPlace) (o : ℕ) → raised f ≡ g → g.place ≡ at_offset o → f.place.0 ≡ o
place_of f g o e h = cc

-- The fault of a number is at its offset, and is what its bytes give.
number-fault : (bs : List ℕ) (at : ℕ) (f : Fault Offset) (r : Result (ℕ × ℕ) Refusal) → value_of at r ≡ Err f
    → (r ≡ Err f.refusal) × (f.place.0 ≡ at)
number-fault bs at f (Ok v) e = absurd (never-err e)
number-fault bs at f (Err x) e = go e
  where
    go : ◌≡◌ {A = Result ℕ (Fault Offset)} (Err (fault_at x at)) (Err f) → (◌≡◌ {A = Result (ℕ × ℕ) Refusal} (Err x) (Err f.refusal)) × (f.place.0 ≡ at)
    go q = let p : fault_at x at ≡ f = cc in (ap (λ (z : Fault Offset). Err z.refusal) p, sym (ap (λ (z : Fault Offset). z.place.0) p))

same-offset : {why : Refusal} (x y : ℕ) → offset_fault why x ≡ offset_fault why y → x ≡ y
same-offset x y e = let q : at_offset x ≡ at_offset y = ap (λ (f : Fault BytesPlace). f.place) e in cc

module _ (bs : List ℕ) (room o : ℕ) (b : Bytes bs) where
  -- What is known where reading stopped.
  pub record StoppedAt (why : Refusal) : Type 0 where
    pub whole : WholeBefore bs o
    pub fault : (numeral 4 true (drop o bs) ≡ Err why) ⊎ ((why ≡ Strange) × ((n : ℕ) × (number_at bs o ≡ Ok n)))

  at-stop : (why : Refusal) (f : Fault Offset) → raised f ≡ offset_fault why o → Stops (number_at bs) (after_number bs) 0 f → StoppedAt why
  at-stop why f e (ns, at, r, inl s) =
      let q = number-fault bs at f (numeral 4 true (drop at bs)) s in
      let w : f.refusal ≡ why = ap (λ (x : Fault BytesPlace). x.refusal) e in
      let p : at ≡ o = sym q.1 ∙ place_of f (offset_fault why o) o e refl in
      record {
        whole = (ns, subst (λ (a : ℕ). take a bs ≡ spelled ns) p (before bs ns at b r));
        fault = inl (subst (λ (a : ℕ). numeral 4 true (drop a bs) ≡ Err why) p (q.0 ∙ ap Err w));
      }
  at-stop why f e (ns, at, r, inr (v, h, s)) =
      let w : why ≡ Strange = sym (ap (λ (x : Fault BytesPlace). x.refusal) e) ∙ ap (λ (x : Fault Offset). x.refusal) s in
      let p : at ≡ o = sym (ap (λ (x : Fault Offset). x.place.0) s) ∙ place_of f (offset_fault why o) o e refl in
      record {
        whole = (ns, subst (λ (a : ℕ). take a bs ≡ spelled ns) p (before bs ns at b r));
        fault = inr (w, (v, subst (λ (a : ℕ). number_at bs a ≡ Ok v) p h));
      }

  by-cause : (why : Refusal) → (why ≡ TooShort → ⊥) → (why ≡ HeadOutside → ⊥) → (why ≡ Trailing → ⊥) → Cause bs room (offset_fault why o) → StoppedAt why
  by-cause why a c d (stopped f e s) = at-stop why f e s
  by-cause why a c d (short n e) = absurd (a (sym (ap (λ (x : Fault BytesPlace). x.refusal) e)))
  by-cause why a c d (outside e) = absurd (c (sym (ap (λ (x : Fault BytesPlace). x.refusal) e)))
  by-cause why a c d (follows h rows end r w k l e) = absurd (d (sym (ap (λ (x : Fault BytesPlace). x.refusal) e)))

  differ : (x y : Refusal) → (number_of x ≡ number_of y → ⊥) → x ≡ y → ⊥
  differ x y n e = n (ap number_of e)

  tell-early : sheet_in bs room ≡ Err (offset_fault EndsEarly o) → WholeBefore bs o × Unfinished (drop o bs)
  tell-early e = go (by-cause EndsEarly (differ EndsEarly TooShort (λ (q : ◌≡◌ {A = ℕ} 1 4). omega arith)) (differ EndsEarly HeadOutside (λ (q : ◌≡◌ {A = ℕ} 1 6). omega arith)) (differ EndsEarly Trailing (λ (q : ◌≡◌ {A = ℕ} 1 5). omega arith)) (cause bs room _ e))
    where
      cases : ((numeral 4 true (drop o bs) ≡ Err EndsEarly) ⊎ ((EndsEarly ≡ Strange) × ((n : ℕ) × (number_at bs o ≡ Ok n)))) → Unfinished (drop o bs)
      cases (inl h) = let p = early 4 true (drop o bs) h in (omega (arith, p.0), p.1)
      cases (inr h) = absurd (differ EndsEarly Strange (λ (q : ◌≡◌ {A = ℕ} 1 3). omega arith) h.0)

      go : StoppedAt EndsEarly → WholeBefore bs o × Unfinished (drop o bs)
      go s = (s.whole, cases s.fault)

  tell-bad : sheet_in bs room ≡ Err (offset_fault NotShortest o) → WholeBefore bs o × NoNumber (drop o bs)
  tell-bad e = go (by-cause NotShortest (differ NotShortest TooShort (λ (q : ◌≡◌ {A = ℕ} 2 4). omega arith)) (differ NotShortest HeadOutside (λ (q : ◌≡◌ {A = ℕ} 2 6). omega arith)) (differ NotShortest Trailing (λ (q : ◌≡◌ {A = ℕ} 2 5). omega arith)) (cause bs room _ e))
    where
      cases : ((numeral 4 true (drop o bs) ≡ Err NotShortest) ⊎ ((NotShortest ≡ Strange) × ((n : ℕ) × (number_at bs o ≡ Ok n)))) → NoNumber (drop o bs)
      cases (inl h) = no_number (drop o bs) h
      cases (inr h) = absurd (differ NotShortest Strange (λ (q : ◌≡◌ {A = ℕ} 2 3). omega arith) h.0)

      go : StoppedAt NotShortest → WholeBefore bs o × NoNumber (drop o bs)
      go s = (s.whole, cases s.fault)

  tell-odd : sheet_in bs room ≡ Err (offset_fault Strange o)
      → WholeBefore bs o × ((n : ℕ) × (rest : List ℕ) × (n < 2 ^ 32) × (drop o bs ≡ bytes_of n ++ rest))
  tell-odd e = go (by-cause Strange (differ Strange TooShort (λ (q : ◌≡◌ {A = ℕ} 3 4). omega arith)) (differ Strange HeadOutside (λ (q : ◌≡◌ {A = ℕ} 3 6). omega arith)) (differ Strange Trailing (λ (q : ◌≡◌ {A = ℕ} 3 5). omega arith)) (cause bs room _ e))
    where
      known : (Strange ≡ EndsEarly) ⊎ (Strange ≡ NotShortest) → ⊥
      known (inl h) = differ Strange EndsEarly (λ (q : ◌≡◌ {A = ℕ} 3 1). omega arith) h
      known (inr h) = differ Strange NotShortest (λ (q : ◌≡◌ {A = ℕ} 3 2). omega arith) h

      cases : ((numeral 4 true (drop o bs) ≡ Err Strange) ⊎ ((Strange ≡ Strange) × ((n : ℕ) × (number_at bs o ≡ Ok n))))
          → (n : ℕ) × (rest : List ℕ) × (n < 2 ^ 32) × (drop o bs ≡ bytes_of n ++ rest)
      cases (inl h) = absurd (known (fault-kind 4 true (drop o bs) Strange h))
      cases (inr (w, (n, h))) = let s = number_spelled bs o n b h in (n, drop (after_number bs o) bs, s.2, s.0)

      go : StoppedAt Strange → WholeBefore bs o × ((n : ℕ) × (rest : List ℕ) × (n < 2 ^ 32) × (drop o bs ≡ bytes_of n ++ rest))
      go s = (s.whole, cases s.fault)

  tell-trailing : sheet_in bs room ≡ Err (offset_fault Trailing o)
      → (o < length bs) × ((h : Head) × (rows : List Row) × IsSheet h rows × (take o bs ≡ sheet_form h rows))
  tell-trailing e = go (cause bs room _ e)
    where
      known : (Trailing ≡ EndsEarly) ⊎ (Trailing ≡ NotShortest) → ⊥
      known (inl h) = differ Trailing EndsEarly (λ (q : ◌≡◌ {A = ℕ} 5 1). omega arith) h
      known (inr h) = differ Trailing NotShortest (λ (q : ◌≡◌ {A = ℕ} 5 2). omega arith) h

      never-stops : (f : Fault Offset) → raised f ≡ offset_fault Trailing o → Stops (number_at bs) (after_number bs) 0 f → ⊥
      never-stops f e s = no (at-stop Trailing f e s).fault
        where
          no : ((numeral 4 true (drop o bs) ≡ Err Trailing) ⊎ ((Trailing ≡ Strange) × ((n : ℕ) × (number_at bs o ≡ Ok n)))) → ⊥
          no (inl h) = known (fault-kind 4 true (drop o bs) Trailing h)
          no (inr h) = differ Trailing Strange (λ (q : ◌≡◌ {A = ℕ} 5 3). omega arith) h.0

      go : Cause bs room (offset_fault Trailing o)
          → (o < length bs) × ((h : Head) × (rows : List Row) × IsSheet h rows × (take o bs ≡ sheet_form h rows))
      go (stopped f e s) = absurd (never-stops f e s)
      go (short n e) = absurd (differ TooShort Trailing (λ (q : ◌≡◌ {A = ℕ} 4 5). omega arith) (ap (λ (x : Fault BytesPlace). x.refusal) e))
      go (outside e) = absurd (differ HeadOutside Trailing (λ (q : ◌≡◌ {A = ℕ} 6 5). omega arith) (ap (λ (x : Fault BytesPlace). x.refusal) e))
      go (follows h rows end r w k l e) =
          let p = same-offset end o e in
          let s = reads-spelled bs 0 (sheet_numbers h rows) end b r in (
            omega arith,
            (h, rows, record { within = w; counts = k; words = s.2 }, subst (λ (a : ℕ). take a bs ≡ sheet_form h rows) p (before bs (sheet_numbers h rows) end b r)),
          )

pub offsets-tell : OffsetsAlwaysTell
offsets-tell bs room o b = record { early = tell-early bs room o b; bad = tell-bad bs room o b; odd = tell-odd bs room o b; trailing = tell-trailing bs room o b }
