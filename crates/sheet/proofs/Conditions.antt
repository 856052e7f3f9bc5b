-- The reader of conditions: it reads just the numbers that a condition is written as, and
-- stops after whole numbers.
use Rattle.std.proofs.Common.{◌≡◌, ℕ, List, [], ◌∷◌, Ok, Err, Result, refl, ap, ◌∙◌}
use Rattle.fault.specs.declared.refusal.Fault.{Fault}
use Rattle.fault.specs.declared.place.Offset.{Offset}
use Rattle.wire.proofs.Spelled.{Reads, reads_more, reads-parts}
use Rattle.sheet.specs.declared.row.Test.{Test}
use Rattle.sheet.specs.declared.row.Condition.{Condition}
use Rattle.sheet.specs.declared.row.Condition.TheVariants.{Always, One, Two, Three, Four}
use Rattle.sheet.specs.Sheets.{one_test, one_condition}
use Rattle.sheet.specs.Forms.{test_numbers, tests_numbers, condition_numbers}
use Rattle.sheet.proofs.Follow.{never, never-err, at_same, then_by, then-err, then_to, Stops, stops-here, stops-strange, stops-later}
use Rattle.sheet.proofs.Readers.{choose, err-same, test-reads, test_back, test-stops}

module _ (num : ℕ → Result ℕ (Fault Offset)) (aft : ℕ → ℕ) where
  abbrev Rd : ℕ → List ℕ → ℕ → Type 0
  Rd = Reads num aft

  abbrev St : ℕ → Fault Offset → Type 0
  St = Stops num aft

  -- One test before others.
  test-step : (pos : ℕ) (t : Test × ℕ) (ts : List Test) (end : ℕ) → one_test num aft pos ≡ Ok t → Rd t.1 (tests_numbers ts) end
      → Rd pos (tests_numbers (t.0 ∷ ts)) end
  test-step pos t ts end e h =
      reads_more num aft pos (test_numbers t.0) t.1 (tests_numbers ts) end (test-reads num aft pos t.0 t.1 e) h

  test-then-stops : (pos : ℕ) (t : Test × ℕ) (f : Fault Offset) → one_test num aft pos ≡ Ok t → St t.1 f → St pos f
  test-then-stops pos t f e s = stops-later num aft pos (test_numbers t.0) t.1 f (test-reads num aft pos t.0 t.1 e) s

  pub condition-reads : (pos : ℕ) (c : Condition) (end : ℕ) → one_condition num aft pos ≡ Ok (c, end) → Rd pos (condition_numbers c) end
  condition-reads pos c end e =
      then_by (num pos) _ (c, end) e (λ n h g.
      choose n 0 _ _ _ g (λ q w. at_same (λ x p. Rd pos (condition_numbers x) p) w (h ∙ ap Ok q, refl)) (λ g1.
      choose n 1 _ _ _ g1 (λ q w.
      then_by (one_test num aft (aft pos)) _ (c, end) w (λ ta hta wta.
      at_same (λ x p. Rd pos (condition_numbers x) p) wta (h ∙ ap Ok q, (test-step (aft pos) ta ([]) ta.1 hta refl)))) (λ g2.
      choose n 2 _ _ _ g2 (λ q w.
      then_by (one_test num aft (aft pos)) _ (c, end) w (λ ta hta wta.
      then_by (one_test num aft ta.1) _ (c, end) wta (λ tb htb wtb.
      at_same (λ x p. Rd pos (condition_numbers x) p) wtb (h ∙ ap Ok q, (test-step (aft pos) ta (tb.0 ∷ []) tb.1 hta (test-step ta.1 tb ([]) tb.1 htb refl)))))) (λ g3.
      choose n 3 _ _ _ g3 (λ q w.
      then_by (one_test num aft (aft pos)) _ (c, end) w (λ ta hta wta.
      then_by (one_test num aft ta.1) _ (c, end) wta (λ tb htb wtb.
      then_by (one_test num aft tb.1) _ (c, end) wtb (λ tc htc wtc.
      at_same (λ x p. Rd pos (condition_numbers x) p) wtc (h ∙ ap Ok q, (test-step (aft pos) ta (tb.0 ∷ tc.0 ∷ []) tc.1 hta (test-step ta.1 tb (tc.0 ∷ []) tc.1 htb (test-step tb.1 tc ([]) tc.1 htc refl)))))))) (λ g4.
      choose n 4 _ _ _ g4 (λ q w.
      then_by (one_test num aft (aft pos)) _ (c, end) w (λ ta hta wta.
      then_by (one_test num aft ta.1) _ (c, end) wta (λ tb htb wtb.
      then_by (one_test num aft tb.1) _ (c, end) wtb (λ tc htc wtc.
      then_by (one_test num aft tc.1) _ (c, end) wtc (λ td htd wtd.
      at_same (λ x p. Rd pos (condition_numbers x) p) wtd (h ∙ ap Ok q, (test-step (aft pos) ta (tb.0 ∷ tc.0 ∷ td.0 ∷ []) td.1 hta (test-step ta.1 tb (tc.0 ∷ td.0 ∷ []) td.1 htb (test-step tb.1 tc (td.0 ∷ []) td.1 htc (test-step tc.1 td ([]) td.1 htd refl)))))))))) (λ g5.
      absurd (never g5)))))))

  -- The tests one after the other.
  tests-parts : (pos : ℕ) (t : Test) (ts : List Test) (end : ℕ) → Rd pos (tests_numbers (t ∷ ts)) end
      → (mid : ℕ) × (one_test num aft pos ≡ Ok (t, mid)) × Rd mid (tests_numbers ts) end
  tests-parts pos t ts end h = go (reads-parts num aft pos (test_numbers t) (tests_numbers ts) end h)
    where
      go : ((mid : ℕ) × Rd pos (test_numbers t) mid × Rd mid (tests_numbers ts) end)
          → (mid : ℕ) × (one_test num aft pos ≡ Ok (t, mid)) × Rd mid (tests_numbers ts) end
      go (mid, x, y) = (mid, test_back num aft pos t mid x, y)

  pub condition-back : (pos : ℕ) (c : Condition) (end : ℕ) → Rd pos (condition_numbers c) end → one_condition num aft pos ≡ Ok (c, end)
  condition-back pos Always end h = then_to (num pos) _ 0 _ h.0 (ap (λ (p : ℕ). Ok (Always, p)) h.1)
  condition-back pos (One a) end h = go1 (tests-parts (aft pos) a ([]) end h.1)
    where
      go1 : ((mid : ℕ) × (one_test num aft (aft pos) ≡ Ok (a, mid)) × Rd mid (tests_numbers ([])) end) → one_condition num aft pos ≡ Ok (One a, end)
      go1 (m1, e1, r) = then_to (num pos) _ 1 _ h.0 (then_to (one_test num aft (aft pos)) _ (a, m1) _ e1 (ap (λ (p : ℕ). Ok (One a, p)) r))
  condition-back pos (Two a b) end h = go1 (tests-parts (aft pos) a (b ∷ []) end h.1)
    where
      go2 : (m1 : ℕ) (e1 : one_test num aft (aft pos) ≡ Ok (a, m1)) → ((mid : ℕ) × (one_test num aft (m1) ≡ Ok (b, mid)) × Rd mid (tests_numbers ([])) end) → one_condition num aft pos ≡ Ok (Two a b, end)
      go2 m1 e1 (m2, e2, r) = then_to (num pos) _ 2 _ h.0 (then_to (one_test num aft (aft pos)) _ (a, m1) _ e1 (then_to (one_test num aft (m1)) _ (b, m2) _ e2 (ap (λ (p : ℕ). Ok (Two a b, p)) r)))

      go1 : ((mid : ℕ) × (one_test num aft (aft pos) ≡ Ok (a, mid)) × Rd mid (tests_numbers (b ∷ [])) end) → one_condition num aft pos ≡ Ok (Two a b, end)
      go1 (m1, e1, r) = go2 m1 e1 (tests-parts m1 b ([]) end r)
  condition-back pos (Three a b c) end h = go1 (tests-parts (aft pos) a (b ∷ c ∷ []) end h.1)
    where
      go3 : (m1 : ℕ) (e1 : one_test num aft (aft pos) ≡ Ok (a, m1)) (m2 : ℕ) (e2 : one_test num aft (m1) ≡ Ok (b, m2)) → ((mid : ℕ) × (one_test num aft (m2) ≡ Ok (c, mid)) × Rd mid (tests_numbers ([])) end) → one_condition num aft pos ≡ Ok (Three a b c, end)
      go3 m1 e1 m2 e2 (m3, e3, r) = then_to (num pos) _ 3 _ h.0 (then_to (one_test num aft (aft pos)) _ (a, m1) _ e1 (then_to (one_test num aft (m1)) _ (b, m2) _ e2 (then_to (one_test num aft (m2)) _ (c, m3) _ e3 (ap (λ (p : ℕ). Ok (Three a b c, p)) r))))

      go2 : (m1 : ℕ) (e1 : one_test num aft (aft pos) ≡ Ok (a, m1)) → ((mid : ℕ) × (one_test num aft (m1) ≡ Ok (b, mid)) × Rd mid (tests_numbers (c ∷ [])) end) → one_condition num aft pos ≡ Ok (Three a b c, end)
      go2 m1 e1 (m2, e2, r) = go3 m1 e1 m2 e2 (tests-parts m2 c ([]) end r)

      go1 : ((mid : ℕ) × (one_test num aft (aft pos) ≡ Ok (a, mid)) × Rd mid (tests_numbers (b ∷ c ∷ [])) end) → one_condition num aft pos ≡ Ok (Three a b c, end)
      go1 (m1, e1, r) = go2 m1 e1 (tests-parts m1 b (c ∷ []) end r)
  condition-back pos (Four a b c d) end h = go1 (tests-parts (aft pos) a (b ∷ c ∷ d ∷ []) end h.1)
    where
      go4 : (m1 : ℕ) (e1 : one_test num aft (aft pos) ≡ Ok (a, m1)) (m2 : ℕ) (e2 : one_test num aft (m1) ≡ Ok (b, m2)) (m3 : ℕ) (e3 : one_test num aft (m2) ≡ Ok (c, m3)) → ((mid : ℕ) × (one_test num aft (m3) ≡ Ok (d, mid)) × Rd mid (tests_numbers ([])) end) → one_condition num aft pos ≡ Ok (Four a b c d, end)
      go4 m1 e1 m2 e2 m3 e3 (m4, e4, r) = then_to (num pos) _ 4 _ h.0 (then_to (one_test num aft (aft pos)) _ (a, m1) _ e1 (then_to (one_test num aft (m1)) _ (b, m2) _ e2 (then_to (one_test num aft (m2)) _ (c, m3) _ e3 (then_to (one_test num aft (m3)) _ (d, m4) _ e4 (ap (λ (p : ℕ). Ok (Four a b c d, p)) r)))))

      go3 : (m1 : ℕ) (e1 : one_test num aft (aft pos) ≡ Ok (a, m1)) (m2 : ℕ) (e2 : one_test num aft (m1) ≡ Ok (b, m2)) → ((mid : ℕ) × (one_test num aft (m2) ≡ Ok (c, mid)) × Rd mid (tests_numbers (d ∷ [])) end) → one_condition num aft pos ≡ Ok (Four a b c d, end)
      go3 m1 e1 m2 e2 (m3, e3, r) = go4 m1 e1 m2 e2 m3 e3 (tests-parts m3 d ([]) end r)

      go2 : (m1 : ℕ) (e1 : one_test num aft (aft pos) ≡ Ok (a, m1)) → ((mid : ℕ) × (one_test num aft (m1) ≡ Ok (b, mid)) × Rd mid (tests_numbers (c ∷ d ∷ [])) end) → one_condition num aft pos ≡ Ok (Four a b c d, end)
      go2 m1 e1 (m2, e2, r) = go3 m1 e1 m2 e2 (tests-parts m2 c (d ∷ []) end r)

      go1 : ((mid : ℕ) × (one_test num aft (aft pos) ≡ Ok (a, mid)) × Rd mid (tests_numbers (b ∷ c ∷ d ∷ [])) end) → one_condition num aft pos ≡ Ok (Four a b c d, end)
      go1 (m1, e1, r) = go2 m1 e1 (tests-parts m1 b (c ∷ d ∷ []) end r)

  pub condition-stops : (pos : ℕ) (f : Fault Offset) → one_condition num aft pos ≡ Err f → St pos f
  condition-stops pos f e =
      then-err (num pos) _ f e (stops-here num aft pos f) (λ n h g.
      choose n 0 _ _ _ g (λ q w. absurd (never-err w)) (λ g1.
      choose n 1 _ _ _ g1 (λ q w. stops-later num aft pos (n ∷ []) (aft pos) f (h, refl)
      (then-err (one_test num aft (aft pos)) _ f w (test-stops num aft (aft pos) f) (λ ta hta wta. absurd (never-err wta)))) (λ g2.
      choose n 2 _ _ _ g2 (λ q w. stops-later num aft pos (n ∷ []) (aft pos) f (h, refl)
      (then-err (one_test num aft (aft pos)) _ f w (test-stops num aft (aft pos) f) (λ ta hta wta. test-then-stops (aft pos) ta f hta
      (then-err (one_test num aft ta.1) _ f wta (test-stops num aft ta.1 f) (λ tb htb wtb. absurd (never-err wtb)))))) (λ g3.
      choose n 3 _ _ _ g3 (λ q w. stops-later num aft pos (n ∷ []) (aft pos) f (h, refl)
      (then-err (one_test num aft (aft pos)) _ f w (test-stops num aft (aft pos) f) (λ ta hta wta. test-then-stops (aft pos) ta f hta
      (then-err (one_test num aft ta.1) _ f wta (test-stops num aft ta.1 f) (λ tb htb wtb. test-then-stops ta.1 tb f htb
      (then-err (one_test num aft tb.1) _ f wtb (test-stops num aft tb.1 f) (λ tc htc wtc. absurd (never-err wtc)))))))) (λ g4.
      choose n 4 _ _ _ g4 (λ q w. stops-later num aft pos (n ∷ []) (aft pos) f (h, refl)
      (then-err (one_test num aft (aft pos)) _ f w (test-stops num aft (aft pos) f) (λ ta hta wta. test-then-stops (aft pos) ta f hta
      (then-err (one_test num aft ta.1) _ f wta (test-stops num aft ta.1 f) (λ tb htb wtb. test-then-stops ta.1 tb f htb
      (then-err (one_test num aft tb.1) _ f wtb (test-stops num aft tb.1 f) (λ tc htc wtc. test-then-stops tb.1 tc f htc
      (then-err (one_test num aft tc.1) _ f wtc (test-stops num aft tc.1 f) (λ td htd wtd. absurd (never-err wtd)))))))))) (λ g5.
      stops-strange num aft pos n f h (err-same g5)))))))
