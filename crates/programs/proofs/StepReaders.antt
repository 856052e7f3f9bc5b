-- The readers of steps, over the numbers of an input: each reads just the numbers that a step is written as.
use Rattle.std.proofs.Common.{◌≡◌, ℕ, zero, suc, List, [], ◌∷◌, ◌++◌, length, Ok, Result, sym, refl, ap, ◌∙◌}
use Rattle.std.specs.List.{flat_map}
use Rattle.fault.specs.declared.refusal.Fault.{Fault}
use Rattle.fault.specs.declared.place.Offset.{Offset}
use Rattle.wire.specs.Numbers.{and_then}
use Rattle.wire.proofs.Spelled.{Reads, reads_more, reads-parts}
use Rattle.sheet.specs.declared.row.Inputs.{Inputs}
use Rattle.sheet.specs.declared.row.Relation.{Relation}
use Rattle.sheet.specs.Rows.{relation_code}
use Rattle.sheet.specs.Parts.{Read, one_number, one_relation, some_inputs, inputs_numbers}
use Rattle.sheet.proofs.Follow.{never, at_same, then_by, then_to, number-to, number_step}
use Rattle.sheet.proofs.Readers.{choose, relation-reads, relation-back, inputs-reads, inputs-back}
use Rattle.netcode.specs.declared.step.Step.{Step}
use Rattle.netcode.specs.declared.step.Step.TheVariants.{Test, Future, Halt, Call, Send, Receive, Keep, Clear, Give}
use Rattle.netcode.specs.Steps.{code_of, fields_of, numbers_of}
use Rattle.programs.specs.Steps.{test_fields, future_fields, call_fields, send_fields, receive_fields, keep_fields, give_fields, one_step, some_steps}

module _ (num : ℕ → Result ℕ (Fault Offset)) (aft : ℕ → ℕ) where
  abbrev Rd : ℕ → List ℕ → ℕ → Type 0
  Rd = Reads num aft

  abbrev one : ℕ → Read ℕ
  one = one_number num aft

  step : (pos : ℕ) (v : ℕ × ℕ) (ns : List ℕ) (end : ℕ) → one pos ≡ Ok v → Rd v.1 ns end → Rd pos (v.0 ∷ ns) end
  step = number_step num aft

  relation-step : (pos : ℕ) (r : Relation × ℕ) (ns : List ℕ) (end : ℕ) → one_relation num aft pos ≡ Ok r → Rd r.1 ns end
      → Rd pos (relation_code r.0 ∷ ns) end
  relation-step pos r ns end e h = reads_more num aft pos (relation_code r.0 ∷ []) r.1 ns end (relation-reads num aft pos r.0 r.1 e) h

  inputs-step : (pos : ℕ) (i : Inputs × ℕ) (ns : List ℕ) (end : ℕ) → some_inputs num aft pos ≡ Ok i → Rd i.1 ns end
      → Rd pos (inputs_numbers i.0 ++ ns) end
  inputs-step pos i ns end e h = reads_more num aft pos (inputs_numbers i.0) i.1 ns end (inputs-reads num aft pos i.0 i.1 e) h

  -- The fields at `pos` are those of the step, whose number is `code`.
  abbrev Fields : ℕ → ℕ → Step → ℕ → Type 0
  Fields code pos s end = (code_of s ≡ code) × Rd pos (fields_of s) end

  test-reads : (pos : ℕ) (s : Step) (end : ℕ) → test_fields num aft pos ≡ Ok (s, end) → Fields 0 pos s end
  test-reads pos s end e =
      then_by (one pos) _ (s, end) e (λ v hv e1.
      then_by (one_relation num aft v.1) _ (s, end) e1 (λ r hr e2.
      then_by (one r.1) _ (s, end) e2 (λ w hw e3.
      then_by (one w.1) _ (s, end) e3 (λ t ht e4.
      at_same (Fields 0 pos) e4
      (refl, step pos v (relation_code r.0 ∷ w.0 ∷ t.0 ∷ []) t.1 hv (relation-step v.1 r (w.0 ∷ t.0 ∷ []) t.1 hr (step r.1 w (t.0 ∷ []) t.1 hw (step w.1 t [] t.1 ht refl))))))))

  future-reads : (pos : ℕ) (s : Step) (end : ℕ) → future_fields num aft pos ≡ Ok (s, end) → Fields 1 pos s end
  future-reads pos s end e =
      then_by (one pos) _ (s, end) e (λ v hv e1.
      then_by (one v.1) _ (s, end) e1 (λ t ht e2.
      at_same (Fields 1 pos) e2 (refl, step pos v (t.0 ∷ []) t.1 hv (step v.1 t [] t.1 ht refl))))

  call-reads : (pos : ℕ) (s : Step) (end : ℕ) → call_fields num aft pos ≡ Ok (s, end) → Fields 3 pos s end
  call-reads pos s end e =
      then_by (one pos) _ (s, end) e (λ r hr e1.
      then_by (one r.1) _ (s, end) e1 (λ w hw e2.
      then_by (some_inputs num aft w.1) _ (s, end) e2 (λ i hi e3.
      then_by (one i.1) _ (s, end) e3 (λ o ho e4.
      then_by (one o.1) _ (s, end) e4 (λ d hd e5.
      at_same (Fields 3 pos) e5
      (refl, step pos r (w.0 ∷ (inputs_numbers i.0 ++ o.0 ∷ d.0 ∷ [])) d.1 hr (step r.1 w (inputs_numbers i.0 ++ o.0 ∷ d.0 ∷ []) d.1 hw (inputs-step w.1 i (o.0 ∷ d.0 ∷ []) d.1 hi (step i.1 o (d.0 ∷ []) d.1 ho (step o.1 d [] d.1 hd refl))))))))))

  send-reads : (pos : ℕ) (s : Step) (end : ℕ) → send_fields num aft pos ≡ Ok (s, end) → Fields 4 pos s end
  send-reads pos s end e =
      then_by (one pos) _ (s, end) e (λ r hr e1.
      then_by (one r.1) _ (s, end) e1 (λ v hv e2.
      then_by (one v.1) _ (s, end) e2 (λ d hd e3.
      at_same (Fields 4 pos) e3 (refl, step pos r (v.0 ∷ d.0 ∷ []) d.1 hr (step r.1 v (d.0 ∷ []) d.1 hv (step v.1 d [] d.1 hd refl))))))

  receive-reads : (pos : ℕ) (s : Step) (end : ℕ) → receive_fields num aft pos ≡ Ok (s, end) → Fields 5 pos s end
  receive-reads pos s end e =
      then_by (one pos) _ (s, end) e (λ v hv e1.
      then_by (one v.1) _ (s, end) e1 (λ d hd e2.
      at_same (Fields 5 pos) e2 (refl, step pos v (d.0 ∷ []) d.1 hv (step v.1 d [] d.1 hd refl))))

  keep-reads : (pos : ℕ) (s : Step) (end : ℕ) → keep_fields num aft pos ≡ Ok (s, end) → Fields 6 pos s end
  keep-reads pos s end e =
      then_by (one pos) _ (s, end) e (λ v hv e1.
      then_by (one v.1) _ (s, end) e1 (λ c hc e2.
      at_same (Fields 6 pos) e2 (refl, step pos v (c.0 ∷ []) c.1 hv (step v.1 c [] c.1 hc refl))))

  give-reads : (pos : ℕ) (s : Step) (end : ℕ) → give_fields num aft pos ≡ Ok (s, end) → Fields 8 pos s end
  give-reads pos s end e =
      then_by (one pos) _ (s, end) e (λ c hc e1.
      then_by (one c.1) _ (s, end) e1 (λ v hv e2.
      then_by (one v.1) _ (s, end) e2 (λ w hw e3.
      at_same (Fields 8 pos) e3 (refl, step pos c (v.0 ∷ w.0 ∷ []) w.1 hc (step c.1 v (w.0 ∷ []) w.1 hv (step v.1 w [] w.1 hw refl))))))

  coded : (pos n k : ℕ) (s : Step) (end : ℕ) → num pos ≡ Ok n → n ≡ k → Fields k (aft pos) s end → Rd pos (numbers_of s) end
  coded pos n k s end h q f = (h ∙ ap Ok (q ∙ sym f.0), f.1)

  pub step-reads : (pos : ℕ) (s : Step) (end : ℕ) → one_step num aft pos ≡ Ok (s, end) → Rd pos (numbers_of s) end
  step-reads pos s end e =
      then_by (num pos) _ (s, end) e (λ n h g.
      choose n 0 _ _ _ g (λ q w. coded pos n 0 s end h q (test-reads (aft pos) s end w)) (λ g1.
      choose n 1 _ _ _ g1 (λ q w. coded pos n 1 s end h q (future-reads (aft pos) s end w)) (λ g2.
      choose n 2 _ _ _ g2 (λ q w. coded pos n 2 s end h q (at_same (Fields 2 (aft pos)) w (refl, refl))) (λ g3.
      choose n 3 _ _ _ g3 (λ q w. coded pos n 3 s end h q (call-reads (aft pos) s end w)) (λ g4.
      choose n 4 _ _ _ g4 (λ q w. coded pos n 4 s end h q (send-reads (aft pos) s end w)) (λ g5.
      choose n 5 _ _ _ g5 (λ q w. coded pos n 5 s end h q (receive-reads (aft pos) s end w)) (λ g6.
      choose n 6 _ _ _ g6 (λ q w. coded pos n 6 s end h q (keep-reads (aft pos) s end w)) (λ g7.
      choose n 7 _ _ _ g7 (λ q w. coded pos n 7 s end h q (at_same (Fields 7 (aft pos)) w (refl, refl))) (λ g8.
      choose n 8 _ _ _ g8 (λ q w. coded pos n 8 s end h q (give-reads (aft pos) s end w)) (λ g9.
      absurd (never g9)))))))))))

  number-back : {B : Type 0} (pos n : ℕ) (k : ℕ × ℕ → Read B) (z : Read B) → num pos ≡ Ok n → k (n, aft pos) ≡ z
      → and_then (one pos) k ≡ z
  number-back pos n k z h g = then_to (one pos) k (n, aft pos) z (number-to num aft pos n h) g

  call_back : (pos row work : ℕ) (i : Inputs) (o d end : ℕ) → Rd pos (fields_of (Call row work i o d)) end
      → call_fields num aft pos ≡ Ok (Call row work i o d, end)
  call_back pos row work i o d end h = go (reads-parts num aft (aft (aft pos)) (inputs_numbers i) (o ∷ d ∷ []) end h.1.1)
    where
      go : ((mid : ℕ) × Rd (aft (aft pos)) (inputs_numbers i) mid × Rd mid (o ∷ d ∷ []) end) → call_fields num aft pos ≡ Ok (Call row work i o d, end)
      go (mid, x, y) =
          number-back pos row _ _ h.0 (number-back (aft pos) work _ _ h.1.0
          (then_to (some_inputs num aft (aft (aft pos))) _ (i, mid) _ (inputs-back num aft (aft (aft pos)) i mid x)
          (number-back mid o _ _ y.0 (number-back (aft mid) d _ _ y.1.0 (ap (λ (p : ℕ). Ok (Call row work i o d, p)) y.1.1)))))

  pub step_back : (pos : ℕ) (s : Step) (end : ℕ) → Rd pos (numbers_of s) end → one_step num aft pos ≡ Ok (s, end)
  step_back pos (Test v r w t) end h =
      then_to (num pos) _ 0 _ h.0
      (number-back (aft pos) v _ _ h.1.0
      (then_to (one_relation num aft (aft (aft pos))) _ (r, aft (aft (aft pos))) _ (relation-back num aft (aft (aft pos)) r h.1.1.0)
      (number-back (aft (aft (aft pos))) w _ _ h.1.1.1.0
      (number-back (aft (aft (aft (aft pos)))) t _ _ h.1.1.1.1.0 (ap (λ (p : ℕ). Ok (Test v r w t, p)) h.1.1.1.1.1)))))
  step_back pos (Future n t) end h =
      then_to (num pos) _ 1 _ h.0
      (number-back (aft pos) n _ _ h.1.0 (number-back (aft (aft pos)) t _ _ h.1.1.0 (ap (λ (p : ℕ). Ok (Future n t, p)) h.1.1.1)))
  step_back pos Halt end h = then_to (num pos) _ 2 _ h.0 (ap (λ (p : ℕ). Ok (Halt, p)) h.1)
  step_back pos (Call r w i o d) end h = then_to (num pos) _ 3 _ h.0 (call_back (aft pos) r w i o d end h.1)
  step_back pos (Send r v d) end h =
      then_to (num pos) _ 4 _ h.0
      (number-back (aft pos) r _ _ h.1.0 (number-back (aft (aft pos)) v _ _ h.1.1.0
      (number-back (aft (aft (aft pos))) d _ _ h.1.1.1.0 (ap (λ (p : ℕ). Ok (Send r v d, p)) h.1.1.1.1))))
  step_back pos (Receive v d) end h =
      then_to (num pos) _ 5 _ h.0
      (number-back (aft pos) v _ _ h.1.0 (number-back (aft (aft pos)) d _ _ h.1.1.0 (ap (λ (p : ℕ). Ok (Receive v d, p)) h.1.1.1)))
  step_back pos (Keep v c) end h =
      then_to (num pos) _ 6 _ h.0
      (number-back (aft pos) v _ _ h.1.0 (number-back (aft (aft pos)) c _ _ h.1.1.0 (ap (λ (p : ℕ). Ok (Keep v c, p)) h.1.1.1)))
  step_back pos Clear end h = then_to (num pos) _ 7 _ h.0 (ap (λ (p : ℕ). Ok (Clear, p)) h.1)
  step_back pos (Give c v w) end h =
      then_to (num pos) _ 8 _ h.0
      (number-back (aft pos) c _ _ h.1.0 (number-back (aft (aft pos)) v _ _ h.1.1.0
      (number-back (aft (aft (aft pos))) w _ _ h.1.1.1.0 (ap (λ (p : ℕ). Ok (Give c v w, p)) h.1.1.1.1))))

  pub steps-read : (n : ℕ) (pos : ℕ) (ss : List Step) (end : ℕ) → some_steps num aft n pos ≡ Ok (ss, end)
      → Rd pos (flat_map numbers_of ss) end × (length ss ≡ n)
  steps-read zero pos ss end e = at_same (λ x p. Rd pos (flat_map numbers_of x) p × (length x ≡ 0)) e (refl, refl)
  steps-read (suc n) pos ss end e =
      then_by (one_step num aft pos) _ (ss, end) e (λ s hs e1.
      then_by (some_steps num aft n s.1) _ (ss, end) e1 (λ t ht e2.
      let ih = steps-read n s.1 t.0 t.1 ht in
      at_same (λ x p. Rd pos (flat_map numbers_of x) p × (length x ≡ suc n)) e2
      (reads_more num aft pos (numbers_of s.0) s.1 (flat_map numbers_of t.0) t.1 (step-reads pos s.0 s.1 hs) ih.0, ap suc ih.1)))

  pub steps_back : (pos : ℕ) (ss : List Step) (end : ℕ) → Rd pos (flat_map numbers_of ss) end → some_steps num aft (length ss) pos ≡ Ok (ss, end)
  steps_back pos [] end h = ap (λ (p : ℕ). Ok ([], p)) h
  steps_back pos (s ∷ ss) end h = go (λ mid y. steps_back mid ss end y) (reads-parts num aft pos (numbers_of s) (flat_map numbers_of ss) end h)
    where
      go : ((mid : ℕ) → Rd mid (flat_map numbers_of ss) end → some_steps num aft (length ss) mid ≡ Ok (ss, end))
          → ((mid : ℕ) × Rd pos (numbers_of s) mid × Rd mid (flat_map numbers_of ss) end) → some_steps num aft (length (s ∷ ss)) pos ≡ Ok (s ∷ ss, end)
      go ih (mid, x, y) =
          then_to (one_step num aft pos) _ (s, mid) _ (step_back pos s mid x)
          (then_to (some_steps num aft (length ss) mid) _ (ss, end) _ (ih mid y) refl)
