-- The readers of rows and heads: each reads just the numbers that the part is written as, and stops after
-- whole numbers.
use Rattle.std.proofs.Common.{◌≡◌, ℕ, zero, suc, List, [], ◌∷◌, ◌++◌, length, Ok, Err, Result, refl, ap, ◌∙◌}
use Rattle.fault.specs.declared.refusal.Fault.{Fault}
use Rattle.fault.specs.declared.place.Offset.{Offset}
use Rattle.wire.specs.Numbers.{and_then}
use Rattle.wire.proofs.Spelled.{Reads, reads_more, reads-parts}
use Rattle.sheet.specs.declared.row.Head.{Head}
use Rattle.sheet.specs.declared.row.Row.{Row}
use Rattle.sheet.specs.declared.row.Row.TheVariants.{Keep as keep_row, Call as call_row, Send as send_row}
use Rattle.sheet.specs.Parts.{Read, one_number, some_inputs, inputs_numbers}
use Rattle.sheet.specs.Sheets.{one_condition, keep_fields, call_fields, send_fields, one_row, some_rows, head_fields, one_head}
use Rattle.sheet.specs.Forms.{condition_numbers, row_numbers, rows_numbers, head_numbers}
use Rattle.sheet.proofs.Follow.{never, never-err, at_same, then_by, then-err, then_to, number-to, number_step, Stops, stops-here, stops-strange, stops-later, number-stops, number-then-stops}
use Rattle.sheet.proofs.Readers.{choose, err-same, inputs-reads, inputs-back, inputs-stop}
use Rattle.sheet.proofs.Conditions.{condition-reads, condition-back, condition-stops}

module _ (num : ℕ → Result ℕ (Fault Offset)) (aft : ℕ → ℕ) where
  abbrev Rd : ℕ → List ℕ → ℕ → Type 0
  Rd = Reads num aft

  abbrev St : ℕ → Fault Offset → Type 0
  St = Stops num aft

  abbrev one : ℕ → Read ℕ
  one = one_number num aft

  keep-reads : (pos : ℕ) (r : Row) (end : ℕ) → num pos ≡ Ok 0 → keep_fields num aft (aft pos) ≡ Ok (r, end) → Rd pos (row_numbers r) end
  keep-reads pos r end hk e =
      then_by (one (aft pos)) _ (r, end) e (λ s hs es.
      then_by (one s.1) _ (r, end) es (λ a ha ea.
      then_by (one a.1) _ (r, end) ea (λ b hb eb.
      then_by (one b.1) _ (r, end) eb (λ w hw ew.
      at_same (λ x p. Rd pos (row_numbers x) p) ew (hk, (number_step num aft (aft pos) s (a.0 ∷ b.0 ∷ w.0 ∷ []) w.1 hs (number_step num aft s.1 a (b.0 ∷ w.0 ∷ []) w.1 ha (number_step num aft a.1 b (w.0 ∷ []) w.1 hb (number_step num aft b.1 w ([]) w.1 hw refl)))))))))

  keep-stops : (pos : ℕ) (f : Fault Offset) → keep_fields num aft (aft pos) ≡ Err f → St (aft pos) f
  keep-stops pos f e =
      then-err (one (aft pos)) _ f e (number-stops num aft (aft pos) f) (λ s hs es. number-then-stops num aft (aft pos) s f hs
      (then-err (one s.1) _ f es (number-stops num aft s.1 f) (λ a ha ea. number-then-stops num aft s.1 a f ha
      (then-err (one a.1) _ f ea (number-stops num aft a.1 f) (λ b hb eb. number-then-stops num aft a.1 b f hb
      (then-err (one b.1) _ f eb (number-stops num aft b.1 f) (λ w hw ew. absurd (never-err ew))))))))

  call-reads : (pos : ℕ) (r : Row) (end : ℕ) → num pos ≡ Ok 1 → call_fields num aft (aft pos) ≡ Ok (r, end) → Rd pos (row_numbers r) end
  call-reads pos r end hk e =
      then_by (one (aft pos)) _ (r, end) e (λ s hs es.
      then_by (one s.1) _ (r, end) es (λ w hw ew.
      then_by (some_inputs num aft w.1) _ (r, end) ew (λ i hi ei.
      then_by (one i.1) _ (r, end) ei (λ o ho eo.
      then_by (one o.1) _ (r, end) eo (λ d hd ed.
      then_by (one d.1) _ (r, end) ed (λ l hl el.
      then_by (one_condition num aft l.1) _ (r, end) el (λ c hc ec.
      at_same (λ x p. Rd pos (row_numbers x) p) ec (hk, (number_step num aft (aft pos) s (w.0 ∷ inputs_numbers i.0 ++ (o.0 ∷ d.0 ∷ l.0 ∷ condition_numbers c.0)) c.1 hs (number_step num aft s.1 w (inputs_numbers i.0 ++ (o.0 ∷ d.0 ∷ l.0 ∷ condition_numbers c.0)) c.1 hw (reads_more num aft w.1 (inputs_numbers i.0) i.1 (o.0 ∷ d.0 ∷ l.0 ∷ condition_numbers c.0) c.1 (inputs-reads num aft w.1 i.0 i.1 hi) (number_step num aft i.1 o (d.0 ∷ l.0 ∷ condition_numbers c.0) c.1 ho (number_step num aft o.1 d (l.0 ∷ condition_numbers c.0) c.1 hd (number_step num aft d.1 l (condition_numbers c.0) c.1 hl (condition-reads num aft l.1 c.0 c.1 hc)))))))))))))))

  call-stops : (pos : ℕ) (f : Fault Offset) → call_fields num aft (aft pos) ≡ Err f → St (aft pos) f
  call-stops pos f e =
      then-err (one (aft pos)) _ f e (number-stops num aft (aft pos) f) (λ s hs es. number-then-stops num aft (aft pos) s f hs
      (then-err (one s.1) _ f es (number-stops num aft s.1 f) (λ w hw ew. number-then-stops num aft s.1 w f hw
      (then-err (some_inputs num aft w.1) _ f ew (inputs-stop num aft w.1 f) (λ i hi ei. stops-later num aft w.1 (inputs_numbers i.0) i.1 f (inputs-reads num aft w.1 i.0 i.1 hi)
      (then-err (one i.1) _ f ei (number-stops num aft i.1 f) (λ o ho eo. number-then-stops num aft i.1 o f ho
      (then-err (one o.1) _ f eo (number-stops num aft o.1 f) (λ d hd ed. number-then-stops num aft o.1 d f hd
      (then-err (one d.1) _ f ed (number-stops num aft d.1 f) (λ l hl el. number-then-stops num aft d.1 l f hl
      (then-err (one_condition num aft l.1) _ f el (condition-stops num aft l.1 f) (λ c hc ec. absurd (never-err ec))))))))))))))

  send-reads : (pos : ℕ) (r : Row) (end : ℕ) → num pos ≡ Ok 2 → send_fields num aft (aft pos) ≡ Ok (r, end) → Rd pos (row_numbers r) end
  send-reads pos r end hk e =
      then_by (one (aft pos)) _ (r, end) e (λ s hs es.
      then_by (one s.1) _ (r, end) es (λ v hv ev.
      then_by (one v.1) _ (r, end) ev (λ t ht et.
      then_by (one t.1) _ (r, end) et (λ d hd ed.
      then_by (one d.1) _ (r, end) ed (λ l hl el.
      then_by (one_condition num aft l.1) _ (r, end) el (λ c hc ec.
      at_same (λ x p. Rd pos (row_numbers x) p) ec (hk, (number_step num aft (aft pos) s (v.0 ∷ t.0 ∷ d.0 ∷ l.0 ∷ condition_numbers c.0) c.1 hs (number_step num aft s.1 v (t.0 ∷ d.0 ∷ l.0 ∷ condition_numbers c.0) c.1 hv (number_step num aft v.1 t (d.0 ∷ l.0 ∷ condition_numbers c.0) c.1 ht (number_step num aft t.1 d (l.0 ∷ condition_numbers c.0) c.1 hd (number_step num aft d.1 l (condition_numbers c.0) c.1 hl (condition-reads num aft l.1 c.0 c.1 hc)))))))))))))

  send-stops : (pos : ℕ) (f : Fault Offset) → send_fields num aft (aft pos) ≡ Err f → St (aft pos) f
  send-stops pos f e =
      then-err (one (aft pos)) _ f e (number-stops num aft (aft pos) f) (λ s hs es. number-then-stops num aft (aft pos) s f hs
      (then-err (one s.1) _ f es (number-stops num aft s.1 f) (λ v hv ev. number-then-stops num aft s.1 v f hv
      (then-err (one v.1) _ f ev (number-stops num aft v.1 f) (λ t ht et. number-then-stops num aft v.1 t f ht
      (then-err (one t.1) _ f et (number-stops num aft t.1 f) (λ d hd ed. number-then-stops num aft t.1 d f hd
      (then-err (one d.1) _ f ed (number-stops num aft d.1 f) (λ l hl el. number-then-stops num aft d.1 l f hl
      (then-err (one_condition num aft l.1) _ f el (condition-stops num aft l.1 f) (λ c hc ec. absurd (never-err ec))))))))))))

  pub row_reads : (pos : ℕ) (r : Row) (end : ℕ) → one_row num aft pos ≡ Ok (r, end) → Rd pos (row_numbers r) end
  row_reads pos r end e =
      then_by (num pos) _ (r, end) e (λ n h g.
      choose n 0 _ _ _ g (λ q w. keep-reads pos r end (h ∙ ap Ok q) w) (λ g1.
      choose n 1 _ _ _ g1 (λ q w. call-reads pos r end (h ∙ ap Ok q) w) (λ g2.
      choose n 2 _ _ _ g2 (λ q w. send-reads pos r end (h ∙ ap Ok q) w) (λ g3. absurd (never g3)))))

  pub row-stops : (pos : ℕ) (f : Fault Offset) → one_row num aft pos ≡ Err f → St pos f
  row-stops pos f e =
      then-err (num pos) _ f e (stops-here num aft pos f) (λ n h g.
      choose n 0 _ _ _ g (λ q w. stops-later num aft pos (n ∷ []) (aft pos) f (h, refl) (keep-stops pos f w)) (λ g1.
      choose n 1 _ _ _ g1 (λ q w. stops-later num aft pos (n ∷ []) (aft pos) f (h, refl) (call-stops pos f w)) (λ g2.
      choose n 2 _ _ _ g2 (λ q w. stops-later num aft pos (n ∷ []) (aft pos) f (h, refl) (send-stops pos f w)) (λ g3.
      stops-strange num aft pos n f h (err-same g3)))))

  -- One number before others.
  number-back : {B : Type 0} (pos n : ℕ) (k : ℕ × ℕ → Read B) (z : Read B) → num pos ≡ Ok n → k (n, aft pos) ≡ z → and_then (one pos) k ≡ z
  number-back pos n k z h e = then_to (one pos) k (n, aft pos) z (number-to num aft pos n h) e

  pub row_back : (pos : ℕ) (r : Row) (end : ℕ) → Rd pos (row_numbers r) end → one_row num aft pos ≡ Ok (r, end)
  row_back pos (keep_row k) end h =
      then_to (num pos) _ 0 _ h.0
      (number-back _ k.station _ _ h.1.0
      (number-back _ k.taken _ _ h.1.1.0
      (number-back _ k.given _ _ h.1.1.1.0
      (number-back _ k.first _ _ h.1.1.1.1.0
      (ap (λ (p : ℕ). Ok (keep_row k, p)) h.1.1.1.1.1)))))
  row_back pos (call_row c) end h = go (reads-parts num aft _ (inputs_numbers c.inputs) (c.output ∷ c.date ∷ c.duration ∷ condition_numbers c.condition) end h.1.1.1)
    where
      go : ((mid : ℕ) × Rd (aft (aft (aft pos))) (inputs_numbers c.inputs) mid × Rd mid (c.output ∷ c.date ∷ c.duration ∷ condition_numbers c.condition) end)
          → one_row num aft pos ≡ Ok (call_row c, end)
      go (mid, x, y) =
          then_to (num pos) _ 1 _ h.0
          (number-back _ c.station _ _ h.1.0
          (number-back _ c.work _ _ h.1.1.0
          (then_to (some_inputs num aft (aft (aft (aft pos)))) _ (c.inputs, mid) _ (inputs-back num aft _ c.inputs mid x)
          (number-back mid c.output _ _ y.0
          (number-back _ c.date _ _ y.1.0
          (number-back _ c.duration _ _ y.1.1.0
          (then_to (one_condition num aft (aft (aft (aft mid)))) _ (c.condition, end) _ (condition-back num aft _ c.condition end y.1.1.1) refl)))))))
  row_back pos (send_row s) end h =
      then_to (num pos) _ 2 _ h.0
      (number-back _ s.station _ _ h.1.0
      (number-back _ s.variable _ _ h.1.1.0
      (number-back _ s.listeners _ _ h.1.1.1.0
      (number-back _ s.date _ _ h.1.1.1.1.0
      (number-back _ s.duration _ _ h.1.1.1.1.1.0
      (then_to (one_condition num aft _) _ (s.condition, end) _ (condition-back num aft _ s.condition end h.1.1.1.1.1.1) refl))))))

  pub rows-read : (n : ℕ) (pos : ℕ) (rs : List Row) (end : ℕ) → some_rows num aft n pos ≡ Ok (rs, end)
      → Rd pos (rows_numbers rs) end × (length rs ≡ n)
  rows-read zero pos rs end e = at_same (λ x p. Rd pos (rows_numbers x) p × (length x ≡ 0)) e (refl, refl)
  rows-read (suc n) pos rs end e =
      then_by (one_row num aft pos) _ (rs, end) e (λ r hr e1.
      then_by (some_rows num aft n r.1) _ (rs, end) e1 (λ t ht e2.
      let ih = rows-read n r.1 t.0 t.1 ht in
      at_same (λ x p. Rd pos (rows_numbers x) p × (length x ≡ suc n)) e2
      (reads_more num aft pos (row_numbers r.0) r.1 (rows_numbers t.0) t.1 (row_reads pos r.0 r.1 hr) ih.0, ap suc ih.1)))

  pub rows_back : (pos : ℕ) (rs : List Row) (end : ℕ) → Rd pos (rows_numbers rs) end → some_rows num aft (length rs) pos ≡ Ok (rs, end)
  rows_back pos [] end h = ap (λ (p : ℕ). Ok ([], p)) h
  rows_back pos (r ∷ rs) end h = go (λ mid y. rows_back mid rs end y) (reads-parts num aft pos (row_numbers r) (rows_numbers rs) end h)
    where
      go : ((mid : ℕ) → Rd mid (rows_numbers rs) end → some_rows num aft (length rs) mid ≡ Ok (rs, end)) → ((mid : ℕ) × Rd pos (row_numbers r) mid × Rd mid (rows_numbers rs) end) → some_rows num aft (length (r ∷ rs)) pos ≡ Ok (r ∷ rs, end)
      go ih (mid, x, y) =
          then_to (one_row num aft pos) _ (r, mid) _ (row_back pos r mid x)
          (then_to (some_rows num aft (length rs) mid) _ (rs, end) _ (ih mid y) refl)

  pub rows-stop : (n : ℕ) (pos : ℕ) (f : Fault Offset) → some_rows num aft n pos ≡ Err f → St pos f
  rows-stop zero pos f e = absurd (never-err e)
  rows-stop (suc n) pos f e =
      then-err (one_row num aft pos) _ f e (row-stops pos f) (λ r hr e1.
      stops-later num aft pos (row_numbers r.0) r.1 f (row_reads pos r.0 r.1 hr)
      (then-err (some_rows num aft n r.1) _ f e1 (rows-stop n r.1 f) (λ t ht e2. absurd (never-err e2))))

  fields_read : (pos : ℕ) (h : Head) (end : ℕ) → num pos ≡ Ok 1
      → head_fields num aft (aft pos) ≡ Ok (h, end)
      → Rd pos (head_numbers h) end
  fields_read pos h end hk e =
      then_by (one (aft pos)) _ (h, end) e (λ s hs es.
      then_by (one s.1) _ (h, end) es (λ v hv ev.
      then_by (one v.1) _ (h, end) ev (λ l hl el.
      then_by (one l.1) _ (h, end) el (λ m hm em.
      at_same (λ x p. Rd pos (head_numbers x) p) em (hk, (number_step num aft (aft pos) s (v.0 ∷ l.0 ∷ m.0 ∷ []) m.1 hs (number_step num aft s.1 v (l.0 ∷ m.0 ∷ []) m.1 hv (number_step num aft v.1 l (m.0 ∷ []) m.1 hl (number_step num aft l.1 m ([]) m.1 hm refl)))))))))

  pub head-reads : (pos : ℕ) (h : Head) (end : ℕ) → one_head num aft pos ≡ Ok (h, end) → Rd pos (head_numbers h) end
  head-reads pos h end e =
      then_by (num pos) _ (h, end) e (λ n hn g. choose n 1 _ _ _ g (λ q w. fields_read pos h end (hn ∙ ap Ok q) w) (λ g1. absurd (never g1)))

  pub head-back : (pos : ℕ) (h : Head) (end : ℕ) → Rd pos (head_numbers h) end → one_head num aft pos ≡ Ok (h, end)
  head-back pos h end r =
      then_to (num pos) _ 1 _ r.0
      (number-back _ h.stations _ _ r.1.0
      (number-back _ h.variables _ _ r.1.1.0
      (number-back _ h.cycle _ _ r.1.1.1.0
      (number-back _ h.rows _ _ r.1.1.1.1.0
      (ap (λ (p : ℕ). Ok (h, p)) r.1.1.1.1.1)))))

  pub head-stops : (pos : ℕ) (f : Fault Offset) → one_head num aft pos ≡ Err f → St pos f
  head-stops pos f e0 =
      then-err (num pos) _ f e0 (stops-here num aft pos f) (λ n hn g.
      choose n 1 _ _ _ g (λ q e. stops-later num aft pos (n ∷ []) (aft pos) f (hn, refl) (
      then-err (one (aft pos)) _ f e (number-stops num aft (aft pos) f) (λ s hs es. number-then-stops num aft (aft pos) s f hs
      (then-err (one s.1) _ f es (number-stops num aft s.1 f) (λ v hv ev. number-then-stops num aft s.1 v f hv
      (then-err (one v.1) _ f ev (number-stops num aft v.1 f) (λ l hl el. number-then-stops num aft v.1 l f hl
      (then-err (one l.1) _ f el (number-stops num aft l.1 f) (λ m hm em. absurd (never-err em)))))))))) (λ g1. stops-strange num aft pos n f hn (err-same g1)))
