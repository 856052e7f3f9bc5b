-- A row read with its condition as bytes, and then decoded, is the row read at once.
use Rattle.std.proofs.Common.{◌≡◌, ℕ, ◌-◌, Bool, true, false, cond, eqb, List, Ok, Err, Result, refl, ap}
use Rattle.fault.specs.declared.refusal.Fault.{Fault}
use Rattle.fault.specs.declared.place.Offset.{Offset}
use Rattle.wire.specs.Numbers.{number_at, after_number, and_then}
use Rattle.wire.proofs.Spelled.{reads_local, cut}
use Rattle.sheet.specs.declared.row.Condition.{Condition}
use Rattle.sheet.specs.declared.row.Row.{Row}
use Rattle.sheet.specs.declared.row.Row.TheVariants.{Keep as keep_row, Call as call_row, Send as send_row}
use Rattle.sheet.specs.Parts.{Read, one_number, some_inputs}
use Rattle.sheet.specs.Sheets.{condition_at, keep_fields, call_fields, send_fields, row_from}
use Rattle.sheet.specs.Forms.{condition_numbers}
use Rattle.sheet.specs.Borrowed.{RowForm, call_form, send_form, condition_in, decoded, part, keep_from, call_from, send_from, borrowed_from}
use Rattle.sheet.proofs.Conditions.{condition-reads, condition-back}

-- What was read with its condition as bytes is, once decoded, what is read at once.
abbrev pub Matches : Read RowForm → Read Row → Type 0
Matches (Ok fp) y = (r : Row) × (decoded fp.0 ≡ Ok r) × (y ≡ Ok (r, fp.1))
Matches (Err f) y = y ≡ Err f

then-matches : {A : Type 0} (r : Result A (Fault Offset)) (k : A → Read RowForm) (l : A → Read Row) → ((a : A) → Matches (k a) (l a))
    → Matches (and_then r k) (and_then r l)
then-matches (Ok a) k l h = h a
then-matches (Err f) k l h = refl

cond-matches : (b : Bool) (x y : Read RowForm) (v w : Read Row) → Matches x v → Matches y w → Matches (cond b x y) (cond b v w)
cond-matches true x y v w h g = h
cond-matches false x y v w h g = g

module _ (bs : List ℕ) where
  abbrev one : ℕ → Read ℕ
  one = one_number (number_at bs) (after_number bs)

  part-condition : (pos : ℕ) (c : Condition) (end : ℕ) → condition_at bs pos ≡ Ok (c, end) → condition_in (part bs pos end) ≡ Ok c
  part-condition pos c end e =
      let r = reads_local bs pos (condition_numbers c) end (condition-reads (number_at bs) (after_number bs) pos c end e) in
      let b = condition-back (number_at (cut bs pos end)) (after_number (cut bs pos end)) 0 c (end - pos) r in
      ap (λ (x : Read Condition). and_then x (λ d. Ok d.0)) b

  -- A row that ends in a condition.
  last-matches : (pos : ℕ) (form : List ℕ → RowForm) (row : Condition → Row)
      → ((xs : List ℕ) (c : Condition) → condition_in xs ≡ Ok c → decoded (form xs) ≡ Ok (row c)) → (x : Read Condition) → condition_at bs pos ≡ x
      → Matches (and_then {A = List ℕ × ℕ} (and_then x (λ c. Ok (part bs pos c.1, c.1))) (λ c. Ok (form c.0, c.1))) (and_then x (λ c. Ok (row c.0, c.1)))
  last-matches pos form row d (Ok c) e = (row c.0, d (part bs pos c.1) c.0 (part-condition pos c.0 c.1 e), refl)
  last-matches pos form row d (Err f) e = refl

  keep-matches : (pos : ℕ) → Matches (keep_from bs pos) (keep_fields (number_at bs) (after_number bs) pos)
  keep-matches pos =
      then-matches (one pos) _ _ (λ s. then-matches (one s.1) _ _ (λ a. then-matches (one a.1) _ _ (λ b. then-matches (one b.1) _ _ (λ w.
      (keep_row record { station = s.0; taken = a.0; given = b.0; first = w.0 }, refl, refl)))))

  call-matches : (pos : ℕ) → Matches (call_from bs pos) (call_fields (number_at bs) (after_number bs) pos)
  call-matches pos =
      then-matches (one pos) _ _ (λ s. then-matches (one s.1) _ _ (λ w.
      then-matches (some_inputs (number_at bs) (after_number bs) w.1) _ _ (λ i.
      then-matches (one i.1) _ _ (λ o. then-matches (one o.1) _ _ (λ d. then-matches (one d.1) _ _ (λ l.
      last-matches l.1 (call_form s.0 w.0 i.0 o.0 d.0 l.0)
      (λ c. call_row record { station = s.0; work = w.0; inputs = i.0; output = o.0; date = d.0; duration = l.0; condition = c })
      (λ xs c e. ap (λ (x : Result Condition (Fault Offset)). and_then x (λ q. Ok (call_row record { station = s.0; work = w.0; inputs = i.0; output = o.0; date = d.0; duration = l.0; condition = q }))) e)
      (condition_at bs l.1) refl))))))

  send-matches : (pos : ℕ) → Matches (send_from bs pos) (send_fields (number_at bs) (after_number bs) pos)
  send-matches pos =
      then-matches (one pos) _ _ (λ s. then-matches (one s.1) _ _ (λ v. then-matches (one v.1) _ _ (λ t.
      then-matches (one t.1) _ _ (λ d. then-matches (one d.1) _ _ (λ l.
      last-matches l.1 (send_form s.0 v.0 t.0 d.0 l.0)
      (λ c. send_row record { station = s.0; variable = v.0; listeners = t.0; date = d.0; duration = l.0; condition = c })
      (λ xs c e. ap (λ (x : Result Condition (Fault Offset)). and_then x (λ q. Ok (send_row record { station = s.0; variable = v.0; listeners = t.0; date = d.0; duration = l.0; condition = q }))) e)
      (condition_at bs l.1) refl)))))

  pub row-matches : (pos : ℕ) → Matches (borrowed_from bs pos) (row_from bs pos)
  row-matches pos =
      then-matches (number_at bs pos) _ _ (λ n.
      cond-matches (eqb n 0) _ _ _ _ (keep-matches (after_number bs pos))
      (cond-matches (eqb n 1) _ _ _ _ (call-matches (after_number bs pos))
      (cond-matches (eqb n 2) _ _ _ _ (send-matches (after_number bs pos)) refl)))
