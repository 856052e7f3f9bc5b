-- Bytes read as a sheet exactly when they are its byte form.
use Rattle.std.proofs.Common.{◌≡◌, ℕ, ◌+◌, ◌<◌, ◌≤◌, Bool, true, false, cond, ltb, List, [], ◌++◌, length, drop, Ok, Err, Result, sym, refl, ap, ◌∙◌, subst, inl, inr, append-nil, arith}
use Rattle.std.proofs.lemmas.List.{drop_all}
use Rattle.std.proofs.lemmas.Bool.{cases_lt, lt-ltb, le-ltb}
use Rattle.fault.specs.declared.refusal.Fault.{Fault}
use Rattle.fault.specs.declared.place.Offset.{Offset}
use Rattle.fault.specs.declared.place.BytesPlace.{BytesPlace}
use Rattle.wire.specs.Numbers.{number_at, after_number}
use Rattle.wire.specs.Bytes.{Bytes}
use Rattle.wire.proofs.Spelled.{Reads, reads_more, reads-parts, reads-spelled, spelled-reads}
use Rattle.sheet.specs.declared.row.Head.{Head}
use Rattle.sheet.specs.declared.row.Row.{Row}
use Rattle.sheet.specs.Rows.{head_within}
use Rattle.sheet.specs.Sheets.{head_from, rows_from, up_then, sheet_in}
use Rattle.sheet.specs.Forms.{IsSheet, head_numbers, rows_numbers, sheet_numbers, sheet_form}
use Rattle.sheet.specs.Theorems.{ReadExactly, OneSheetForm}
use Rattle.sheet.proofs.Follow.{never, ok_same}
use Rattle.sheet.proofs.RowReaders.{head-reads, head-back, rows-read, rows_back}

pub up_by : {A B : Type 0} {C : Type 0} (r : Result A (Fault Offset)) (k : A → Result B (Fault BytesPlace)) (z : B) → up_then r k ≡ Ok z
    → ((a : A) → r ≡ Ok a → k a ≡ Ok z → C) → C
up_by (Ok a) k z e f = f a refl e
up_by (Err x) k z e f = absurd (never e)

pub up_to : {A B : Type 0} (r : Result A (Fault Offset)) (k : A → Result B (Fault BytesPlace)) (a : A) (z : Result B (Fault BytesPlace))
    → r ≡ Ok a → k a ≡ z → up_then r k ≡ z
up_to {A = A} r k a z e h = ap (λ (q : Result A (Fault Offset)). up_then q k) e ∙ h

-- A choice by a test.
pub by_less : {B : Type 0} {C : Type 0} (m n : ℕ) (x y : B) (z : B) → cond (ltb m n) x y ≡ z → (m < n → x ≡ z → C) → (n ≤ m → y ≡ z → C) → C
by_less m n x y z e f g =
    elim (cases_lt m n) [ inl h ↦ f h (rw (lt-ltb m n h) at e) | inr h ↦ g h (rw (le-ltb m n h) at e) ]

pub by-test : {B : Type 0} {C : Type 0} (b : Bool) (x y : B) (z : B) → cond b x y ≡ z → (b ≡ true → x ≡ z → C) → (b ≡ false → y ≡ z → C) → C
by-test true x y z e f g = f refl e
by-test false x y z e f g = g refl e

at-end : (xs ys : List ℕ) → xs ≡ ys → length xs ≤ 0 + length ys
at-end xs ys e = omega (arith, ap length e)

module _ (bs : List ℕ) where
  abbrev Rd : ℕ → List ℕ → ℕ → Type 0
  Rd = Reads (number_at bs) (after_number bs)

  -- What was read, by its numbers.
  pub record ReadSheet (room : ℕ) (h : Head) (rows : List Row) : Type 0 where
    pub end : ℕ
    pub numbers : Rd 0 (sheet_numbers h rows) end
    pub whole : length bs ≤ end
    pub within : head_within h ≡ true
    pub counts : h.rows ≡ length rows
    pub fits : h.rows ≤ room

  pub sheet-numbers : (h : Head) (mid : ℕ) (rows : List Row) (end : ℕ) → head_from bs 0 ≡ Ok (h, mid) → rows_from h.rows bs mid ≡ Ok (rows, end)
      → Rd 0 (sheet_numbers h rows) end × (length rows ≡ h.rows)
  sheet-numbers h mid rows end e g =
      let r = rows-read (number_at bs) (after_number bs) h.rows mid rows end g in
      (reads_more (number_at bs) (after_number bs) 0 (head_numbers h) mid (rows_numbers rows) end (head-reads (number_at bs) (after_number bs) 0 h mid e) r.0, r.1)

  sheet-read : (room : ℕ) (h : Head) (rows : List Row) → sheet_in bs room ≡ Ok (h, rows) → ReadSheet room h rows
  sheet-read room h rows e =
      up_by (head_from bs 0) _ (h, rows) e (λ k hk e1.
      by_less room k.0.rows _ _ _ e1 (λ lt w. absurd (never w)) (λ le e2.
      by-test (head_within k.0) _ _ _ e2 (λ ok e3.
      up_by (rows_from k.0.rows bs k.1) _ (h, rows) e3 (λ rs hr e4.
      by_less rs.1 (length bs) _ _ _ e4 (λ lt w. absurd (never w)) (λ all e5.
      let same = ok_same e5 in
      let ns = sheet-numbers k.0 k.1 rs.0 rs.1 hk hr in
      let P : Head × List Row → Type 0 = λ s. ReadSheet room s.0 s.1 in
      subst P same record { end = rs.1; numbers = ns.0; whole = all; within = ok; counts = sym ns.1; fits = le })))
      (λ no w. absurd (never w))))

  ended : (end : ℕ) → length bs ≤ end → drop end bs ≡ []
  ended end h = drop_all end bs h

  exactly : (room : ℕ) (h : Head) (rows : List Row) → Bytes bs → ReadSheet room h rows
      → IsSheet h rows × (length rows ≤ room) × (bs ≡ sheet_form h rows)
  exactly room h rows b r =
      let s = reads-spelled bs 0 (sheet_numbers h rows) r.end b r.numbers in (
        record { within = r.within; counts = r.counts; words = s.2 },
        omega (arith, r.counts, r.fits),
        s.0 ∙ ap (λ (xs : List ℕ). sheet_form h rows ++ xs) (ended r.end r.whole) ∙ append-nil (sheet_form h rows),
      )

  -- A sheet's numbers, read to the end of the bytes, are read as the sheet.
  back_at : (room : ℕ) (h : Head) (rows : List Row) (end : ℕ) → head_within h ≡ true → h.rows ≡ length rows → length rows ≤ room
      → length bs ≤ end → Rd 0 (sheet_numbers h rows) end → sheet_in bs room ≡ Ok (h, rows)
  back_at room h rows end within counts fit all n = go (reads-parts (number_at bs) (after_number bs) 0 (head_numbers h) (rows_numbers rows) end n)
    where
      go : ((mid : ℕ) × Rd 0 (head_numbers h) mid × Rd mid (rows_numbers rows) end) → sheet_in bs room ≡ Ok (h, rows)
      go (mid, x, y) =
          let rs : rows_from h.rows bs mid ≡ Ok (rows, end) = subst (λ (n : ℕ). rows_from n bs mid ≡ Ok (rows, end)) (sym counts) (rows_back (number_at bs) (after_number bs) mid rows end y) in
          let le : h.rows ≤ room = omega arith in
          up_to (head_from bs 0) _ (h, mid) _ (head-back (number_at bs) (after_number bs) 0 h mid x)
          (rw (le-ltb room h.rows le, within)
          (up_to (rows_from h.rows bs mid) _ (rows, end) _ rs
          (rw (le-ltb end (length bs) all))))

  back : (room : ℕ) (h : Head) (rows : List Row) → IsSheet h rows → length rows ≤ room → bs ≡ sheet_form h rows → sheet_in bs room ≡ Ok (h, rows)
  back room h rows s fit e =
      back_at room h rows (0 + length (sheet_form h rows)) s.within s.counts fit (at-end bs (sheet_form h rows) e)
      (spelled-reads bs 0 (sheet_numbers h rows) [] s.words (e ∙ sym (append-nil (sheet_form h rows))))

pub read-exactly : ReadExactly
read-exactly bs room h rows b = ((λ e. exactly bs room h rows b (sheet-read bs room h rows e)), λ s. back bs room h rows s.0 s.1 s.2)

pub one-sheet-form : OneSheetForm
one-sheet-form bs cs room more h rows b c e f = ((read-exactly bs room h rows b).0 e).2 ∙ sym ((read-exactly cs more h rows c).0 f).2

pub form-read : (h : Head) (rows : List Row) (room : ℕ) → IsSheet h rows → length rows ≤ room → sheet_in (sheet_form h rows) room ≡ Ok (h, rows)
form-read h rows room s fit = back (sheet_form h rows) room h rows s fit refl
