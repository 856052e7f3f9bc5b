use Rattle.std.specs.Prelude.{◌≡◌, ℕ, ◌^◌, ◌<◌, ◌≤◌, List, ◌++◌, length, take, drop, Ok, Err, ◌≢◌}
use Rattle.std.specs.List.{AllByRecursion}
use Rattle.fault.specs.declared.refusal.Fault.{Fault}
use Rattle.fault.specs.declared.refusal.Refusal.{Refusal}
use Rattle.fault.specs.declared.refusal.Refusal.TheVariants.{EndsEarly, NotShortest, Strange, Trailing}
use Rattle.fault.specs.declared.place.BytesPlace.{BytesPlace}
use Rattle.fault.specs.declared.place.BytesPlace.TheVariants.{Offset as at_offset}
use Rattle.wire.specs.Bytes.{bytes_of, spelled, Bytes}
use Rattle.sheet.specs.declared.row.Head.{Head}
use Rattle.sheet.specs.declared.row.Row.{Row}
use Rattle.sheet.specs.Sheets.{sheet_in}
use Rattle.sheet.specs.Forms.{IsSheet, sheet_form}

-- Given room for its rows, bytes read as a sheet exactly when they are its byte form.
abbrev pub ReadExactly : Type 0
ReadExactly =
    (bs : List ℕ) (room : ℕ) (h : Head) (rows : List Row) → Bytes bs
    → (sheet_in bs room ≡ Ok (h, rows) → IsSheet h rows × (length rows ≤ room) × (bs ≡ sheet_form h rows))
    × ((IsSheet h rows × (length rows ≤ room) × (bs ≡ sheet_form h rows)) → sheet_in bs room ≡ Ok (h, rows))

-- Two byte strings that read as one sheet are equal.
abbrev pub OneSheetForm : Type 0
OneSheetForm =
    (bs cs : List ℕ) (room more : ℕ) (h : Head) (rows : List Row) → Bytes bs → Bytes cs
    → sheet_in bs room ≡ Ok (h, rows) → sheet_in cs more ≡ Ok (h, rows) → bs ≡ cs

-- A fault at an offset.
abbrev pub offset_fault : Refusal → ℕ → Fault BytesPlace
offset_fault why o = record { refusal = why; place = at_offset o }

-- The bytes before an offset are whole numbers.
abbrev pub WholeBefore : List ℕ → ℕ → Type 0
WholeBefore bs o = (ns : List ℕ) × (take o bs ≡ spelled ns)

-- Bytes that begin a number and end before it does: fewer than five, each of which announces another.
abbrev pub Unfinished : List ℕ → Type 0
Unfinished xs = (length xs < 5) × AllByRecursion (λ b. 128 ≤ b) xs

-- Bytes that no number begins with, whatever follows them.
abbrev pub NoNumber : List ℕ → Type 0
NoNumber xs = (more rest : List ℕ) (n : ℕ) → n < 2 ^ 32 → xs ++ more ≢ bytes_of n ++ rest

-- What the offset of a fault says of the bytes before and after it. Before the offset of an early end, of a
-- bad number and of a strange number stand whole numbers. From there on the bytes of an early end begin a
-- number and end before it does; a bad number has bytes that no number begins with; a strange number is a
-- number. Before the offset of trailing bytes stands a sheet, and something follows it.
pub record OffsetsTell (bs : List ℕ) (room o : ℕ) : Type 0 where
  pub early : sheet_in bs room ≡ Err (offset_fault EndsEarly o) → WholeBefore bs o × Unfinished (drop o bs)
  pub bad : sheet_in bs room ≡ Err (offset_fault NotShortest o) → WholeBefore bs o × NoNumber (drop o bs)
  pub odd : sheet_in bs room ≡ Err (offset_fault Strange o)
      → WholeBefore bs o × ((n : ℕ) × (rest : List ℕ) × (n < 2 ^ 32) × (drop o bs ≡ bytes_of n ++ rest))
  pub trailing : sheet_in bs room ≡ Err (offset_fault Trailing o)
      → (o < length bs) × ((h : Head) × (rows : List Row) × IsSheet h rows × (take o bs ≡ sheet_form h rows))

abbrev pub OffsetsAlwaysTell : Type 0
OffsetsAlwaysTell = (bs : List ℕ) (room o : ℕ) → Bytes bs → OffsetsTell bs room o
