use Rattle.std.specs.Prelude.{ℕ, ◌-◌, cond, List, take, drop, Ok, Err, Result, ◌==◌}
use Rattle.fault.specs.declared.refusal.Fault.{Fault}
use Rattle.fault.specs.declared.place.Offset.{Offset}
use Rattle.wire.specs.Numbers.{number_at, after_number, and_then}
use Rattle.sheet.specs.declared.row.Condition.{Condition}
use Rattle.sheet.specs.declared.row.Keep.{Keep}
use Rattle.sheet.specs.declared.row.Inputs.{Inputs}
use Rattle.sheet.specs.declared.row.Row.{Row}
use Rattle.sheet.specs.declared.row.Row.TheVariants.{Keep as keep_row, Call as call_row, Send as send_row}
use Rattle.sheet.specs.declared.borrowed.RowBytes.{RowBytes}
use Rattle.sheet.specs.declared.borrowed.RowBytes.TheVariants.{Keep as keep_bytes, Call as call_bytes, Send as send_bytes}
use Rattle.sheet.specs.Parts.{Read, strange, one_number, some_inputs}
use Rattle.sheet.specs.Sheets.{condition_at}

-- A row whose condition is still bytes.
pub data RowForm : Type 0 where
  keep_form : Keep → RowForm
  call_form : ℕ → ℕ → Inputs → ℕ → ℕ → ℕ → List ℕ → RowForm
  send_form : ℕ → ℕ → ℕ → ℕ → ℕ → List ℕ → RowForm

abbrev pub form_of : RowBytes → RowForm
form_of (keep_bytes k) = keep_form k
form_of (call_bytes c) = call_form c.station c.work c.inputs c.output c.date c.duration c.condition.now
form_of (send_bytes s) = send_form s.station s.variable s.listeners s.date s.duration s.condition.now

-- What was read, with the position after it.
abbrev pub shown_form : Result RowBytes (Fault Offset) → ℕ → Read RowForm
shown_form (Ok row) next = Ok (form_of row, next)
shown_form (Err f) next = Err f

-- The condition that some bytes begin with.
abbrev pub condition_in : List ℕ → Result Condition (Fault Offset)
condition_in bs = and_then (condition_at bs 0) (λ c. Ok c.0)

-- The row with its condition decoded.
abbrev pub decoded : RowForm → Result Row (Fault Offset)
decoded (keep_form k) = Ok (keep_row k)
decoded (call_form station work inputs output date duration condition) =
    and_then (condition_in condition) (λ c.
    Ok (call_row record { station = station; work = work; inputs = inputs; output = output; date = date; duration = duration; condition = c }))
decoded (send_form station variable listeners date duration condition) =
    and_then (condition_in condition) (λ c.
    Ok (send_row record { station = station; variable = variable; listeners = listeners; date = date; duration = duration; condition = c }))

-- The bytes from `pos` up to `to`.
abbrev pub part : List ℕ → ℕ → ℕ → List ℕ
part bs pos to = take (to - pos) (drop pos bs)

module _ (bs : List ℕ) where
  abbrev num : ℕ → Result ℕ (Fault Offset)
  num = number_at bs

  abbrev aft : ℕ → ℕ
  aft = after_number bs

  -- The bytes of the condition at `pos`.
  abbrev pub condition_bytes : ℕ → Read (List ℕ)
  condition_bytes pos = and_then (condition_at bs pos) (λ c. Ok (part bs pos c.1, c.1))

  abbrev pub keep_from : ℕ → Read RowForm
  keep_from pos =
      and_then (one_number num aft pos) (λ s.
      and_then (one_number num aft s.1) (λ a.
      and_then (one_number num aft a.1) (λ b.
      and_then (one_number num aft b.1) (λ w.
      Ok (keep_form record { station = s.0; taken = a.0; given = b.0; first = w.0 }, w.1)))))

  abbrev pub call_from : ℕ → Read RowForm
  call_from pos =
      and_then (one_number num aft pos) (λ s.
      and_then (one_number num aft s.1) (λ w.
      and_then (some_inputs num aft w.1) (λ i.
      and_then (one_number num aft i.1) (λ o.
      and_then (one_number num aft o.1) (λ d.
      and_then (one_number num aft d.1) (λ l.
      and_then (condition_bytes l.1) (λ c.
      Ok (call_form s.0 w.0 i.0 o.0 d.0 l.0 c.0, c.1))))))))

  abbrev pub send_from : ℕ → Read RowForm
  send_from pos =
      and_then (one_number num aft pos) (λ s.
      and_then (one_number num aft s.1) (λ v.
      and_then (one_number num aft v.1) (λ e.
      and_then (one_number num aft e.1) (λ d.
      and_then (one_number num aft d.1) (λ l.
      and_then (condition_bytes l.1) (λ c.
      Ok (send_form s.0 v.0 e.0 d.0 l.0 c.0, c.1)))))))

  -- The row at `pos`, its condition still bytes, and the position after it.
  abbrev pub borrowed_from : ℕ → Read RowForm
  borrowed_from pos =
      and_then (num pos) (λ kind.
      cond (kind == 0) (keep_from (aft pos))
      (cond (kind == 1) (call_from (aft pos))
      (cond (kind == 2) (send_from (aft pos))
      (strange pos))))
