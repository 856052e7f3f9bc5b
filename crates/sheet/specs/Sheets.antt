use Rattle.std.specs.Prelude.{ℕ, zero, suc, cond, List, [], ◌∷◌, ◌++◌, length, drop, Ok, Err, Result, ◌==◌, nat_lt}
use Rattle.fault.specs.declared.refusal.Fault.{Fault}
use Rattle.fault.specs.declared.refusal.Refusal.TheVariants.{TooShort, Trailing, HeadOutside}
use Rattle.fault.specs.declared.place.Offset.{Offset}
use Rattle.fault.specs.declared.place.BytesPlace.{BytesPlace}
use Rattle.fault.specs.declared.place.BytesPlace.TheVariants.{Offset as at_offset, Needed, Head as of_head}
use Rattle.wire.specs.Numbers.{number_at, after_number, and_then}
use Rattle.sheet.specs.declared.row.Head.{Head}
use Rattle.sheet.specs.declared.row.Test.{Test}
use Rattle.sheet.specs.declared.row.Condition.{Condition}
use Rattle.sheet.specs.declared.row.Condition.TheVariants.{Always, One, Two, Three, Four}
use Rattle.sheet.specs.declared.row.Row.{Row}
use Rattle.sheet.specs.declared.row.Row.TheVariants.{Keep as keep_row, Call as call_row, Send as send_row}
use Rattle.sheet.specs.Rows.{head_within}
use Rattle.sheet.specs.Parts.{Read, strange, one_number, one_relation, some_inputs}

-- Readers of the parts of a row, over the numbers of an input: `num` is the number at a position, and
-- `aft` the position after it.
module _ (num : ℕ → Result ℕ (Fault Offset)) (aft : ℕ → ℕ) where
  abbrev pub one_test : ℕ → Read Test
  one_test pos =
      and_then (one_number num aft pos) (λ v.
      and_then (one_relation num aft v.1) (λ r.
      and_then (one_number num aft r.1) (λ w.
      Ok (record { variable = v.0; relation = r.0; word = w.0 }, w.1))))

  -- A count of at most four, and as many tests.
  abbrev pub one_condition : ℕ → Read Condition
  one_condition pos =
      and_then (num pos) (λ n.
      cond (n == 0) (Ok (Always, aft pos))
      (cond (n == 1) (and_then (one_test (aft pos)) (λ a. Ok (One a.0, a.1)))
      (cond (n == 2) (and_then (one_test (aft pos)) (λ a. and_then (one_test a.1) (λ b. Ok (Two a.0 b.0, b.1))))
      (cond (n == 3)
      (and_then (one_test (aft pos)) (λ a. and_then (one_test a.1) (λ b. and_then (one_test b.1) (λ c.
      Ok (Three a.0 b.0 c.0, c.1)))))
      (cond (n == 4)
      (and_then (one_test (aft pos)) (λ a. and_then (one_test a.1) (λ b. and_then (one_test b.1) (λ c. and_then (one_test c.1) (λ d.
      Ok (Four a.0 b.0 c.0 d.0, d.1))))))
      (strange pos))))))

  -- The fields of a keep row.
  abbrev pub keep_fields : ℕ → Read Row
  keep_fields pos =
      and_then (one_number num aft pos) (λ s.
      and_then (one_number num aft s.1) (λ a.
      and_then (one_number num aft a.1) (λ b.
      and_then (one_number num aft b.1) (λ w.
      Ok (keep_row record { station = s.0; taken = a.0; given = b.0; first = w.0 }, w.1)))))

  -- The fields of a call row.
  abbrev pub call_fields : ℕ → Read Row
  call_fields pos =
      and_then (one_number num aft pos) (λ s.
      and_then (one_number num aft s.1) (λ w.
      and_then (some_inputs num aft w.1) (λ i.
      and_then (one_number num aft i.1) (λ o.
      and_then (one_number num aft o.1) (λ d.
      and_then (one_number num aft d.1) (λ l.
      and_then (one_condition l.1) (λ c.
      Ok (call_row record { station = s.0; work = w.0; inputs = i.0; output = o.0; date = d.0; duration = l.0; condition = c.0 }, c.1))))))))

  -- The fields of a send row.
  abbrev pub send_fields : ℕ → Read Row
  send_fields pos =
      and_then (one_number num aft pos) (λ s.
      and_then (one_number num aft s.1) (λ v.
      and_then (one_number num aft v.1) (λ e.
      and_then (one_number num aft e.1) (λ d.
      and_then (one_number num aft d.1) (λ l.
      and_then (one_condition l.1) (λ c.
      Ok (send_row record { station = s.0; variable = v.0; listeners = e.0; date = d.0; duration = l.0; condition = c.0 }, c.1)))))))

  -- A row: its kind, and the fields of that kind.
  abbrev pub one_row : ℕ → Read Row
  one_row pos =
      and_then (num pos) (λ kind.
      cond (kind == 0) (keep_fields (aft pos))
      (cond (kind == 1) (call_fields (aft pos))
      (cond (kind == 2) (send_fields (aft pos))
      (strange pos))))

  -- `n` rows.
  abbrev pub some_rows : ℕ → ℕ → Read (List Row)
  some_rows zero pos = Ok ([], pos)
  some_rows (suc n) pos = and_then (one_row pos) (λ r. and_then (some_rows n r.1) (λ rs. Ok (r.0 ∷ rs.0, rs.1)))

  -- The four numbers of the head.
  abbrev pub head_fields : ℕ → Read Head
  head_fields pos =
      and_then (one_number num aft pos) (λ s.
      and_then (one_number num aft s.1) (λ v.
      and_then (one_number num aft v.1) (λ l.
      and_then (one_number num aft l.1) (λ n.
      Ok (record { stations = s.0; variables = v.0; cycle = l.0; rows = n.0 }, n.1)))))

  -- The edition, which is 1, and the head.
  abbrev pub one_head : ℕ → Read Head
  one_head pos = and_then (num pos) (λ edition. cond (edition == 1) (head_fields (aft pos)) (strange pos))

-- The same in a list of bytes.
abbrev pub condition_at : List ℕ → ℕ → Read Condition
condition_at bs pos = one_condition (number_at bs) (after_number bs) pos

abbrev pub row_from : List ℕ → ℕ → Read Row
row_from bs pos = one_row (number_at bs) (after_number bs) pos

abbrev pub rows_from : ℕ → List ℕ → ℕ → Read (List Row)
rows_from n bs pos = some_rows (number_at bs) (after_number bs) n pos

abbrev pub head_from : List ℕ → ℕ → Read Head
head_from bs pos = one_head (number_at bs) (after_number bs) pos

-- A fault of the number reader among those of whoever reads bytes.
abbrev pub raised : Fault Offset → Fault BytesPlace
raised f = record { refusal = f.refusal; place = at_offset f.place.0 }

abbrev pub up_then : {A B : Type 0} → Result A (Fault Offset) → (A → Result B (Fault BytesPlace)) → Result B (Fault BytesPlace)
up_then (Ok v) k = k v
up_then (Err f) k = Err (raised f)

-- A list with too little room, by the count that is needed.
abbrev pub too_short : {A : Type 0} → ℕ → Result A (Fault BytesPlace)
too_short n = Err record { refusal = TooShort; place = Needed n }

abbrev pub head_outside : {A : Type 0} → Result A (Fault BytesPlace)
head_outside = Err record { refusal = HeadOutside; place = of_head }

-- The sheet that `bs` holds, for a list with room for `room` rows: its head and its rows.
-- The room is judged as soon as the head is read, then the head, then the rows, and then what follows.
abbrev pub sheet_in : List ℕ → ℕ → Result (Head × List Row) (Fault BytesPlace)
sheet_in bs room =
    up_then (head_from bs 0) (λ h.
    cond (nat_lt room h.0.rows) (too_short h.0.rows)
    (cond (head_within h.0)
    (up_then (rows_from h.0.rows bs h.1) (λ rs.
    cond (nat_lt rs.1 (length bs)) (Err record { refusal = Trailing; place = at_offset rs.1 })
    (Ok (h.0, rs.0))))
    head_outside))

abbrev pub head_of : Result (Head × List Row) (Fault BytesPlace) → Result Head (Fault BytesPlace)
head_of (Ok s) = Ok s.0
head_of (Err f) = Err f

-- The rows at the front of a list, whose rest stays; or the list as it was.
abbrev pub laid_rows : Result (Head × List Row) (Fault BytesPlace) → List Row → List Row
laid_rows (Ok s) old = s.1 ++ drop (length s.1) old
laid_rows (Err f) old = old
