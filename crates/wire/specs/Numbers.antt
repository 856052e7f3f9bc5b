use Rattle.std.specs.Prelude.{ℕ, ◌+◌, ◌-◌, ◌*◌, Bool, true, false, cond, List, [], ◌∷◌, drop, Ok, Err, Result, ◌==◌, nat_lt}
use Rattle.fault.specs.declared.refusal.Fault.{Fault}
use Rattle.fault.specs.declared.refusal.Refusal.{Refusal}
use Rattle.fault.specs.declared.refusal.Refusal.TheVariants.{EndsEarly, NotShortest}
use Rattle.fault.specs.declared.place.Offset.{Offset}

-- One group more below a number that was read: its value, and how many bytes it took.
abbrev pub under : ℕ → Result (ℕ × ℕ) Refusal → Result (ℕ × ℕ) Refusal
under low (Ok vn) = Ok (low + 128 * vn.0, vn.1 + 1)
under low (Err e) = Err e

-- A number, lowest group first: its value and how many bytes it takes, or why there is none.
-- `left` groups may still follow this one, and `first` says that none came before.
-- A last group of zero is the number 0 if it is the first, and else a form that is not the shortest.
-- A fifth group has four bits and is the last.
abbrev pub numeral : ℕ → Bool → List ℕ → Result (ℕ × ℕ) Refusal
numeral left first [] = Err EndsEarly
numeral left first (b ∷ bs) =
    cond (nat_lt b 128)
    (cond (b == 0)
    (cond first (Ok (0, 1)) (Err NotShortest))
    (cond (left == 0) (cond (nat_lt 15 b) (Err NotShortest) (Ok (b, 1))) (Ok (b, 1))))
    (cond (left == 0) (Err NotShortest) (under (b - 128) (numeral (left - 1) false bs)))

-- A fault at an offset.
abbrev pub fault_at : Refusal → ℕ → Fault Offset
fault_at why pos = record { refusal = why; place = record { 0 = pos } }

abbrev pub value_of : ℕ → Result (ℕ × ℕ) Refusal → Result ℕ (Fault Offset)
value_of pos (Ok vn) = Ok vn.0
value_of pos (Err e) = Err (fault_at e pos)

abbrev pub next_of : ℕ → Result (ℕ × ℕ) Refusal → ℕ
next_of pos (Ok vn) = pos + vn.1
next_of pos (Err e) = pos

-- The number at `pos`, or its fault with its offset.
abbrev pub number_at : List ℕ → ℕ → Result ℕ (Fault Offset)
number_at bytes pos = value_of pos (numeral 4 true (drop pos bytes))

-- The position after the number at `pos`, which is `pos` where there is none.
abbrev pub after_number : List ℕ → ℕ → ℕ
after_number bytes pos = next_of pos (numeral 4 true (drop pos bytes))

-- What follows on a value that was got, or the fault in its place.
abbrev pub and_then : {A B F : Type 0} → Result A F → (A → Result B F) → Result B F
and_then (Ok v) k = k v
and_then (Err f) k = Err f
