use Rattle.std.specs.Prelude.{ℕ, cond, List, [], ◌∷◌, Ok, Err, Result, ◌==◌}
use Rattle.fault.specs.declared.refusal.Fault.{Fault}
use Rattle.fault.specs.declared.refusal.Refusal.TheVariants.{Strange}
use Rattle.fault.specs.declared.place.Offset.{Offset}
use Rattle.wire.specs.Numbers.{number_at, after_number, fault_at, and_then}
use Rattle.sheet.specs.declared.row.Relation.{Relation}
use Rattle.sheet.specs.declared.row.Relation.TheVariants.{Equal, Unequal}
use Rattle.sheet.specs.declared.row.Inputs.{Inputs}
use Rattle.sheet.specs.declared.row.Inputs.TheVariants.{Nothing, Single, Pair}
use Rattle.sheet.specs.Rows.{relation_code}

-- What is read at a position: a value and the position after it, or a fault.
abbrev pub Read : Type 0 → Type 0
Read A = Result (A × ℕ) (Fault Offset)

-- What a call of a reader answered, with the position that it left.
abbrev pub shown : {A : Type 0} → Result A (Fault Offset) → ℕ → Read A
shown (Ok v) next = Ok (v, next)
shown (Err f) next = Err f

-- A number at `pos` that no rule of the form allows there.
abbrev pub strange : {A : Type 0} → ℕ → Result A (Fault Offset)
strange pos = Err (fault_at Strange pos)

-- Readers over the numbers of an input: `num` is the number at a position, and `aft` the position after it.
module _ (num : ℕ → Result ℕ (Fault Offset)) (aft : ℕ → ℕ) where
  abbrev pub one_number : ℕ → Read ℕ
  one_number pos = and_then (num pos) (λ n. Ok (n, aft pos))

  abbrev pub one_relation : ℕ → Read Relation
  one_relation pos =
      and_then (num pos) (λ n.
      cond (n == 0) (Ok (Equal, aft pos))
      (cond (n == 1) (Ok (Unequal, aft pos))
      (strange pos)))

  -- A count of at most two, and as many variables.
  abbrev pub some_inputs : ℕ → Read Inputs
  some_inputs pos =
      and_then (num pos) (λ n.
      cond (n == 0) (Ok (Nothing, aft pos))
      (cond (n == 1) (and_then (one_number (aft pos)) (λ a. Ok (Single a.0, a.1)))
      (cond (n == 2)
      (and_then (one_number (aft pos)) (λ a. and_then (one_number a.1) (λ b. Ok (Pair a.0 b.0, b.1))))
      (strange pos))))

-- The same in a list of bytes.
abbrev pub relation_at : List ℕ → ℕ → Read Relation
relation_at bs pos = one_relation (number_at bs) (after_number bs) pos

abbrev pub inputs_at : List ℕ → ℕ → Read Inputs
inputs_at bs pos = some_inputs (number_at bs) (after_number bs) pos

-- The numbers that a relation and a list of inputs are written as.
abbrev pub relation_numbers : Relation → List ℕ
relation_numbers r = relation_code r ∷ []

abbrev pub inputs_numbers : Inputs → List ℕ
inputs_numbers Nothing = 0 ∷ []
inputs_numbers (Single a) = 1 ∷ a ∷ []
inputs_numbers (Pair a b) = 2 ∷ a ∷ b ∷ []
