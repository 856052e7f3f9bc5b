use Rattle.std.specs.Prelude.{ℕ, zero, suc, cond, List, [], ◌∷◌, Ok, Result, ◌==◌}
use Rattle.fault.specs.declared.refusal.Fault.{Fault}
use Rattle.fault.specs.declared.place.Offset.{Offset}
use Rattle.wire.specs.Numbers.{number_at, after_number, and_then}
use Rattle.sheet.specs.Parts.{Read, strange, one_number, one_relation, some_inputs}
use Rattle.netcode.specs.declared.step.Step.{Step}
use Rattle.netcode.specs.declared.step.Step.TheVariants.{Test, Future, Halt, Call, Send, Receive, Keep, Clear, Give}

-- Readers of steps, over the numbers of an input: `num` is the number at a position, and `aft` the
-- position after it.
module _ (num : ℕ → Result ℕ (Fault Offset)) (aft : ℕ → ℕ) where
  -- Two numbers, and three.
  abbrev pub two_numbers : ℕ → Read (ℕ × ℕ)
  two_numbers pos =
      and_then (one_number num aft pos) (λ a.
      and_then (one_number num aft a.1) (λ b.
      Ok ((a.0, b.0), b.1)))

  abbrev pub three_numbers : ℕ → Read (ℕ × ℕ × ℕ)
  three_numbers pos =
      and_then (one_number num aft pos) (λ a.
      and_then (one_number num aft a.1) (λ b.
      and_then (one_number num aft b.1) (λ c.
      Ok ((a.0, b.0, c.0), c.1))))

  -- The fields of each step, in their order.
  abbrev pub test_fields : ℕ → Read Step
  test_fields pos =
      and_then (one_number num aft pos) (λ v.
      and_then (one_relation num aft v.1) (λ r.
      and_then (one_number num aft r.1) (λ w.
      and_then (one_number num aft w.1) (λ t.
      Ok (Test v.0 r.0 w.0 t.0, t.1)))))

  abbrev pub future_fields : ℕ → Read Step
  future_fields pos =
      and_then (one_number num aft pos) (λ n.
      and_then (one_number num aft n.1) (λ t.
      Ok (Future n.0 t.0, t.1)))

  abbrev pub call_fields : ℕ → Read Step
  call_fields pos =
      and_then (one_number num aft pos) (λ r.
      and_then (one_number num aft r.1) (λ w.
      and_then (some_inputs num aft w.1) (λ i.
      and_then (one_number num aft i.1) (λ o.
      and_then (one_number num aft o.1) (λ d.
      Ok (Call r.0 w.0 i.0 o.0 d.0, d.1))))))

  abbrev pub send_fields : ℕ → Read Step
  send_fields pos =
      and_then (one_number num aft pos) (λ r.
      and_then (one_number num aft r.1) (λ v.
      and_then (one_number num aft v.1) (λ d.
      Ok (Send r.0 v.0 d.0, d.1))))

  abbrev pub receive_fields : ℕ → Read Step
  receive_fields pos =
      and_then (one_number num aft pos) (λ v.
      and_then (one_number num aft v.1) (λ d.
      Ok (Receive v.0 d.0, d.1)))

  abbrev pub keep_fields : ℕ → Read Step
  keep_fields pos =
      and_then (one_number num aft pos) (λ v.
      and_then (one_number num aft v.1) (λ c.
      Ok (Keep v.0 c.0, c.1)))

  abbrev pub give_fields : ℕ → Read Step
  give_fields pos =
      and_then (one_number num aft pos) (λ c.
      and_then (one_number num aft c.1) (λ v.
      and_then (one_number num aft v.1) (λ w.
      Ok (Give c.0 v.0 w.0, w.1))))

  -- The fields at `pos` of the step whose number `code` stood at `start`.
  abbrev pub fields_from : ℕ → ℕ → ℕ → Read Step
  fields_from code start pos =
      cond (code == 0) (test_fields pos)
      (cond (code == 1) (future_fields pos)
      (cond (code == 2) (Ok (Halt, pos))
      (cond (code == 3) (call_fields pos)
      (cond (code == 4) (send_fields pos)
      (cond (code == 5) (receive_fields pos)
      (cond (code == 6) (keep_fields pos)
      (cond (code == 7) (Ok (Clear, pos))
      (cond (code == 8) (give_fields pos)
      (strange start)))))))))

  -- A step: its number, and the fields of that step.
  abbrev pub one_step : ℕ → Read Step
  one_step pos = and_then (num pos) (λ code. fields_from code pos (aft pos))

  -- `n` steps.
  abbrev pub some_steps : ℕ → ℕ → Read (List Step)
  some_steps zero pos = Ok ([], pos)
  some_steps (suc n) pos = and_then (one_step pos) (λ s. and_then (some_steps n s.1) (λ ss. Ok (s.0 ∷ ss.0, ss.1)))

-- The same in a list of bytes.
abbrev pub step_from : List ℕ → ℕ → Read Step
step_from bs pos = one_step (number_at bs) (after_number bs) pos

abbrev pub steps_from : ℕ → List ℕ → ℕ → Read (List Step)
steps_from n bs pos = some_steps (number_at bs) (after_number bs) n pos
