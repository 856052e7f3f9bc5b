-- A program that keeps the rules comes to HALT within its length.
use Rattle.std.proofs.Common.{◌≡◌, ℕ, zero, suc, ◌+◌, ◌-◌, ◌<◌, ◌≤◌, Bool, true, false, cond, ◌⊎◌, List, length, get_or, Some, None, Option, sym, refl, ap, ◌∙◌, subst, inl, inr, arith}
use Rattle.std.proofs.lemmas.List.{get_or_default}
use Rattle.std.proofs.lemmas.Bool.{cases_lt}
use Rattle.fault.specs.declared.refusal.Refusal.TheVariants.{UnitBusy}
use Rattle.netcode.specs.declared.step.Step.{Step}
use Rattle.netcode.specs.declared.step.Step.TheVariants.{Test, Future, Halt, Call, Send, Receive, Keep, Clear, Give}
use Rattle.netcode.specs.Layouts.{station_of}
use Rattle.netcode.specs.Laws.{Lawful, Within}
use Rattle.netcode.specs.Steps.{no_step}
use Rattle.plant.specs.Model.{Model}
use Rattle.plant.specs.Replies.{count_of}
use Rattle.plant.specs.declared.works.Words.{Words}
use Rattle.semantics.specs.declared.state.Job.TheVariants.{Listen}
use Rattle.semantics.specs.declared.state.Message.{Message}
use Rattle.semantics.specs.Machine as real
use Rattle.semantics.specs.Machine.{World, Stepped, Outcome, onto, halted, input_words, word_in}

module _ (m : Model) where
  abbrev S : Type 0
  S = m.State

  -- A step goes on to the next address, or further on inside the program.
  abbrev Onward : ℕ → ℕ → Stepped S → Type 0
  Onward len a (onto b v) = (b ≡ a + 1) ⊎ ((a < b) × (b < len))
  Onward len a (halted v) = Unit {0}
  Onward len a (Stepped.refused f v) = Unit {0}

  on_call : (len : ℕ) (o : Option Words) (row work output duration j a : ℕ) (w : World S) → Onward len a (real.called m o row work output duration j a w)
  on_call len None row work output duration j a w = tt
  on_call len (Some words) row work output duration j a w = go (real.is_busy w.state j) (m.known (station_of j) work (count_of words))
    where
      go : (b k : Bool) → Onward len a (cond b (Stepped.refused (real.fault_at UnitBusy j a) w) (cond k (onto (a + 1) (real.answered m row work words output duration j w)) (Stepped.refused (real.unknown_at (station_of j) work j a) w)))
      go true k = tt
      go false true = inl refl
      go false false = tt

  on-send : (len : ℕ) (o : Option ℕ) (row duration j a : ℕ) (w : World S) → Onward len a (real.sent m o row duration j a w)
  on-send len None row duration j a w = tt
  on-send len (Some word) row duration j a w = go (real.is_busy w.state j)
    where
      line : (x : Option Message) → Onward len a (real.on_line m x row word duration j a w)
      line None = inl refl
      line (Some y) = tt

      go : (b : Bool) → Onward len a (cond b (Stepped.refused (real.fault_at UnitBusy j a) w) (real.on_line m w.state.line row word duration j a w))
      go true = tt
      go false = line w.state.line

  step-onward : (len : ℕ) (x : Step) (j a : ℕ) (w : World S) → Within len a x → Onward len a (real.performed m x j a w)
  step-onward len (Test variable relation word to) j a w h = held (word_in w.state (station_of j) variable)
    where
      way : (b : Bool) → Onward len a (cond b (onto (a + 1) w) (onto to w))
      way true = inl refl
      way false = inr (h.1, h.2)

      held : (o : Option ℕ) → Onward len a (real.tested m o relation word to j a w)
      held None = tt
      held (Some v) = way _
  step-onward len (Future ticks to) j a w h = inl refl
  step-onward len Halt j a w h = tt
  step-onward len (Call row work inputs output duration) j a w h = on_call len (input_words inputs (word_in w.state (station_of j))) row work output duration j a w
  step-onward len (Send row variable duration) j a w h = on-send len (word_in w.state (station_of j) variable) row duration j a w
  step-onward len (Receive variable duration) j a w h = go (real.is_busy w.state j)
    where
      go : (b : Bool) → Onward len a (cond b (Stepped.refused (real.fault_at UnitBusy j a) w) (onto (a + 1) (real.at w (real.with_job w.state j (Listen (w.state.granted + duration) variable a)))))
      go true = tt
      go false = inl refl
  step-onward len (Keep variable cell) j a w h = inl refl
  step-onward len Clear j a w h = inl refl
  step-onward len (Give cell variable word) j a w h = inl refl

  -- From an address on, as many steps as are left suffice: one more changes nothing.
  pub halts : (code : List Step) → Lawful code → (n j a : ℕ) (w : World S) → a < length code → length code ≤ a + n
      → real.steps m (suc n) code j a w ≡ real.steps m n code j a w
  unfolding real.steps
  halts code lawful zero j a w l k = absurd (omega arith)
  halts code lawful (suc n) j a w l k = last (cases_lt (a + 1) (length code)) (λ b v. halts code lawful n j b v)
    where
      x : Step
      x = get_or code a Halt

      here : get_or code a no_step ≡ x
      here = get_or_default code a no_step Halt l

      last : (a + 1 < length code) ⊎ (length code ≤ a + 1)
          → ((b : ℕ) (v : World S) → b < length code → length code ≤ b + n → real.steps m (suc n) code j b v ≡ real.steps m n code j b v)
          → real.onward m (real.performed m x j a w) (real.steps m (suc n) code j) ≡ real.onward m (real.performed m x j a w) (real.steps m n code j)
      last (inr e) ih =
          let q : length code - 1 ≡ a = omega arith in
          let z : x ≡ Halt = sym here ∙ ap (λ (i : ℕ). get_or code i no_step) (sym q) ∙ lawful.halts in
          subst (λ (y : Step). real.onward m (real.performed m y j a w) (real.steps m (suc n) code j) ≡ real.onward m (real.performed m y j a w) (real.steps m n code j)) (sym z) refl
      last (inl e) ih = go (real.performed m x j a w) (step-onward (length code) x j a w (subst (Within (length code) a) here (lawful.steps a l)))
        where
          go : (st : Stepped S) → Onward (length code) a st → real.onward m st (real.steps m (suc n) code j) ≡ real.onward m st (real.steps m n code j)
          go (onto b v) (inl q) = ih b v (omega arith) (omega arith)
          go (onto b v) (inr (p, q)) = ih b v q (omega arith)
          go (halted v) o = refl
          go (Stepped.refused f v) o = refl
