-- One tick more of a rehearsal, one request more of a list.
use Rattle.std.proofs.Common.{◌≡◌, ℕ, suc, ◌+◌, ◌-◌, ◌<◌, List, Some, None, vec_items, sym, ap, ◌∙◌, zero-add, arith}
use Rattle.fault.specs.declared.refusal.Fault.{Fault}
use Rattle.fault.specs.declared.place.TickPlace.{TickPlace}
use Rattle.netcode.specs.declared.step.Step.{Step}
use Rattle.netcode.specs.declared.step.Layout.{Layout}
use Rattle.netcode.specs.Layouts.{programs_of}
use Rattle.plant.specs.Model.{Model}
use Rattle.semantics.specs.Machine.{World, Outcome, tick}
use Rattle.semantics.specs.Requests.{Rehearsal as Rehearsed, rehearsed, rehearsed_on, one_more}
use Rattle.bench.specs.Runs.{programs_in, SamePrograms}
use Rattle.bench.specs.declared.run.Run.{Run}

pub same_then : (a b c : Run) → SamePrograms a b → SamePrograms b c → SamePrograms a c
same_then a b c p q = record { layout = q.layout ∙ p.layout; steps = q.steps ∙ p.steps }

pub same-programs : (a b : Run) → SamePrograms a b → programs_in b ≡ programs_in a
same-programs a b p = ap (λ (l : Layout). programs_of l (vec_items b.steps)) p.layout ∙ ap (programs_of a.layout) p.steps

-- A rehearsal after k ticks were made before it.
abbrev pub after : {S : Type 0} → ℕ → Rehearsed S → Rehearsed S
after k r = record { count = r.count + k; ended = r.ended; world = r.world }

module _ (m : Model) (ps : List (List Step)) where
  counted-on : (k : ℕ) (r : Rehearsed m.State) → after k (one_more m ps r) ≡ after (k + 1) r
  counted-on k r =
      let e : r.count + 1 + k ≡ r.count + (k + 1) = omega arith in
      ap (λ (n : ℕ). record { count = n; ended = r.ended; world = r.world }) e

  more : (n k : ℕ) (w : World m.State) → k < n → rehearsed m ps (n - k) w ≡ rehearsed_on m ps (tick m ps w) (rehearsed m ps (n - (k + 1)))
  unfolding rehearsed
  more n k w h = let e : n - k ≡ suc (n - (k + 1)) = omega arith in ap (λ j. rehearsed m ps j w) e

  -- A tick was made, or a refusal ends the rehearsal.
  pub tick-made : (n k : ℕ) (w v : World m.State) (all : Rehearsed m.State) → all ≡ after k (rehearsed m ps (n - k) w) → k < n → Outcome.done v ≡ tick m ps w
      → all ≡ after (k + 1) (rehearsed m ps (n - (k + 1)) v)
  tick-made n k w v all so h e =
      so ∙ ap (after k) (more n k w h ∙ ap (λ (o : Outcome m.State). rehearsed_on m ps o (rehearsed m ps (n - (k + 1)))) (sym e)) ∙ counted-on k (rehearsed m ps (n - (k + 1)) v)

  pub tick-refused : (n k : ℕ) (w v : World m.State) (f : Fault TickPlace) (all : Rehearsed m.State) → all ≡ after k (rehearsed m ps (n - k) w) → k < n → Outcome.refused f v ≡ tick m ps w
      → all ≡ record { count = k; ended = Some f; world = v }
  tick-refused n k w v f all so h e =
      so ∙ ap (after k) (more n k w h ∙ ap (λ (o : Outcome m.State). rehearsed_on m ps o (rehearsed m ps (n - (k + 1)))) (sym e))
      ∙ ap (λ (c : ℕ). record { count = c; ended = Some f; world = v }) (zero-add k)

  pub all_made : (n k : ℕ) (w : World m.State) (all : Rehearsed m.State) → all ≡ after k (rehearsed m ps (n - k) w) → k ≡ n → all ≡ record { count = n; ended = None; world = w }
  unfolding rehearsed
  all_made n k w all so e =
      let z : n - k ≡ 0 = omega arith in
      so ∙ ap (λ j. after k (rehearsed m ps j w)) z ∙ ap (λ (c : ℕ). record { count = c; ended = None; world = w }) (zero-add k ∙ e)
