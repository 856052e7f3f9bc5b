-- One unit more of a part of a tick.
use Rattle.std.proofs.Common.{◌≡◌, ℕ, zero, suc, ◌+◌, ◌-◌, ◌≤◌, List, [], ◌∷◌, get_or, drop, Result, sym, refl, ap, ◌∙◌, zero-add, add-one, arith}
use Rattle.fault.specs.declared.refusal.Fault.{Fault}
use Rattle.fault.specs.declared.place.TickPlace.{TickPlace}
use Rattle.netcode.specs.declared.step.Step.{Step}
use Rattle.plant.specs.Model.{Model}
use Rattle.semantics.specs.Machine.{World, Outcome, turn, and_then, first_part, unit_in, ended, second_part}
use Rattle.bench.specs.Shown.{outcome}
use Rattle.bench.proofs.Left.{head-is}

-- What all units up to the nth come to, where each goes on from what those before it came to.
module _ {S : Type 0} (all : ℕ → Outcome S) (one : ℕ → World S → Outcome S) (more : (n : ℕ) → all (suc n) ≡ and_then (all n) (one n)) where
  one-on : (n : ℕ) (v : World S) (o : Outcome S) → Outcome.done v ≡ all n → o ≡ one n v → o ≡ all (n + 1)
  one-on n v o so e = e ∙ ap (λ (p : Outcome S). and_then p (one n)) so ∙ sym (more n) ∙ ap all (sym (add-one n))

  stays : (k n : ℕ) (u : World S) (f : Fault TickPlace) → Outcome.refused f u ≡ all n → Outcome.refused f u ≡ all (k + n)
  stays zero n u f e = e ∙ ap all (sym (zero-add n))
  stays (suc k) n u f e =
      let z : suc k + n ≡ suc (k + n) = omega arith in
      ap (λ (p : Outcome S). and_then p (one (k + n))) (stays k n u f e) ∙ sym (more (k + n)) ∙ ap all (sym z)

  -- A refusal ends the part.
  ends : (n count : ℕ) (u : World S) (f : Fault TickPlace) → n ≤ count → Outcome.refused f u ≡ all n → Outcome.refused f u ≡ all count
  ends n count u f h e = let z : count - n + n ≡ count = omega arith in stays (count - n) n u f e ∙ ap all z

module _ (m : Model) (programs : List (List Step)) where
  first_more : (w : World m.State) (n : ℕ) → first_part m programs (suc n) w ≡ and_then (first_part m programs n w) (turn m (get_or programs n []) n)
  unfolding first_part
  first_more w n = refl

  pub first-none : (w : World m.State) → Outcome.done w ≡ first_part m programs 0 w
  unfolding first_part
  first-none w = refl

  -- One unit more has had its turn.
  pub turn_on : (n number : ℕ) (w v u : World m.State) (code : List Step) (rest : List (List Step)) (r : Result (Unit {0}) (Fault TickPlace)) → Outcome.done v ≡ first_part m programs n w
      → drop n programs ≡ code ∷ rest → number ≡ n → outcome r u ≡ turn m code number v → outcome r u ≡ first_part m programs (n + 1) w
  turn_on n number w v u code rest r so left same e =
      one-on (λ k. first_part m programs k w) (λ k. turn m (get_or programs k []) k) (first_more w) n v _ so
      (e ∙ ap (λ k. turn m code k v) same ∙ ap (λ (x : List Step). turn m x n v) (sym (head-is programs n code rest left [])))

  pub first_ends : (n count : ℕ) (w u : World m.State) (f : Fault TickPlace) → n ≤ count → Outcome.refused f u ≡ first_part m programs n w → Outcome.refused f u ≡ first_part m programs count w
  first_ends n count w = ends (λ k. first_part m programs k w) (λ k. turn m (get_or programs k []) k) (first_more w) n count

  second_more : (clock : ℕ) (w : World m.State) (n : ℕ) → second_part m programs clock (suc n) w ≡ and_then (second_part m programs clock n w) (λ v. ended m (unit_in v.state n).job clock n v)
  unfolding second_part
  second_more clock w n = refl

  pub second_none : (clock : ℕ) (w : World m.State) → Outcome.done w ≡ second_part m programs clock 0 w
  unfolding second_part
  second_none clock w = refl

  -- One unit more has done what ends.
  pub end_on : (clock n : ℕ) (w v u : World m.State) (r : Result (Unit {0}) (Fault TickPlace)) → Outcome.done v ≡ second_part m programs clock n w
      → outcome r u ≡ ended m (unit_in v.state n).job clock n v → outcome r u ≡ second_part m programs clock (n + 1) w
  end_on clock n w v u r so e =
      one-on (λ k. second_part m programs clock k w) (λ k v. ended m (unit_in v.state k).job clock k v) (second_more clock w) n v _ so e

  pub second-ends : (clock n count : ℕ) (w u : World m.State) (f : Fault TickPlace) → n ≤ count → Outcome.refused f u ≡ second_part m programs clock n w → Outcome.refused f u ≡ second_part m programs clock count w
  second-ends clock n count w = ends (λ k. second_part m programs clock k w) (λ k v. ended m (unit_in v.state k).job clock k v) (second_more clock w) n count
