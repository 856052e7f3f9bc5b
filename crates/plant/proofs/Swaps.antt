-- Lists of works with the same works in the same order at each station.
use Rattle.std.proofs.Common.{◌≡◌, ℕ, Bool, true, false, cond, eqb, ◌⊎◌, List, [], ◌∷◌, Ok, Err, Result, sym, refl, ap, ◌∙◌, ap₂, inl, inr, arith}
use Rattle.std.proofs.lemmas.Bool.{cases_eq, eq-eqb, ne_eqb, eqb-true, cond-true}
use Rattle.plant.specs.Model.{Model, Apart, Work, Elsewhere, knows, leaves}
use Rattle.plant.specs.Replies.{replied, unknown}
use Rattle.plant.specs.Order.{works_at, left_by, replies_at, SameAtEach, Alike, OrderStands, Lawful}
use Rattle.fault.specs.declared.refusal.Fault.{Fault}
use Rattle.fault.specs.declared.place.WorkPlace.{WorkPlace}

-- The law of a plant, for works that are known or not.
pub lawful : (m : Model) → Apart m → Lawful (leaves m) (replied m)
lawful m law = record {
  quiet = λ s v w ne. told s v w ne (knows m v) refl (knows m w) refl;
  swap = λ s v w ne. swapped s v w ne (knows m v) refl (knows m w) refl;
}
  where
    told : (s : m.State) (v w : Work) → Elsewhere v w → (a : Bool) → knows m v ≡ a → (b : Bool) → knows m w ≡ b
        → ◌≡◌ {A = Result ℕ (Fault WorkPlace)} (cond b (Ok (m.answer (cond a (m.next s v) s) w)) (Err (unknown w))) (cond b (Ok (m.answer s w)) (Err (unknown w)))
    told s v w ne true p true q = ap (λ (n : ℕ). Ok n) (law.answers v w p q ne s)
    told s v w ne false p true q = refl
    told s v w ne a p false q = refl

    swapped : (s : m.State) (v w : Work) → Elsewhere v w → (a : Bool) → knows m v ≡ a → (b : Bool) → knows m w ≡ b
        → cond b (m.next (cond a (m.next s v) s) w) (cond a (m.next s v) s) ≡ cond a (m.next (cond b (m.next s w) s) v) (cond b (m.next s w) s)
    swapped s v w ne true p true q = law.orders v w p q ne s
    swapped s v w ne false p true q = refl
    swapped s v w ne true p false q = refl
    swapped s v w ne false p false q = refl

-- Of two tests that do not both hold, either goes first.
either_first : {X : Type 0} (a b : Bool) → (a ≡ true → b ≡ true → ⊥) → (x x' y y' : X) (l t u : List X)
    → l ≡ cond a (x' ∷ t) t → x' ≡ x → y ≡ y' → t ≡ u
    → cond b (y ∷ l) l ≡ cond a (x ∷ cond b (y' ∷ u) u) (cond b (y' ∷ u) u)
either_first true true apart x x' y y' l t u e p q r = absurd (apart refl refl)
either_first true false apart x x' y y' l t u e p q r = e ∙ ap₂ (λ z zs. z ∷ zs) p r
either_first false true apart x x' y y' l t u e p q r = ap₂ (λ z zs. z ∷ zs) q (e ∙ r)
either_first false false apart x x' y y' l t u e p q r = e ∙ r

same-tail : {X : Type 0} (b : Bool) (x : X) (l t : List X) → cond b (x ∷ l) l ≡ cond b (x ∷ t) t → l ≡ t
same-tail true x l t e = cc
same-tail false x l t e = e

cons-never : {X : Type 0} (x : X) (l : List X) → ◌≡◌ {A = List X} [] (x ∷ l) → ⊥
cons-never x l e = let z : ◌≡◌ {A = ℕ} 0 1 = cc in omega arith

module _ {S R : Type 0} (next : S → Work → S) (reply : S → Work → R) (law : Lawful next reply) where
  -- A list from which its first work at a station is moved to the front.
  record Pulled (w : Work) (vs : List Work) : Type 0 where
    rest : List Work
    state : (s : S) → left_by next s vs ≡ left_by next (next s w) rest
    replies : (i : ℕ) (s : S) → replies_at next reply i s vs ≡ replies_at next reply i s (w ∷ rest)
    works : (i : ℕ) → works_at i vs ≡ works_at i (w ∷ rest)

  pull : (w : Work) (r vs : List Work) → works_at w.station vs ≡ w ∷ r → Pulled w vs
  pull w r [] e = absurd (cons-never w r e)
  pull w r (v ∷ vs) e = go (cases_eq v.station w.station) (pull w r vs)
    where
      go : (v.station ≡ w.station) ⊎ Elsewhere v w → (works_at w.station vs ≡ w ∷ r → Pulled w vs) → Pulled w (v ∷ vs)
      go (inl q) more =
          let k : v ∷ works_at w.station vs ≡ w ∷ r = rw (eq-eqb v.station w.station q) at e in
          let z : v ≡ w = cc in
          record {
            rest = vs;
            state = λ s. ap (λ (u : Work). left_by next (next s u) vs) z;
            replies = λ i s. ap (λ (u : Work). replies_at next reply i s (u ∷ vs)) z;
            works = λ i. ap (λ (u : Work). works_at i (u ∷ vs)) z;
          }
      go (inr ne) more =
          let p = more (rw (ne_eqb v.station w.station ne) at e) in
          let apart : (i : ℕ) → eqb w.station i ≡ true → eqb v.station i ≡ true → ⊥ =
          λ i a b. ne (eqb-true v.station i b ∙ sym (eqb-true w.station i a)) in
          record {
            rest = v ∷ p.rest;
            state = λ s. p.state (next s v) ∙ ap (λ (u : S). left_by next u p.rest) (law.swap s v w ne);
            replies = λ i s.
                either_first (eqb w.station i) (eqb v.station i) (apart i) (reply s w) (reply (next s v) w) (reply s v) (reply (next s w) v)
                (replies_at next reply i (next s v) vs) (replies_at next reply i (next (next s v) w) p.rest) (replies_at next reply i (next (next s w) v) p.rest)
                (p.replies i (next s v)) (law.quiet s v w ne) (sym (law.quiet s w v (λ e. ne (sym e))))
                (ap (λ (u : S). replies_at next reply i u p.rest) (law.swap s v w ne));
            works = λ i.
                either_first (eqb w.station i) (eqb v.station i) (apart i) w w v v
                (works_at i vs) (works_at i p.rest) (works_at i p.rest) (p.works i) refl refl refl;
          }

  none : (vs : List Work) → ((i : ℕ) → [] ≡ works_at i vs) → [] ≡ vs
  none [] h = refl
  none (v ∷ vs) h = absurd (cons-never v _ (rw (eq-eqb v.station v.station refl) at (h v.station)))

  pub orders : (ws vs : List Work) → SameAtEach ws vs → (s : S) → Alike next reply s ws vs
  orders [] vs h s =
      let e = none vs h in
      record { state = ap (left_by next s) e; replies = λ i. ap (replies_at next reply i s) e }
  orders (w ∷ ws) vs h s =
      let p = pull w (works_at w.station ws) vs (sym (h w.station) ∙ rw (eq-eqb w.station w.station refl)) in
      let ih = orders ws p.rest (λ i. same-tail (eqb w.station i) w (works_at i ws) (works_at i p.rest) (h i ∙ p.works i)) (next s w) in
      record {
        state = ih.state ∙ sym (p.state s);
        replies = λ i. ap (λ (l : List R). cond (eqb w.station i) (reply s w ∷ l) l) (ih.replies i) ∙ sym (p.replies i s);
      }

pub order-stands : (m : Model) → Apart m → OrderStands m
order-stands m law s ws vs h = orders (leaves m) (replied m) (lawful m law) ws vs h s

-- Of a known work: the state is the model's next, and replies that are alike are answers that are alike.
pub known-left : (m : Model) (s : m.State) (w : Work) → knows m w ≡ true → leaves m s w ≡ m.next s w
known-left m s w h = cond-true (knows m w) (m.next s w) s h

pub known-told : (m : Model) (s t : m.State) (w : Work) → knows m w ≡ true → replied m s w ≡ replied m t w → m.answer s w ≡ m.answer t w
known-told m s t w h e = go (rw h at e)
  where
    go : ◌≡◌ {A = Result ℕ (Fault WorkPlace)} (Ok (m.answer s w)) (Ok (m.answer t w)) → m.answer s w ≡ m.answer t w
    go q = cc
