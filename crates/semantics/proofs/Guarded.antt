-- A plant's answers and next states, with unknown works answered 0 and left alone, keep the law for all works.
use Rattle.std.proofs.Common.{◌≡◌, ℕ, Bool, true, false, cond, refl}
use Rattle.plant.specs.Model.{Model, Work, Apart, Elsewhere, knows, leaves}
use Rattle.schedule.specs.Plants.{Lawful}

abbrev pub guarded : (m : Model) → m.State → Work → ℕ
guarded m s w = cond (knows m w) (m.answer s w) 0

pub guarded-lawful : (m : Model) → Apart m → Lawful m.State (leaves m) (guarded m)
guarded-lawful m law = record {
  quiet = λ s v w ne. told s v w ne (knows m v) refl (knows m w) refl;
  swap = λ s v w ne. swapped s v w ne (knows m v) refl (knows m w) refl;
}
  where
    told : (s : m.State) (v w : Work) → Elsewhere v w → (a : Bool) → knows m v ≡ a → (b : Bool) → knows m w ≡ b
        → cond b (m.answer (cond a (m.next s v) s) w) 0 ≡ cond b (m.answer s w) 0
    told s v w ne true p true q = law.answers v w p q ne s
    told s v w ne false p true q = refl
    told s v w ne a p false q = refl

    swapped : (s : m.State) (v w : Work) → Elsewhere v w → (a : Bool) → knows m v ≡ a → (b : Bool) → knows m w ≡ b
        → cond b (m.next (cond a (m.next s v) s) w) (cond a (m.next s v) s) ≡ cond a (m.next (cond b (m.next s w) s) v) (cond b (m.next s w) s)
    swapped s v w ne true p true q = law.orders v w p q ne s
    swapped s v w ne false p true q = refl
    swapped s v w ne true p false q = refl
    swapped s v w ne false p false q = refl
