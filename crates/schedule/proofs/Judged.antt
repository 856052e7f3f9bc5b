-- A sheet that keeps the rules is accepted whatever its cells hold.
use Rattle.std.proofs.Common.{◌≡◌, ℕ, ◌<◌, true, false, ◌&&◌, eqb, List, Some, None, Option, sym, ap, ◌∙◌, inl, inr, ⊎_elim}
use Rattle.std.proofs.lemmas.Bool.{cases_Bool, and_parts, and_from, eqb-true, eq-eqb}
use Rattle.schedule.specs.Rows.{Test, Row, Supply, Accepted}
use Rattle.plant.specs.Model.{Work}
use Rattle.schedule.specs.Pick.{pick}
use Rattle.schedule.specs.Plants.{Lawful}
use Rattle.schedule.specs.Machine.{Keep, or_first, start_of}
use Rattle.schedule.specs.Promise.{Available, Judged, JudgedPromise}
use Rattle.schedule.proofs.Pick.{pick-none, pick_inv, pick_some}
use Rattle.schedule.proofs.Numbered.{numbered-stands}

module _ (r : ℕ → Row) (n L : ℕ) (kp : ℕ → Keep) (nk : ℕ) (j : Judged r n L kp nk) (c : ℕ → Option ℕ) where
  abbrev word : ℕ → ℕ
  word m = or_first (c m) (kp m).first

  abbrev basis : ℕ → Option ℕ
  basis x = pick (λ m. eqb (kp m).into x) word nk

  by-keep : (m s x : ℕ) → m < nk → (kp m).st ≡ s → (kp m).into ≡ x → start_of kp nk c s x ≡ Some (word m)
  by-keep m s x l a b = pick_some (λ m. eqb (kp m).st s && eqb (kp m).into x) word nk m l (and_from _ _ (eq-eqb _ _ a) (eq-eqb _ _ b))
      (λ k lk q. j.once k m lk l (eqb-true _ _ (and_parts (eqb (kp k).st s) _ q).1 ∙ sym b))

  kept : (s x w : ℕ) → start_of kp nk c s x ≡ Some w → basis x ≡ Some w
  kept s x w e = go (pick_inv (λ m. eqb (kp m).st s && eqb (kp m).into x) word nk w e)
    where
      go : (m : ℕ) × (m < nk) × ((eqb (kp m).st s && eqb (kp m).into x) ≡ true) × (word m ≡ w) → basis x ≡ Some w
      go (m, l, q, z) =
          let b : (kp m).into ≡ x = eqb-true _ _ (and_parts (eqb (kp m).st s) _ q).1 in
          pick_some (λ m. eqb (kp m).into x) word nk m l (eq-eqb _ _ b) (λ k lk y. j.once k m lk l (eqb-true _ _ y ∙ sym b)) ∙ ap Some z

  free : (i : ℕ) → i < n → (r i).sends ≡ false → basis (r i).out ≡ None
  free i l s = pick-none (λ m. eqb (kp m).into (r i).out) word nk
      (λ m lm. ⊎_elim (λ q. absurd (j.unwritten i m l lm s (sym (eqb-true _ _ q)))) (λ q. q) (cases_Bool (eqb (kp m).into (r i).out)))

  supply : (i s : ℕ) (d : List Test) (x : ℕ) → Available r n L kp nk i s d x → Supply r (start_of kp nk c) i s d x
  supply i s d x (inl (m, l, a, b)) = inl (word m, by-keep m s x l a b)
  supply i s d x (inr h) = inr h

  pub accepted-now : Accepted r n L (start_of kp nk c) basis
  accepted-now = record {
    long = j.long;
    inside = j.inside;
    copies = j.copies;
    kept = kept;
    free = free;
    writers = j.writers;
    calls = j.calls;
    lines = j.lines;
    tested = λ i s l k b t e z. supply i s b t.var (j.tested i s l k b t e z);
    first = λ i l h. supply i (r i).st (r i).tests (r i).one (j.first i l h);
    second = λ i l h. supply i (r i).st (r i).tests (r i).two (j.second i l h);
  }

pub judged-stands : {S : Type 0} (next : S → Work → S) (answer : S → Work → ℕ) → Lawful S next answer → JudgedPromise S next answer
judged-stands next answer law knows r n L kp nk stations variables p lim j fit =
    numbered-stands next answer law knows r n L kp nk stations variables (basis r n L kp nk j) p lim (accepted-now r n L kp nk j) fit
