-- No tick belongs to two performed sends.
use Rattle.std.proofs.Common.{◌≡◌, ℕ, suc, ◌+◌, ◌*◌, ◌<◌, ◌≤◌, Bool, true, ◌⊎◌, Option, sym, refl, ap, ◌∙◌, inl, inr, mul-le-mul_right, arith}
use Rattle.std.proofs.lemmas.Bool.{cases_order}
use Rattle.schedule.specs.Rows.{Row, Now, Accepted, Excludes, ends, all_meet}
use Rattle.plant.specs.Model.{Work}
use Rattle.schedule.specs.Machine.{Keep, start_of, cells_of}
use Rattle.schedule.specs.Cycles.{begins, after_cycles, performs}
use Rattle.schedule.specs.Sends.{Occupies, SendsApart}
use Rattle.schedule.proofs.Valuation.{excl-not, val, did-final}

-- an earlier cycle ends no later than a later one begins
pub cycles-up : (q q' L : ℕ) → q < q' → q * L + L ≤ q' * L
cycles-up q q' L l = let e : q * L + L ≡ suc q * L = omega arith in let m : suc q * L ≤ q' * L = mul-le-mul_right L l in omega arith

module _ {S : Type 0} (next : S → Work → S) (answer : S → Work → ℕ) (knows : ℕ → ℕ → ℕ → Bool) (r : ℕ → Row) (n L : ℕ) (kp : ℕ → Keep) (nk : ℕ)
    (basis : (ℕ → Option ℕ) → ℕ → Option ℕ) (p : S) (ok : (c : ℕ → Option ℕ) → Accepted r n L (start_of kp nk c) (basis c)) where
  abbrev at : ℕ → ℕ → ℕ → Type 0
  at = Occupies r L

  abbrev does : ℕ → ℕ → Bool
  does = performs next answer knows r n L kp nk p

  abbrev cells : ℕ → ℕ → Option ℕ
  cells q = cells_of kp nk (after_cycles next answer r n kp nk p q).places (after_cycles next answer r n kp nk p q).cells

  abbrev start : ℕ → Now S
  start q = begins next answer r n kp nk (after_cycles next answer r n kp nk p q)

  abbrev right : (q : ℕ) → Accepted r n L (start q).places (basis (cells q))
  right q = ok (cells q)

  -- rows performed in one cycle do not exclude each other
  never_both : (q i k : ℕ) → i < n → k < n → does q i ≡ true → does q k ≡ true → Excludes (r i).tests (r k).tests → ⊥
  never_both q i k li lk di dk x = excl-not (r i).tests (r k).tests (val next answer r (start q) n L (basis (cells q)) (right q) n) x (sym (same i li) ∙ di) (sym (same k lk) ∙ dk)
    where
      same : (i : ℕ) → i < n → does q i ≡ all_meet (r i).tests (val next answer r (start q) n L (basis (cells q)) (right q) n)
      same i l = did-final next answer r (start q) n L (basis (cells q)) (right q) i (r i).st l (inl refl)

  -- nor does a row of a later cycle meet one of an earlier
  earlier : (q q' k k' x : ℕ) → k < n → q < q' → at q k x → at q' k' x → ⊥
  earlier q q' k k' x lk l (a, b) (c, d) = omega (arith, (ok (λ m. Option.None)).inside k lk, cycles-up q q' L l)

  lower : (q i k x : ℕ) → i < k → k < n → (r i).sends ≡ true → (r k).sends ≡ true → does q i ≡ true → does q k ≡ true → at q i x → at q k x → ⊥
  lower q i k x l lk si sk di dk (a, b) (c, d) = go ((right q).lines i k l lk si sk)
    where
      go : Excludes (r i).tests (r k).tests ⊎ ((ends (r i) ≤ (r k).date) ⊎ (ends (r k) ≤ (r i).date)) → ⊥
      go (inl e) = never_both q i k (omega arith) lk di dk e
      go (inr (inl e)) = omega arith
      go (inr (inr e)) = omega arith

  same_row : (q i k x : ℕ) → i < n → k < n → (r i).sends ≡ true → (r k).sends ≡ true → does q i ≡ true → does q k ≡ true → at q i x → at q k x → i ≡ k
  same_row q i k x li lk si sk di dk oi ok' = go (cases_order i k)
    where
      go : (i ≡ k) ⊎ ((i < k) ⊎ (k < i)) → i ≡ k
      go (inl e) = e
      go (inr (inl l)) = absurd (lower q i k x l lk si sk di dk oi ok')
      go (inr (inr l)) = absurd (lower q k i x l li sk si dk di ok' oi)

  one-send : (q k q' k' x : ℕ) → k < n → k' < n → (r k).sends ≡ true → (r k').sends ≡ true → does q k ≡ true → does q' k' ≡ true → at q k x → at q' k' x → (q ≡ q') × (k ≡ k')
  one-send q k q' k' x lk lk' sk sk' dk dk' o o' = go (cases_order q q')
    where
      go : (q ≡ q') ⊎ ((q < q') ⊎ (q' < q)) → (q ≡ q') × (k ≡ k')
      go (inl e) = (e, same_row q k k' x lk lk' sk sk' dk (ap (λ m. does m k') e ∙ dk') o (rw e o'))
      go (inr (inl l)) = absurd (earlier q q' k k' x lk l o o')
      go (inr (inr l)) = absurd (earlier q' q k' k x lk' l o' o)

pub sends-apart : {S : Type 0} (next : S → Work → S) (answer : S → Work → ℕ) → SendsApart S next answer
sends-apart next answer knows r n L kp nk basis p ok = one-send next answer knows r n L kp nk basis p ok
