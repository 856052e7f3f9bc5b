-- Lists of calls come to a number of ticks.
use Rattle.std.proofs.Common.{◌≡◌, ℕ, zero, suc, ◌+◌, ◌-◌, ◌<◌, ◌≤◌, min, false, cond, eqb, ltb, ◌⊎◌, List, [], ◌∷◌, Some, Option, sym, refl, ap, ◌∙◌, subst, ap₂, inl, inr, arith}
use Rattle.std.proofs.lemmas.Bool.{cond-true, cond-false, eq-eqb, ne_eqb, cases_lt, lt-ltb, le-ltb}
use Rattle.schedule.specs.Machine.{Bench}
use Rattle.schedule.specs.Requests.{Call, World, Outcome, limit, moved, tick_of, on_with, ticks_of, call_of, calls_of, wants, asked, At, Granted, Ending, Reply, reply_on, reply_ticks, reply_of, Replied}

module _ {S : Type 0} (step : ℕ → Bench S → Option (Bench S)) (run : ℕ → Option (Bench S))
    (goes : (m : ℕ) (b : Bench S) → run m ≡ Some b → run (suc m) ≡ step m b) (all : (m : ℕ) → (b : Bench S) × (run m ≡ Some b)) where
  one : (m : ℕ) (w : World S) → At run m w → m < limit → (u : World S) × (tick_of step w ≡ Outcome.fine u) × At run (suc m) u
  one m w v l = go (all (suc m))
    where
      go : (b : Bench S) × (run (suc m) ≡ Some b) → (u : World S) × (tick_of step w ≡ Outcome.fine u) × At run (suc m) u
      go (b, e) =
          let s : step w.granted w.bench ≡ Some b = ap (λ k. step k w.bench) v.granted ∙ sym (goes m w.bench v.bench) ∙ e in
          let ne : eqb w.granted limit ≡ false = ne_eqb _ _ (λ z. omega (arith, v.granted, z)) in
          (record { bench = b; granted = suc w.granted; stopped = false }, cond-false _ _ _ v.going ∙ cond-false _ _ _ ne ∙ ap (moved step w) s, record { granted = ap suc v.granted; going = refl; bench = e })

  full : (w : World S) → At run limit w → tick_of step w ≡ Outcome.late w
  full w v = cond-false _ _ _ v.going ∙ cond-true _ _ _ (eq-eqb _ _ v.granted)

  some-ticks : (k m : ℕ) (w : World S) → m ≤ limit → At run m w → At run (min (m + k) limit) (ticks_of step k w)
  unfolding ticks_of
  some-ticks zero m w l v = let e : min (m + 0) limit ≡ m = omega arith in subst (λ q. At run q w) (sym e) v
  some-ticks (suc k) m w l v = go (cases_lt m limit) (some-ticks k (suc m))
    where
      go : (m < limit) ⊎ (limit ≤ m) → ((u : World S) → suc m ≤ limit → At run (suc m) u → At run (min (suc m + k) limit) (ticks_of step k u)) → At run (min (m + suc k) limit) (on_with step (tick_of step w) (ticks_of step k))
      go (inl h) ih = on (one m w v h)
        where
          on : (u : World S) × (tick_of step w ≡ Outcome.fine u) × At run (suc m) u → At run (min (m + suc k) limit) (on_with step (tick_of step w) (ticks_of step k))
          on (u, e, y) =
              let q : min (suc m + k) limit ≡ min (m + suc k) limit = ap (λ x. min x limit) (omega arith) in
              subst (At run (min (m + suc k) limit)) (sym (ap (λ o. on_with step o (ticks_of step k)) e)) (subst (λ x. At run x (ticks_of step k u)) q (ih u h y))
      go (inr h) ih =
          let e : m ≡ limit = omega arith in
          let q : limit ≡ min (m + suc k) limit = omega arith in
          let y : At run limit w = subst (λ x. At run x w) e v in
          subst (At run (min (m + suc k) limit)) (sym (ap (λ o. on_with step o (ticks_of step k)) (full w y))) (subst (λ x. At run x w) q y)

  call-ticks : (c : Call) (w : World S) → call_of step c w ≡ ticks_of step (wants c) w
  unfolding ticks_of
  call-ticks Call.tick w = refl
  call-ticks (Call.rehearse m) w = refl
  call-ticks Call.view w = refl

  calls : (cs : List Call) (m : ℕ) (w : World S) → m ≤ limit → At run m w → At run (min (m + asked cs) limit) (calls_of step cs w)
  unfolding calls_of asked
  calls [] m w l v = let e : min (m + 0) limit ≡ m = omega arith in subst (λ q. At run q w) (sym e) v
  calls (c ∷ cs) m w l v =
      let q : min (min (m + wants c) limit + asked cs) limit ≡ min (m + (wants c + asked cs)) limit = omega arith in
      subst (λ x. At run x (calls_of step cs (call_of step c w))) q
      (calls cs (min (m + wants c) limit) (call_of step c w) (omega arith) (subst (At run (min (m + wants c) limit)) (sym (call-ticks c w)) (some-ticks (wants c) m w l v)))

  abbrev left : ℕ → ℕ → Reply
  left m k = record { made = min k (limit - m); ending = cond (ltb (limit - m) k) Ending.full Ending.done }

  same_left : (x m k : ℕ) → x ≡ suc m → ltb x (suc k) ≡ ltb m k
  same_left x m k e = go (cases_lt m k)
    where
      go : (m < k) ⊎ (k ≤ m) → ltb x (suc k) ≡ ltb m k
      go (inl h) = lt-ltb x (suc k) (omega arith) ∙ sym (lt-ltb m k h)
      go (inr h) = le-ltb x (suc k) (omega arith) ∙ sym (le-ltb m k h)

  one_less : (m k : ℕ) → m < limit → record { made = suc (left (suc m) k).made; ending = (left (suc m) k).ending } ≡ left m (suc k)
  one_less m k h =
      let a : suc (min k (limit - suc m)) ≡ min (suc k) (limit - m) = omega arith in
      let b : ltb (limit - m) (suc k) ≡ ltb (limit - suc m) k = same_left (limit - m) (limit - suc m) k (omega arith) in
      ap₂ (λ x y. record { made = x; ending = cond y Ending.full Ending.done }) a (sym b)

  replies : (k m : ℕ) (w : World S) → m ≤ limit → At run m w → reply_ticks step k w ≡ left m k
  unfolding reply_ticks
  replies zero m w l v = let e : min 0 (limit - m) ≡ 0 = omega arith in ap₂ (λ x y. record { made = x; ending = y }) (sym e) (sym (cond-false _ _ _ (le-ltb (limit - m) 0 (omega arith))))
  replies (suc k) m w l v = go (cases_lt m limit) (replies k (suc m))
    where
      go : (m < limit) ⊎ (limit ≤ m) → ((u : World S) → suc m ≤ limit → At run (suc m) u → reply_ticks step k u ≡ left (suc m) k) → reply_on step (tick_of step w) (reply_ticks step k) ≡ left m (suc k)
      go (inl h) ih = on (one m w v h)
        where
          on : (u : World S) × (tick_of step w ≡ Outcome.fine u) × At run (suc m) u → reply_on step (tick_of step w) (reply_ticks step k) ≡ left m (suc k)
          on (u, e, y) = ap (λ o. reply_on step o (reply_ticks step k)) e ∙ ap (λ (x : Reply). record { made = suc x.made; ending = x.ending }) (ih u h y) ∙ one_less m k h
      go (inr h) ih =
          let e : m ≡ limit = omega arith in
          let a : 0 ≡ min (suc k) (limit - m) = omega arith in
          ap (λ o. reply_on step o (reply_ticks step k)) (full w (subst (λ x. At run x w) e v)) ∙ ap₂ (λ x y. record { made = x; ending = y }) a (sym (cond-true _ _ _ (lt-ltb (limit - m) (suc k) (omega arith))))

  reply-ticks : (c : Call) (w : World S) → reply_of step c w ≡ reply_ticks step (wants c) w
  unfolding reply_ticks
  reply-ticks Call.tick w = refl
  reply-ticks (Call.rehearse m) w = refl
  reply-ticks Call.view w = refl

pub replied-stands : {S : Type 0} → Replied S
replied-stands {S = S} step run w goes all v cs c =
    let e : limit - min (0 + asked cs) limit ≡ limit - asked cs = omega arith in
    reply-ticks step run goes all c (calls_of step cs w) ∙ replies step run goes all (wants c) (min (0 + asked cs) limit) (calls_of step cs w) (omega arith) (calls step run goes all cs 0 w (omega arith) v)
    ∙ ap (λ x. record { made = min (wants c) x; ending = cond (ltb x (wants c)) Ending.full Ending.done }) e

pub granted-stands : {S : Type 0} → Granted S
granted-stands step run w goes all v cs = let e : 0 + asked cs ≡ asked cs = omega arith in subst (λ x. At run (min x limit) (calls_of step cs w)) e (calls step run goes all cs 0 w (omega arith) v)
