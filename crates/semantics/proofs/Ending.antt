-- Laws of the machine, for any programs.
use Rattle.std.proofs.Common.{◌≡◌, ℕ, zero, suc, ◌+◌, ◌*◌, ◌<◌, ◌≤◌, true, false, ◌⊎◌, List, [], ◌∷◌, ◌++◌, length, sym, refl, ap, ◌∙◌, subst, inl, inr, add-one, arith}
use Rattle.std.proofs.lemmas.Bool.{cond-true, cond-false, le-ltb, lt-ltb, cases_Bool, cases_lt}
use Rattle.fault.specs.declared.refusal.Fault.{Fault}
use Rattle.fault.specs.declared.refusal.Refusal.TheVariants.{LimitReached, Stopped}
use Rattle.fault.specs.declared.place.TickPlace.{TickPlace}
use Rattle.netcode.specs.declared.step.Step.{Step}
use Rattle.plant.specs.Model.{Model}
use Rattle.semantics.specs.declared.state.Request.{Request}
use Rattle.semantics.specs.declared.state.Request.TheVariants.{Tick, Rehearse, WordAt, MarkAt}
use Rattle.semantics.specs.declared.state.Reply.{Reply}
use Rattle.std.proofs.lemmas.List.{get_or-replicate, length-replicate, get_or_past}
use Rattle.semantics.specs.declared.state.Mark.{Mark}
use Rattle.semantics.proofs.Tallies.{requests-tally}
use Rattle.semantics.proofs.Lines.{line_stays, granted-more, granted-same}
use Rattle.semantics.proofs.Halting.{halts}
use Rattle.semantics.proofs.Counts.{Fits, fits-up, world_of, tick-fits}
use Rattle.semantics.specs.Bounds.{CountsWithin}
use Rattle.semantics.specs.Machine.{World, Outcome, blank_mark, new_unit, new_state, mark_in, limit, of_the_run, at, with_stopped, parts, counted, tick}
use Rattle.semantics.specs.Requests.{Rehearsal, rehearsed_on, rehearsed, ticked, served, served_all, at_making}
use Rattle.semantics.specs.Laws.{Leads, Rehearses, EndsAt, MachineLaws, LawsStand}

module _ (m : Model) (programs : List (List Step)) where
  abbrev S : Type 0
  S = m.State

  rehearses : (n : ℕ) (w : World S) → Rehearses m programs n w (rehearsed m programs n w)
  unfolding rehearsed
  rehearses zero w = inl (refl, refl, refl)
  rehearses (suc n) w = go (tick m programs w) refl (λ v. rehearses n v)
    where
      go : (o : Outcome S) → tick m programs w ≡ o → ((v : World S) → Rehearses m programs n v (rehearsed m programs n v)) → Rehearses m programs (suc n) w (rehearsed_on m programs o (rehearsed m programs n))
      go (Outcome.refused f v) e ih = inr (f, w, refl, omega arith, refl, e)
      go (Outcome.done v) e ih = on (ih v)
        where
          x : Rehearsal S
          x = rehearsed m programs n v

          on : Rehearses m programs n v x → Rehearses m programs (suc n) w (rehearsed_on m programs (Outcome.done v) (rehearsed m programs n))
          on (inl (a, b, c)) = inl (a, add-one x.count ∙ ap suc b, (v, e, c))
          on (inr (f, u, a, b, c, d)) = inr (f, u, a, omega arith, subst (λ (k : ℕ). Leads m programs k w u) (sym (add-one x.count)) (v, e, c), d)

  stopped : (w : World S) → w.state.stopped ≡ true → tick m programs w ≡ Outcome.refused (of_the_run Stopped) w
  stopped w e = cond-true _ _ _ e

  stays : (n : ℕ) (w : World S) → w.state.stopped ≡ true → (rehearsed m programs n w).world ≡ w
  unfolding rehearsed
  stays zero w e = refl
  stays (suc n) w e = ap (λ (o : Outcome S). (rehearsed_on m programs o (rehearsed m programs n)).world) (stopped w e)

  stays-one : (r : Request) (w : World S) → w.state.stopped ≡ true → (served m programs r w).world ≡ w
  stays-one Tick w e = ap (λ (o : Outcome S). (ticked m programs o).world) (stopped w e)
  stays-one (Rehearse n) w e = stays n w e
  stays-one (WordAt s v) w e = refl
  stays-one (MarkAt r) w e = refl

  stays_all : (rs : List Request) (w : World S) → w.state.stopped ≡ true → (served_all m programs rs w).world ≡ w
  unfolding served_all
  stays_all [] w e = refl
  stays_all (r ∷ rs) w e = ap (λ (v : World S). (served_all m programs rs v).world) (stays-one r w e) ∙ stays_all rs w e

  ends-stopped : (w v : World S) (f : Fault TickPlace) → w.state.stopped ≡ false → w.state.granted < limit → tick m programs w ≡ Outcome.refused f v → v.state.stopped ≡ true
  ends-stopped w v f e l h = stop
    where
      inner : (o : Outcome S) → counted m programs w.state.granted o ≡ Outcome.refused f v → v.state.stopped ≡ true
      inner (Outcome.done u) q = absurd (let z : ◌≡◌ {A = ℕ} 0 1 = cc in omega arith)
      inner (Outcome.refused g u) q = let y : v ≡ at u (with_stopped u.state) = cc in ap (λ (x : World S). x.state.stopped) y

      stop : v.state.stopped ≡ true
      stop = inner (parts m programs w) (sym (cond-false _ _ _ e ∙ cond-true _ _ _ (lt-ltb w.state.granted limit l)) ∙ h)

  ended : (w v : World S) (f : Fault TickPlace) → w.state.stopped ≡ false → w.state.granted < limit → tick m programs w ≡ Outcome.refused f v → EndsAt m programs v
  ended w v f e l h rs = let s = ends-stopped w v f e l h in (stays_all rs v s, stopped v s)

  on-world : (rs ss : List Request) (w : World S) → (served_all m programs (rs ++ ss) w).world ≡ (served_all m programs ss (served_all m programs rs w).world).world
  unfolding served_all
  on-world [] ss w = refl
  on-world (r ∷ rs) ss w = on-world rs ss (served m programs r w).world

  on-replies : (rs ss : List Request) (w : World S) → (served_all m programs (rs ++ ss) w).replies ≡ (served_all m programs rs w).replies ++ (served_all m programs ss (served_all m programs rs w).world).replies
  unfolding served_all
  on-replies [] ss w = refl
  on-replies (r ∷ rs) ss w = ap (λ (xs : List Reply). (served m programs r w).reply ∷ xs) (on-replies rs ss (served m programs r w).world)

  -- Counts stay within sixteen for each granted tick; after a refused tick that ended the run, sixteen more.
  abbrev Within : World S → Type 0
  Within w = Fits m (16 * w.state.granted) w ⊎ ((w.state.stopped ≡ true) × Fits m (16 * (w.state.granted + 1)) w)

  within_all : (w : World S) → Within w → CountsWithin (16 * (w.state.granted + 1)) w.state
  within_all w (inl f) = (fits-up m (16 * w.state.granted) (16 * (w.state.granted + 1)) w (omega arith) f).within
  within_all w (inr (e, f)) = f.within

  module _ (few : length programs ≤ 16) where
    tick-within : (w : World S) → Within w → Within (ticked m programs (tick m programs w)).world
    tick-within w (inr (e, f)) = subst (λ (o : Outcome S). Within (ticked m programs o).world) (sym (stopped w e)) (inr (e, f))
    tick-within w (inl f) = go (tick m programs w) refl (tick-fits m programs (16 * w.state.granted) w few f)
      where
        go : (o : Outcome S) → tick m programs w ≡ o → Fits m (16 * w.state.granted + length programs) (world_of m o) → Within (ticked m programs o).world
        go (Outcome.done v) h t = let q = granted-more m programs w v h in inl (fits-up m _ (16 * v.state.granted) v (omega arith) t)
        go (Outcome.refused x v) h t = stop (cases_Bool w.state.stopped) (cases_lt w.state.granted limit)
          where
            refused-same : (u : World S) (y : Fault TickPlace) → ◌≡◌ {A = Outcome S} (Outcome.refused y u) (Outcome.refused x v) → u ≡ v
            refused-same u y e = cc

            stop : (w.state.stopped ≡ true) ⊎ (w.state.stopped ≡ false) → (w.state.granted < limit) ⊎ (limit ≤ w.state.granted) → Within v
            stop (inl e) l = subst Within (refused-same w (of_the_run Stopped) (sym (stopped w e) ∙ h)) (inl f)
            stop (inr e) (inr l) = subst Within (refused-same w (of_the_run LimitReached) (sym (cond-false _ _ _ e ∙ cond-false _ _ _ (le-ltb w.state.granted limit l)) ∙ h)) (inl f)
            stop (inr e) (inl l) = let q = granted-same m programs w v x h in inr (ends-stopped w v x e l h, fits-up m _ (16 * (v.state.granted + 1)) v (omega arith) t)

    rehearse-within : (n : ℕ) (w : World S) → Within w → Within (rehearsed m programs n w).world
    unfolding rehearsed
    rehearse-within zero w a = a
    rehearse-within (suc n) w a = go (tick m programs w) (tick-within w a) (λ v b. rehearse-within n v b)
      where
        go : (o : Outcome S) → Within (ticked m programs o).world → ((v : World S) → Within v → Within (rehearsed m programs n v).world) → Within (rehearsed_on m programs o (rehearsed m programs n)).world
        go (Outcome.done v) b ih = ih v b
        go (Outcome.refused x v) b ih = b

    request-within : (r : Request) (w : World S) → Within w → Within (served m programs r w).world
    request-within Tick w a = tick-within w a
    request-within (Rehearse n) w a = rehearse-within n w a
    request-within (WordAt s v) w a = a
    request-within (MarkAt r) w a = a

    requests-within : (rs : List Request) (w : World S) → Within w → Within (served_all m programs rs w).world
    unfolding served_all
    requests-within [] w a = a
    requests-within (r ∷ rs) w a = requests-within rs (served m programs r w).world (request-within r w a)

    start-within : (start : S) → Within (at_making m programs start)
    start-within start = inl (record { size = length-replicate 16 new_unit; within = blank })
      where
        blank : (row : ℕ) → (mark_in new_state row).count ≤ 0
        blank row = go (cases_lt row 128)
          where
            go : (row < 128) ⊎ (128 ≤ row) → (mark_in new_state row).count ≤ 0
            go (inl l) = let e : (mark_in new_state row).count ≡ 0 = ap (λ (x : Mark). x.count) (get_or-replicate 128 row blank_mark blank_mark l) in omega arith
            go (inr l) = let e : (mark_in new_state row).count ≡ 0 = ap (λ (x : Mark). x.count) (get_or_past new_state.marks row blank_mark (let z = length-replicate 128 blank_mark in omega arith)) in omega arith

  machine-laws : MachineLaws m programs
  machine-laws = record {
    rehearsals = rehearses;
    stopped = stopped;
    full = λ w e l. cond-false _ _ _ e ∙ cond-false _ _ _ (le-ltb w.state.granted limit l);
    ended = ended;
    more = granted-more m programs;
    uncounted = granted-same m programs;
    bounded = λ few start rs. within_all (served_all m programs rs (at_making m programs start)).world (requests-within few rs (at_making m programs start) (start-within few start));
    word_at = λ w s v. refl;
    mark_at = λ w r. refl;
    plant = λ start rs. (requests-tally m programs rs (at_making m programs start)).plant;
    counts = λ start rs row l.
        (requests-tally m programs rs (at_making m programs start)).counts row (let e = length-replicate 128 blank_mark in omega arith)
        ∙ (let e : (mark_in new_state row).count ≡ 0 = ap (λ (x : Mark). x.count) (get_or-replicate 128 row blank_mark blank_mark l) in omega arith);
    line = line_stays m programs;
    on = λ rs ss w. (on-world rs ss w, on-replies rs ss w);
  }

pub laws-stand : (m : Model) → LawsStand m
laws-stand m = record { machine = machine-laws m; halts = halts m }
