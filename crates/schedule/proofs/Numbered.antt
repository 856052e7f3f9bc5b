-- The bench with refusals, and the one that only says that there was one.
use Rattle.std.proofs.Common.{◌≡◌, ℕ, zero, suc, ◌+◌, ◌-◌, ◌*◌, ◌/◌, ◌<◌, ◌≤◌, min, Bool, true, false, cond, not, ◌&&◌, ◌||◌, eqb, ltb, ◌⊎◌, List, [], ◌∷◌, length, get_or, Some, None, Option, sym, refl, ap, ◌∙◌, subst, ap₂, inl, inr, arith}
use Rattle.std.proofs.lemmas.Bool.{cond-true, cond-false, eq-eqb, ne_eqb, cases_lt, lt-ltb, le-ltb}
use Rattle.schedule.specs.Rows.{Test, meets, Row, Accepted}
use Rattle.plant.specs.Model.{Work}
use Rattle.schedule.specs.Plants.{Lawful}
use Rattle.schedule.specs.Program.{Step, Engine, one, tested, acted, exec}
use Rattle.schedule.specs.Machine.{Keep, Bench, Job, Message, Fit, is_none, bind, is_line, program, start_of, present, answered, own, begin, engine, turn_at, first_to, heard, land, ended, settle_to, leave, tick, ticks}
use Rattle.schedule.specs.Requests.{Call, limit, wants, asked}
use Rattle.schedule.specs.Lawful.{Limits}
use Rattle.schedule.specs.Plain.{new_bench}
use Rattle.schedule.specs.Faults.{Noted, Did, and_then, tries, fault_of, acting, testing, step_of, run_of, turn_of, first_of, hearing, landing, ending, settle_of, tick_once, Held, Tried, Answer, plain_fault, after, try_tick, held_on, answer_on, held_ticks, answer_ticks, held_calls, due_answer, new_held, held_after, Kept, NumberedPromise}
use Rattle.schedule.proofs.Apart.{sends-apart}
use Rattle.schedule.proofs.Kept.{programs-keep}
use Rattle.schedule.proofs.Joined.{goes, all, holds, marked}

abbrev erase : {S : Type 0} → Did (Noted S) → Option (Bench S)
erase (Did.good s) = Some s.bench
erase (Did.bad f s) = None

erase-cond : {S : Type 0} (z : Bool) (x y : Did (Noted S)) (u v : Option (Bench S)) → erase x ≡ u → erase y ≡ v → erase (cond z x y) ≡ cond z u v
erase-cond true x y u v p q = p
erase-cond false x y u v p q = q

erase-then : {S : Type 0} (d : Did (Noted S)) (o : Option (Bench S)) (f : Noted S → Did (Noted S)) (g : Bench S → Option (Bench S)) → erase d ≡ o → ((s : Noted S) → erase (f s) ≡ g s.bench) → erase (and_then d f) ≡ bind o g
erase-then (Did.good s) o f g p h = h s ∙ ap (λ x. bind x g) p
erase-then (Did.bad x s) o f g p h = ap (λ x. bind x g) p

module _ {S : Type 0} (next : S → Work → S) (answer : S → Work → ℕ) (knows : ℕ → ℕ → ℕ → Bool) (r : ℕ → Row) (n L : ℕ) (kp : ℕ → Keep) (nk : ℕ) where
  guarded : (o held free sends silent known : Bool) → free && (not o || (held && cond sends silent known)) ≡ is_none (tries next answer knows r n L kp nk o held free sends silent known)
  guarded false held true sends silent known = refl
  guarded false held false sends silent known = refl
  guarded true false true sends silent known = refl
  guarded true false false sends silent known = refl
  guarded true true false sends silent known = refl
  guarded true true true true true known = refl
  guarded true true true true false known = refl
  guarded true true true false silent true = refl
  guarded true true true false silent false = refl

  module _ (j T : ℕ) where
    abbrev e : Engine (Bench S)
    e = engine next answer knows r n L kp nk j T

    module _ (pc : ℕ) (go_n : ℕ → Noted S → Did (Noted S)) (go : ℕ → Bench S → Option (Bench S)) (ih : (pc : ℕ) (s : Noted S) → erase (go_n pc s) ≡ go pc s.bench) (s : Noted S) where
      on_test : (t : Test) (a : ℕ) (o : Option ℕ) → erase (testing next answer knows r n L kp nk o t j pc a go_n s) ≡ tested e (answered t o) pc a go s.bench
      on_test t a None = refl
      on_test t a (Some v) = pass (meets t (Some v))
        where
          pass : (z : Bool) → erase (cond z (go_n (suc pc) s) (go_n a s)) ≡ tested e (Some z) pc a go s.bench
          pass true = ih (suc pc) s
          pass false = ih a s

      on-act : (k : ℕ) (o : Option ℕ) → erase (acting next answer knows r n L kp nk o j k T pc go_n s) ≡ acted e (cond (is_none o) (Some (begin next answer knows r n L kp nk j k T s.bench)) None) pc go
      on-act k None = ih (suc pc) _
      on-act k (Some f) = refl

      on_step : (x : Step) → erase (step_of next answer knows r n L kp nk x j T pc go_n s) ≡ one e x pc go s.bench
      on_step (Step.test t a) = on_test t a (s.bench.places (j / 2) t.var)
      on_step (Step.future m a) = ih (suc pc) _
      on_step Step.halt = refl
      on_step (Step.act k) = on-act k (fault_of next answer knows r n L kp nk j k s.bench)
          ∙ ap (λ z. acted e (cond z (Some (begin next answer knows r n L kp nk j k T s.bench)) None) pc go)
          (sym (guarded (own next answer knows r n L kp nk j k) (present (r k) s.bench.places) (is_none (s.bench.units j).busy) (r k).sends (is_none s.bench.line) (knows (r k).st (r k).work (r k).count)))
      on_step (Step.keep x m) = ih (suc pc) _
      on_step Step.clear = ih (suc pc) _
      on_step (Step.give m x w) = ih (suc pc) _

    on-run : (p : List Step) (f pc : ℕ) (s : Noted S) → erase (run_of next answer knows r n L kp nk j T p f pc s) ≡ exec e p f pc s.bench
    unfolding run_of exec
    on-run p zero pc s = refl
    on-run p (suc f) pc s = on_step pc (run_of next answer knows r n L kp nk j T p f) (exec e p f) (on-run p f) s (get_or p pc Step.halt)

    on-turn : (s : Noted S) → erase (turn_of next answer knows r n L kp nk j T s) ≡ turn_at next answer knows r n L kp nk j T s.bench
    on-turn s = erase-cond (eqb (s.bench.units j).at T) _ _ _ _ (erase-cond (is_none (s.bench.units j).busy) _ _ _ _ (on-run (program r n L kp nk j) (suc (length (program r n L kp nk j))) (s.bench.units j).pc s) refl) refl

    on-hear : (k : ℕ) (o : Option Message) (s : Noted S) → erase (hearing next answer knows r n L kp nk o T j k s) ≡ heard next answer knows r n L kp nk o T j k s.bench
    on-hear k None s = refl
    on-hear k (Some m) s = erase-cond (eqb m.stop T) _ _ _ _ refl refl

    on-land : (q : Job) (s : Noted S) → erase (landing next answer knows r n L kp nk T j q s) ≡ land next answer knows r n L kp nk T j q s.bench
    on-land q s = erase-cond (is_line j) _ _ _ _ (erase-cond (own next answer knows r n L kp nk j q.row) _ _ _ _ refl (on-hear q.row s.bench.line s)) refl

    on-end : (o : Option Job) (s : Noted S) → erase (ending next answer knows r n L kp nk o T j s) ≡ ended next answer knows r n L kp nk o T j s.bench
    on-end None s = refl
    on-end (Some q) s = erase-cond (eqb q.stop T) _ _ _ _ (on-land q s) refl

  on-first : (T j : ℕ) (s : Noted S) → erase (first_of next answer knows r n L kp nk T j s) ≡ first_to next answer knows r n L kp nk T j s.bench
  unfolding first_of first_to
  on-first T zero s = refl
  on-first T (suc j) s = erase-then _ _ _ _ (on-first T j s) (on-turn j T)

  on-settle : (T j : ℕ) (s : Noted S) → erase (settle_of next answer knows r n L kp nk T j s) ≡ settle_to next answer knows r n L kp nk T j s.bench
  unfolding settle_of settle_to
  on-settle T zero s = refl
  on-settle T (suc j) s = erase-then _ _ _ (λ c. ended next answer knows r n L kp nk (c.units j).busy T j c) (on-settle T j s) (λ c. on-end j T (c.bench.units j).busy c)

  pub on-tick : (units T : ℕ) (s : Noted S) → erase (tick_once next answer knows r n L kp nk units T s) ≡ tick next answer knows r n L kp nk units T s.bench
  on-tick units T s = erase-then _ _ _ (λ c. bind (settle_to next answer knows r n L kp nk (suc T) units c) (λ d. Some (leave next answer knows r n L kp nk (suc T) d))) (on-first T units s)
      (λ c. erase-then _ _ _ (λ d. Some (leave next answer knows r n L kp nk (suc T) d)) (on-settle (suc T) units c) (λ d. refl))

-- CALLS over a machine that is never refused
module _ {S : Type 0} (step : ℕ → Noted S → Did (Noted S)) (plain_step : ℕ → Bench S → Option (Bench S)) (alike : (m : ℕ) (s : Noted S) → erase (step m s) ≡ plain_step m s.bench)
    (run : ℕ → Option (Bench S)) (on : (m : ℕ) (b : Bench S) → run m ≡ Some b → run (suc m) ≡ plain_step m b) (every : (m : ℕ) → (b : Bench S) × (run m ≡ Some b)) where
  record Now (m : ℕ) (w : Held S) : Type 0 where
    granted : w.granted ≡ m
    still : w.stopped ≡ false
    bench : run m ≡ Some w.state.bench

  one-tick : (m : ℕ) (w : Held S) → Now m w → m < limit → (u : Held S) × (try_tick step w ≡ Tried.gone u) × Now (suc m) u
  one-tick m w v l = go (every (suc m))
    where
      Goal : Type 0
      Goal = (u : Held S) × (try_tick step w ≡ Tried.gone u) × Now (suc m) u

      go : (b : Bench S) × (run (suc m) ≡ Some b) → Goal
      go (b, e) = by (step w.granted w.state) refl (alike w.granted w.state ∙ ap (λ k. plain_step k w.state.bench) v.granted ∙ sym (on m w.state.bench v.bench) ∙ e)
        where
          by : (d : Did (Noted S)) → step w.granted w.state ≡ d → erase d ≡ Some b → Goal
          by (Did.bad f s) z x = let y : ◌≡◌ {A = ℕ} 0 1 = cc in absurd (omega arith)
          by (Did.good s) z x =
              let ne : eqb w.granted limit ≡ false = ne_eqb _ _ (λ y. omega (arith, v.granted, y)) in (
                record { state = s; granted = suc w.granted; stopped = false },
                cond-false _ _ _ v.still ∙ cond-false _ _ _ ne ∙ ap (after step w) z,
                record { granted = ap suc v.granted; still = refl; bench = e ∙ sym x },
              )

  no_more : (w : Held S) → Now limit w → try_tick step w ≡ Tried.refused (plain_fault 18) w
  no_more w v = cond-false _ _ _ v.still ∙ cond-true _ _ _ (eq-eqb _ _ v.granted)

  abbrev left : ℕ → ℕ → Answer
  left m k = record { made = min k (limit - m); refusal = cond (ltb (limit - m) k) (Some (plain_fault 18)) None }

  record Both (k m : ℕ) (w : Held S) : Type 0 where
    room : Now (min (m + k) limit) (held_ticks step k w)
    reply : answer_ticks step k w ≡ left m k

  same_left : (x m k : ℕ) → x ≡ suc m → ltb x (suc k) ≡ ltb m k
  same_left x m k e = go (cases_lt m k)
    where
      go : (m < k) ⊎ (k ≤ m) → ltb x (suc k) ≡ ltb m k
      go (inl h) = lt-ltb x (suc k) (omega arith) ∙ sym (lt-ltb m k h)
      go (inr h) = le-ltb x (suc k) (omega arith) ∙ sym (le-ltb m k h)

  one_less : (m k : ℕ) → m < limit → record { made = suc (left (suc m) k).made; refusal = (left (suc m) k).refusal } ≡ left m (suc k)
  one_less m k h =
      let a : suc (min k (limit - suc m)) ≡ min (suc k) (limit - m) = omega arith in
      let b : ltb (limit - m) (suc k) ≡ ltb (limit - suc m) k = same_left (limit - m) (limit - suc m) k (omega arith) in
      ap₂ (λ x y. record { made = x; refusal = cond y (Some (plain_fault 18)) None }) a (sym b)

  none_left : (m k : ℕ) → limit ≤ m → record { made = 0; refusal = Some (plain_fault 18) } ≡ left m (suc k)
  none_left m k h =
      let a : 0 ≡ min (suc k) (limit - m) = omega arith in
      ap₂ (λ x y. record { made = x; refusal = y }) a (sym (cond-true _ _ _ (lt-ltb (limit - m) (suc k) (omega arith))))

  some-ticks : (k m : ℕ) (w : Held S) → m ≤ limit → Now m w → Both k m w
  unfolding held_ticks answer_ticks
  some-ticks zero m w l v =
      let e : min (m + 0) limit ≡ m = omega arith in
      let z : min 0 (limit - m) ≡ 0 = omega arith in
      record { room = subst (λ q. Now q w) (sym e) v; reply = ap₂ (λ x y. record { made = x; refusal = y }) (sym z) (sym (cond-false _ _ _ (le-ltb (limit - m) 0 (omega arith)))) }
  some-ticks (suc k) m w l v = go (cases_lt m limit) (some-ticks k (suc m))
    where
      go : (m < limit) ⊎ (limit ≤ m) → ((u : Held S) → suc m ≤ limit → Now (suc m) u → Both k (suc m) u) → Both (suc k) m w
      go (inl h) ih = by (one-tick m w v h)
        where
          by : (u : Held S) × (try_tick step w ≡ Tried.gone u) × Now (suc m) u → Both (suc k) m w
          by (u, e, y) = from (ih u h y)
            where
              q : min (suc m + k) limit ≡ min (m + suc k) limit
              q = ap (λ x. min x limit) (omega arith)

              from : Both k (suc m) u → Both (suc k) m w
              from z = record {
                room = subst (Now (min (m + suc k) limit)) (sym (ap (λ o. held_on step o (held_ticks step k)) e)) (subst (λ x. Now x (held_ticks step k u)) q z.room);
                reply = ap (λ o. answer_on step o (answer_ticks step k)) e ∙ ap (λ (x : Answer). record { made = suc x.made; refusal = x.refusal }) z.reply ∙ one_less m k h;
              }
      go (inr h) ih = by (subst (λ x. Now x w) at-limit v)
        where
          at-limit : m ≡ limit
          at-limit = omega arith

          q : limit ≡ min (m + suc k) limit
          q = omega arith

          by : Now limit w → Both (suc k) m w
          by y = record {
            room = subst (Now (min (m + suc k) limit)) (sym (ap (λ o. held_on step o (held_ticks step k)) (no_more w y))) (subst (λ x. Now x w) q y);
            reply = ap (λ o. answer_on step o (answer_ticks step k)) (no_more w y) ∙ none_left m k h;
          }

  calls : (cs : List Call) (m : ℕ) (w : Held S) → m ≤ limit → Now m w → Now (min (m + asked cs) limit) (held_calls step cs w)
  unfolding held_calls asked
  calls [] m w l v = let e : min (m + 0) limit ≡ m = omega arith in subst (λ q. Now q w) (sym e) v
  calls (c ∷ cs) m w l v =
      let q : min (min (m + wants c) limit + asked cs) limit ≡ min (m + (wants c + asked cs)) limit = omega arith in
      subst (λ x. Now x (held_calls step cs (held_ticks step (wants c) w))) q (calls cs (min (m + wants c) limit) (held_ticks step (wants c) w) (omega arith) (some-ticks (wants c) m w l v).room)

  now-after : (w : Held S) → Now 0 w → (cs : List Call) → Now (min (asked cs) limit) (held_calls step cs w)
  now-after w v cs = let e : 0 + asked cs ≡ asked cs = omega arith in subst (λ x. Now (min x limit) (held_calls step cs w)) e (calls cs 0 w (omega arith) v)

  replies : (w : Held S) → Now 0 w → (cs : List Call) (c : Call) → answer_ticks step (wants c) (held_calls step cs w) ≡ due_answer (asked cs) c
  replies w v cs c = (some-ticks (wants c) (min (asked cs) limit) (held_calls step cs w) (omega arith) (now-after w v cs)).reply
      ∙ ap (λ x. record { made = min (wants c) x; refusal = cond (ltb x (wants c)) (Some (plain_fault 18)) None }) same
    where
      same : limit - min (asked cs) limit ≡ limit - asked cs
      same = omega arith

module _ {S : Type 0} (next : S → Work → S) (answer : S → Work → ℕ) (law : Lawful S next answer) (knows : ℕ → ℕ → ℕ → Bool) (r : ℕ → Row) (n L : ℕ) (kp : ℕ → Keep) (nk stations variables : ℕ)
    (basis : (ℕ → Option ℕ) → ℕ → Option ℕ) (p : S) (lim : Limits r n L kp nk stations variables)
    (ok : (c : ℕ → Option ℕ) → Accepted r n L (start_of kp nk c) (basis c)) (fit : Fit next answer knows r n L kp nk stations) where
  abbrev step : ℕ → Noted S → Did (Noted S)
  step = tick_once next answer knows r n L kp nk (2 * stations)

  abbrev bare : ℕ → Bench S → Option (Bench S)
  bare = tick next answer knows r n L kp nk (2 * stations)

  abbrev run : ℕ → Option (Bench S)
  run m = ticks next answer knows r n L kp nk (2 * stations) 0 m (new_bench p)

  abbrev same_step : (m : ℕ) (s : Noted S) → erase (step m s) ≡ bare m s.bench
  same_step = on-tick next answer knows r n L kp nk (2 * stations)

  on' : (m : ℕ) (b : Bench S) → run m ≡ Some b → run (suc m) ≡ bare m b
  on' = goes next answer law knows r n L kp nk stations variables basis p lim ok fit

  every' : (m : ℕ) → (b : Bench S) × (run m ≡ Some b)
  every' = all next answer law knows r n L kp nk stations variables basis p lim ok fit

  start : Now step bare same_step run on' every' 0 (new_held p)
  unfolding ticks
  start = record { granted = refl; still = refl; bench = refl }

  at : (cs : List Call) → Now step bare same_step run on' every' (min (asked cs) limit) (held_after next answer knows r n L kp nk stations p cs)
  at cs = now-after step bare same_step run on' every' (new_held p) start cs

  there : (cs : List Call) → run (held_after next answer knows r n L kp nk stations p cs).granted ≡ Some (held_after next answer knows r n L kp nk stations p cs).state.bench
  there cs = ap run (at cs).granted ∙ (at cs).bench

  kept : Kept next answer knows r n L kp nk stations p
  kept = record {
    programs = programs-keep r n L kp nk stations variables basis lim ok;
    granted = λ cs. (at cs).granted;
    going = λ cs. (at cs).still;
    answers = λ cs c. replies step bare same_step run on' every' (new_held p) start cs c;
    cycles = λ cs q e. holds next answer law knows r n L kp nk stations variables basis p lim ok fit (held_after next answer knows r n L kp nk stations p cs).granted (held_after next answer knows r n L kp nk stations p cs).state.bench q (there cs) e;
    marks = λ cs k l. marked next answer law knows r n L kp nk stations variables basis p lim ok fit (held_after next answer knows r n L kp nk stations p cs).granted (held_after next answer knows r n L kp nk stations p cs).state.bench k (there cs) l;
    sends = sends-apart next answer knows r n L kp nk basis p ok;
  }

pub numbered-stands : {S : Type 0} (next : S → Work → S) (answer : S → Work → ℕ) → Lawful S next answer → NumberedPromise S next answer
numbered-stands next answer law knows r n L kp nk stations variables basis p lim ok fit = kept next answer law knows r n L kp nk stations variables basis p lim ok fit
