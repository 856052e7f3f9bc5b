-- One request more of a list.
use Rattle.std.proofs.Common.{◌≡◌, ℕ, suc, ◌+◌, ◌<◌, ◌≤◌, List, [], ◌∷◌, ◌++◌, length, get_or, drop, set, Ok, sym, refl, ap, ◌∙◌, zero-add, arith}
use lib.Seq.{paste}
use Rattle.std.proofs.lemmas.List.{drop_more, drop_all}
use Rattle.std.proofs.lemmas.List.Edits.{paste_more, paste_all}
use Rattle.std.proofs.lemmas.Bool.{le-ltb}
use Rattle.netcode.specs.declared.step.Step.{Step}
use Rattle.plant.specs.Model.{Model}
use Rattle.semantics.specs.declared.state.Reply.{Reply}
use Rattle.semantics.specs.declared.state.Request.{Request}
use Rattle.semantics.specs.declared.state.Request.TheVariants.{Tick}
use Rattle.semantics.specs.Machine.{World}
use Rattle.semantics.specs.Requests.{Served, ServedAll, served, served_all, after_first}
use Rattle.bench.proofs.Left.{head-is, tail-is}
use Rattle.bench.specs.Replies.{replied, answered, served_into}

module _ (m : Model) (ps : List (List Step)) where
  length-replies : (qs : List Request) (w : World m.State) → length (served_all m ps qs w).replies ≡ length qs
  unfolding served_all
  length-replies [] w = refl
  length-replies (q ∷ qs) w = ap suc (length-replies qs (served m ps q w).world)

  -- What is left of a list of requests gives the rest of its replies, and what stands at the end.
  abbrev pub Left : List Request → World m.State → ℕ → World m.State → Type 0
  Left qs w i v = served_all m ps (drop i qs) v ≡ record { replies = drop i (served_all m ps qs w).replies; world = (served_all m ps qs w).world }

  first_of : (q : Request) (qs : List Request) (v u : World m.State) (r : Reply) → replied r u ≡ served m ps q v
      → served_all m ps (q ∷ qs) v ≡ record { replies = r ∷ (served_all m ps qs u).replies; world = (served_all m ps qs u).world }
  unfolding served_all
  first_of q qs v u r e = ap (λ (s : Served m.State). after_first m ps s (served_all m ps qs)) (sym e)

  both : (qs : List Request) (w v u : World m.State) (i : ℕ) (r : Reply) → i < length qs → Left qs w i v → replied r u ≡ served m ps (get_or qs i Tick) v
      → ◌≡◌ {A = ServedAll m.State} (record { replies = r ∷ (served_all m ps (drop (i + 1) qs) u).replies; world = (served_all m ps (drop (i + 1) qs) u).world })
      (record { replies = drop i (served_all m ps qs w).replies; world = (served_all m ps qs w).world })
  both qs w v u i r h l e =
      sym (first_of (get_or qs i Tick) (drop (i + 1) qs) v u r e) ∙ ap (λ (xs : List Request). served_all m ps xs v) (sym (drop_more qs i Tick h)) ∙ l

  -- The reply at a place of the list, and what is left then.
  reply-is : (qs : List Request) (w v u : World m.State) (i : ℕ) (r d : Reply) → i < length qs → Left qs w i v → replied r u ≡ served m ps (get_or qs i Tick) v
      → get_or (served_all m ps qs w).replies i d ≡ r
  reply-is qs w v u i r d h l e = head-is _ i r _ (sym (ap (λ (s : ServedAll m.State). s.replies) (both qs w v u i r h l e))) d

  pub left-more : (qs : List Request) (w v u : World m.State) (i : ℕ) (r : Reply) → i < length qs → Left qs w i v → replied r u ≡ served m ps (get_or qs i Tick) v → Left qs w (i + 1) u
  left-more qs w v u i r h l e =
      let b = both qs w v u i r h l e in
      let t = tail-is _ i r _ (sym (ap (λ (s : ServedAll m.State). s.replies) b)) in
      let x = ap (λ (s : ServedAll m.State). s.world) b in
      ap (λ (rs : List Reply). record { replies = rs; world = (served_all m ps (drop (i + 1) qs) u).world }) (sym t)
      ∙ ap (λ (y : World m.State). record { replies = drop (i + 1) (served_all m ps qs w).replies; world = y }) x

  pub pasted-more : (qs : List Request) (w v u : World m.State) (i : ℕ) (r : Reply) (handed now : List Reply) → i < length qs → length qs ≤ length handed → Left qs w i v
      → replied r u ≡ served m ps (get_or qs i Tick) v → now ≡ paste handed 0 (served_all m ps qs w).replies i
      → set now i r ≡ paste handed 0 (served_all m ps qs w).replies (i + 1)
  pasted-more qs w v u i r handed now h k l e p =
      let all = (served_all m ps qs w).replies in
      let z : 0 + i ≡ i = zero-add i in
      ap (λ (xs : List Reply). set xs i r) p
      ∙ ap (λ (x : Reply). set (paste handed 0 all i) i x) (sym (reply-is qs w v u i r r h l e))
      ∙ ap (λ (j : ℕ). set (paste handed 0 all i) j (get_or all i r)) (sym z)
      ∙ paste_more handed 0 all i r (omega arith) (rw (length-replies qs w) h)

  -- At the end.
  pub all-served : (qs : List Request) (w v : World m.State) (i : ℕ) (handed now : List Reply) → i ≡ length qs → length qs ≤ length handed → Left qs w i v
      → now ≡ paste handed 0 (served_all m ps qs w).replies i → answered (Ok tt) now v ≡ served_into m ps qs handed w
  unfolding served_all
  all-served qs w v i handed now e k l p =
      let all = (served_all m ps qs w).replies in
      let d : drop i qs ≡ [] = drop_all i qs (omega arith) in
      let x : v ≡ (served_all m ps qs w).world = ap (λ (s : ServedAll m.State). s.world) (ap (λ (xs : List Request). served_all m ps xs v) (sym d) ∙ l) in
      let n : 0 + i ≡ length qs = omega arith in
      let y : now ≡ all ++ drop (length qs) handed = p ∙ paste_all handed 0 all i (e ∙ sym (length-replies qs w)) ∙ ap (λ (j : ℕ). all ++ drop j handed) n in
      rw (le-ltb (length handed) (length qs) k) (ap (λ (rs : List Reply). answered (Ok tt) rs v) y ∙ ap (λ (u : World m.State). answered (Ok tt) (all ++ drop (length qs) handed) u) x)
