-- Reading pairs from a part of the bytes, and on from a position.
use Rattle.std.proofs.Common.{◌≡◌, ℕ, zero, suc, ◌+◌, ◌-◌, ◌<◌, ◌≤◌, Bor, Bool, true, false, cond, ◌&&◌, eqb, ltb, List, [], ◌∷◌, length, get_or, drop, set, Some, None, Ok, Err, Option, Result, sym, refl, ap, ◌∙◌, ap₂, ⊎_elim, add_assoc, zero-add, arith}
use denote.Param.Members.{Mut}
use Rattle.std.specs.Fn.{CalledAt}
use Rattle.std.specs.Iterator.{Yields, YieldsThen, FindsItem}
use Rattle.std.specs.List.{FoldsTo}
use Rattle.std.specs.Option.{IfSome, option_map, option_map_or}
use Rattle.std.specs.Result.{result_ok}
use Rattle.std.proofs.lemmas.List.{drop-drop}
use Rattle.fault.specs.declared.refusal.Fault.{Fault}
use Rattle.fault.specs.declared.refusal.Refusal.{Refusal}
use Rattle.fault.specs.declared.refusal.Refusal.TheVariants.{Trailing}
use Rattle.fault.specs.declared.place.Offset.{Offset}
use Rattle.wire.specs.Numbers.{numeral, number_at, after_number, value_of, next_of, fault_at, and_then}
use Rattle.std.proofs.lemmas.Bool.{eq-eqb, eqb-true, lt-ltb, le-ltb, and_parts, or_cases}
use Rattle.plant.specs.Model.{Work, knows, leaves}
use Rattle.plant.specs.Replies.{replied}
use Rattle.plant.specs.Script.{script, next_word, later_words, pair_at, after_pair, pair_and, pair_here, read_on, unread, unused_by, unused_from, words_of, pairs_at, pairs_end, script_read, script_at_first}
use Rattle.plant.specs.Pairs.{pairs_left, next_pair}
use Rattle.plant.specs.declared.script.Cursor.{Cursor}
use Rattle.plant.specs.declared.script.Pairs.{Pairs}

-- A pair of two numbers that were read or not, the second from where the first ended.
second : (p q v : ℕ) (y : Result (ℕ × ℕ) Refusal) (k : ℕ) → p + k ≡ q
    → pair_and (and_then (value_of k y) (λ w. Ok (v, w))) (p + next_of k y)
    ≡ pair_and (and_then (value_of q y) (λ w. Ok (v, w))) (next_of q y)
second p q v (Ok wn) k e = ap (λ (n : ℕ). Some (v, wn.0, n)) (sym (add_assoc p k wn.1) ∙ ap (λ (m : ℕ). m + wn.1) e)
second p q v (Err f) k e = refl

first : (bs : List ℕ) (pos : ℕ) (x : Result (ℕ × ℕ) Refusal)
    → pair_and (and_then (value_of 0 x) (λ v. and_then (number_at (drop pos bs) (next_of 0 x)) (λ w. Ok (v, w)))) (pos + after_number (drop pos bs) (next_of 0 x))
    ≡ pair_and (and_then (value_of pos x) (λ v. and_then (number_at bs (next_of pos x)) (λ w. Ok (v, w)))) (after_number bs (next_of pos x))
first bs pos (Err f) = refl
first bs pos (Ok vn) =
    rw (zero-add, drop-drop vn.1 pos bs) (second pos (pos + vn.1) vn.0 (numeral 4 true (drop (pos + vn.1) bs)) vn.1 refl)

-- A pair that is read from the bytes after `pos`.
pub pair-after : (bs : List ℕ) (pos : ℕ)
    → pair_and (pair_at (drop pos bs) 0) (pos + after_pair (drop pos bs) 0) ≡ pair_here bs pos
pair-after bs pos = first bs pos (numeral 4 true (drop pos bs))

-- What a reader of the bytes `ys` after `pos` finds.
module _ (bs ys : List ℕ) (pos p : ℕ) (part : ys ≡ drop pos bs) (start : p ≡ 0) where
  found : (r : Result (ℕ × ℕ) (Fault Offset)) (e : ℕ) → r ≡ pair_at ys p → e ≡ after_pair ys p → pair_and r (pos + e) ≡ pair_here bs pos
  found r e h k =
      ap₂ (λ (x : Result (ℕ × ℕ) (Fault Offset)) (n : ℕ). pair_and x (pos + n)) (h ∙ ap₂ pair_at part start) (k ∙ ap₂ after_pair part start)
      ∙ pair-after bs pos

  pub pair-found : (r : Result (ℕ × ℕ) (Fault Offset)) (e : ℕ) (o : Option (ℕ × ℕ)) → r ≡ pair_at ys p → e ≡ after_pair ys p → o ≡ result_ok r
      → option_map (λ q. (q.0, q.1, pos + e)) o ≡ pair_here bs pos
  pair-found (Ok v) e o h k l = rw l (found (Ok v) e h k)
  pair-found (Err f) e o h k l = rw l (found (Err f) e h k)

-- The search for a station's pair passes over those of other stations.
module _ {F : Type 0} (R : F → ℕ × ℕ → Bool → F → Type 0) (f : F) (station : ℕ)
    (each : (x : ℕ × ℕ) (b : Bool) (q : F) → R f x b q → (q ≡ f) × (b ≡ eqb x.0 station)) where
  passed : (xs : List (ℕ × ℕ)) (g : F) (s t : Pairs) → Yields next_pair s xs t → FoldsTo (λ p x q. R p x false q) f xs g
      → (g ≡ f) × (t.bytes ≡ s.bytes) × (words_of station (pairs_left s) ≡ words_of station (pairs_left t))
  passed [] g s t y h = (sym h, ap (λ (z : Pairs). z.bytes) (sym y), ap (λ (z : Pairs). words_of station (pairs_left z)) y)
  passed (x ∷ xs) g s t y h =
      let j = y.0 in
      let a = each x false h.0 h.1 in
      let i = passed xs g j t y.2 (rw a.0 at h.2) in
      (i.0, i.1 ∙ y.1.1, ap (words_of station) y.1.0 ∙ rw (← a.1) i.2)

  same : (s u : Pairs) → u.bytes ≡ s.bytes → unused_by s.bytes.now station u.cursor ≡ words_of station (pairs_left u)
  same s u b = ap (λ (bs : Bor (List ℕ)). unused_by bs.now station u.cursor) (sym b)

  searched : (r : Option (ℕ × ℕ)) (s u : Pairs)
      → (xs : List (ℕ × ℕ)) × (g : F) × YieldsThen next_pair s xs r u × FoldsTo (λ p x q. R p x false q) f xs g × IfSome r (λ x. (h : F) × R g x true h)
      → (option_map_or (λ x. x.1) r 0 ≡ next_word (words_of station (pairs_left s)))
      × (unused_by s.bytes.now station u.cursor ≡ later_words (words_of station (pairs_left s)))
  searched None s u h =
      let p = passed h.0 h.1 s h.2.0 h.2.1 h.3 in
      let e : words_of station (pairs_left s) ≡ [] = p.2 ∙ ap (words_of station) h.2.2.0.0 in
      (sym (ap next_word e), same s u (h.2.2.1 ∙ p.1) ∙ ap (words_of station) h.2.2.0.1 ∙ sym (ap later_words e))
  searched (Some x) s u h =
      let p = passed h.0 h.1 s h.2.0 h.2.1 h.3 in
      let a = each x true h.4.0 (rw p.0 at h.4.1) in
      let e : words_of station (pairs_left s) ≡ x.1 ∷ words_of station (pairs_left u) = p.2 ∙ ap (words_of station) h.2.2.0 ∙ rw (← a.1) in
      (sym (ap next_word e), same s u (h.2.2.1 ∙ p.1) ∙ sym (ap later_words e))

-- The word that `find` comes to, and the words after it.
pub found-word : {F : Type 0} (g : Mut F (Bor (ℕ × ℕ) × Unit {0}) Bool) (f : F) (station : ℕ) (r : Option (ℕ × ℕ)) (s u : Pairs)
    → FindsItem next_pair g s f r u
    → ((x : ℕ × ℕ) (b : Bool) (q : F) → CalledAt g f x b q → (q ≡ f) × (b ≡ eqb x.0 station))
    → (option_map_or (λ x. x.1) r 0 ≡ next_word (words_of station (pairs_left s)))
    × (unused_by s.bytes.now station u.cursor ≡ later_words (words_of station (pairs_left s)))
found-word g f station r s u h each = searched (CalledAt g) f station each r s u h

-- Where pairs end, one pair on.
pub end_more : (bs : List ℕ) (n i p : ℕ) → i < n
    → pairs_end (n - i) bs p ≡ and_then (pair_at bs p) (λ _. pairs_end (n - (i + 1)) bs (after_pair bs p))
end_more bs n i p h =
    let e : n - i ≡ suc (n - (i + 1)) = omega arith in
    ap (λ (k : ℕ). pairs_end k bs p) e

module _ (bs ys : List ℕ) (n i p : ℕ) (same : ys ≡ bs) (some : i < n) where
  pub end_on : (v : ℕ × ℕ) (q : ℕ) → Ok v ≡ pair_at ys p → q ≡ after_pair ys p → pairs_end (n - i) bs p ≡ pairs_end (n - (i + 1)) bs q
  end_on v q h k =
      end_more bs n i p some
      ∙ ap₂ (λ (r : Result (ℕ × ℕ) (Fault Offset)) (a : ℕ). and_then r (λ _. pairs_end (n - (i + 1)) bs a))
      (sym (h ∙ ap (λ (zs : List ℕ). pair_at zs p) same)) (sym (k ∙ ap (λ (zs : List ℕ). after_pair zs p) same))

  pub end-stops : (f : Fault Offset) → Err f ≡ pair_at ys p → pairs_end (n - i) bs p ≡ Err f
  end-stops f h =
      end_more bs n i p some
      ∙ ap (λ (r : Result (ℕ × ℕ) (Fault Offset)). and_then r (λ _. pairs_end (n - (i + 1)) bs (after_pair bs p)))
      (sym (h ∙ ap (λ (zs : List ℕ). pair_at zs p) same))

-- Pairs that can all be read are those that are read on.
pub pairs_end_lem : (n : ℕ) (bs : List ℕ) (p : ℕ) → pairs_at n bs p ≡ and_then (pairs_end n bs p) (λ e. Ok (unread n bs p, e))
pairs_end_lem zero bs p = refl
pairs_end_lem (suc n) bs p = first (pair_at bs p) (pairs_end_lem n bs (after_pair bs p))
  where
    rest : (v : ℕ × ℕ) (t : List (ℕ × ℕ)) (y : Result ℕ (Fault Offset))
        → and_then {A = List (ℕ × ℕ) × ℕ} {B = List (ℕ × ℕ) × ℕ} (and_then y (λ e. Ok (t, e))) (λ ps. Ok (v ∷ ps.0, ps.1))
        ≡ and_then y (λ e. Ok (v ∷ t, e))
    rest v t (Ok e) = refl
    rest v t (Err f) = refl

    first : (x : Result (ℕ × ℕ) (Fault Offset))
        → pairs_at n bs (after_pair bs p) ≡ and_then (pairs_end n bs (after_pair bs p)) (λ e. Ok (unread n bs (after_pair bs p), e))
        → and_then {B = List (ℕ × ℕ) × ℕ} x (λ v. and_then (pairs_at n bs (after_pair bs p)) (λ ps. Ok (v ∷ ps.0, ps.1)))
        ≡ and_then {B = List (ℕ × ℕ) × ℕ} (and_then x (λ _. pairs_end n bs (after_pair bs p))) (λ e. Ok (read_on (pair_and x (after_pair bs p)) (unread n bs), e))
    first (Ok v) ih =
        ap (λ (r : Result (List (ℕ × ℕ) × ℕ) (Fault Offset)). and_then {B = List (ℕ × ℕ) × ℕ} r (λ ps. Ok (v ∷ ps.0, ps.1))) ih
        ∙ rest v (unread n bs (after_pair bs p)) (pairs_end n bs (after_pair bs p))
    first (Err f) ih = refl

-- What is read once the count is.
pub read-on : (bs ys : List ℕ) (n p q : ℕ) → ys ≡ bs → p ≡ 0 → Ok n ≡ number_at ys p → q ≡ after_number ys p
    → script_read bs ≡ and_then (pairs_end n bs q) (λ e.
    and_then (cond (ltb e (length bs)) (Err (fault_at Trailing e)) (Ok (unread n bs q))) (λ ps. Ok (script_at_first ps)))
read-on bs ys n p q same start h k =
    ap₂ (λ (r : Result ℕ (Fault Offset)) (a : ℕ).
    and_then {B = List (List ℕ)} (and_then r (λ m. and_then (pairs_at m bs a) (λ ps.
    cond (ltb ps.1 (length bs)) (Err (fault_at Trailing ps.1)) (Ok ps.0)))) (λ ps. Ok (script_at_first ps)))
    (sym (h ∙ ap₂ number_at same start)) (sym (k ∙ ap₂ after_number same start))
    ∙ ap (λ (r : Result (List (ℕ × ℕ) × ℕ) (Fault Offset)).
    and_then {B = List (List ℕ)} (and_then r (λ ps.
    cond (ltb ps.1 (length bs)) (Err (fault_at Trailing ps.1)) (Ok ps.0))) (λ ps. Ok (script_at_first ps))) (pairs_end_lem n bs q)
    ∙ last (pairs_end n bs q)
  where
    last : (y : Result ℕ (Fault Offset))
        → and_then {B = List (List ℕ)} (and_then {A = List (ℕ × ℕ) × ℕ} (and_then y (λ e. Ok (unread n bs q, e))) (λ ps.
        cond (ltb ps.1 (length bs)) (Err (fault_at Trailing ps.1)) (Ok ps.0))) (λ ps. Ok (script_at_first ps))
        ≡ and_then y (λ e. and_then (cond (ltb e (length bs)) (Err (fault_at Trailing e)) (Ok (unread n bs q))) (λ ps. Ok (script_at_first ps)))
    last (Ok e) = refl
    last (Err f) = refl

-- What a script is read as, by how its pairs end.
module _ (bs ys zs : List ℕ) (n p q r : ℕ) (front : ys ≡ bs) (start : p ≡ 0) (count : Ok n ≡ number_at ys p)
    (on : q ≡ after_number ys p) (back : zs ≡ bs) (there : q ≡ r) where
  ends : (y : Result ℕ (Fault Offset)) → y ≡ pairs_end n zs r → script_read bs ≡ and_then y (λ e.
      and_then (cond (ltb e (length bs)) (Err (fault_at Trailing e)) (Ok (unread n bs q))) (λ ps. Ok (script_at_first ps)))
  ends y h =
      read-on bs ys n p q front start count on
      ∙ ap (λ (x : Result ℕ (Fault Offset)). and_then x (λ e.
      and_then (cond (ltb e (length bs)) (Err (fault_at Trailing e)) (Ok (unread n bs q))) (λ ps. Ok (script_at_first ps))))
      (sym (h ∙ ap₂ (pairs_end n) back (sym there)))

  pub read-stops : (f : Fault Offset) → Err f ≡ pairs_end n zs r → Err f ≡ script_read bs
  read-stops f h = sym (ends (Err f) h)

  pub read-trails : (e : ℕ) → Ok e ≡ pairs_end n zs r → e < length bs → Err (fault_at Trailing e) ≡ script_read bs
  read-trails e h l = sym (ends (Ok e) h ∙ rw (lt-ltb e (length bs) l))

  pub read_all : (e : ℕ) → Ok e ≡ pairs_end n zs r → length bs ≤ e → Ok (script_at_first (unread n bs q)) ≡ script_read bs
  read_all e h l = sym (ends (Ok e) h ∙ rw (le-ltb e (length bs) l))

abbrev no_cursor : Cursor
no_cursor = record { pos = 0; left = 0 }

-- The unused words of one station among those of all.
unused-at : (bs : List ℕ) (i : ℕ) (cs : List Cursor) (k : ℕ)
    → get_or (unused_from bs i cs) k [] ≡ unused_by bs (i + k) (get_or cs k no_cursor)
unused-at bs i [] k = refl
unused-at bs i (c ∷ cs) zero = let e : i + 0 ≡ i = omega arith in rw e
unused-at bs i (c ∷ cs) (suc k) =
    let e : suc i + k ≡ i + suc k = omega arith in rw e at (unused-at bs (suc i) cs k)

unused-set : (bs : List ℕ) (i : ℕ) (cs : List Cursor) (k : ℕ) (c : Cursor)
    → unused_from bs i (set cs k c) ≡ set (unused_from bs i cs) k (unused_by bs (i + k) c)
unused-set bs i [] k c = refl
unused-set bs i (b ∷ cs) zero c = let e : i + 0 ≡ i = omega arith in rw e
unused-set bs i (b ∷ cs) (suc k) c =
    let e : suc i + k ≡ i + suc k = omega arith in
    ap (λ (ss : List (List ℕ)). unused_by bs i b ∷ ss) (rw e at (unused-set bs (suc i) cs k c))

-- A known work of a script that does not copy takes a word.
takes : (w : Work) → knows script w ≡ true → (w.number ≡ 1 → ⊥) → w.number ≡ 20
takes w h ne =
    ⊎_elim (λ p. eqb-true w.number 20 (and_parts _ _ p).0) (λ p. absurd (ne (eqb-true w.number 1 (and_parts _ _ p).0)))
    (or_cases (eqb w.number 20 && eqb w.count 0) (eqb w.number 1 && eqb w.count 1) (and_parts (ltb w.station 8) _ h).1)

module _ (bs : List ℕ) (cs : List Cursor) (w : Work) (known : knows script w ≡ true) (ne : w.number ≡ 1 → ⊥) where
  mine : unused_by bs w.station (get_or cs w.station no_cursor) ≡ get_or (unused_from bs 0 cs) w.station []
  mine = let e : 0 + w.station ≡ w.station = zero-add w.station in sym (rw e at (unused-at bs 0 cs w.station))

  pub word-taken : (word : ℕ) → word ≡ next_word (unused_by bs w.station (get_or cs w.station no_cursor))
      → Ok word ≡ replied script (unused_from bs 0 cs) w
  word-taken word h =
      rw (known, eq-eqb w.number 20 (takes w known ne)) (ap (λ (n : ℕ). Ok n) (h ∙ ap next_word mine))

  pub word-used : (c : Cursor) → unused_by bs w.station c ≡ later_words (unused_by bs w.station (get_or cs w.station no_cursor))
      → unused_from bs 0 (set cs w.station c) ≡ leaves script (unused_from bs 0 cs) w
  word-used c h =
      let e : 0 + w.station ≡ w.station = zero-add w.station in
      rw (known, eq-eqb w.number 20 (takes w known ne))
      (rw e at (unused-set bs 0 cs w.station c) ∙ ap (λ (ws : List ℕ). set (unused_from bs 0 cs) w.station ws) (h ∙ ap later_words mine))
