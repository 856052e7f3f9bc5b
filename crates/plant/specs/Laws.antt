-- The law of plants holds of each model.
use Rattle.std.specs.Prelude.{◌≡◌, ℕ, ◌<◌, Bool, true, false, cond, ◌&&◌, ◌||◌, List, [], set, ◌==◌, ◌≢◌, nat_lt, slice_index, slice_index_or, slice_set, refl}
use Rattle.std.proofs.Common.{sym, ap, ◌∙◌, ⊎_elim, arith}
use Rattle.std.proofs.lemmas.List.{set_comm, get_or-set_other}
use Rattle.std.proofs.lemmas.Bool.{and_parts, or_cases, ltb-true, eqb-true}
use Rattle.plant.specs.Model.{Apart, Work, Elsewhere}
use Rattle.plant.specs.Reckoner.{reckoner}
use Rattle.plant.specs.Panel.{panel}
use Rattle.plant.specs.Script.{script, next_word, later_words, used}

-- A work with its count, or one of the rest.
either : (n work i count : ℕ) (rest : Bool) → n < 256 → ((work == n && count == i) || rest) ≡ true
    → (rest ≡ true → work < 256) → work < 256
either n work i count rest small h more =
    ⊎_elim (λ p. omega (arith, eqb-true work n (and_parts (work == n) (count == i) p).0)) more
    (or_cases (work == n && count == i) rest h)

only : (n work i count : ℕ) → n < 256 → (work == n && count == i) ≡ true → work < 256
only n work i count small h = omega (arith, eqb-true work n (and_parts (work == n) (count == i) h).0)

pub reckoner_apart : Apart reckoner
reckoner_apart = record {
  answers = λ v w p q ne s. refl;
  orders = λ v w p q ne s. refl;
  limits = λ station work count h.
      let p = and_parts (nat_lt station 8) _ h in (
        ltb-true station 8 p.0,
        either 1 work 1 count _ (omega arith) p.1 (λ q.
            either 2 work 2 count _ (omega arith) q (λ r.
            either 3 work 2 count _ (omega arith) r (λ t.
            either 4 work 2 count _ (omega arith) t (λ u.
            only 5 work 0 count (omega arith) u)))),
      );
}

pub panel_apart : Apart panel
panel_apart = record {
  answers = λ v w p q ne s.
      elim (v.number == 11) as (λ b. slice_index (cond b (slice_set s v.station v.first) s) w.station ≡ slice_index s w.station)
      [ true ↦ get_or-set_other s v.station w.station v.first 0 (λ e. ne (sym e)) | false ↦ refl ];
  orders = λ v w p q ne s. swapped v w ne s (v.number == 11) (w.number == 11);
  limits = λ station work count h.
      let p = and_parts (nat_lt station 8) _ h in
      (ltb-true station 8 p.0, either 10 work 0 count _ (omega arith) p.1 (λ q. only 11 work 1 count (omega arith) q));
}
  where
    swapped : (v w : Work) → Elsewhere v w → (s : List ℕ) (a b : Bool) →
        cond b (slice_set (cond a (slice_set s v.station v.first) s) w.station w.first) (cond a (slice_set s v.station v.first) s)
        ≡ cond a (slice_set (cond b (slice_set s w.station w.first) s) v.station v.first) (cond b (slice_set s w.station w.first) s)
    swapped v w ne s true true = set_comm s v.station w.station v.first w.first ne
    swapped v w ne s true false = refl
    swapped v w ne s false true = refl
    swapped v w ne s false false = refl

pub script_apart : Apart script
script_apart = record {
  answers = λ v w p q ne s. same v w ne s (v.number == 20) (w.number == 20);
  orders = λ v w p q ne s. swapped v w ne s (v.number == 20) (w.number == 20);
  limits = λ station work count h.
      let p = and_parts (nat_lt station 8) _ h in
      (ltb-true station 8 p.0, either 20 work 0 count _ (omega arith) p.1 (λ q. only 1 work 1 count (omega arith) q));
}
  where
    other : (s : List (List ℕ)) (i j : ℕ) → (i ≢ j) → slice_index_or (used s i) j [] ≡ slice_index_or s j []
    other s i j ne = get_or-set_other s i j (later_words (slice_index_or s i [])) [] (λ e. ne (sym e))

    same : (v w : Work) → Elsewhere v w → (s : List (List ℕ)) (a b : Bool) →
        cond b (next_word (slice_index_or (cond a (used s v.station) s) w.station [])) w.first
        ≡ cond b (next_word (slice_index_or s w.station [])) w.first
    same v w ne s true true = ap next_word (other s v.station w.station ne)
    same v w ne s true false = refl
    same v w ne s false b = refl

    twice : (s : List (List ℕ)) (i j : ℕ) → (i ≢ j) → used (used s i) j ≡ used (used s j) i
    twice s i j ne =
        ap (λ (ws : List ℕ). set (used s i) j (later_words ws)) (other s i j ne)
        ∙ set_comm s i j (later_words (slice_index_or s i [])) (later_words (slice_index_or s j [])) ne
        ∙ ap (λ (ws : List ℕ). set (used s j) i (later_words ws)) (sym (other s j i (λ e. ne (sym e))))

    swapped : (v w : Work) → Elsewhere v w → (s : List (List ℕ)) (a b : Bool) →
        cond b (used (cond a (used s v.station) s) w.station) (cond a (used s v.station) s)
        ≡ cond a (used (cond b (used s w.station) s) v.station) (cond b (used s w.station) s)
    swapped v w ne s true true = twice s v.station w.station ne
    swapped v w ne s true false = refl
    swapped v w ne s false true = refl
    swapped v w ne s false false = refl
