-- The steps of a program's rows of all dates before one.
use Rattle.std.proofs.Common.{◌≡◌, ℕ, zero, suc, ◌+◌, ◌-◌, ◌*◌, ◌<◌, ◌≤◌, Bool, true, false, cond, ◌&&◌, eqb, ltb, ◌⊎◌, List, [], ◌∷◌, filter, length, sum_by, sym, refl, ap, ◌∙◌, inl, inr, add-zero, zero-add, add-one, arith}
use Rattle.std.proofs.lemmas.Bool.{cases_lt, cases_eq, lt-ltb, le-ltb, ltb-false, eq-eqb, ne_eqb}
use Rattle.std.proofs.lemmas.List.Sums.{sum_by-cons}
use Rattle.sheet.specs.declared.row.Row.{Row}
use Rattle.translate.specs.Translation.{belongs, date_of, is_date, first_date, rows_length}
use Rattle.translate.specs.Programs.{steps_in, early, early_steps}
use Rattle.translate.proofs.Counts.{due, steps-of-date}
use Rattle.translate.proofs.Dates.{date-from-steps}
use Rattle.translate.proofs.Lengths.{none_between, rows_few}

pick : (row : Row) (rows : List Row) (b : Bool) → sum_by steps_in (cond b (row ∷ rows) rows) ≡ cond b (steps_in row) 0 + sum_by steps_in rows
pick row rows true = sum_by-cons steps_in row rows
pick row rows false = sym (zero-add _)

-- An earlier date than the next is an earlier one or this one.
parted : (b : Bool) (d x s : ℕ) → cond (b && ltb d (x + 1)) s 0 ≡ cond (b && ltb d x) s 0 + cond (b && eqb d x) s 0
parted false d x s = refl
parted true d x s = go (cases_lt d x) (cases_eq d x)
  where
    go : (d < x) ⊎ (x ≤ d) → (d ≡ x) ⊎ (d ≡ x → ⊥) → cond (ltb d (x + 1)) s 0 ≡ cond (ltb d x) s 0 + cond (eqb d x) s 0
    go (inl l) n = rw (lt-ltb d (x + 1) (omega arith), lt-ltb d x l, ne_eqb d x (λ e. omega arith)) (sym (add-zero s))
    go (inr l) (inl e) = rw (lt-ltb d (x + 1) (omega arith), le-ltb d x l, eq-eqb d x e) (sym (zero-add s))
    go (inr l) (inr n) = let more : x + 1 ≤ d = omega (arith, n) in rw (le-ltb d (x + 1) more, le-ltb d x l, ne_eqb d x n) refl

early-more : (p x : ℕ) (rows : List Row) → early_steps p rows (x + 1) ≡ early_steps p rows x + sum_by steps_in (filter (due p x) rows)
early-more p x [] = refl
early-more p x (row ∷ rows) =
    let next = pick row (filter (early p (x + 1)) rows) (early p (x + 1) row) in
    let now = pick row (filter (early p x) rows) (early p x row) in
    let here = pick row (filter (due p x) rows) (due p x row) in
    let part = parted (belongs p row) (date_of row) x (steps_in row) in
    let rest = early-more p x rows in
    omega arith

pub early-none : (p : ℕ) (rows : List Row) → early_steps p rows 0 ≡ 0
early-none p [] = refl
early-none p (row ∷ rows) =
    let all = pick row (filter (early p 0) rows) (early p 0 row) in
    let none = never (belongs p row) in
    let rest = early-none p rows in
    omega arith
  where
    never : (b : Bool) → cond (b && ltb (date_of row) 0) (steps_in row) 0 ≡ 0
    never false = refl
    never true = rw (le-ltb (date_of row) 0 (omega arith)) refl

module _ (cycle : ℕ) (rows : List Row) (p : ℕ) where
  -- The rows of one date more.
  pub early-step : (x : ℕ) → early_steps p rows (x + 1) ≡ early_steps p rows x + rows_length cycle rows p x 0 (length rows)
  early-step x = early-more p x rows ∙ ap (λ (k : ℕ). early_steps p rows x + k) (steps-of-date cycle rows p x)

  no-steps : (x : ℕ) → is_date cycle rows p x ≡ false → rows_length cycle rows p x 0 (length rows) ≡ 0
  no-steps x e = let few = ltb-false 0 _ (sym (date-from-steps cycle rows p x (length rows)) ∙ e) in omega arith

  early-skips : (e k : ℕ) → e + k ≤ first_date cycle rows p e → early_steps p rows (e + k) ≡ early_steps p rows e
  early-skips e zero l = ap (early_steps p rows) (add-zero e)
  early-skips e (suc k) l =
      let z : e + suc k ≡ e + k + 1 = omega arith in
      ap (early_steps p rows) z ∙ early-step (e + k)
      ∙ ap (λ (n : ℕ). early_steps p rows (e + k) + n) (no-steps (e + k) (none_between cycle rows p e (e + k) (omega arith) (omega arith)))
      ∙ add-zero _ ∙ early-skips e k (omega arith)

  pub early-skip : (e x : ℕ) → e ≤ x → x ≤ first_date cycle rows p e → early_steps p rows x ≡ early_steps p rows e
  early-skip e x a b = let z : e + (x - e) ≡ x = omega arith in ap (early_steps p rows) (sym z) ∙ early-skips e (x - e) (omega arith)

  -- Seven steps a row at most, and 128 rows.
  pub early-few : length rows ≤ 128 → (x : ℕ) → early_steps p rows x ≤ 896 * x
  early-few few zero = let none = early-none p rows in omega arith
  early-few few (suc x) =
      let step = ap (early_steps p rows) (sym (add-one x)) ∙ early-step x in
      let most = rows_few cycle rows p x (length rows) 0 in
      let rest = early-few few x in
      omega arith
