-- The steps of a station's keep rows.
use Rattle.std.proofs.Common.{◌≡◌, ℕ, zero, suc, ◌+◌, ◌-◌, ◌*◌, ◌≤◌, Bool, true, false, cond, ◌==◌, List, [], ◌∷◌, ◌++◌, length, Option, Some, None, sym, refl, ap, ◌∙◌, ap₂, subst, append-nil, add-one, add-zero, arith, length-append}
use Rattle.std.proofs.lemmas.Bool.{cond-true, cond-false}
use Rattle.sheet.specs.declared.row.Keep.{Keep}
use Rattle.sheet.specs.declared.row.Row.{Row}
use Rattle.sheet.specs.declared.row.Row.TheVariants.{Keep as keep_row, Call as call_row, Send as send_row}
use Rattle.sheet.specs.Rows.{row_at}
use Rattle.netcode.specs.declared.step.Step.{Step}
use Rattle.netcode.specs.declared.step.Step.TheVariants.{Keep as keep_at, Give as give_at, Clear}
use Rattle.netcode.specs.Layouts.{station_of}
use Rattle.translate.specs.declared.code.Code.{Code}
use Rattle.translate.specs.Programs.{kept_in, made_of, kept_to, Writes}
use Rattle.translate.specs.Translation.{is_line, keep_step, give_step, keeps_to, gives_to, preparation}
use Rattle.translate.proofs.Counts.{kept-count}
use Rattle.translate.proofs.Writing.{writes_append}

-- The KEEP and the GIVE of a keep row.
abbrev pub keep_of : ℕ → Keep → Step
keep_of n k = keep_at k.taken n

abbrev pub give_of : ℕ → Keep → Step
give_of n k = give_at n k.given k.first

keep-made : (p n : ℕ) (row : Row) → keep_step p n row ≡ made_of keep_of n (kept_in p row)
keep-made p n (keep_row k) = go (k.station == station_of p)
  where
    go : (b : Bool) → cond b (keep_at k.taken n ∷ []) [] ≡ made_of keep_of n (cond b (Some k) None)
    go true = refl
    go false = refl
keep-made p n (call_row c) = refl
keep-made p n (send_row s) = refl

give-made : (p n : ℕ) (row : Row) → give_step p n row ≡ made_of give_of n (kept_in p row)
give-made p n (keep_row k) = go (k.station == station_of p)
  where
    go : (b : Bool) → cond b (give_at n k.given k.first ∷ []) [] ≡ made_of give_of n (cond b (Some k) None)
    go true = refl
    go false = refl
give-made p n (call_row c) = refl
give-made p n (send_row s) = refl

pub keeps-made : (rows : List Row) (p n : ℕ) → keeps_to rows p n ≡ kept_to keep_of rows p n
unfolding keeps_to kept_to
keeps-made rows p zero = refl
keeps-made rows p (suc n) = ap₂ (λ (xs ys : List Step). xs ++ ys) (keeps-made rows p n) (keep-made p n (row_at rows n))

pub gives-made : (rows : List Row) (p n : ℕ) → gives_to rows p n ≡ kept_to give_of rows p n
unfolding gives_to kept_to
gives-made rows p zero = refl
gives-made rows p (suc n) = ap₂ (λ (xs ys : List Step). xs ++ ys) (gives-made rows p n) (give-made p n (row_at rows n))

-- What a program does first, and how many steps that is where the station has k keep rows.
pub prepared-line : (rows : List Row) (p : ℕ) → is_line p ≡ true → preparation rows p ≡ []
prepared-line rows p e = cond-true _ _ _ e

pub prepared : (rows : List Row) (p : ℕ) → is_line p ≡ false
    → preparation rows p ≡ kept_to keep_of rows p (length rows) ++ (Clear ∷ kept_to give_of rows p (length rows))
prepared rows p e =
    cond-false (is_line p) [] (keeps_to rows p (length rows) ++ (Clear ∷ gives_to rows p (length rows))) e
    ∙ ap₂ (λ (xs ys : List Step). xs ++ (Clear ∷ ys)) (keeps-made rows p (length rows)) (gives-made rows p (length rows))

-- The two halves have as many steps.
pub prepared-room : (rows : List Row) (p : ℕ) → is_line p ≡ false
    → length (preparation rows p) ≡ length (kept_to keep_of rows p (length rows)) + 1 + length (keeps_to rows p (length rows))
prepared-room rows p e =
    let l = ap length (prepared rows p e) ∙ length-append (kept_to keep_of rows p (length rows)) (Clear ∷ kept_to give_of rows p (length rows)) in
    let same = sym (kept-count keep_of rows p) ∙ kept-count give_of rows p in
    let keeps = ap length (keeps-made rows p (length rows)) in
    omega arith

pub prepared-length : (rows : List Row) (p k : ℕ) → is_line p ≡ false → ((made : ℕ → Keep → Step) → k ≡ length (kept_to made rows p (length rows)))
    → length (preparation rows p) ≡ 2 * k + 1
prepared-length rows p k e f =
    let a = f keep_of in
    let b = f give_of in
    let l = ap length (prepared rows p e) ∙ length-append (kept_to keep_of rows p (length rows)) (Clear ∷ kept_to give_of rows p (length rows)) in
    omega arith

-- One row more.
module _ (made : ℕ → Keep → Step) (rows : List Row) (p : ℕ) where
  pub kept-none : kept_to made rows p 0 ≡ []
  unfolding kept_to
  kept-none = refl

  pub kept-more : (n : ℕ) → kept_to made rows p (n + 1) ≡ kept_to made rows p n ++ made_of made n (kept_in p (row_at rows n))
  unfolding kept_to
  kept-more n = ap (kept_to made rows p) (add-one n)

  pub kept-few : (n k : ℕ) → length (kept_to made rows p n) ≤ length (kept_to made rows p (n + k))
  kept-few n zero = let e = ap (λ (j : ℕ). length (kept_to made rows p j)) (add-zero n) in omega arith
  kept-few n (suc k) =
      let z : n + suc k ≡ n + k + 1 = omega arith in
      let e = ap (λ (j : ℕ). length (kept_to made rows p j)) z in
      let a = kept-few n k in
      let b = ap length (kept-more (n + k)) ∙ length-append (kept_to made rows p (n + k)) (made_of made (n + k) (kept_in p (row_at rows (n + k)))) in
      omega arith

  pub writes-row : (a b c : Code) (n : ℕ) (k : Keep) (s : Step) → Some k ≡ kept_in p (row_at rows n) → s ≡ made n k
      → Writes a b (kept_to made rows p n) → Writes b c (s ∷ []) → Writes a c (kept_to made rows p (n + 1))
  writes-row a b c n k s e f w v =
      let g : kept_to made rows p n ++ (s ∷ []) ≡ kept_to made rows p (n + 1)
      = sym (kept-more n ∙ ap (λ (o : Option Keep). kept_to made rows p n ++ made_of made n o) (sym e) ∙ ap (λ (t : Step). kept_to made rows p n ++ (t ∷ [])) (sym f)) in
      subst (Writes a c) g (writes_append a b c (kept_to made rows p n) (s ∷ []) w v)

  pub writes-no_row : (a b : Code) (n : ℕ) → kept_in p (row_at rows n) ≡ None → Writes a b (kept_to made rows p n) → Writes a b (kept_to made rows p (n + 1))
  writes-no_row a b n e w =
      subst (Writes a b) (sym (kept-more n ∙ ap (λ (o : Option Keep). kept_to made rows p n ++ made_of made n o) e ∙ append-nil _)) w

-- How many steps there are, and that they have room.
module _ (rows : List Row) (p : ℕ) where
  pub kept-length-none : length (keeps_to rows p 0) ≡ 0
  kept-length-none = ap length (keeps-made rows p 0 ∙ kept-none keep_of rows p)

  pub kept-length-more : (n : ℕ) (k : Keep) → Some k ≡ kept_in p (row_at rows n) → length (keeps_to rows p (n + 1)) ≡ length (keeps_to rows p n) + 1
  kept-length-more n k e =
      ap length (keeps-made rows p (n + 1) ∙ kept-more keep_of rows p n ∙ ap (λ (o : Option Keep). kept_to keep_of rows p n ++ made_of keep_of n o) (sym e))
      ∙ length-append (kept_to keep_of rows p n) (keep_of n k ∷ []) ∙ ap (λ (xs : List Step). length xs + 1) (sym (keeps-made rows p n))

  pub kept-length-same : (n : ℕ) → kept_in p (row_at rows n) ≡ None → length (keeps_to rows p (n + 1)) ≡ length (keeps_to rows p n)
  kept-length-same n e =
      ap length (keeps-made rows p (n + 1) ∙ kept-more keep_of rows p n ∙ ap (λ (o : Option Keep). kept_to keep_of rows p n ++ made_of keep_of n o) e ∙ append-nil _ ∙ sym (keeps-made rows p n))

  pub kept-length-few : (n m : ℕ) → n ≤ m → length (keeps_to rows p n) ≤ length (keeps_to rows p m)
  kept-length-few n m l =
      let e = ap length (keeps-made rows p n) in
      let f = ap length (keeps-made rows p m) in
      let z : n + (m - n) ≡ m = omega arith in
      let g = ap (λ (j : ℕ). length (kept_to keep_of rows p j)) z in
      let h = kept-few keep_of rows p n (m - n) in
      omega arith
