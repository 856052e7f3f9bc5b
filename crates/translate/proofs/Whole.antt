-- A program's blocks, one after the other.
use Rattle.std.proofs.Common.{◌≡◌, ℕ, ◌+◌, ◌≤◌, Bool, true, false, cond, ◌⊎◌, List, [], ◌∷◌, ◌++◌, length, count_by, sym, refl, ap, ◌∙◌, ap₂, inl, inr, subst, add-one, arith}
use Rattle.std.proofs.lemmas.Bool.{cases_Bool, cond-false}
use Rattle.std.proofs.lemmas.List.Sums.{count_by-le-length}
use Rattle.sheet.specs.declared.row.Row.{Row}
use Rattle.netcode.specs.declared.step.Step.{Step}
use Rattle.netcode.specs.declared.step.Step.TheVariants.{Halt}
use Rattle.translate.specs.declared.code.Code.{Code}
use Rattle.translate.specs.Programs.{Writes}
use Rattle.translate.specs.Translation.{is_line, is_date, first_date, rows_length, address, rows_code, code_to, wait_for, preparation, opening, opening_length, program_code}
use Rattle.translate.proofs.Counts.{is_kept, kept-count}
use Rattle.translate.proofs.Kept.{prepared-line, prepared-length}
use Rattle.translate.proofs.Lengths.{address-none, address-up, address-skip, address_more, code-none, code-skip, code-more, opening-length, program-length}
use Rattle.translate.proofs.Writing.{writes_append}

-- An opening that waits for the first date.
pub opened-later : (cycle : ℕ) (rows : List Row) (p : ℕ) → is_date cycle rows p 0 ≡ false
    → (opening cycle rows p ≡ preparation rows p ++ (wait_for cycle rows p (opening_length cycle rows p) 0 0 ∷ Halt ∷ []))
    × (opening_length cycle rows p ≡ length (preparation rows p) + 2)
opened-later cycle rows p e = (ap (λ (x : List Step). preparation rows p ++ x) (cond-false _ _ _ e), ap (λ (k : ℕ). length (preparation rows p) + k) (cond-false _ _ _ e))

module _ (cycle : ℕ) (rows : List Row) (p : ℕ) where
  pub opening-few : length rows ≤ 128 → opening_length cycle rows p ≤ 259
  opening-few l = go (cases_Bool (is_line p))
    where
      last : (b : Bool) (k : ℕ) → k ≤ 257 → k + cond b 0 2 ≤ 259
      last true k l = omega arith
      last false k l = omega arith

      go : (is_line p ≡ true) ⊎ (is_line p ≡ false) → opening_length cycle rows p ≤ 259
      go (inl e) = last (is_date cycle rows p 0) (length (preparation rows p)) (let f = ap length (prepared-line rows p e) in omega arith)
      go (inr e) =
          let f = prepared-length rows p (count_by (is_kept p) rows) e (λ made. kept-count made rows p) in
          let few = count_by-le-length (is_kept p) rows in
          last (is_date cycle rows p 0) (length (preparation rows p)) (omega arith)

  -- The address after the block of the first date not before another.
  pub address-next : (from date : ℕ) → from ≤ date → date ≡ first_date cycle rows p from → is_date cycle rows p date ≡ true
      → address cycle rows p (opening_length cycle rows p) (date + 1) ≡ address cycle rows p (opening_length cycle rows p) from + (rows_length cycle rows p date 0 (length rows) + 2)
  address-next from date l f q =
      let skip = address-skip cycle rows p (opening_length cycle rows p) from date l (omega arith) in
      let more = address_more cycle rows p (opening_length cycle rows p) date (rows_length cycle rows p date 0 (length rows)) q refl in
      let one = ap (address cycle rows p (opening_length cycle rows p)) (add-one date) in
      omega arith

  pub address-room : (date : ℕ) → date ≤ cycle → address cycle rows p (opening_length cycle rows p) date ≤ length (program_code cycle rows p)
  address-room date l =
      let up = address-up cycle rows p (opening_length cycle rows p) date cycle l in
      let all = program-length cycle rows p in
      omega arith

  pub opening-room : opening_length cycle rows p ≤ length (program_code cycle rows p)
  opening-room = let none = address-none cycle rows p (opening_length cycle rows p) in let room = address-room 0 (omega arith) in omega arith

  -- One block more.
  pub writes-block : (a b c : Code) (from date : ℕ) → from ≤ date → date ≡ first_date cycle rows p from → is_date cycle rows p date ≡ true
      → b.end ≡ address cycle rows p (opening_length cycle rows p) from → Writes a b (code_to cycle rows p (opening cycle rows p) from)
      → Writes b c (rows_code cycle rows p (opening_length cycle rows p) date 0 (length rows) b.end)
      → Writes a c (code_to cycle rows p (opening cycle rows p) (date + 1))
  writes-block a b c from date l f q e w v =
      let before = code_to cycle rows p (opening cycle rows p) from in
      let block = rows_code cycle rows p (opening_length cycle rows p) date 0 (length rows) b.end in
      let skip : code_to cycle rows p (opening cycle rows p) date ≡ before = code-skip cycle rows p (opening cycle rows p) from date l (omega arith) in
      let here : address cycle rows p (length (opening cycle rows p)) date ≡ b.end
      = ap (λ (k : ℕ). address cycle rows p k date) (opening-length cycle rows p) ∙ address-skip cycle rows p (opening_length cycle rows p) from date l (omega arith) ∙ sym e in
      let all : code_to cycle rows p (opening cycle rows p) (date + 1) ≡ before ++ block
      = ap (code_to cycle rows p (opening cycle rows p)) (add-one date) ∙ code-more cycle rows p (opening cycle rows p) date q
      ∙ ap₂ (λ (xs ys : List Step). xs ++ ys) skip (ap₂ (λ (k b : ℕ). rows_code cycle rows p k date 0 (length rows) b) (opening-length cycle rows p) here) in
      subst (Writes a c) (sym all) (writes_append a b c before block w v)

  pub writes-begun : (a b : Code) → Writes a b (opening cycle rows p) → Writes a b (code_to cycle rows p (opening cycle rows p) 0)
  writes-begun a b w = subst (Writes a b) (sym (code-none cycle rows p (opening cycle rows p))) w

  pub writes-whole : (a b : Code) (from : ℕ) → from ≤ cycle → cycle ≤ first_date cycle rows p from
      → Writes a b (code_to cycle rows p (opening cycle rows p) from) → Writes a b (program_code cycle rows p)
  writes-whole a b from l f w = subst (Writes a b) (sym (code-skip cycle rows p (opening cycle rows p) from cycle l f)) w
