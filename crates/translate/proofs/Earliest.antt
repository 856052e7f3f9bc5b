-- The first of a program's dates in a span.
use Rattle.std.proofs.Common.{◌≡◌, ℕ, ◌+◌, ◌<◌, ◌≤◌, min, Bool, true, false, cond, ltb, ◌⊎◌, length, Option, Some, None, MatchOption, subst, refl, ap, ◌∙◌, inl, inr, arith}
use Rattle.std.specs.Bool.{then_some}
use Rattle.std.proofs.lemmas.Bool.{cases_lt, lt-ltb, le-ltb}
use Rattle.translate.specs.declared.each_date.Dates.{Dates}
use Rattle.translate.specs.declared.program.Program.{Program}
use Rattle.translate.specs.Dates.{IsFirst, NextDate}
use Rattle.translate.specs.Programs.{is_date_of, first_date_of}
use Rattle.translate.proofs.Dates.{first-late, first-date}

-- A number, if it lies before `until`.
abbrev pub before : ℕ → ℕ → Option ℕ
before until n = cond (ltb n until) (Some n) None

before-some : (until n : ℕ) → n < until → before until n ≡ Some n
before-some until n l = rw (lt-ltb n until l)

before-none : (until n : ℕ) → until ≤ n → before until n ≡ None
before-none until n l = rw (le-ltb n until l)

-- One row more lowers the first date, cut off at `until`, as it lowers the first date.
pub one-more : (until D F : ℕ) (b : Bool) → cond b (min (min until F) D) (min until F) ≡ min until (cond b (min D F) F)
one-more until D F true = omega arith
one-more until D F false = refl

-- The first date, cut off at `until`, tells whether it lies before.
pub cut-off : (until F : ℕ) → then_some (ltb (min until F) until) (min until F) ≡ before until F
cut-off until F = go (cases_lt F until)
  where
    go : (F < until) ⊎ (until ≤ F) → then_some (ltb (min until F) until) (min until F) ≡ before until F
    go (inl l) = let z : min until F ≡ F = omega arith in rw (z, lt-ltb F until l) refl
    go (inr l) = let z : min until F ≡ until = omega arith in let same : until ≤ until = omega arith in rw (z, le-ltb until until same, le-ltb F until l) refl

-- What is known of the first date in a span, where there is one and where there is none.
pub found : (p : Program) (from until : ℕ) (r : Option ℕ) → until ≤ p.cycle → r ≡ before until (first_date_of p from)
    → MatchOption r (until ≤ first_date_of p from) (IsFirst p from until)
found p from until r u e = go r e (cases_lt (first_date_of p from) until)
  where
    go : (r : Option ℕ) → r ≡ before until (first_date_of p from) → (first_date_of p from < until) ⊎ (until ≤ first_date_of p from)
        → MatchOption r (until ≤ first_date_of p from) (IsFirst p from until)
    go None e (inl l) = absurd (unequal (e ∙ before-some until _ l))
      where
        unequal : None ≡ Some (first_date_of p from) → ⊥
        unequal q = cc
    go None e (inr l) = l
    go (Some d) e (inl l) = same (e ∙ before-some until _ l)
      where
        same : Some d ≡ Some (first_date_of p from) → IsFirst p from until d
        same q =
            let f : d ≡ first_date_of p from = cc in
            record {
              first = f;
              late = omega (arith, first-late p.cycle p.rows.now p.number from (length p.rows.now) (omega arith));
              early = omega arith;
              own = ap (is_date_of p) f ∙ first-date p.cycle p.rows.now p.number from (omega arith);
            }
    go (Some d) e (inr l) = absurd (unequal (e ∙ before-none until _ l))
      where
        unequal : Some d ≡ None → ⊥
        unequal q = cc

-- The begin of an iterator over the dates of program p before `until`.
pub record Begins (p : Program) (until : ℕ) (s : Dates) : Type 0 where
  pub program : s.program ≡ p
  pub last : s.until ≡ until
  pub from : s.from ≡ 0

pub begins : (p : Program) (until : ℕ) (s d : Dates) → s ≡ d → d.program ≡ p → d.until ≡ until → d.from ≡ 0 → Begins p until s
begins p until s d e f g h = record { program = ap (λ (x : Dates). x.program) e ∙ f; last = ap (λ (x : Dates). x.until) e ∙ g; from = ap (λ (x : Dates). x.from) e ∙ h }

-- A step of an iterator over the dates of program p before `until`.
pub record Goes (p : Program) (until : ℕ) (s t : Dates) (date : ℕ) : Type 0 where
  pub program : t.program ≡ p
  pub last : t.until ≡ until
  pub is : IsFirst p s.from until date
  pub next : t.from ≡ date + 1

pub goes : (p : Program) (until : ℕ) (s t : Dates) (date : ℕ) → s.program ≡ p → s.until ≡ until → NextDate s (Some date) t → Goes p until s t date
goes p until s t date e f n = record {
  program = n.program ∙ e;
  last = n.until ∙ f;
  is = subst (λ (q : Program). IsFirst q s.from until date) e (subst (λ (u : ℕ). IsFirst s.program s.from u date) f n.first);
  next = n.from;
}

pub ends : (p : Program) (until : ℕ) (s t : Dates) → s.program ≡ p → s.until ≡ until → NextDate s None t → until ≤ first_date_of p s.from
ends p until s t e f n = subst (λ (q : Program). until ≤ first_date_of q s.from) e (subst (λ (u : ℕ). u ≤ first_date_of s.program s.from) f n.first)
