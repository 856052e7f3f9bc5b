use Rattle.std.specs.Prelude.{◌≡◌, ℕ, ◌+◌, ◌<◌, ◌≤◌, true, Option, MatchOption}
use Rattle.translate.specs.declared.each_date.Dates.{Dates}
use Rattle.translate.specs.declared.program.Program.{Program}
use Rattle.translate.specs.Programs.{is_date_of, first_date_of}

-- A date is the first of a program's dates from `from` on and before `until`.
pub record IsFirst (p : Program) (from until date : ℕ) : Type 0 where
  pub first : date ≡ first_date_of p from
  pub late : from ≤ date
  pub early : date < until
  pub own : is_date_of p date ≡ true

-- What one call of `next` gives of a program's dates: the first that is left, and it goes on at the next tick; or
-- nothing, where none is left.
pub record NextDate (before : Dates) (r : Option ℕ) (after : Dates) : Type 0 where
  pub program : after.program ≡ before.program
  pub until : after.until ≡ before.until
  pub first : MatchOption r (before.until ≤ first_date_of before.program before.from) (IsFirst before.program before.from before.until)
  pub from : MatchOption r (after.from ≡ before.from) (λ date. after.from ≡ date + 1)
