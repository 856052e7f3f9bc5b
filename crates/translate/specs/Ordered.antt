use Rattle.std.specs.Prelude.{◌≡◌, ℕ, ◌<◌, ◌≤◌, false, List, length}
use Rattle.sheet.specs.declared.row.Row.{Row}
use Rattle.sheet.specs.Rows.{row_at}
use Rattle.judge.specs.Verdict.{is_keep}
use Rattle.translate.specs.Translation.{end_of}
use Rattle.translate.specs.Schedules.{keep_count}

-- What the translation needs of a sheet: its keep rows stand above all others, and its rows end within the cycle.
pub record Ordered (cycle : ℕ) (rows : List Row) : Type 0 where
  pub after : (i : ℕ) → keep_count rows ≤ i → i < length rows → is_keep (row_at rows i) ≡ false
  pub inside : (i : ℕ) → i < length rows → end_of (row_at rows i) ≤ cycle
