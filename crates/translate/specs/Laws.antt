use Rattle.std.specs.Prelude.{◌≡◌, ℕ, ◌<◌, true, List, length, None}
use Rattle.sheet.specs.declared.row.Head.{Head}
use Rattle.sheet.specs.declared.row.Row.{Row}
use Rattle.sheet.specs.Rows.{head_within}
use Rattle.judge.specs.Rules.{Rules}
use Rattle.netcode.specs.Layouts.{program_count}
use Rattle.netcode.specs.Rules.{first_broken}
use Rattle.netcode.specs.Laws.{Lawful, program_in}
use Rattle.translate.specs.Translation.{program_code, translated}

-- What is known of an accepted sheet.
pub record Sheet (h : Head) (rows : List Row) : Type 0 where
  pub within : head_within h ≡ true
  pub counted : h.rows ≡ length rows
  pub rules : Rules h rows

-- Every program of an accepted sheet keeps the rules of programs, so that its run can be made.
pub record ProgramsLawful : Type 0 where
  pub count : (h : Head) (rows : List Row) → length (translated h rows) ≡ program_count h.stations
  pub each : (h : Head) (rows : List Row) (p : ℕ) → p < program_count h.stations → program_in (translated h rows) p ≡ program_code h.cycle rows p
  pub lawful : (h : Head) (rows : List Row) → Sheet h rows → (p : ℕ) → Lawful (program_code h.cycle rows p)
  pub unbroken : (h : Head) (rows : List Row) → Sheet h rows → first_broken 0 (translated h rows) ≡ None
