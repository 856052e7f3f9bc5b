use Rattle.std.specs.Prelude.{◌≡◌, true, List, vec_items}
use Rattle.sheet.specs.declared.row.Head.{Head}
use Rattle.sheet.specs.declared.row.Row.{Row}
use Rattle.sheet.specs.Rows.{head_within}
use Rattle.stages.specs.declared.stage.Draft.{Draft}
use Rattle.stages.specs.declared.stage.Accepted.{Accepted}
use Rattle.stages.specs.Sheets.{rows_in}

-- The head and the rows of a sheet at each stage, for the crates above.
abbrev pub draft_head : Draft → Head
draft_head d = d.head

abbrev pub draft_rows : Draft → List Row
draft_rows d = rows_in d.head (vec_items d.rows)

abbrev pub accepted_head : Accepted → Head
accepted_head a = draft_head a.draft

abbrev pub accepted_rows : Accepted → List Row
accepted_rows a = draft_rows a.draft

abbrev pub accepted_draft : Accepted → Draft
accepted_draft a = a.draft

-- The head of an accepted sheet is within its limits.
pub accepted_within : (a : Accepted) → head_within (accepted_head a) ≡ true
accepted_within a = a.draft.limits
