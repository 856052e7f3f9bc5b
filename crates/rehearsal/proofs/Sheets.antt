-- What an accepted sheet and its translation give.
use Rattle.std.proofs.Common.{◌≡◌, ℕ, ◌≤◌, List, None, Ok, vec_items, sym, ap, ◌∙◌, ap₂, arith, length-take}
use Rattle.std.proofs.lemmas.Bool.{le-ltb}
use Rattle.sheet.specs.declared.row.Head.{Head}
use Rattle.sheet.specs.declared.row.Row.{Row}
use Rattle.judge.proofs.Theorem.{accepted-rules}
use Rattle.stages.specs.declared.stage.Accepted.{Accepted}
use Rattle.stages.specs.Views.{accepted_head, accepted_rows}
use Rattle.netcode.specs.Layouts.{programs_of}
use Rattle.netcode.specs.Rules.{first_broken}
use Rattle.translate.specs.declared.stage.Translated.{Translated}
use Rattle.translate.specs.Translation.{translated}
use Rattle.translate.specs.Laws.{Sheet}
use Rattle.translate.specs.Stores.{needed}
use Rattle.translate.proofs.Lawfulness.{programs-lawful}
use Rattle.plant.specs.Model.{Model}
use Rattle.plant.specs.Fit.{fit_from}
use Rattle.rehearsal.specs.Ran.{HoldsPrograms, why_not}
use Rattle.rehearsal.proofs.Cutting.{cut-back}

-- An accepted sheet keeps the rules, its head is within its limits, and counts its rows.
pub sheet-of : (a : Accepted) → Sheet (accepted_head a) (accepted_rows a)
sheet-of a = record {
  within = a.draft.limits;
  counted = sym (length-take a.draft.head.rows (vec_items a.draft.rows) ∙ omega (arith, a.draft.room, a.draft.rows.ok.0));
  rules = accepted-rules (accepted_head a) (accepted_rows a) a.kept;
}

-- The programs that a translation holds are those of its sheet.
pub held : (t : Translated) → HoldsPrograms t
    → programs_of t.layout (vec_items t.steps) ≡ translated (accepted_head t.sheet) (accepted_rows t.sheet)
held t p =
    ap₂ programs_of p.layout p.steps.1
    ∙ cut-back (accepted_head t.sheet) (accepted_rows t.sheet) p.steps.0 (programs-lawful.count (accepted_head t.sheet) (accepted_rows t.sheet))

-- So making finds nothing in them.
pub unbroken : (t : Translated) → HoldsPrograms t → first_broken 0 (programs_of t.layout (vec_items t.steps)) ≡ None
unbroken t p =
    ap (first_broken 0) (held t p) ∙ programs-lawful.unbroken (accepted_head t.sheet) (accepted_rows t.sheet) (sheet-of t.sheet)

-- Nothing keeps a sheet from being run that fits and has room.
pub nothing-against : (m : Model) (h : Head) (rows : List Row) (steps replies asked : ℕ) → Ok tt ≡ fit_from m 0 rows → asked ≤ replies → needed h rows ≤ steps
    → why_not m h rows steps replies asked ≡ None
nothing-against m h rows steps replies asked f r s = rw (← f, le-ltb replies asked r, le-ltb steps (needed h rows) s)
