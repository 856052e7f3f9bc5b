use Rattle.std.specs.Prelude.{◌≡◌, [], ◌∷◌, map, length}
use Rattle.judge.specs.Worked.{worked_head, worked_sheet}
use Rattle.translate.specs.Translation.{translated}

-- The four programs of the worked sheet have 6, 7, 9 and 7 steps.
abbrev pub WorkedPrograms : Type 0
WorkedPrograms = map length (translated worked_head (worked_sheet 5)) ≡ 6 ∷ 7 ∷ 9 ∷ 7 ∷ []
