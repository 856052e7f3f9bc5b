use Rattle.std.specs.Prelude.{ℕ, List, [], ◌∷◌, ◌++◌, Some, None, decimal, codes, Option}
use Rattle.semantics.specs.declared.state.Mark.{Mark}

-- A word, or a dash where there is none.
abbrev pub word_text : Option ℕ → List ℕ
word_text None = codes "-"
word_text (Some word) = decimal word

-- A mark: its count, its tick, the two words read and the word given, a blank between.
abbrev pub mark_text : Mark → List ℕ
mark_text m =
    decimal m.count ++ (codes " " ++ (decimal m.tick ++ (codes " " ++ (word_text m.first ++ (codes " " ++ (word_text m.second ++ (codes " " ++ word_text m.given)))))))

-- The line of a row's mark.
abbrev pub mark_line : ℕ → Mark → List ℕ
mark_line row m = decimal row ++ (codes " " ++ mark_text m)
