use Rattle.std.specs.Prelude.{ℕ, List, [], ◌∷◌, ◌++◌, decimal, codes}
use Rattle.netcode.specs.declared.step.Step.{Step}
use Rattle.netcode.specs.declared.step.Step.TheVariants.{Test, Future, Halt, Call, Send, Receive, Keep, Clear, Give}
use Rattle.step_text.specs.declared.step.Role.{Role}
use Rattle.step_text.specs.declared.step.Role.TheVariants.{Work, Line}
use Rattle.text.specs.Rows.{three, five, relation_text, inputs_text}

-- The line of a step, after its address in a column of five: what it does, with its row where it has one. (Three of these
-- texts stand by their codes: written as texts, the check stops before it has compared them.)
abbrev pub does_text : Step → List ℕ
does_text (Test variable relation word address) =
    codes "TEST     variable " ++ (three variable ++ (relation_text relation ++ (decimal word ++ (codes ", else to " ++ three address))))
does_text (Future ticks address) = 70 ∷ 85 ∷ 84 ∷ 85 ∷ 82 ∷ 69 ∷ 32 ∷ 32 ∷ 32 ∷ 105 ∷ 110 ∷ 32 ∷ (five ticks ++ (32 ∷ 116 ∷ 105 ∷ 99 ∷ 107 ∷ 115 ∷ 32 ∷ 97 ∷ 116 ∷ 32 ∷ three address))
does_text Halt = codes "HALT"
does_text (Call row work inputs output duration) =
    codes "CALL     row " ++ (three row ++ (codes ", work " ++ (three work ++ (codes " " ++ (inputs_text inputs ++ (codes " into " ++ (three output ++ (codes " for " ++ (decimal duration ++ codes " ticks")))))))))
does_text (Send row variable duration) = 83 ∷ 69 ∷ 78 ∷ 68 ∷ 32 ∷ 32 ∷ 32 ∷ 32 ∷ 32 ∷ 114 ∷ 111 ∷ 119 ∷ 32 ∷ (three row ++ (44 ∷ 32 ∷ 118 ∷ 97 ∷ 114 ∷ 105 ∷ 97 ∷ 98 ∷ 108 ∷ 101 ∷ 32 ∷ (three variable ++ (32 ∷ 102 ∷ 111 ∷ 114 ∷ 32 ∷ (decimal duration ++ (32 ∷ 116 ∷ 105 ∷ 99 ∷ 107 ∷ 115 ∷ []))))))
does_text (Receive variable duration) = codes "RECEIVE  variable " ++ (three variable ++ (codes " for " ++ (decimal duration ++ codes " ticks")))
does_text (Keep variable cell) = codes "KEEP     variable " ++ (three variable ++ (codes " in cell " ++ decimal cell))
does_text Clear = codes "CLEAR"
does_text (Give cell variable word) = 71 ∷ 73 ∷ 86 ∷ 69 ∷ 32 ∷ 32 ∷ 32 ∷ 32 ∷ 32 ∷ 99 ∷ 101 ∷ 108 ∷ 108 ∷ 32 ∷ (decimal cell ++ (32 ∷ 97 ∷ 115 ∷ 32 ∷ 118 ∷ 97 ∷ 114 ∷ 105 ∷ 97 ∷ 98 ∷ 108 ∷ 101 ∷ 32 ∷ (three variable ++ (44 ∷ 32 ∷ 97 ∷ 116 ∷ 32 ∷ 102 ∷ 105 ∷ 114 ∷ 115 ∷ 116 ∷ 32 ∷ decimal word))))

abbrev pub step_text : ℕ → Step → List ℕ
step_text address step = five address ++ (codes "  " ++ does_text step)

-- The line above a program: its number, and whose it is.
abbrev pub work_text : ℕ → ℕ → List ℕ
work_text program station = codes "program " ++ (decimal program ++ (codes ", work of station " ++ decimal station))

abbrev pub line_text : ℕ → ℕ → List ℕ
line_text program station = codes "program " ++ (decimal program ++ (codes ", line of station " ++ decimal station))

abbrev pub program_text : Role → ℕ → ℕ → List ℕ
program_text Work program station = work_text program station
program_text Line program station = line_text program station
