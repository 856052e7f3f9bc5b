-- The pairs of a script that are read one after the other.
use Rattle.std.specs.Prelude.{◌≡◌, ℕ, List, Option}
use Rattle.std.specs.Iterator.{YieldsFirst}
use Rattle.plant.specs.Script.{unread}
use Rattle.plant.specs.declared.script.Pairs.{Pairs}

abbrev pub pairs_left : Pairs → List (ℕ × ℕ)
pairs_left pairs = unread pairs.cursor.left pairs.bytes.now pairs.cursor.pos

-- The next of the pairs, of the same bytes.
abbrev pub next_pair : Pairs → Option (ℕ × ℕ) → Pairs → Type 0
next_pair old pair new = YieldsFirst pairs_left old pair new × (new.bytes ≡ old.bytes)
