-- The script is a list of pairs, a station and a word. Its works, at stations 0 to 7:
--   20  answers the station's next unused word and uses it up, or answers 0 where none is left (no input)
--    1  copies its input (1 input)
-- A pair whose station is above 7 is never used.
use Rattle.std.specs.Prelude.{ℕ, zero, suc, cond, ◌&&◌, ◌||◌, List, [], ◌∷◌, length, Some, None, Ok, Err, Option, Result, ◌==◌, nat_lt, slice_index_or, slice_set}
use Rattle.fault.specs.declared.refusal.Fault.{Fault}
use Rattle.fault.specs.declared.refusal.Refusal.TheVariants.{Trailing}
use Rattle.fault.specs.declared.place.Offset.{Offset}
use Rattle.wire.specs.Numbers.{number_at, after_number, fault_at, and_then}
use Rattle.plant.specs.Model.{Model}
use Rattle.plant.specs.declared.script.Cursor.{Cursor}

-- The next of some words, or 0, and the words after it.
abbrev pub next_word : List ℕ → ℕ
next_word [] = 0
next_word (w ∷ ws) = w

abbrev pub later_words : List ℕ → List ℕ
later_words [] = []
later_words (w ∷ ws) = ws

-- The words of all stations when one has used its next word up.
abbrev pub used : List (List ℕ) → ℕ → List (List ℕ)
used s station = slice_set s station (later_words (slice_index_or s station []))

-- The state is, for each station in turn, the list of its unused words.
abbrev pub script : Model
script = record {
  State = List (List ℕ);
  known = λ station work count. nat_lt station 8 && ((work == 20 && count == 0) || (work == 1 && count == 1));
  answer = λ s w. cond (w.number == 20) (next_word (slice_index_or s w.station [])) w.first;
  next = λ s w. cond (w.number == 20) (used s w.station) s;
}

-- The words of a station in a list of pairs, in their order.
abbrev pub words_of : ℕ → List (ℕ × ℕ) → List ℕ
words_of station [] = []
words_of station (p ∷ ps) = cond (p.0 == station) (p.1 ∷ words_of station ps) (words_of station ps)

-- At first no word is used.
abbrev pub script_at_first : List (ℕ × ℕ) → List (List ℕ)
script_at_first ps =
    words_of 0 ps ∷ words_of 1 ps ∷ words_of 2 ps ∷ words_of 3 ps
    ∷ words_of 4 ps ∷ words_of 5 ps ∷ words_of 6 ps ∷ words_of 7 ps ∷ []

-- The pair at `pos`, or its fault, and the position after it.
abbrev pub pair_at : List ℕ → ℕ → Result (ℕ × ℕ) (Fault Offset)
pair_at bytes pos =
    and_then (number_at bytes pos) (λ station. and_then (number_at bytes (after_number bytes pos)) (λ word. Ok (station, word)))

abbrev pub after_pair : List ℕ → ℕ → ℕ
after_pair bytes pos = after_number bytes (after_number bytes pos)

-- `n` pairs from `pos` on and the position after them, or the first fault.
abbrev pub pairs_at : ℕ → List ℕ → ℕ → Result (List (ℕ × ℕ) × ℕ) (Fault Offset)
pairs_at zero bytes pos = Ok ([], pos)
pairs_at (suc n) bytes pos =
    and_then (pair_at bytes pos) (λ p. and_then (pairs_at n bytes (after_pair bytes pos)) (λ ps. Ok (p ∷ ps.0, ps.1)))

-- The pairs of a script file: a count, so many pairs, and nothing after them.
abbrev pub pairs_read : List ℕ → Result (List (ℕ × ℕ)) (Fault Offset)
pairs_read bytes =
    and_then (number_at bytes 0) (λ n. and_then (pairs_at n bytes (after_number bytes 0)) (λ ps.
    cond (nat_lt ps.1 (length bytes)) (Err (fault_at Trailing ps.1)) (Ok ps.0)))

-- The state that a script is read as.
abbrev pub script_read : List ℕ → Result (List (List ℕ)) (Fault Offset)
script_read bytes = and_then (pairs_read bytes) (λ ps. Ok (script_at_first ps))

-- How the code holds the unused words. A cursor says where a station reads on, and how many pairs are left there.

abbrev pub map_ok : {A B E : Type 0} → (A → B) → Result A E → Result B E
map_ok f (Ok x) = Ok (f x)
map_ok f (Err e) = Err e

abbrev pub pair_and : Result (ℕ × ℕ) (Fault Offset) → ℕ → Option (ℕ × ℕ × ℕ)
pair_and (Ok p) after = Some (p.0, p.1, after)
pair_and (Err e) after = None

-- The pair at `pos` with the position after it, if it can be read.
abbrev pub pair_here : List ℕ → ℕ → Option (ℕ × ℕ × ℕ)
pair_here bytes pos = pair_and (pair_at bytes pos) (after_pair bytes pos)

abbrev pub read_on : Option (ℕ × ℕ × ℕ) → (ℕ → List (ℕ × ℕ)) → List (ℕ × ℕ)
read_on None more = []
read_on (Some p) more = (p.0, p.1) ∷ more p.2

-- At most `n` pairs from `pos` on, as far as they can be read.
abbrev pub unread : ℕ → List ℕ → ℕ → List (ℕ × ℕ)
unread zero bytes pos = []
unread (suc n) bytes pos = read_on (pair_here bytes pos) (unread n bytes)

abbrev pub unused_by : List ℕ → ℕ → Cursor → List ℕ
unused_by bytes station c = words_of station (unread c.left bytes c.pos)

-- The unused words of the stations from `station` on.
abbrev pub unused_from : List ℕ → ℕ → List Cursor → List (List ℕ)
unused_from bytes station [] = []
unused_from bytes station (c ∷ cs) = unused_by bytes station c ∷ unused_from bytes (suc station) cs

-- Where `n` pairs from `pos` on end.
abbrev pub pairs_end : ℕ → List ℕ → ℕ → Result ℕ (Fault Offset)
pairs_end zero bytes pos = Ok pos
pairs_end (suc n) bytes pos = and_then (pair_at bytes pos) (λ _. pairs_end n bytes (after_pair bytes pos))
