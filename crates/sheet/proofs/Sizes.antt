-- How many bytes the numbers of a row take.
use Rattle.std.proofs.Common.{ℕ, zero, suc, ◌+◌, ◌*◌, ◌/◌, ◌≤◌, List, [], ◌∷◌, length, inl, inr, arith, length-append}
use Rattle.std.proofs.lemmas.Bool.{cases_lt, lt-ltb, le-ltb}
use Rattle.wire.specs.Bytes.{groups_of, bytes_of, spelled}

groups-few : (left n : ℕ) → length (groups_of left n) ≤ left + 1
groups-few zero n = omega arith
groups-few (suc left) n =
    elim (cases_lt n 128) [
      | inl h ↦ rw (lt-ltb n 128 h) (omega arith)
      | inr h ↦ rw (le-ltb n 128 h) (omega (arith, groups-few left (n / 128)))
    ]

-- A number takes at most five bytes.
pub spelled-few : (ns : List ℕ) → length (spelled ns) ≤ 5 * length ns
spelled-few [] = omega arith
spelled-few (n ∷ ns) = omega (arith, spelled-few ns, groups-few 4 n, length-append (bytes_of n) (spelled ns))
