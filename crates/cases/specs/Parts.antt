use Rattle.std.specs.Prelude.{◌≡◌, ℕ, ◌+◌, ◌-◌, ◌*◌, cond, List, length, take, drop, Some, None, Option, nat_lt, slice_index}
use Rattle.std.specs.Borrow.{Bor}
use Rattle.std.specs.Option.{option_and_then}

-- The length that two bytes tell, the low one first.
abbrev pub size_in : List ℕ → ℕ
size_in bs = slice_index bs 0 + 256 * slice_index bs 1

-- The first part of stored cases, which is its length and as many bytes, and what follows it; nothing where it is cut
-- short.
abbrev pub part_in : List ℕ → Option (List ℕ × List ℕ)
part_in bs =
    cond (nat_lt (length bs) 2) None
    (cond (nat_lt (length bs - 2) (size_in bs)) None (Some (take (size_in bs) (drop 2 bs), drop (size_in bs) (drop 2 bs))))

-- Two borrowed parts by their bytes.
abbrev pub shown : Option (Bor (List ℕ) × Bor (List ℕ)) → Option (List ℕ × List ℕ)
shown None = None
shown (Some p) = Some (p.0.now, p.1.now)

-- What the next of the parts is, and what is left: nothing where the next is cut short, and then all is left.
abbrev pub GivesPart : List ℕ → Option (Bor (List ℕ)) → List ℕ → Type 0
GivesPart bs None left = (part_in bs ≡ None) × (left ≡ bs)
GivesPart bs (Some x) left = part_in bs ≡ Some (x.now, left)

-- Two parts, one after the other.
abbrev pub pair_in : List ℕ → Option ((List ℕ × List ℕ) × List ℕ)
pair_in bs = option_and_then (λ p. option_and_then (λ q. Some ((p.0, q.0), q.1)) (part_in p.1)) (part_in bs)

-- The same of the next two parts.
abbrev pub GivesPair : List ℕ → Option (Bor (List ℕ) × Bor (List ℕ)) → List ℕ → Type 0
GivesPair bs None left = (pair_in bs ≡ None) × (left ≡ bs)
GivesPair bs (Some x) left = pair_in bs ≡ Some ((x.0.now, x.1.now), left)
