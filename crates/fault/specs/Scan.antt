use Rattle.std.specs.Prelude.{◌≡◌, ℕ, ◌+◌, ◌<◌, List, [], ◌∷◌, length, Some, None, Option, slice_index_or}

abbrev pub or_else : {W : Type 0} → Option W → ℕ → Option (ℕ × W) → Option (ℕ × W)
or_else (Some w) i rest = Some (i, w)
or_else None i rest = rest

-- The first record that breaks its rule, with its place and why, counted from `i`.
abbrev pub first_bad : {R W : Type 0} → (ℕ → R → Option W) → ℕ → List R → Option (ℕ × W)
first_bad rule i [] = None
first_bad rule i (r ∷ rs) = or_else (rule i r) i (first_bad rule (i + 1) rs)

-- The records before `n` keep their rules.
abbrev pub KeptBefore : {R W : Type 0} → (ℕ → R → Option W) → List R → ℕ → Type 0
KeptBefore {R = R} rule xs n = (k : ℕ) (d : R) → k < n → rule k (slice_index_or xs k d) ≡ None

-- What the first bad record is: none where every record keeps its rule; else the record at a place
-- of the list, it breaks its rule for the reason given, and all before it keep theirs.
abbrev pub FirstBad : {R W : Type 0} → (ℕ → R → Option W) → List R → Option (ℕ × W) → Type 0
FirstBad rule xs None = KeptBefore rule xs (length xs)
FirstBad {R = R} rule xs (Some iw) =
    (iw.0 < length xs) × ((d : R) → rule iw.0 (slice_index_or xs iw.0 d) ≡ Some iw.1) × KeptBefore rule xs iw.0
