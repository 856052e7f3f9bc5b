use Rattle.std.specs.Prelude.{◌≡◌, ℕ, zero, suc, ◌+◌, ◌/◌, ◌%◌, ◌^◌, ◌<◌, true, cond, List, [], ◌∷◌, ◌++◌, length, take, drop, Ok, Err, Result, nat_lt, slice_index}
use Rattle.fault.specs.declared.refusal.Refusal.TheVariants.{NotShortest}
use Rattle.wire.specs.Numbers.{numeral, number_at, fault_at}

-- The bytes of a number of at most `left` groups and one, lowest first.
abbrev pub groups_of : ℕ → ℕ → List ℕ
groups_of zero n = n ∷ []
groups_of (suc left) n = cond (nat_lt n 128) (n ∷ []) ((n % 128 + 128) ∷ groups_of left (n / 128))

-- The one byte form of a number.
abbrev pub bytes_of : ℕ → List ℕ
bytes_of n = groups_of 4 n

-- The bytes of a list of numbers, one after the other.
abbrev pub spelled : List ℕ → List ℕ
spelled [] = []
spelled (n ∷ ns) = bytes_of n ++ spelled ns

-- A list of bytes: each is below 256.
abbrev pub Bytes : List ℕ → Type 0
Bytes bs = (i : ℕ) → slice_index bs i < 256

-- Reading what was written gives the number back, and takes exactly what was written, whatever follows.
abbrev pub ReadsBack : Type 0
ReadsBack = (n : ℕ) (rest : List ℕ) → n < 2 ^ 32 → numeral 4 true (bytes_of n ++ rest) ≡ Ok (n, length (bytes_of n))

-- What was read is the written form of its value.
abbrev pub OneForm : Type 0
OneForm = (bs : List ℕ) (n k : ℕ) → Bytes bs → numeral 4 true bs ≡ Ok (n, k) → take k bs ≡ bytes_of n

-- Two byte forms that read as one number are the same bytes.
abbrev pub SameBytes : Type 0
SameBytes =
    (bs cs : List ℕ) (n : ℕ) → Bytes bs → Bytes cs → numeral 4 true bs ≡ Ok (n, length bs)
    → numeral 4 true cs ≡ Ok (n, length cs) → bs ≡ cs

-- 300 is AC 02; 80 00 is not the shortest form of 0; FF FF FF FF 0F is the greatest word, and with 10 for
-- its last byte it is too great.
abbrev pub WorkedNumbers : Type 0
WorkedNumbers =
    (bytes_of 300 ≡ 0xAC ∷ 0x02 ∷ [])
    × (number_at (0xAC ∷ 0x02 ∷ []) 0 ≡ Ok 300)
    × (number_at (0x80 ∷ 0x00 ∷ []) 0 ≡ Err (fault_at NotShortest 0))
    × (number_at (0xFF ∷ 0xFF ∷ 0xFF ∷ 0xFF ∷ 0x0F ∷ []) 0 ≡ Ok 4294967295)
    × (number_at (0xFF ∷ 0xFF ∷ 0xFF ∷ 0xFF ∷ 0x10 ∷ []) 0 ≡ Err (fault_at NotShortest 0))

-- Where bytes that are put at `at` end, or how many they are, in a list of `room` bytes.
abbrev pub end_of : ℕ → ℕ → List ℕ → Result ℕ ℕ
end_of room at bs = cond (nat_lt room (at + length bs)) (Err (length bs)) (Ok (at + length bs))

-- The list after that: as it was where there is too little room.
abbrev pub placed : List ℕ → ℕ → List ℕ → List ℕ
placed out at bs = cond (nat_lt (length out) (at + length bs)) out (take at out ++ (bs ++ drop (at + length bs) out))
