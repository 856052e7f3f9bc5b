-- The rules of acceptance on the sheet alone, without words or cells, and the run promise under them.
use Rattle.std.specs.Prelude.{◌≡◌, ℕ, ◌<◌, ◌≤◌, Bool, true, false, ◌⊎◌, List, ◌∷◌, ◌++◌, ◌≢◌}
use Rattle.schedule.specs.Rows.{Test, Row, ends, reaches, Excludes, Within, Concerns}
use Rattle.plant.specs.Model.{Work}
use Rattle.schedule.specs.Machine.{Keep, Fit}
use Rattle.schedule.specs.Lawful.{Limits}
use Rattle.schedule.specs.Faults.{Kept}

module _ (r : ℕ → Row) (n L : ℕ) (kp : ℕ → Keep) (nk : ℕ) where
  -- variable x is available for row i at station s after tests c: from a keep row of s, or from a row above that reaches s
  abbrev pub Available : ℕ → ℕ → List Test → ℕ → Type 0
  Available i s c x = ((m : ℕ) × (m < nk) × ((kp m).st ≡ s) × ((kp m).into ≡ x))
      ⊎ ((j : ℕ) × (j < i) × (reaches (r j) s ≡ true) × ((r j).out ≡ x) × (ends (r j) ≤ (r i).date) × Within (r j).tests c)

  pub record Judged : Type 0 where
    pub long : (i : ℕ) → i < n → 0 < (r i).dur
    pub inside : (i : ℕ) → i < n → ends (r i) ≤ L
    pub copies : (i : ℕ) → i < n → (r i).sends ≡ true → ((r i).one ≡ (r i).out) × ((r i).count ≡ 1)
    -- a variable given by a keep row is given by no other, and written by no call
    pub once : (m m' : ℕ) → m < nk → m' < nk → (kp m).into ≡ (kp m').into → m ≡ m'
    pub unwritten : (i m : ℕ) → i < n → m < nk → (r i).sends ≡ false → (r i).out ≢ (kp m).into
    pub writers : (i j : ℕ) → i < j → j < n → (r i).sends ≡ false → (r j).sends ≡ false → (r i).out ≡ (r j).out → Excludes (r i).tests (r j).tests
    pub calls : (i j : ℕ) → i < j → j < n → (r i).sends ≡ false → (r j).sends ≡ false → (r i).st ≡ (r j).st
        → Excludes (r i).tests (r j).tests ⊎ (ends (r i) ≤ (r j).date)
    pub lines : (i j : ℕ) → i < j → j < n → (r i).sends ≡ true → (r j).sends ≡ true
        → Excludes (r i).tests (r j).tests ⊎ ((ends (r i) ≤ (r j).date) ⊎ (ends (r j) ≤ (r i).date))
    pub tested : (i s : ℕ) → i < n → Concerns (r i) s → (c : List Test) (t : Test) (d : List Test) → (r i).tests ≡ c ++ (t ∷ d) → Available i s c t.var
    pub first : (i : ℕ) → i < n → 0 < (r i).count → Available i (r i).st (r i).tests (r i).one
    pub second : (i : ℕ) → i < n → 1 < (r i).count → Available i (r i).st (r i).tests (r i).two

abbrev pub JudgedPromise : (S : Type 0) → (S → Work → S) → (S → Work → ℕ) → Type 0
JudgedPromise S next answer = (knows : ℕ → ℕ → ℕ → Bool) (r : ℕ → Row) (n L : ℕ) (kp : ℕ → Keep) (nk stations variables : ℕ) (p : S)
    → Limits r n L kp nk stations variables → Judged r n L kp nk → Fit next answer knows r n L kp nk stations
    → Kept next answer knows r n L kp nk stations p
