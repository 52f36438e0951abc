-- Where sets of numbers begin and end.
use Rattle.std.specs.Prelude.{ℕ, ◌+◌, ◌-◌, ◌^◌, ◌<◌, ◌≤◌, ◌≡◌, ◌≢◌, ◌↔◌, List, [], ◌∷◌, Contains, length}
use Rattle.limits.specs.declared.TheConstants.{MOST_BOUNDARIES}
use Rattle.interval_set.specs.declared.set.Range.{Range}
use Rattle.interval_set.specs.Numbers.{has}

-- the number isn't the least one, and it or the one before it is in the set, but not both
abbrev pub ChangesAt : ℕ → List Range → ℕ → Type 0
ChangesAt w set n = (0 < n) × (n < 2 ^ w) × (has set (n - 1) ≢ has set n)

-- each number is above the one before it, and the first is `from` or above
abbrev pub Ascend : ℕ → List ℕ → Type 0
Ascend from [] = Unit {0}
Ascend from (n ∷ ns) = (from ≤ n) × Ascend (n + 1) ns

-- `Is` tells the sets of w bits in question
module _ (w : ℕ) (Is : List Range → Type 0) where
  -- one of the sets begins or ends there
  abbrev pub IsBoundary : ℕ → Type 0
  IsBoundary n = (set : List Range) × Is set × ChangesAt w set n

  -- the sets have so many boundaries, each counted once however many sets have it
  pub record HasBoundaries (count : ℕ) : Type 0 where
    pub numbers : List ℕ
    pub ascend : Ascend 0 numbers
    pub all : (n : ℕ) → Contains numbers n ↔ IsBoundary n
    pub count_is : length numbers ≡ count

  -- they have at most 4,096
  abbrev pub HasFewBoundaries : Type 0
  HasFewBoundaries = (count : ℕ) × HasBoundaries count × (count ≤ MOST_BOUNDARIES)

  -- they have more
  abbrev pub HasManyBoundaries : Type 0
  HasManyBoundaries = (count : ℕ) × HasBoundaries count × (MOST_BOUNDARIES < count)
