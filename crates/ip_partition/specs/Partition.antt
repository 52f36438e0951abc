-- Partitions of all numbers of some bits into classes.
use Rattle.std.specs.Prelude.{ℕ, ◌^◌, ◌<◌, ◌≡◌, true, List, Some, length, slice_get}
use Rattle.std.specs.List.{AllByRecursion}
use Rattle.interval_set.specs.declared.set.Range.{Range}
use Rattle.interval_set.specs.Numbers.{IsSet, has}

-- the class of this place, from 0, has the number
abbrev pub IsIn : List (List Range) → ℕ → ℕ → Type 0
IsIn classes i n = (class : List Range) × (slice_get classes i ≡ Some class) × (has class n ≡ true)

-- Each number below 2 ^ w is in exactly one class, and no class is empty. The classes stand in the order of their least numbers: each
-- class before another has a number below all of the other's.
pub record IsPartition (w : ℕ) (classes : List (List Range)) : Type 0 where
  pub sets : AllByRecursion (IsSet w) classes
  pub some : (i : ℕ) → i < length classes → (n : ℕ) × IsIn classes i n
  pub covers : (n : ℕ) → n < 2 ^ w → (i : ℕ) × IsIn classes i n
  pub apart : (i j n : ℕ) → IsIn classes i n → IsIn classes j n → i ≡ j
  pub ordered : (i j n : ℕ) → i < j → IsIn classes j n → (m : ℕ) × IsIn classes i m × (m < n)
