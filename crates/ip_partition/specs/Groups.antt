-- The groups of numbers that lie in the same sets.
use Rattle.std.specs.Prelude.{ℕ, ◌^◌, ◌<◌, ◌≡◌, ◌↔◌, List, Contains}
use Rattle.std.specs.List.{AllByRecursion}
use Rattle.interval_set.specs.declared.set.Range.{Range}
use Rattle.interval_set.specs.Numbers.{has}
use Rattle.ip_partition.specs.declared.fault.GroupFault.{GroupFault}
use Rattle.ip_partition.specs.Partition.{IsIn, IsPartition}
use Rattle.ip_partition.specs.Boundaries.{HasManyBoundaries}

-- each set has both numbers or neither
abbrev pub LieAlike : List (List Range) → ℕ → ℕ → Type 0
LieAlike sets a b = AllByRecursion (λ set. has set a ≡ has set b) sets

-- a partition in which two numbers are in one class exactly where they lie in the same sets
pub record AreGroups (w : ℕ) (sets groups : List (List Range)) : Type 0 where
  pub partition : IsPartition w groups
  pub together : (a b : ℕ) → a < 2 ^ w → b < 2 ^ w → ((i : ℕ) × IsIn groups i a × IsIn groups i b) ↔ LieAlike sets a b

-- when there are no groups: where the sets have too many boundaries. Want of memory tells nothing
abbrev pub RefusesGroups : ℕ → List (List Range) → GroupFault → Type 0
RefusesGroups w sets GroupFault.Atoms = HasManyBoundaries w (Contains sets)
RefusesGroups w sets GroupFault.Memory = Unit {0}
