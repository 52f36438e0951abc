-- The sets of the classes of atoms.
use Rattle.std.specs.Prelude.{ℕ, ◌+◌, ◌-◌, ◌^◌, ◌<◌, ◌≤◌, ◌≡◌, ◌≢◌, ◌⊎◌, ◌↔◌, List, [], ◌∷◌, ◌++◌, Contains, slice_index_or}
use Rattle.interval_set.specs.declared.set.Range.{Range}
use Rattle.ip_partition.specs.inner.Atoms.{IsClass}
use Rattle.ip_partition.specs.Boundaries.{Ascend}

-- a range of at least one number, all of them below 2 ^ w
abbrev pub IsUsual : ℕ → Range → Type 0
IsUsual w r = (r.lo ≤ r.hi) × (r.hi ≤ 2 ^ w - 1)

-- atoms begin at these numbers, the first at 0
pub record AreStarts (w : ℕ) (starts : List ℕ) : Type 0 where
  pub ascend : Ascend 0 starts
  pub zero : slice_index_or starts 0 1 ≡ 0
  pub below : (k : ℕ) → slice_index_or starts k 0 < 2 ^ w

-- the range is this atom, where the top is the greatest number
abbrev pub IsAtomOf : ℕ → List ℕ → ℕ → Range → Type 0
IsAtomOf top starts atom r = (r.lo ≡ slice_index_or starts atom 0) × (slice_index_or starts (atom + 1) (top + 1) ≡ r.hi + 1)

-- the range of the atom is added where it has this leader
abbrev pub PutAtom : ℕ → List ℕ → List ℕ → ℕ → ℕ → List Range → List Range → Type 0
PutAtom top starts leaders leader atom old new =
    ((slice_index_or leaders atom 0 ≢ leader) × (new ≡ old))
    ⊎ ((slice_index_or leaders atom 0 ≡ leader) × (r : Range) × IsAtomOf top starts atom r × (new ≡ old ++ r ∷ []))

-- each set is the class of the leader that stands in its place
abbrev pub EachIsClass : ℕ → List ℕ → List ℕ → List ℕ → List (List Range) → Type 0
EachIsClass w starts leaders [] [] = Unit {0}
EachIsClass w starts leaders [] (set ∷ sets) = ⊥
EachIsClass w starts leaders (h ∷ hs) [] = ⊥
EachIsClass w starts leaders (h ∷ hs) (set ∷ sets) = IsClass w starts leaders h set × EachIsClass w starts leaders hs sets

-- the sets are the classes of the leaders below this atom, in order
pub record AreClasses (w : ℕ) (starts leaders : List ℕ) (end : ℕ) (sets : List (List Range)) : Type 0 where
  pub heads : List ℕ
  pub ascend : Ascend 0 heads
  pub all : (h : ℕ) → Contains heads h ↔ ((h < end) × (slice_index_or leaders h 0 ≡ h))
  pub each : EachIsClass w starts leaders heads sets
