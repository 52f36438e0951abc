-- The hops that were gone through, and what they tell of an address.
use Rattle.std.specs.Prelude.{ℕ, ◌<◌, ◌≤◌, ◌≡◌, ◌⊎◌, Bool, true, false, List, Option, None, Some, slice_get}
use Rattle.interval_set.specs.declared.set.Range.{Range}
use Rattle.interval_set.specs.Numbers.{has, IsSet}
use Rattle.iface_space.specs.declared.hop.Hop.{Hop}
use Rattle.iface_space.specs.Routes.{holds}

-- the hop is shorter than `len`, or of this length and among the first `i`
abbrev pub IsDone : ℕ → ℕ → ℕ → Hop → Type 0
IsDone len i k hop = (hop.len < len) ⊎ ((hop.len ≡ len) × (k < i))

module _ (w : ℕ) (hops : List Hop) where
  -- no hop of the first `n` has the address
  pub record NoneHolds (d n : ℕ) : Type 0 where
    pub none : (k : ℕ) (hop : Hop) → k < n → slice_get hops k ≡ Some hop → holds w d hop ≡ true → ⊥

  -- this one has it, and no longer one of the first `n` does
  pub record IsBest (d n best : ℕ) : Type 0 where
    pub hop : Hop
    pub at : slice_get hops best ≡ Some hop
    pub has_it : holds w d hop ≡ true
    pub longest : (k : ℕ) (other : Hop) → k < n → slice_get hops k ≡ Some other → holds w d other ≡ true → other.len ≤ hop.len

  abbrev pub IsBestOf : ℕ → ℕ → Option ℕ → Type 0
  IsBestOf d n None = NoneHolds d n
  IsBestOf d n (Some best) = IsBest d n best

  -- a set with the addresses for which the longest of these hops has a name that passes
  pub record Told (named : List ℕ → Bool) (len i : ℕ) (found : List Range) : Type 0 where
    pub set : IsSet w found
    pub one : (d k : ℕ) (hop : Hop) → slice_get hops k ≡ Some hop → IsDone len i k hop → holds w d hop ≡ true →
        ((j : ℕ) (other : Hop) → slice_get hops j ≡ Some other → IsDone len i j other → holds w d other ≡ true → other.len ≤ hop.len) →
        has found d ≡ named hop.name
    pub none : (d : ℕ) → ((k : ℕ) (hop : Hop) → slice_get hops k ≡ Some hop → IsDone len i k hop → holds w d hop ≡ true → ⊥) →
        has found d ≡ false
