-- When there is no matrix.
use Rattle.std.specs.Prelude.{ℕ, ◌≡◌, ◌⊎◌, List}
use Rattle.interval_set.specs.declared.set.Range.{Range}
use Rattle.primitives.specs.declared.prim.Prim_.{Prim_}
use Rattle.fw_rule.specs.declared.rule.Dump.{Dump}
use Rattle.fw_rule.specs.declared.side.Side.{Side}
use Rattle.closure.specs.Sources.{IsKnown}
use Rattle.chain_graph.specs.Refusals.{IsChecked}
use Rattle.simple_filter.specs.Closed.{IsSmall, RefusesClosed}
use Rattle.simple_filter.specs.Hidden.{hidden}
use Rattle.simple_filter.specs.declared.hiding.Hide.{Hide}
use Rattle.simple_filter.specs.declared.refusal.Kind.{Kind}
use Rattle.simple_filter.specs.declared.refusal.Refusal.{Refusal}
use Rattle.ip_partition.specs.Boundaries.{HasFewBoundaries, HasManyBoundaries}

module _ {W : ℕ} (dump : Dump (Prim_ W)) (chain : ℕ) where
  -- a test in a known literal of a rule in reach asks for a source or a destination in this set
  abbrev pub IsAddressSet : List Range → Type 0
  IsAddressSet set = (x : Prim_ W) × IsKnown dump chain x × ((x ≡ Prim_.Src set) ⊎ (x ≡ Prim_.Dst set))

  module _ (side : Side) where
    -- the chain is closed within the limits, and the sets of addresses in reach have few boundaries
    abbrev pub HasFewSets : Type 0
    HasFewSets = (IsChecked dump chain × IsSmall dump chain side) × HasFewBoundaries W IsAddressSet

    -- when a dump has no matrix: where it isn't closed, or else where these boundaries are too many
    abbrev pub RefusesSets : Refusal → Type 0
    RefusesSets (Refusal.Limit Kind.Atoms) = (IsChecked dump chain × IsSmall dump chain side) × HasManyBoundaries W IsAddressSet
    RefusesSets refusal = RefusesClosed dump chain side refusal

module _ {W : ℕ} (side : Side) (dump : Dump (Prim_ W)) (chain : ℕ) where
  -- with the tests of names hidden, the chain is closed within the limits, and the sets of addresses in reach have few
  -- boundaries
  abbrev pub HasFewAtoms : Type 0
  HasFewAtoms = HasFewSets (hidden Hide.BothNames dump) chain side

  -- when there is no matrix: where the dump with the tests of names hidden has none
  abbrev pub RefusesMatrix : Refusal → Type 0
  RefusesMatrix = RefusesSets (hidden Hide.BothNames dump) chain side
