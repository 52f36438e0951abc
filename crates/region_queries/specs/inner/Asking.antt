-- What the parts of the search answer.
use Rattle.std.specs.Prelude.{ℕ, ◌≡◌, true, List, Option, None, Some}
use Rattle.limits.specs.declared.TheConstants.{MOST_REGIONS}
use Rattle.primitives.specs.declared.prim.Packet.{Packet}
use Rattle.box_norm.specs.declared.cube.Cube.{Cube}
use Rattle.box_norm.specs.declared.cube.SimpleRule.{SimpleRule}
use Rattle.region_cut.specs.declared.fault.RegionFault.{RegionFault}
use Rattle.region_queries.specs.Search.{FindsFirst, FindsIn, FindsNothing, GrowsFirst, GrowsIn, IsTooLarge, PassesAll, PassesOver}

module _ {W : ℕ} where
  -- what the search in one region answers
  abbrev pub AsksOne : List (SimpleRule W) → Cube W → Cube W → Option Packet → Type 0
  AsksOne against region cube None = PassesOver against region cube × (GrowsIn MOST_REGIONS against region cube → ⊥)
  AsksOne against region cube (Some p) = FindsIn against region cube p × (GrowsIn MOST_REGIONS against region cube → ⊥)

  -- when it has no answer. Want of memory tells nothing, here and below
  abbrev pub RefusesOne : List (SimpleRule W) → Cube W → Cube W → RegionFault → Type 0
  RefusesOne against region cube RegionFault.Regions = GrowsIn MOST_REGIONS against region cube
  RefusesOne against region cube RegionFault.Memory = Unit {0}

  -- what the search in several regions answers
  abbrev pub AsksAll : List (SimpleRule W) → List (Cube W) → Cube W → Option Packet → Type 0
  AsksAll against regions cube None = PassesAll against regions cube × (GrowsFirst MOST_REGIONS against regions cube → ⊥)
  AsksAll against regions cube (Some p) = FindsFirst against regions cube p × (GrowsFirst MOST_REGIONS against regions cube → ⊥)

  -- when it has no answer
  abbrev pub RefusesAll : List (SimpleRule W) → List (Cube W) → Cube W → RegionFault → Type 0
  RefusesAll against regions cube RegionFault.Regions = GrowsFirst MOST_REGIONS against regions cube
  RefusesAll against regions cube RegionFault.Memory = Unit {0}

  -- what a rule finds in several regions
  abbrev pub AsksRule : List (SimpleRule W) → SimpleRule W → List (Cube W) → Option Packet → Type 0
  AsksRule against rule regions None = FindsNothing against rule regions
      × (rule.accept ≡ true → GrowsFirst MOST_REGIONS against regions rule.cube → ⊥)
  AsksRule against rule regions (Some p) = (rule.accept ≡ true) × AsksAll against regions rule.cube (Some p)

  -- when it has no answer
  abbrev pub RefusesRule : List (SimpleRule W) → SimpleRule W → List (Cube W) → RegionFault → Type 0
  RefusesRule against rule regions RegionFault.Regions = (rule.accept ≡ true) × GrowsFirst MOST_REGIONS against regions rule.cube
  RefusesRule against rule regions RegionFault.Memory = Unit {0}

  -- when the search of all packets has no answer
  abbrev pub RefusesSearch : List (SimpleRule W) → List (SimpleRule W) → RegionFault → Type 0
  RefusesSearch against rules RegionFault.Regions = IsTooLarge against rules
  RefusesSearch against rules RegionFault.Memory = Unit {0}
