-- When there is no verdict.
use Rattle.std.specs.Prelude.{ℕ, ◌≡◌, List, Some}
use Rattle.interval_set.specs.declared.set.Range.{Range}
use Rattle.primitives.specs.declared.prim.Prim_.{Prim_}
use Rattle.fw_rule.specs.declared.rule.Dump.{Dump}
use Rattle.fw_rule.specs.declared.rule.Verdict.{Verdict}
use Rattle.fw_rule.specs.declared.side.Side.{Side}
use Rattle.fw_rule.specs.Walk.{policy_of}
use Rattle.chain_graph.specs.Refusals.{IsChecked}
use Rattle.box_norm.specs.declared.cube.SimpleRule.{SimpleRule}
use Rattle.box_norm.specs.Normal.{normal_of}
use Rattle.simple_filter.specs.Closed.{IsSmall, RefusesClosed, flat_rules}
use Rattle.simple_filter.specs.Hidden.{hidden}
use Rattle.simple_filter.specs.declared.hiding.Hide.{Hide}
use Rattle.simple_filter.specs.declared.refusal.Kind.{Kind}
use Rattle.simple_filter.specs.declared.refusal.Refusal.{Refusal}
use Rattle.region_cut.specs.declared.fault.RegionFault.{RegionFault}
use Rattle.spoof_check.specs.Verdicts.{IsSearched, IsTooLong}
use Rattle.spoof_check.specs.declared.answers.Spoof.{Spoof}

module _ {W : ℕ} (dump : Dump (Prim_ W)) (chain : ℕ) where
  -- the simple rules that are searched: those of side Upper, with the tests of output interfaces hidden
  abbrev pub searched_rules : List (SimpleRule W)
  searched_rules = normal_of (flat_rules (hidden Hide.OutNames dump) chain Side.Upper)

  -- they are closed within the limits
  abbrev pub HasSearchedRules : Type 0
  HasSearchedRules = IsChecked (hidden Hide.OutNames dump) chain × IsSmall (hidden Hide.OutNames dump) chain Side.Upper

  module _ (name : List ℕ) (inside : List Range) where
    -- the verdict is that of the search, which stays within its limit
    abbrev pub IsShown : Spoof → Type 0
    IsShown verdict = HasSearchedRules × ((policy : Verdict) × (policy_of dump chain ≡ Some policy)
        × IsSearched searched_rules policy name inside verdict)

    -- when there is no verdict: where the chain isn't closed, or else where the search comes to too many regions
    abbrev pub RefusesSpoof : Refusal → Type 0
    RefusesSpoof (Refusal.Limit Kind.Regions) = HasSearchedRules × ((policy : Verdict) × (policy_of dump chain ≡ Some policy)
        × IsTooLong searched_rules policy name inside)
    RefusesSpoof refusal = RefusesClosed (hidden Hide.OutNames dump) chain Side.Upper refusal

-- when the search of some rules has no verdict. Want of memory tells nothing
abbrev pub RefusesSearched : {W : ℕ} → List (SimpleRule W) → Verdict → List ℕ → List Range → RegionFault → Type 0
RefusesSearched rules policy name inside RegionFault.Regions = IsTooLong rules policy name inside
RefusesSearched rules policy name inside RegionFault.Memory = Unit {0}
