-- When there is no answer, and which one is given.
use Rattle.std.specs.Prelude.{ℕ, ◌≡◌, List, Some}
use Rattle.primitives.specs.declared.prim.Prim_.{Prim_}
use Rattle.fw_rule.specs.declared.rule.Dump.{Dump}
use Rattle.fw_rule.specs.declared.rule.Verdict.{Verdict}
use Rattle.fw_rule.specs.declared.side.Side.{Side}
use Rattle.fw_rule.specs.Walk.{policy_of}
use Rattle.chain_graph.specs.Refusals.{IsChecked}
use Rattle.box_norm.specs.declared.cube.SimpleRule.{SimpleRule}
use Rattle.box_norm.specs.Normal.{normal_of}
use Rattle.region_cut.specs.Search.{with_policy}
use Rattle.simple_filter.specs.Closed.{IsSmall, RefusesClosed, flat_rules}
use Rattle.simple_filter.specs.declared.refusal.Refusal.{Refusal}
use Rattle.region_queries.specs.declared.answers.Cover.{Cover}
use Rattle.region_queries.specs.declared.fault.CoverFault.{CoverFault}
use Rattle.region_queries.specs.Search.{Answers, IsTooLarge, flipped}

module _ {W : ℕ} (dump : Dump (Prim_ W)) (chain : ℕ) (side : Side) where
  -- the chain is closed within the limits
  abbrev pub IsClosed : Type 0
  IsClosed = IsChecked dump chain × IsSmall dump chain side

  -- its simple rules
  abbrev pub simple_rules : List (SimpleRule W)
  simple_rules = normal_of (flat_rules dump chain side)

  -- it isn't, for this cause. Want of memory is none
  abbrev pub IsRefused : Refusal → Type 0
  IsRefused Refusal.Memory = ⊥
  IsRefused refusal = RefusesClosed dump chain side refusal

module _ {W : ℕ} (first : Dump (Prim_ W)) (first_chain : ℕ) (second : Dump (Prim_ W)) (second_chain : ℕ) where
  -- Both are closed, and it is so of what the second drops and what the first accepts: of the second's rules of side Lower,
  -- flipped, and the first's of side Upper, each with its policy.
  pub record OfBoth (IsSo : List (SimpleRule W) → List (SimpleRule W) → Type 0) : Type 0 where
    pub first_closed : IsClosed first first_chain Side.Upper
    pub second_closed : IsClosed second second_chain Side.Lower
    pub first_policy : Verdict
    pub first_has : policy_of first first_chain ≡ Some first_policy
    pub second_policy : Verdict
    pub second_has : policy_of second second_chain ≡ Some second_policy
    pub so : IsSo (flipped (simple_rules second second_chain Side.Lower) second_policy)
        (with_policy (simple_rules first first_chain Side.Upper) first_policy)

  -- the answer is that of the search, which stays within its limit
  abbrev pub IsShown : Cover → Type 0
  IsShown answer = OfBoth (λ against rules. Answers against rules answer)

  -- when there is no answer: the first isn't closed, or else the second isn't, or else the search comes to too many regions.
  -- Want of memory tells nothing
  abbrev pub RefusesCover : CoverFault → Type 0
  RefusesCover (CoverFault.First refusal) = IsRefused first first_chain Side.Upper refusal
  RefusesCover (CoverFault.Second refusal) = IsClosed first first_chain Side.Upper × IsRefused second second_chain Side.Lower refusal
  RefusesCover CoverFault.Regions = OfBoth IsTooLarge
  RefusesCover CoverFault.Memory = Unit {0}
