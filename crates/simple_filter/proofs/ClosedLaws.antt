-- From a check of a chain and its flat list to what its simple rules say.
use Rattle.std.proofs.Common.{◌≡◌, ℕ, List, Some}
use Rattle.match_expr.specs.declared.expr.FlatRule.{FlatRule}
use Rattle.primitives.specs.declared.prim.Prim_.{Prim_}
use Rattle.primitives.specs.Holds.{holds_of}
use Rattle.fw_rule.specs.declared.rule.Dump.{Dump}
use Rattle.fw_rule.specs.declared.rule.Verdict.{Verdict}
use Rattle.fw_rule.specs.declared.side.Side.{Side}
use Rattle.fw_rule.specs.Walk.{Here, policy_of}
use Rattle.chain_graph.specs.declared.graph.Ranked.{Ranked}
use Rattle.chain_graph.specs.declared.graph.GraphFault.{GraphFault}
use Rattle.chain_graph.specs.Refusals.{Refuses}
use Rattle.rewriting.specs.declared.rows.Mode.TheVariants.{Hard}
use Rattle.closure.specs.Checked.{IsRankedWithPolicy}
use Rattle.closure.specs.Rewriting.{greatest_depth}
use Rattle.closure.specs.Sides.{ClosesTo}
use Rattle.closure.proofs.Exact.{closes}
use Rattle.closure.proofs.RankReads.{is_settled, within_limit}
use Rattle.closure.proofs.SourceLemmas.{list_known}
use Rattle.box_norm.specs.Normal.{normal_of}
use Rattle.box_norm.specs.Regular.{EachCube}
use Rattle.box_norm.proofs.NormalLaws.{normal_first}
use Rattle.simple_filter.specs.Closed.{Accepts, NamesAreKnown, RefusesClosed, flat_rules}
use Rattle.simple_filter.specs.Refused.{of_check}
use Rattle.simple_filter.proofs.KnownNames.{normal_known}

module _ {W : ℕ} (dump : Dump (Prim_ W)) (chain : ℕ) where
  -- what the flat list accepts, the simple rules accept
  simply : (side : Side) (policy : Verdict) (rules : List (FlatRule (Prim_ W))) → ClosesTo holds_of side dump chain policy rules → Accepts side dump chain policy (normal_of rules)
  simply Side.Upper policy rules h = λ p valid. rw (normal_first W p valid rules) (h p)
  simply Side.Lower policy rules h = λ p valid. rw (normal_first W p valid rules) (h p)

  -- a refusal of the check, as one of the question
  pub refused : (side : Side) (fault : GraphFault) → Refuses dump chain fault → RefusesClosed dump chain side (of_check fault)
  refused side (GraphFault.Unsupported line name) h = h
  refused side (GraphFault.Loop c) h = h
  refused side GraphFault.Depth h = h
  refused side GraphFault.Memory h = tt

  pub accepts : (ranked : Ranked) → IsRankedWithPolicy dump chain ranked → (side : Side) (policy : Verdict) → policy_of dump chain ≡ Some policy →
      Accepts side dump chain policy (normal_of (flat_rules dump chain side))
  accepts ranked checked side policy is =
      simply side policy (flat_rules dump chain side)
      (closes holds_of dump chain greatest_depth (is_settled dump chain ranked checked) (within_limit dump chain ranked checked chain Here) policy is side)

  pub names : (side : Side) → EachCube (NamesAreKnown dump chain) (normal_of (flat_rules dump chain side))
  names side = normal_known dump chain (flat_rules dump chain side) (list_known side dump greatest_depth chain Hard)
