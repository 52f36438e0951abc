-- A chain that was checked: its calls end, and the chains that it reaches are ranked.
use Rattle.std.specs.Prelude.{ℕ, ◌≡◌, Some}
use Rattle.fw_rule.specs.declared.rule.Verdict.{Verdict}
use Rattle.fw_rule.specs.declared.rule.Dump.{Dump}
use Rattle.fw_rule.specs.Walk.{policy_of}
use Rattle.chain_graph.specs.declared.graph.Ranked.{Ranked}
use Rattle.chain_graph.specs.Refusals.{SettledByPolicy}
use Rattle.chain_graph.specs.Results.{IsRanked}

module _ {P : Type 0} (dump : Dump P) (chain : ℕ) where
  -- the chain is there and has a policy
  abbrev pub HasPolicy : Type 0
  HasPolicy = (policy : Verdict) × (policy_of dump chain ≡ Some policy)

  -- this is what a check of the chain answers, and the chain has a policy
  pub record IsRankedWithPolicy (ranked : Ranked) : Type 0 where
    pub ranks : IsRanked dump chain ranked
    pub settled : SettledByPolicy dump chain
    pub policy : HasPolicy
