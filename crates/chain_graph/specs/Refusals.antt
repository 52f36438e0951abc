-- When each refusal comes.
use Rattle.std.specs.Prelude.{ℕ, suc, ◌≡◌, Some}
use Rattle.fw_rule.specs.declared.rule.Verdict.{Verdict}
use Rattle.fw_rule.specs.declared.rule.Dump.{Dump}
use Rattle.fw_rule.specs.Walk.{policy_of, Settled}
use Rattle.limits.specs.declared.TheConstants.{MOST_CHAINS}
use Rattle.chain_graph.specs.declared.graph.GraphFault.{GraphFault}
use Rattle.chain_graph.specs.Paths.{HasPath}
use Rattle.chain_graph.specs.Faults.{NoneUnsupported, IsLeastUnsupported, NoLoop, IsFirstLoop}

module _ {P : Type 0} (dump : Dump P) where
  -- an unsupported target comes first, then a loop, then a call path of one chain more than `MOST_CHAINS`; want of memory
  -- may come at any time
  abbrev pub Refuses : ℕ → GraphFault → Type 0
  Refuses asked (GraphFault.Unsupported line name) = IsLeastUnsupported dump asked line name
  Refuses asked (GraphFault.Loop c) = NoneUnsupported dump asked × IsFirstLoop dump asked c
  Refuses asked GraphFault.Depth = NoneUnsupported dump asked × NoLoop dump asked × HasPath dump asked (suc MOST_CHAINS)
  Refuses asked GraphFault.Memory = Unit {0}

  -- the chain is settled where it has a policy
  abbrev pub SettledByPolicy : ℕ → Type 0
  SettledByPolicy asked = (policy : Verdict) → policy_of dump asked ≡ Some policy → Settled dump asked

  -- the chain has a policy, and a check of it passes: it is settled, and no call path from it has more chains than `MOST_CHAINS`
  pub record IsChecked (chain : ℕ) : Type 0 where
    pub settled : Settled dump chain
    pub depth : HasPath dump chain (suc MOST_CHAINS) → ⊥
