-- Chains that lead to one another, and which dumps a walk can go through.
use Rattle.std.specs.Prelude.{ℕ, suc, ◌^◌, ◌<◌, ◌≡◌, List, length, Option, None, Some, slice_get, Contains, All, position}
use Rattle.std.specs.Str.{bytes_eq}
use Rattle.fw_rule.specs.declared.rule.Verdict.{Verdict}
use Rattle.fw_rule.specs.declared.rule.Action.{Action}
use Rattle.fw_rule.specs.declared.rule.Rule.{Rule}
use Rattle.fw_rule.specs.declared.rule.Chain.{Chain}
use Rattle.fw_rule.specs.declared.rule.Dump.{Dump}
use Rattle.fw_rule.specs.Steps.{policy_of}

module _ {P : Type 0} where
  -- a rule has fewer than 2^32 literals
  abbrev pub RuleHasRoom : Rule P → Type 0
  RuleHasRoom rule = length rule.lits < 2 ^ 32

  -- a chain has fewer than 2^32 rules, and each has room
  abbrev pub ChainHasRoom : Chain P → Type 0
  ChainHasRoom here = (length here.rules < 2 ^ 32) × All RuleHasRoom here.rules

  -- a dump has fewer than 2^32 chains, and each has room: the numbers of chains, rules and literals fit their types
  abbrev pub HasRoom : Dump P → Type 0
  HasRoom dump = (length dump.chains < 2 ^ 32) × All ChainHasRoom dump.chains

  -- the number of the first chain of this name, if there is one
  abbrev pub chain_named : List ℕ → Dump P → Option ℕ
  chain_named name dump = position (λ (here : Chain P). bytes_eq here.name name) dump.chains

-- the chain that an action leads to, where it is a call or a goto. From here on calls are both of them
abbrev pub target_of : Action → Option ℕ
target_of Action.Accept = None
target_of Action.Drop = None
target_of Action.Pass = None
target_of Action.Back = None
target_of (Action.Call chain) = Some chain
target_of (Action.Goto chain) = Some chain
target_of (Action.Other name) = None

module _ {P : Type 0} (dump : Dump P) where
  -- the rule stands in the chain of this number
  abbrev pub RuleOf : ℕ → Rule P → Type 0
  RuleOf chain rule = (here : Chain P) × (slice_get dump.chains chain ≡ Some here) × Contains here.rules rule

  -- a rule of the one chain leads to the other, whether it matches or not
  abbrev pub Calls : ℕ → ℕ → Type 0
  Calls from to = (rule : Rule P) × RuleOf from rule × (target_of rule.action ≡ Some to)

  -- calls lead from the one chain to the other; from each chain to itself over no call
  pub data Reaches : ℕ → ℕ → Type 0 where
    Here : {a : ℕ} → Reaches a a
    Over : {a b c : ℕ} → Calls a b → Reaches b c → Reaches a c

  -- a chain is settled where it has a policy, and among the chains that it reaches, itself too, calls name chains, no target is unsupported, and no chain calls itself over any path
  pub record Settled (chain : ℕ) : Type 0 where
    pub policy : (v : Verdict) × (policy_of dump chain ≡ Some v)
    pub named : (a b : ℕ) → Reaches chain a → Calls a b → b < length dump.chains
    pub known_targets : (a : ℕ) (rule : Rule P) (name : List ℕ) → Reaches chain a → RuleOf a rule → rule.action ≡ Action.Other name → ⊥
    pub no_loop : (a b : ℕ) → Reaches chain a → Calls a b → Reaches b a → ⊥

  -- the chain is reached from one that is settled
  abbrev pub InSettled : ℕ → Type 0
  InSettled chain = (asked : ℕ) × Settled asked × Reaches asked chain

  -- no call path from the chain has more than `d` chains
  pub data Within : ℕ → ℕ → Type 0 where
    deep : {d c : ℕ} → ((k : ℕ) → Calls c k → Within d k) → Within (suc d) c
