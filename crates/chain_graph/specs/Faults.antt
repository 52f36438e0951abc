-- What keeps a chain from being ranked.
use Rattle.std.specs.Prelude.{ℕ, ◌≤◌, ◌≡◌, List}
use Rattle.fw_rule.specs.declared.rule.Action.{Action}
use Rattle.fw_rule.specs.declared.rule.Rule.{Rule}
use Rattle.fw_rule.specs.declared.rule.Dump.{Dump}
use Rattle.fw_rule.specs.Calls.{RuleOf, Calls, Reaches}

module _ {P : Type 0} (dump : Dump P) where
  -- the asked chain reaches a chain with this rule, whose target of this name isn't supported
  abbrev pub IsUnsupported : ℕ → Rule P → List ℕ → Type 0
  IsUnsupported asked rule name = (c : ℕ) × Reaches dump asked c × RuleOf dump c rule × (rule.action ≡ Action.Other name)

  -- no rule in reach has an unsupported target
  abbrev pub NoneUnsupported : ℕ → Type 0
  NoneUnsupported asked = (rule : Rule P) (name : List ℕ) → IsUnsupported asked rule name → ⊥

  -- this is the least line of the rules in reach with an unsupported target, and the name of such a target on it
  abbrev pub IsLeastUnsupported : ℕ → ℕ → List ℕ → Type 0
  IsLeastUnsupported asked line name = ((rule : Rule P) × IsUnsupported asked rule name × (rule.line ≡ line))
      × ((rule : Rule P) (other : List ℕ) → IsUnsupported asked rule other → line ≤ rule.line)

  -- the one chain reaches the other over at least one call or goto
  abbrev pub ReachesByCall : ℕ → ℕ → Type 0
  ReachesByCall a b = (k : ℕ) × Calls dump a k × Reaches dump k b

  -- the asked chain reaches the chain, which leads to itself over some path of calls and gotos
  abbrev pub IsLoop : ℕ → ℕ → Type 0
  IsLoop asked c = Reaches dump asked c × ReachesByCall c c

  -- no chain in reach leads to itself over any path
  abbrev pub NoLoop : ℕ → Type 0
  NoLoop asked = (c : ℕ) → IsLoop asked c → ⊥

  -- the first such chain in the order of declaration
  abbrev pub IsFirstLoop : ℕ → ℕ → Type 0
  IsFirstLoop asked c = IsLoop asked c × ((k : ℕ) → IsLoop asked k → c ≤ k)
