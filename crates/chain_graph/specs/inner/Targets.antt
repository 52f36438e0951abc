-- Unsupported targets, the least line first.
use Rattle.std.specs.Prelude.{ℕ, ◌≤◌, ◌<◌, ◌≡◌, ◌⊎◌, List, Option, None, Some, MatchOption, Contains}
use Rattle.fw_rule.specs.declared.rule.Action.{Action}
use Rattle.fw_rule.specs.declared.rule.Rule.{Rule}
use Rattle.fw_rule.specs.declared.rule.Dump.{Dump}
use Rattle.fw_rule.specs.Calls.{RuleOf, Reaches}
use Rattle.chain_graph.specs.declared.targets.Target.{Target}

-- among the lines and names of this kind it has the least line; None where there is none of the kind
abbrev pub IsLeastOf : (ℕ → List ℕ → Type 0) → Option Target → Type 0
IsLeastOf Kind o = MatchOption o ((line : ℕ) (name : List ℕ) → Kind line name → ⊥) (λ t. Kind t.line t.name × ((line : ℕ) (name : List ℕ) → Kind line name → t.line ≤ line))

-- the one with the lesser line
abbrev pub IsLesser : Option Target → Option Target → Option Target → Type 0
IsLesser None b o = o ≡ b
IsLesser (Some s) None o = o ≡ Some s
IsLesser (Some s) (Some t) o = ((s.line ≤ t.line) × (o ≡ Some s)) ⊎ ((t.line ≤ s.line) × (o ≡ Some t))

module _ {P : Type 0} where
  -- the rule has this line and an unsupported target of this name
  abbrev pub IsTarget : Rule P → ℕ → List ℕ → Type 0
  IsTarget rule line name = (rule.action ≡ Action.Other name) × (rule.line ≡ line)

  -- one of the rules has
  abbrev pub TargetIn : List (Rule P) → ℕ → List ℕ → Type 0
  TargetIn rules line name = (rule : Rule P) × Contains rules rule × IsTarget rule line name

  -- one of the rules has, of a chain in reach whose number is less
  abbrev pub TargetBefore : Dump P → ℕ → ℕ → ℕ → List ℕ → Type 0
  TargetBefore dump asked next line name = (c : ℕ) × (c < next) × Reaches dump asked c × ((rule : Rule P) × RuleOf dump c rule × IsTarget rule line name)
