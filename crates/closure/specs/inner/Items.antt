-- The items of a chain's rules from one of them on.
use Rattle.std.specs.Prelude.{ℕ, ◌-◌, ◌∷◌, drop}
use Rattle.fw_rule.specs.declared.rule.Rule.{Rule}
use Rattle.fw_rule.specs.declared.rule.Dump.{Dump}
use Rattle.closure.specs.declared.modes.RulesFrom.{RulesFrom}
use Rattle.fw_rule.specs.declared.side.Side.{Side}
use Rattle.closure.specs.Rewriting.{Tree, items, rules_of, tree}

-- the items of these rules in their mode
abbrev pub items_from : {P : Type 0} → Side → Dump P → RulesFrom → Tree P
items_from side dump r = items side (tree side dump (r.depth - 1)) (drop r.first (rules_of dump r.chain)) r.mode

-- the items of a rule and of these behind it
abbrev pub items_with : {P : Type 0} → Side → Dump P → Rule P → RulesFrom → Tree P
items_with side dump rule r = items side (tree side dump (r.depth - 1)) (rule ∷ drop r.first (rules_of dump r.chain)) r.mode
