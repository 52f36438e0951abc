-- A mapping of literals, over a whole dump.
use Rattle.std.specs.Prelude.{map}
use Rattle.fw_rule.specs.declared.rule.Lit.{Lit}
use Rattle.fw_rule.specs.declared.rule.Rule.{Rule}
use Rattle.fw_rule.specs.declared.rule.Chain.{Chain}
use Rattle.fw_rule.specs.declared.rule.Dump.{Dump}

module _ {P : Type 0} (image : Lit P → Lit P) where
  -- a rule keeps its action, its line and the numbers of its literals
  abbrev pub mapped_rule : Rule P → Rule P
  mapped_rule rule = record { lits = map image rule.lits; action = rule.action; line = rule.line }

  -- a chain keeps its name, its policy and the numbers of its rules
  abbrev pub mapped_chain : Chain P → Chain P
  mapped_chain here = record { name = here.name; policy = here.policy; rules = map mapped_rule here.rules }

  -- the dump with the image of each literal in its place; all else stays
  abbrev pub mapped_by : Dump P → Dump P
  mapped_by dump = record { chains = map mapped_chain dump.chains }
