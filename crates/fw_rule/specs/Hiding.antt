-- Hiding of literals: they become unknown.
use Rattle.std.specs.Prelude.{Bool, [], if◌then◌else◌}
use Rattle.match_expr.specs.declared.expr.Expr.{Expr}
use Rattle.fw_rule.specs.declared.rule.Lit.{Lit}
use Rattle.fw_rule.specs.declared.rule.Dump.{Dump}
use Rattle.fw_rule.specs.Mapping.{mapped_by}

module _ {P : Type 0} (hides : Expr P → Bool) where
  -- in place of a known literal whose expression is to be hidden, negated or not, an unknown one of empty text
  abbrev pub hidden_literal : Lit P → Lit P
  hidden_literal (Lit.Known neg expr) = if hides expr then Lit.Unknown [] else Lit.Known neg expr
  hidden_literal (Lit.Unknown text) = Lit.Unknown text

  -- the dump with these literals hidden; all else stays
  abbrev pub hidden_by : Dump P → Dump P
  hidden_by dump = mapped_by hidden_literal dump
