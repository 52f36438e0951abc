-- Which patterns of interface names the literals of a dump test.
use Rattle.std.specs.Prelude.{ℕ, Bool, false, not, if◌then◌else◌, List, [], ◌∷◌, Option}
use Rattle.std.specs.List.{filter, flat_map, zip}
use Rattle.std.specs.Option.{is_some}
use Rattle.std.specs.Str.{bytes_eq}
use Rattle.match_expr.specs.declared.expr.Expr.{Expr}
use Rattle.fw_rule.specs.declared.rule.Lit.{Lit}
use Rattle.fw_rule.specs.declared.rule.Rule.{Rule}
use Rattle.fw_rule.specs.declared.rule.Chain.{Chain}
use Rattle.fw_rule.specs.declared.rule.Dump.{Dump}
use Rattle.name_set.specs.declared.pattern.Pattern.{Pattern}
use Rattle.primitives.specs.declared.prim.Prim_.{Prim_}
use Rattle.iface_space.specs.declared.tested.Direction.{Direction}

-- whether two patterns are equal
abbrev pub same_pattern : Pattern → Pattern → Bool
same_pattern (Pattern.Exact a) (Pattern.Exact b) = bytes_eq a b
same_pattern (Pattern.Exact a) (Pattern.Prefix b) = false
same_pattern (Pattern.Prefix a) (Pattern.Exact b) = false
same_pattern (Pattern.Prefix a) (Pattern.Prefix b) = bytes_eq a b

-- each pattern once, where it stands first
abbrev pub once_each : List Pattern → List Pattern
once_each [] = []
once_each (by ∷ patterns) = by ∷ filter (λ other. not (same_pattern other by)) (once_each patterns)

module _ {W : ℕ} where
  -- the pattern, where the test is one of the name of this interface
  abbrev pub tested_name : Direction → Prim_ W → List Pattern
  tested_name Direction.Input (Prim_.InName by) = by ∷ []
  tested_name Direction.Output (Prim_.OutName by) = by ∷ []
  tested_name direction test = []

  -- of a literal, where it is known and is such a test alone, negated or not
  abbrev pub tested : Direction → Lit (Prim_ W) → List Pattern
  tested direction (Lit.Known neg (Expr.Prim test)) = tested_name direction test
  tested direction lit = []

  -- of the literals of some rules, in order
  abbrev pub tested_in : Direction → List (Rule (Prim_ W)) → List Pattern
  tested_in direction rules = flat_map (λ (rule : Rule (Prim_ W)). flat_map (tested direction) rule.lits) rules

  -- of a chain with a rank
  abbrev pub tested_ranked : Direction → Chain (Prim_ W) × Option ℕ → List Pattern
  tested_ranked direction pair = if is_some pair.1 then tested_in direction pair.0.rules else []

  -- of the chains that have a rank, in order: these are the chains that are reached
  abbrev pub all_tested : Direction → Dump (Prim_ W) → List (Option ℕ) → List Pattern
  all_tested direction dump ranks = flat_map (tested_ranked direction) (zip dump.chains ranks)
