-- Patterns of interface names that a line can say.
use Rattle.std.specs.Prelude.{ℕ, ◌≡◌, ◌≤◌, List, [], ◌∷◌, ◌++◌, codes, length}
use Rattle.std.specs.List.{AllByRecursion}
use Rattle.fw_rule.specs.declared.rule.Lit.{Lit}
use Rattle.match_expr.specs.Primitives.{primitives_in}
use Rattle.name_set.specs.declared.pattern.Pattern.{Pattern}
use Rattle.primitives.specs.declared.prim.Prim_.{Prim_}
use Rattle.dump_grammar.specs.Lines.{IsLine, Text}

-- the pattern's text has 255 bytes at most with its `+`, and no line feed; a name alone isn't empty and doesn't end
-- in `+`
abbrev pub IsPrintable : Pattern → Type 0
IsPrintable (Pattern.Exact name) =
    (1 ≤ length name) × (length name ≤ 255) × ((front : Text) → name ≡ front ++ codes "+" → ⊥) × IsLine name
IsPrintable (Pattern.Prefix front) = (length front ≤ 254) × IsLine front

module _ {W : ℕ} where
  -- a test of an interface's name is of a printable pattern
  abbrev pub HasPrintable : Prim_ W → Type 0
  HasPrintable (Prim_.InName pattern) = IsPrintable pattern
  HasPrintable (Prim_.OutName pattern) = IsPrintable pattern
  HasPrintable x = Unit {0}

  -- so is each test of a known literal
  abbrev pub IsPrintableLiteral : Lit (Prim_ W) → Type 0
  IsPrintableLiteral (Lit.Known neg expr) = AllByRecursion HasPrintable (primitives_in expr)
  IsPrintableLiteral (Lit.Unknown text) = Unit {0}
