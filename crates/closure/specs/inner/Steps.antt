-- Escapes as the code hands them on: each once, under the expression of its block.
use Rattle.std.specs.Prelude.{List, [], ◌∷◌}
use Rattle.match_expr.specs.declared.expr.Expr.{Expr}
use Rattle.match_expr.specs.declared.expr.Expr.TheVariants.{All, Not}
use Rattle.closure.specs.declared.modes.Escape.{Escape}
use Rattle.closure.specs.Flat.{escape}

module _ {P : Type 0} where
  -- an escape of a block, which holds only where the block's expression does
  abbrev pub under : Expr P → Escape P → Escape P
  under e x = record { up = x.up; condition = All (e ∷ x.condition ∷ []) }

  -- what holds where an escape doesn't
  abbrev pub refuted : Escape P → Expr P
  refuted x = Not x.condition

  -- of such escapes those that leave the block around it too
  abbrev pub handed_on : List (Expr P) → List (Escape P) → List (Escape P)
  handed_on past [] = []
  handed_on past (x ∷ xs) = escape past x.up x.condition (handed_on past xs)
