-- The primitives of an expression.
use Rattle.std.specs.Prelude.{List, [], ◌∷◌, ◌++◌}
use Rattle.match_expr.specs.declared.expr.Expr.{Expr}
use Rattle.match_expr.specs.declared.expr.Expr.TheOpen.{Expr-F}
use Rattle.match_expr.specs.declared.expr.Expr.TheFolds.{fold-Expr}

-- the lists, one after another
abbrev pub joined : {X : Type 0} → List (List X) → List X
joined [] = []
joined (xs ∷ lists) = xs ++ joined lists

-- one level, with the primitives of each part in its place
abbrev pub listed : {P : Type 0} → Expr-F P (List P) → List P
listed (Expr-F.All parts) = joined parts
listed (Expr-F.Not part) = part
listed (Expr-F.Prim x) = x ∷ []

-- the primitives of an expression, in order
abbrev pub primitives_in : {P : Type 0} → Expr P → List P
primitives_in {P} = fold-Expr P (List P) listed
