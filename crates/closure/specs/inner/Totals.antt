-- The number of literals, counted along the tree.
use Rattle.std.specs.Prelude.{ℕ, ◌+◌, Bool, List, [], ◌∷◌, map}
use Rattle.match_expr.specs.Meaning.{literal_count, sum_of}
use Rattle.match_expr.specs.declared.expr.Expr.{Expr}
use Rattle.fw_rule.specs.declared.rule.Lit.{Lit}
use Rattle.closure.specs.inner.Counts.{capped}

-- with the literals of one part more
abbrev pub with_literals : {P : Type 0} → ℕ → Expr P → ℕ
with_literals n e = capped (n + literal_count e)

-- the literals of these expressions together
abbrev pub together : {P : Type 0} → List (Expr P) → ℕ
together es = sum_of (map literal_count es)

-- the sum over all flat rules
abbrev pub total_of : List (ℕ × Bool) → ℕ
total_of [] = 0
total_of (x ∷ xs) = x.0 + total_of xs

-- the literals of a known literal's expression; none of an unknown one
abbrev pub lit_count : {P : Type 0} → Lit P → ℕ
lit_count (Lit.Known neg expr) = literal_count expr
lit_count (Lit.Unknown text) = 0
