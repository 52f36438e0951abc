-- Escapes by their numbers of literals alone.
use Rattle.std.specs.Prelude.{ℕ, zero, suc, ◌+◌, List, [], ◌∷◌, ◌++◌}
use Rattle.match_expr.specs.Meaning.{literal_count}
use Rattle.closure.specs.declared.modes.Escape.{Escape}
use Rattle.closure.specs.declared.tally.Way.{Way}
use Rattle.closure.specs.inner.Counts.{capped}

-- an escape, of whose condition the literals are counted
abbrev pub way_of : {P : Type 0} → Escape P → Way
way_of x = record { up = x.up; literals = capped (literal_count x.condition) }

-- of an item that leaves behind `past` literals: the way out, if it leaves more than its own block
abbrev pub escape : ℕ → ℕ → ℕ → List Way
escape past zero literals = []
escape past (suc n) literals = record { up = n; literals = capped (past + literals) } ∷ []

-- of the ways out of a block: those that leave the block around it too
abbrev pub carried : ℕ → ℕ → List Way → List Way
carried past literals [] = []
carried past literals (way ∷ ways) = escape past way.up (capped (literals + way.literals)) ++ carried past literals ways

-- the literals of what doesn't hold behind a block
abbrev pub stayed : ℕ → List Way → ℕ
stayed literals [] = 0
stayed literals (way ∷ ways) = literals + way.literals + stayed literals ways
