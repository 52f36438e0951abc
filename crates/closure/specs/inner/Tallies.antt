-- From one place of a tree to another: what is counted on the way.
use Rattle.std.specs.Prelude.{ℕ, ◌≡◌, Bool, List, ◌++◌, map}
use Rattle.match_expr.specs.declared.expr.Expr.{Expr}
use Rattle.closure.specs.declared.modes.Escape.{Escape}
use Rattle.closure.specs.declared.tally.Tally.{Tally}
use Rattle.closure.specs.Rewriting.{Tree}
use Rattle.closure.specs.Flat.{escapes}
use Rattle.closure.specs.Stream.{cut_all, stream}
use Rattle.closure.specs.inner.Counts.{capped}
use Rattle.closure.specs.inner.Totals.{with_literals, together, total_of}
use Rattle.closure.specs.inner.Ways.{way_of}

module _ {P : Type 0} where
  -- the numbers of what is made of the items that were passed
  pub record Numbers (out : List (ℕ × Bool)) (past : List (Expr P)) (found : List (Escape P)) (tally : Tally) : Type 0 where
    pub past_is : tally.past ≡ capped (together past)
    pub total_is : tally.total ≡ capped (total_of out)
    pub ways_are : tally.ways.items ≡ map way_of found

  -- the tally has the numbers of what is made on the way from one place to the other, behind what was made before
  pub record Shifted (around : ℕ) (before behind : Tree P) (out : List (ℕ × Bool)) (past : List (Expr P)) (found : List (Escape P)) (tally : Tally) : Type 0 where
    pub out' : List (ℕ × Bool)
    pub past' : List (Expr P)
    pub found' : List (Escape P)
    pub numbers : Numbers out' past' found' tally
    pub states : out' ++ stream with_literals (cut_all with_literals around past') behind ≡ out ++ stream with_literals (cut_all with_literals around past) before
    pub escapes : found' ++ escapes past' behind ≡ found ++ escapes past before

  -- the one tally becomes the other on the way
  abbrev pub Counts : ℕ → Tree P → Tree P → Tally → Tally → Type 0
  Counts around before behind a b = (out : List (ℕ × Bool)) (past : List (Expr P)) (found : List (Escape P)) → Numbers out past found a → Shifted around before behind out past found b
