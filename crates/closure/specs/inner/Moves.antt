-- From one place of a tree to another: what a sink is given on the way, and what is kept.
use Rattle.std.specs.Prelude.{◌≡◌, Bool, true, false, List, ◌++◌}
use Rattle.match_expr.specs.declared.expr.Expr.{Expr}
use Rattle.closure.specs.declared.cutting.Needs.{Needs}
use Rattle.closure.specs.declared.cutting.Passed.{Passed}
use Rattle.closure.specs.Rewriting.{Tree, Leave, Block}
use Rattle.closure.specs.Flat.{escapes}
use Rattle.closure.specs.Stream.{stream, IsSettled}
use Rattle.closure.specs.inner.Ends.{IsSilent}

-- the escapes don't depend on what stands before the items
abbrev pub IsBlind : {P : Type 0} → Tree P → Type 0
IsBlind {P} items = (a b : List (Expr P)) → escapes a items ≡ escapes b items

-- a block, and behind it a way out of the block around it
abbrev pub then_leave : {P : Type 0} → Expr P → Tree P → Tree P → Tree P
then_leave e inner behind = Block e inner (Leave e 0 behind)

module _ {P S K : Type 0} (given : K → List (S × Bool) → Type 0) (cut : S → Expr P → S) where
  -- what is given on the way and what is made of the items behind complete what is made of all; so do the escapes, where they are wanted
  pub record Moves (wanted : Bool) (before behind : Tree P) (k k' : K) (p p' : Passed P S) : Type 0 where
    pub states : (xs : List (S × Bool)) → given k xs → (ys : List (S × Bool)) × given k' ys × (ys ++ stream cut p'.state behind ≡ xs ++ stream cut p.state before)
    pub escapes : wanted ≡ true → p'.found.items ++ escapes p'.past.items behind ≡ p.found.items ++ escapes p.past.items before

  -- all that is made of the items is given
  abbrev pub Fills : Tree P → K → K → S → Type 0
  Fills before k k' s = (xs : List (S × Bool)) → given k xs → given k' (xs ++ stream cut s before)

  -- the way is gone, or the sink is settled on it
  abbrev pub Steps : Bool → Bool → Tree P → Tree P → K → K → Passed P S → Passed P S → Type 0
  Steps true wanted before behind k k' p p' = Moves wanted before behind k k' p p'
  Steps false wanted before behind k k' p p' = IsSettled given k' × Fills before k k' p.state

  -- the way over an item, whatever items stand behind it of which no more is needed
  abbrev pub Passes : Bool → Needs → (Tree P → Tree P) → K → K → Passed P S → Passed P S → Type 0
  Passes on needs before k k' p p' = (behind : Tree P) → (needs.state ≡ false → IsSilent behind) → (needs.past ≡ false → IsBlind behind) →
      Steps on needs.escapes (before behind) behind k k' p p'
