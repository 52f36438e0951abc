-- The rewriting of a chain's rules into a tree of items, by its table.
use Rattle.std.specs.Prelude.{ℕ, zero, suc, ◌+◌, Bool, true, false, List, [], ◌∷◌, Option, None, Some, slice_get}
use Rattle.match_expr.specs.declared.expr.Expr.{Expr}
use Rattle.match_expr.specs.declared.expr.Expr.TheVariants.{All}
use Rattle.limits.specs.declared.TheConstants.{MOST_CHAINS}
use Rattle.fw_rule.specs.declared.rule.Rule.{Rule}
use Rattle.fw_rule.specs.declared.rule.Chain.{Chain}
use Rattle.fw_rule.specs.declared.rule.Dump.{Dump}
use Rattle.fw_rule.specs.Matching.{known_of, doubt_in}
use Rattle.rewriting.specs.declared.rows.Mode.{Mode}
use Rattle.rewriting.specs.declared.rows.Mode.TheVariants.{Hard, Soft}
use Rattle.rewriting.specs.declared.rows.Row.{Row}
use Rattle.rewriting.specs.Table.{kind, row_of}
use Rattle.fw_rule.specs.declared.side.Side.{Side}

-- items, one after another: a verdict, a way out of this block and `n` more, or a block of items
pub data Tree (P : Type 0) : Type 0 where
  Done : Tree P
  Decide : Expr P → Bool → Tree P → Tree P
  Leave : Expr P → ℕ → Tree P → Tree P
  Block : Expr P → Tree P → Tree P → Tree P

-- the number of items at all depths
abbrev pub nodes : {P : Type 0} → Tree P → ℕ
nodes Done = 0
nodes (Decide e v rest) = suc (nodes rest)
nodes (Leave e n rest) = suc (nodes rest)
nodes (Block e inner rest) = suc (nodes inner + nodes rest)

-- a chain's items in Soft 1, and then a way out of the block around them and one more: where the chain comes to its end, that is left; at a bad verdict the block around them alone
abbrev pub to_the_end : {P : Type 0} → Tree P → Tree P
to_the_end inner = Block (All []) inner (Leave (All []) 1 Done)

-- the items of a row and of the rest: `k` is what the rule's known literals say, `callee` has the items of chains
abbrev pub shape : {P : Type 0} → (ℕ → Mode → Tree P) → Expr P → (Mode → Tree P) → Mode → Row → Tree P
shape callee k rest mode Row.Skip = rest mode
shape callee k rest mode (Row.Decide v) = Decide k v (rest mode)
shape callee k rest mode (Row.Leave n) = Leave k n (rest mode)
shape callee k rest mode Row.LeaveLater = Block k (rest (Soft 0)) (Leave k 0 (rest mode))
shape callee k rest mode (Row.Run c m) = Block k (callee c m) (rest mode)
shape callee k rest mode (Row.RunThenLeave c m) = Block k (callee c m) (Leave k 0 (rest mode))
shape callee k rest mode (Row.RunLater c) = Block k (rest (Soft 0)) (Block k (to_the_end (callee c (Soft 1))) (rest mode))

-- the items of a list of rules in a mode
abbrev pub items : {P : Type 0} → Side → (ℕ → Mode → Tree P) → List (Rule P) → Mode → Tree P
items side callee [] mode = Done
items side callee (rule ∷ rules) mode =
    shape callee (known_of rule) (λ (m : Mode). items side callee rules m) mode (row_of side (doubt_in rule.lits) (kind side rule.action) mode)

-- a chain's rules; none where there is no chain
abbrev pub rules_at : {P : Type 0} → Option (Chain P) → List (Rule P)
rules_at None = []
rules_at (Some here) = here.rules

-- the rules of the chain of this number
abbrev pub rules_of : {P : Type 0} → Dump P → ℕ → List (Rule P)
rules_of dump c = rules_at (slice_get dump.chains c)

-- the items of a chain in a mode, where no path of calls and gotos from it has more than `depth` chains
abbrev pub tree : {P : Type 0} → Side → Dump P → ℕ → ℕ → Mode → Tree P
tree side dump zero c mode = Done
tree side dump (suc depth) c mode = items side (tree side dump depth) (rules_of dump c) mode

-- the greatest number of chains on a path of calls and gotos: a check refuses a chain from which a longer one leads
unfoldable pub greatest_depth : ℕ
greatest_depth = MOST_CHAINS

-- the tree of a chain
abbrev pub chain_tree : {P : Type 0} → Side → Dump P → ℕ → Tree P
chain_tree side dump c = tree side dump greatest_depth c Hard
