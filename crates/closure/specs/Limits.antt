-- The limits of a rewriting, and which is passed.
use Rattle.std.specs.Prelude.{◌<◌, ◌≤◌}
use Rattle.limits.specs.declared.TheConstants.{MOST_NODES, MOST_LITERALS}
use Rattle.closure.specs.declared.flat_lists.FlatFault.{FlatFault}
use Rattle.closure.specs.Rewriting.{Tree, nodes}
use Rattle.closure.specs.Flat.{flat_list, literals_in}

module _ {P : Type 0} where
  -- the tree has at most 262,144 items, and its flat list at most 4,194,304 literals
  abbrev pub IsSmall : Tree P → Type 0
  IsSmall tree = (nodes tree ≤ MOST_NODES) × (literals_in (flat_list tree) ≤ MOST_LITERALS)

  -- which limit is passed: that of items, or that of literals where the items keep to theirs. Want of memory tells nothing
  abbrev pub Passes : Tree P → FlatFault → Type 0
  Passes tree FlatFault.Nodes = MOST_NODES < nodes tree
  Passes tree FlatFault.Literals = (nodes tree ≤ MOST_NODES) × (MOST_LITERALS < literals_in (flat_list tree))
  Passes tree FlatFault.Memory = Unit {0}
