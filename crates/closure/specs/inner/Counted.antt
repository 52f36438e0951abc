-- A table of the numbers of items of chains.
use Rattle.std.specs.Prelude.{ℕ, ◌≡◌, ◌≤◌, List, length, Some, slice_get}
use Rattle.fw_rule.specs.declared.rule.Dump.{Dump}
use Rattle.chain_graph.specs.declared.graph.Ranked.{Ranked}
use Rattle.closure.specs.declared.counting.Counts.{Counts}
use Rattle.rewriting.specs.declared.rows.Mode.{Mode}
use Rattle.rewriting.specs.declared.rows.Mode.TheVariants.{Hard, Soft}
use Rattle.fw_rule.specs.declared.side.Side.{Side}
use Rattle.closure.specs.inner.Counts.{capped, entry}
use Rattle.closure.specs.Rewriting.{Tree, nodes, tree, greatest_depth}

-- the numbers of items in both modes
abbrev pub counts_of : {P : Type 0} → (Mode → Tree P) → Counts
counts_of t = record { hard = capped (nodes (t Hard)); soft = capped (nodes (t (Soft 0))) }

module _ {P : Type 0} (side : Side) (dump : Dump P) where
  -- the table has the chain's numbers
  abbrev pub IsCounted : List Counts → ℕ → Type 0
  IsCounted table c = entry table c ≡ counts_of (tree side dump greatest_depth c)

  -- the table has the numbers of each chain of at most this rank
  pub record AreCounted (ranked : Ranked) (rank : ℕ) (table : List Counts) : Type 0 where
    pub long : length table ≡ length dump.chains
    pub each : (c r : ℕ) → slice_get ranked.ranks c ≡ Some (Some r) → r ≤ rank → IsCounted table c
