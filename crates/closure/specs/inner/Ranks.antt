-- The ranks of chains, as the bodies read them.
use Rattle.std.specs.Prelude.{ℕ, ◌≡◌, Some, slice_get}
use Rattle.chain_graph.specs.declared.graph.Ranked.{Ranked}

-- the chain has a rank
abbrev pub HasRank : Ranked → ℕ → Type 0
HasRank ranked c = (r : ℕ) × (slice_get ranked.ranks c ≡ Some (Some r))
