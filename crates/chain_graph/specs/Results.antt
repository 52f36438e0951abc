-- What the answers say.
use Rattle.std.specs.Prelude.{ℕ, ◌^◌, ◌-◌, ◌≡◌, min, Some, slice_get}
use Rattle.fw_rule.specs.declared.rule.Dump.{Dump}
use Rattle.fw_rule.specs.Calls.{Within}
use Rattle.chain_graph.specs.declared.graph.Ranked.{Ranked}
use Rattle.chain_graph.specs.Paths.{AreRanks}
use Rattle.chain_graph.specs.Visits.{HasVisits}
use Rattle.chain_graph.specs.Faults.{NoLoop}

-- the ranks and visits of the asked chain are exact: no call path from a chain in reach has more chains than its rank, and no chain in reach leads to itself
pub record IsRanked {P : Type 0} (dump : Dump P) (asked : ℕ) (r : Ranked) : Type 0 where
  pub entry : r.entry ≡ asked
  pub ranks : AreRanks dump asked r.ranks
  pub within : (c rank : ℕ) → slice_get r.ranks c ≡ Some (Some rank) → Within dump rank c
  pub visits : (n : ℕ) × HasVisits dump asked n × (r.visits ≡ min n (2 ^ 64 - 1))
  pub no_loop : NoLoop dump asked
