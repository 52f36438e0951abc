-- What a check of a chain tells.
use Rattle.std.proofs.Common.{◌≡◌, ℕ, ◌<◌, ◌≤◌, length, Option, None, Some, slice_get, MatchOption, arith}
use Rattle.limits.specs.declared.TheConstants.{MOST_CHAINS}
use Rattle.fw_rule.specs.declared.rule.Dump.{Dump}
use Rattle.fw_rule.specs.Walk.{Settled, Within, Reaches, Here}
use Rattle.fw_rule.proofs.Ends.{found_at, settled_inside, reached_inside}
use Rattle.chain_graph.specs.declared.graph.Ranked.{Ranked}
use Rattle.chain_graph.specs.Paths.{IsRank}
use Rattle.chain_graph.proofs.Paths.{within_more}
use Rattle.rewriting.specs.declared.rows.Mode.{Mode}
use Rattle.fw_rule.specs.declared.side.Side.{Side}
use Rattle.closure.specs.Checked.{IsRankedWithPolicy}
use Rattle.closure.specs.inner.Ranks.{HasRank}
use Rattle.closure.specs.Rewriting.{tree, greatest_depth}
use Rattle.closure.proofs.Depths.{same_tree}

pub greatest_is : MOST_CHAINS ≤ greatest_depth
unfolding greatest_depth
greatest_is = omega arith

module _ {P : Type 0} (dump : Dump P) (chain : ℕ) (ranked : Ranked) (checked : IsRankedWithPolicy dump chain ranked) where
  pub is_settled : Settled dump chain
  is_settled = checked.settled checked.policy.0 checked.policy.1

  abbrev RankAt : ℕ → Type 0
  RankAt c = (r : ℕ) × (slice_get ranked.ranks c ≡ Some (Some r)) × IsRank dump c r × (r ≤ MOST_CHAINS)

  -- each chain that is reached has a rank
  pub rank_at : (c : ℕ) → Reaches dump chain c → RankAt c
  rank_at c reached =
      let inside : c < length dump.chains = reached_inside dump chain is_settled chain c Here (settled_inside dump chain is_settled) reached in
      let there = found_at ranked.ranks c (omega (arith, inside, (checked.ranks.ranks).0)) in
      at there.0 there.1 ((checked.ranks.ranks).1 c there.0 there.1)
    where
      at : (o : Option ℕ) → slice_get ranked.ranks c ≡ Some o → MatchOption o (Reaches dump chain c → ⊥) (λ r. Reaches dump chain c × IsRank dump c r × (r ≤ MOST_CHAINS)) → RankAt c
      at None e h = absurd (h reached)
      at (Some r) e h = (r, e, h.1, h.2)

  -- what has a rank is reached
  pub rank_is : (c r : ℕ) → slice_get ranked.ranks c ≡ Some (Some r) → Reaches dump chain c × IsRank dump c r × (r ≤ MOST_CHAINS)
  rank_is c r e = (checked.ranks.ranks).1 c (Some r) e

  pub within_rank : (c r : ℕ) → slice_get ranked.ranks c ≡ Some (Some r) → Within dump r c
  within_rank c r e = checked.ranks.within c r e

  pub within_limit : (c : ℕ) → Reaches dump chain c → Within dump greatest_depth c
  within_limit c reached = let r = rank_at c reached in within_more dump r.0 greatest_depth c (omega (arith, r.3, greatest_is)) (within_rank c r.0 r.1)

  -- the tree of a chain that has a rank
  pub ranked_tree : (side : Side) (c r : ℕ) → slice_get ranked.ranks c ≡ Some (Some r) → (mode : Mode) → tree side dump r c mode ≡ tree side dump greatest_depth c mode
  ranked_tree side c r e mode = same_tree side dump r greatest_depth c (within_rank c r e) (within_limit c (rank_is c r e).0) mode

  -- the asked chain has a rank
  pub asked_rank : HasRank ranked chain
  asked_rank = let r = rank_at chain Here in (r.0, r.1)

  pub ranks_long : length ranked.ranks ≡ length dump.chains
  ranks_long = (checked.ranks.ranks).0
