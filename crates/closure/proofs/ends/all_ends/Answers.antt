use Rattle.std.proofs.Common.{◌≡◌, ℕ, List, length, drop, sym, subst, arith}
use Rattle.chain_graph.proofs.Marking.{written}
use Rattle.closure.specs.declared.ends.Ends.{Ends}
use Rattle.closure.specs.Checked.{IsRankedWithPolicy}
use Rattle.closure.specs.inner.Ends.{AreEnds}
use Rattle.closure.proofs.RankReads.{asked_rank}
use Rattle.closure.proofs.ends.all_ends.Goals as goal

pub rank_of-top-requires : goal.rank_of-top-requires
rank_of-top-requires g c = asked_rank c.args.dump.now c.args.chain c.args.ranked.now c.requires

pub add_rank-requires-clause-checked : goal.add_rank-requires-clause-checked
add_rank-requires-clause-checked g c = subst (λ (a : ℕ). IsRankedWithPolicy c.args.dump.now a c.args.ranked.now) (sym (c.requires.ranks).entry) c.requires

pub add_rank-requires-clause-before : goal.add_rank-requires-clause-before
add_rank-requires-clause-before g c = subst (λ (t : List Ends). AreEnds c.args.side c.args.dump.now t) (sym c.deref_mut.ensures.value) c.loop-below.invariant

pub loop-below-preserved : goal.loop-below-preserved
loop-below-preserved g c =
    let long : length c.add_rank.new.table ≡ c.loop-below.table.len = omega (arith, c.add_rank.ensures.long, c.loop-below.invariant.long, c.deref_mut.ensures.len) in
    subst (λ (t : List Ends). AreEnds c.args.side c.args.dump.now t)
    (sym (written c.loop-below.table.len c.add_rank.new.table (drop (length c.add_rank.new.table) c.loop-below.table.items) long)) c.add_rank.ensures
