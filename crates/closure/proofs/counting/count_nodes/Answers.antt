use Rattle.std.proofs.Common.{◌≡◌, ◌∙◌, ℕ, ◌+◌, ◌-◌, List, length, drop, sym, ap, subst, arith}
use Rattle.std.proofs.lemmas.List.{length-replicate}
use Rattle.chain_graph.proofs.Marking.{written}
use Rattle.closure.specs.declared.counting.Counts.{Counts}
use Rattle.closure.specs.Checked.{IsRankedWithPolicy}
use Rattle.closure.specs.inner.Counts.{entry}
use Rattle.closure.specs.inner.Counted.{AreCounted}
use Rattle.closure.proofs.CountLemmas.{none_counted}
use Rattle.closure.proofs.RankReads.{asked_rank}
use Rattle.closure.proofs.counting.count_nodes.Goals as goal

pub rank_of-top-requires : goal.rank_of-top-requires
rank_of-top-requires g c = asked_rank c.args.dump.now c.args.chain c.args.ranked.now c.requires

pub loop-below-init : goal.loop-below-init
loop-below-init g c = none_counted c.args.side c.args.dump.now c.args.chain c.args.ranked.now c.requires c.in_ok-table.table.items (ap length (c.in_ok-table.ensures.items_if_clones_equal (λ y e. e)) ∙ length-replicate (length c.as_slice.result.now) _ ∙ ap length c.as_slice.ensures)

pub count_rank-requires-clause-checked : goal.count_rank-requires-clause-checked
count_rank-requires-clause-checked g c = subst (λ (a : ℕ). IsRankedWithPolicy c.args.dump.now a c.args.ranked.now) (sym (c.requires.ranks).entry) c.requires

pub count_rank-requires-clause-lesser : goal.count_rank-requires-clause-lesser
count_rank-requires-clause-lesser g c =
    let same : c.loop-below.below ≡ c.loop-below.below + 1 - 1 = omega arith in
    subst (λ (n : ℕ). AreCounted c.args.side c.args.dump.now c.args.ranked.now n c.deref_mut.result.now) same
    (subst (λ (t : List Counts). AreCounted c.args.side c.args.dump.now c.args.ranked.now c.loop-below.below t) (sym c.deref_mut.ensures.value) c.loop-below.invariant)

pub loop-below-preserved : goal.loop-below-preserved
loop-below-preserved g c =
    let long : length c.count_rank.new.table ≡ c.loop-below.table.len = omega (arith, c.count_rank.ensures.long, c.loop-below.invariant.long, c.deref_mut.ensures.len) in
    subst (λ (t : List Counts). AreCounted c.args.side c.args.dump.now c.args.ranked.now (c.loop-below.below + 1) t)
    (sym (written c.loop-below.table.len c.count_rank.new.table (drop (length c.count_rank.new.table) c.loop-below.table.items) long)) c.count_rank.ensures

pub returns : goal.returns
returns g c =
    ap (λ (z : Counts). z.hard) (c.entry-counts.ensures ∙ ap (λ (t : List Counts). entry t c.args.chain) c.as_slice-2.ensures.value
    ∙ c.loop-below.invariant.each c.args.chain c.rank_of-top.result c.rank_of-top.ensures c.loop-below-test.false)
