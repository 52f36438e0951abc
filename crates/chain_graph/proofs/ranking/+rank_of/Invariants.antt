use Rattle.chain_graph.proofs.RankLemmas.{Passed}
use Rattle.chain_graph.proofs.ranking.+rank_of.Given as goal

abbrev pub decreases-rank_of : goal.decreases-rank_of
decreases-rank_of g a = a.depth

abbrev pub invariant-loop-rule : goal.invariant-loop-rule
invariant-loop-rule g l = Passed l.dump l.chain l.depth l.rule-items l.rule-index l.initial.table l.table l.below l.visits
