use Rattle.region_queries.proofs.VisitLemmas.{ListedTo}
use Rattle.region_queries.proofs.visiting.+list_chain.Given as goal

abbrev pub decreases-list_chain : goal.decreases-list_chain
decreases-list_chain g l = l.depth

abbrev pub invariant-loop-next : goal.invariant-loop-next
invariant-loop-next g l = ListedTo l.dump l.chain l.path l.initial.visits.items l.next l.visits.items
