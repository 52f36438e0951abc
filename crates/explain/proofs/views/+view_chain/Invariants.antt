use Rattle.explain.proofs.ViewLemmas.{Seen}
use Rattle.explain.proofs.views.+view_chain.Given as goal

abbrev pub decreases-view_chain : goal.decreases-view_chain
decreases-view_chain g a = a.depth

abbrev pub decreases-loop-left : goal.decreases-loop-left
decreases-loop-left g l = l.left

abbrev pub invariant-loop-left : goal.invariant-loop-left
invariant-loop-left g l = Seen g.P.Primitive.meaning l.dump l.p l.wanted l.chain l.rules l.left l.initial.views l.views l.sights.items l.behind
