use Rattle.explain.proofs.Going.{Going}
use Rattle.explain.proofs.choosing.+choose_in.Given as goal

abbrev pub decreases-choose_in : goal.decreases-choose_in
decreases-choose_in g a = a.depth

abbrev pub invariant-loop-next : goal.invariant-loop-next
invariant-loop-next g l = Going g.P.Primitive.meaning l.dump l.views l.chain l.initial.path.items l.past_end l.initial.places.items l.next l.path.items l.places.items
