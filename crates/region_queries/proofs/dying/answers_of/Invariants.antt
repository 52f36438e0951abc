use Rattle.region_queries.proofs.DeadLemmas.{SoFar}
use Rattle.region_queries.proofs.dying.answers_of.Given as goal

abbrev pub invariant-loop-steps : goal.invariant-loop-steps
invariant-loop-steps g l = SoFar l.dump l.chain l.fn.paths.items l.visits.items l.steps-iterator.rest.items
