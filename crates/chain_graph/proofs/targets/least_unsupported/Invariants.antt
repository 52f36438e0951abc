use Rattle.chain_graph.specs.inner.Targets.{IsLeastOf, TargetBefore}
use Rattle.chain_graph.proofs.targets.least_unsupported.Given as goal

abbrev pub invariant-loop-next : goal.invariant-loop-next
invariant-loop-next g l = IsLeastOf (TargetBefore l.dump l.chain l.next) l.best
