use Rattle.std.proofs.Common.{take}
use Rattle.chain_graph.specs.inner.Targets.{IsLeastOf, TargetIn}
use Rattle.chain_graph.proofs.targets.least_in.Given as goal

abbrev pub invariant-loop-rule : goal.invariant-loop-rule
invariant-loop-rule g l = IsLeastOf (TargetIn (take l.rule-index l.rules)) l.best
