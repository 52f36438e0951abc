use Rattle.std.proofs.Common.{drop}
use Rattle.service_matrix.specs.inner.Passes.{StandAlike}
use Rattle.service_matrix.proofs.rows.alike.Given as goal

abbrev pub invariant-loop-rule : goal.invariant-loop-rule
invariant-loop-rule g l = StandAlike l.fixed (drop l.rule-index l.rules) l.one l.other → StandAlike l.fixed l.rules l.one l.other
