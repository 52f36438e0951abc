use Rattle.std.proofs.Common.{◌≡◌, take, map}
use Rattle.region_queries.specs.Probe.{barred, with_action}
use Rattle.region_queries.proofs.probing.barred_chain.Given as goal

abbrev pub invariant-loop-rule : goal.invariant-loop-rule
invariant-loop-rule g l = l.rules.items ≡ map (with_action barred) (take l.rule-index l.rule-items)
