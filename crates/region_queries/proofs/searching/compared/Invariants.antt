use Rattle.region_queries.proofs.RunLemmas.{ComparedTo}
use Rattle.region_queries.proofs.searching.compared.Given as goal

abbrev pub invariant-loop-rule : goal.invariant-loop-rule
invariant-loop-rule g l = ComparedTo l.against l.other l.rules l.policy l.rule-index l.regions.items
