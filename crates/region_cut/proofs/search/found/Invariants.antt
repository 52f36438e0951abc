use Rattle.region_cut.proofs.Searching.{SearchedTo}
use Rattle.region_cut.proofs.search.found.Given as goal

abbrev pub invariant-loop-rule : goal.invariant-loop-rule
invariant-loop-rule g l = SearchedTo l.region l.rules l.policy l.rule-index l.regions.items
