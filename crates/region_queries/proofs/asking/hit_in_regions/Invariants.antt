use Rattle.region_queries.proofs.AskLemmas.{AskedTo}
use Rattle.region_queries.proofs.asking.hit_in_regions.Given as goal

abbrev pub invariant-loop-region : goal.invariant-loop-region
invariant-loop-region g l = AskedTo l.against l.policy l.regions l.cube l.region-index
