use Rattle.region_cut.proofs.LeastLaws.{Passed}
use Rattle.region_cut.proofs.hit.hit_in.Given as goal

abbrev pub invariant-loop-region : goal.invariant-loop-region
invariant-loop-region g l = Passed l.regions l.cube l.region-index
