use Rattle.std.proofs.Common.{drop}
use Rattle.std.specs.List.{AllByRecursion}
use Rattle.region_cut.specs.inner.Misses.{Misses}
use Rattle.region_cut.proofs.apart.are_all_apart.Given as goal

abbrev pub invariant-loop-region : goal.invariant-loop-region
invariant-loop-region g l = AllByRecursion (λ c. Misses c l.cube) (drop l.region-index l.regions) → AllByRecursion (λ c. Misses c l.cube) l.regions
