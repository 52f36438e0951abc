use Rattle.std.proofs.Common.{◌≡◌, ◌≤◌, ◌++◌, length}
use Rattle.limits.specs.declared.TheConstants.{MOST_REGIONS}
use Rattle.box_norm.specs.Cubes.{each_piece}
use Rattle.box_norm.specs.Overlaps.{minus_of}
use Rattle.region_cut.proofs.search.left_without.Given as goal

abbrev pub invariant-loop-region : goal.invariant-loop-region
invariant-loop-region g l = record {
  pieces : l.left.items ++ each_piece (λ c. minus_of c l.cube) l.region-iterator.rest.items ≡ each_piece (λ c. minus_of c l.cube) l.fn.regions.items;
  few : length l.left.items ≤ MOST_REGIONS;
}
