use Rattle.std.proofs.Common.{◌≡◌, ◌++◌}
use Rattle.box_norm.specs.Normal.{with_verdict}
use Rattle.box_norm.specs.Regular.{EachCube}
use Rattle.box_norm.specs.Sets.{HasSets}
use Rattle.simple_filter.proofs.collecting.push_rules.Given as goal

abbrev pub invariant-loop-cube : goal.invariant-loop-cube
invariant-loop-cube g l = record {
  rules : l.out.items ++ with_verdict l.accept l.cube-iterator.rest.items ≡ l.fn.out.items ++ with_verdict l.accept l.fn.cubes.items;
  sets : EachCube HasSets l.fn.out.items → EachCube HasSets l.out.items;
}
