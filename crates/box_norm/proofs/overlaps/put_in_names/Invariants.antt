use Rattle.std.proofs.Common.{◌≡◌, ◌++◌}
use Rattle.box_norm.specs.Overlaps.{with_in_names}
use Rattle.box_norm.proofs.overlaps.put_in_names.Given as goal

abbrev pub invariant-loop-set : goal.invariant-loop-set
invariant-loop-set g l =
    l.out.items ++ with_in_names l.cube l.set-iterator.rest.items ≡ l.fn.out.items ++ with_in_names l.cube l.fn.sets.items
