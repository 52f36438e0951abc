use Rattle.std.proofs.Common.{◌↔◌, List, Contains}
use Rattle.interval_set.specs.declared.set.Range.{Range}
use Rattle.service_matrix.specs.inner.AddressSets.{IsSetBefore}
use Rattle.service_matrix.proofs.sets.address_sets.Given as goal

abbrev pub invariant-loop-next : goal.invariant-loop-next
invariant-loop-next g l = (set : List Range) → Contains l.sets.items set ↔ IsSetBefore l.dump l.chain l.next set
