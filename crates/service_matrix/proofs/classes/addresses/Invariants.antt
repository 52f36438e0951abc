use Rattle.std.proofs.Common.{◌≡◌, take}
use Rattle.service_matrix.specs.inner.Classes.{addresses_of}
use Rattle.service_matrix.proofs.classes.addresses.Given as goal

abbrev pub invariant-loop-class : goal.invariant-loop-class
invariant-loop-class g l = l.sets.items ≡ addresses_of (take l.class-index l.classes)
