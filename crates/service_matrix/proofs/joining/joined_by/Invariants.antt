use Rattle.std.proofs.Common.{drop}
use Rattle.service_matrix.specs.inner.Classes.{AreClasses}
use Rattle.service_matrix.specs.Services.{accepts_service}
use Rattle.service_matrix.proofs.joining.joined_by.Given as goal

abbrev pub invariant-loop-group : goal.invariant-loop-group
invariant-loop-group g l = AreClasses (accepts_service l.rules l.policy l.service) l.groups (drop l.group-index l.groups) l.classes.items
