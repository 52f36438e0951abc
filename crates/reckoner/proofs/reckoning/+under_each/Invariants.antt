use Rattle.std.proofs.Common.{length}
use Rattle.reckoner.proofs.reckoning.+under_each.Given as goal

abbrev pub decreases-under_each : goal.decreases-under_each
decreases-under_each g l = length l.rest.now
