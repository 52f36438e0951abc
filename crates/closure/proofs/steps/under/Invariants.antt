use Rattle.std.proofs.Common.{◌≡◌, map}
use Rattle.closure.specs.inner.Steps as inner
use Rattle.closure.proofs.steps.under.Given as goal

abbrev pub invariant-loop-x : goal.invariant-loop-x
invariant-loop-x g l = l.outer.items ≡ map (inner.under l.e) l.yielded
