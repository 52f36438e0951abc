use Rattle.std.proofs.Common.{◌≡◌, ◌++◌}
use Rattle.closure.specs.inner.Steps.{handed_on}
use Rattle.closure.proofs.steps.carry_over.Given as goal

abbrev pub invariant-loop-x : goal.invariant-loop-x
invariant-loop-x g l = l.found.items ≡ l.fn.found.items ++ handed_on l.past l.yielded
