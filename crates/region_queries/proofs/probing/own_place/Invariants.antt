use Rattle.std.proofs.Common.{◌≡◌, take, map}
use Rattle.region_queries.specs.Probe.{own_step}
use Rattle.region_queries.proofs.probing.own_place.Given as goal

abbrev pub invariant-loop-step : goal.invariant-loop-step
invariant-loop-step g l = l.steps.items ≡ map (own_step l.dump l.visit) (take l.step-index l.step-items)
