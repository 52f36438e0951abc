use Rattle.std.proofs.Common.{◌≡◌, take, map}
use Rattle.region_queries.specs.Probe.{own_place}
use Rattle.region_queries.proofs.probing.own_places.Given as goal

abbrev pub invariant-loop-place : goal.invariant-loop-place
invariant-loop-place g l = l.own.items ≡ map (own_place l.dump l.visit) (take l.place-index l.places)
