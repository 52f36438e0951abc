use Rattle.std.proofs.Common.{◌≡◌, map, take}
use Rattle.request.specs.Spaces.{zone_of}
use Rattle.request.proofs.spaces.zone_list.Given as goal

abbrev pub invariant-loop-claim : goal.invariant-loop-claim
invariant-loop-claim g l = l.zones.items ≡ map (zone_of g.row.W) (take l.claim-index l.claims)
