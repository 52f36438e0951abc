use Rattle.std.proofs.Common.{◌≡◌, take}
use Rattle.request.proofs.spaces.hop_list.Given as goal

abbrev pub invariant-loop-hop : goal.invariant-loop-hop
invariant-loop-hop l = l.list.items ≡ take l.hop-index l.hops
