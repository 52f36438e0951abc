use Rattle.std.proofs.Common.{◌≡◌, drop, []}
use Rattle.std.specs.List.{flat_map, fold, zip}
use Rattle.iface_space.specs.Tested.{tested_ranked, all_tested}
use Rattle.iface_space.specs.inner.Adding.{with_new}
use Rattle.iface_space.proofs.tested.tested_patterns.Given as goal

abbrev pub invariant-loop-chain : goal.invariant-loop-chain
invariant-loop-chain g l = fold with_new l.found.items (flat_map (tested_ranked l.direction) (zip (drop l.chain l.chains) (drop l.chain l.ranked.ranks)))
    ≡ fold with_new [] (all_tested l.direction l.dump l.ranked.ranks)
