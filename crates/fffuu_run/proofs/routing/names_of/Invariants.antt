use Rattle.std.proofs.Common.{◌≡◌, [], drop, map}
use Rattle.std.specs.List.{fold}
use Rattle.iface_space.specs.declared.hop.Hop.{Hop}
use Rattle.fffuu_run.proofs.Once.{with_name}
use Rattle.fffuu_run.proofs.routing.names_of.Given as goal

abbrev pub invariant-loop-hop : goal.invariant-loop-hop
invariant-loop-hop l = fold with_name (map (λ n. n.now) l.names.items) (map (λ (hop : Hop). hop.name) (drop l.hop-index l.hops))
    ≡ fold with_name [] (map (λ (hop : Hop). hop.name) l.hops)
