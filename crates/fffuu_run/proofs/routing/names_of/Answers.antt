use Rattle.std.proofs.Common.{◌∙◌, ap, map, sym}
use Rattle.std.specs.List.{fold}
use Rattle.std.proofs.lemmas.List.{at_drop_all}
use Rattle.iface_space.specs.declared.hop.Hop.{Hop}
use Rattle.fffuu_run.proofs.Once.{all_once, with_name}
use Rattle.fffuu_run.proofs.routing.names_of.Goals as goal

pub returns : goal.returns
returns c =
    let names = map (λ (hop : Hop). hop.name) in
    sym (ap (fold with_name (map (λ n. n.now) c.loop-hop.names.items)) (at_drop_all names c.args.hops.now c.loop-hop.hop-index c.loop-hop-test.false))
    ∙ c.loop-hop.invariant ∙ all_once (names c.args.hops.now)
