use Rattle.iface_space.specs.Routed.{routed_test}
use Rattle.iface_space.proofs.Replacing.{may_stays, must_stays}
use Rattle.iface_space.proofs.Arriving.{test_same}
use Rattle.iface_space.proofs.routing.routed_is_exact.Goals as goal

pub returns-clause-may : goal.returns-clause-may
returns-clause-may g c valid respects =
    let hops = c.args.routes.now in
    may_stays (routed_test hops) c.args.p.now
    (test_same hops c.list-hops.ensures.cleared c.list-hops.ensures.prefixes c.args.p.now respects valid) c.args.dump.now c.args.chain

pub returns-clause-must : goal.returns-clause-must
returns-clause-must g c valid respects =
    let hops = c.args.routes.now in
    must_stays (routed_test hops) c.args.p.now
    (test_same hops c.list-hops.ensures.cleared c.list-hops.ensures.prefixes c.args.p.now respects valid) c.args.dump.now c.args.chain
