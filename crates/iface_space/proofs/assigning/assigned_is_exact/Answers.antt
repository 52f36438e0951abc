use Rattle.iface_space.specs.Assigned.{assigned_test}
use Rattle.iface_space.proofs.Replacing.{may_stays, must_stays}
use Rattle.iface_space.proofs.Respecting.{test_same}
use Rattle.iface_space.proofs.assigning.assigned_is_exact.Goals as goal

pub returns-clause-may : goal.returns-clause-may
returns-clause-may g c valid respects =
    let zones = c.args.zones.now in
    may_stays (assigned_test zones) c.args.p.now (test_same zones c.list-zones.ensures.addresses c.args.p.now respects valid)
    c.args.dump.now c.args.chain

pub returns-clause-must : goal.returns-clause-must
returns-clause-must g c valid respects =
    let zones = c.args.zones.now in
    must_stays (assigned_test zones) c.args.p.now (test_same zones c.list-zones.ensures.addresses c.args.p.now respects valid)
    c.args.dump.now c.args.chain
