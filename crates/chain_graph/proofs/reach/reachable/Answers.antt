use Rattle.std.proofs.Common.{◌<◌, length, arith}
use Rattle.chain_graph.proofs.Marking.{with_itself}
use Rattle.chain_graph.proofs.reach.reachable.Goals as goal

pub returns-clause-is : goal.returns-clause-is
returns-clause-is g c =
    let h : c.args.chain < length c.in_ok-marks.marks.items = omega (arith, c.requires.there, c.in_ok-marks.ensures.long) in
    with_itself c.args.dump.now c.args.chain c.in_ok-marks.marks.items h c.in_ok-marks.ensures.is
