use Rattle.std.proofs.Common.{ap, arith, get_or}
use Rattle.ip_partition.proofs.Gathering.{one_more}
use Rattle.ip_partition.proofs.classes.class_ranges.Goals as goal

pub loop-atom-preserved : goal.loop-atom-preserved
loop-atom-preserved g c =
    let within = c.requires.lasts.within c.args.leader (omega (arith, c.requires.leader, c.requires.count)) in
    let last = ap (λ ls. get_or ls c.args.leader 0) c.as_slice-lasts.ensures.value in
    one_more g.row.W c.args.starts.now c.args.numbering.now.leaders.items c.args.leader c.loop-atom.atom c.loop-atom.ranges.items c.put_atom.new.ranges.items c.top-top.result
    c.as_slice-leaders.result.now c.requires.width c.requires.starts (omega (arith, within, last, c.requires.count)) c.loop-atom.invariant c.top-top.ensures c.as_slice-leaders.ensures.value
    c.in_ok-put_atom.ensures
