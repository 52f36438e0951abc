use Rattle.std.proofs.Common.{◌≡◌, length, arith}
use Rattle.ip_partition.proofs.Dividing.{divided_leaders, divided_same, next_atom}
use Rattle.ip_partition.proofs.atoms.divided.Goals as goal

pub loop-atom-preserved : goal.loop-atom-preserved
loop-atom-preserved c =
    next_atom c.args.leaders.now c.args.inside.now c.loop-atom.others.items c.new_leader-leader.new.others.items c.loop-atom.next.items c.push.new.self.items c.loop-atom.atom
    c.new_leader-leader.result c.requires.leaders (omega arith) c.loop-atom.invariant c.new_leader-leader.ensures c.in_ok-push.ensures.items

pub returns-clause-leaders : goal.returns-clause-leaders
returns-clause-leaders c =
    let all : c.loop-atom.atom ≡ length c.args.leaders.now = omega arith in
    divided_leaders c.args.leaders.now c.args.inside.now c.loop-atom.others.items c.loop-atom.next.items c.loop-atom.atom all c.requires.leaders c.loop-atom.invariant

pub returns-clause-split : goal.returns-clause-split
returns-clause-split c =
    let all : c.loop-atom.atom ≡ length c.args.leaders.now = omega arith in
    divided_same c.args.leaders.now c.args.inside.now c.loop-atom.others.items c.loop-atom.next.items c.loop-atom.atom all c.requires.leaders c.loop-atom.invariant
