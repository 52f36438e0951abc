use Rattle.std.proofs.Common.{arith, subst}
use Rattle.primitives.specs.Holds.{IsValid}
use Rattle.service_matrix.proofs.building.packets_are_valid.Goals as goal

pub returns : goal.returns
returns c W s d hs hd =
    let first = subst (IsValid W) c.packet-first.ensures.is (c.packet-first.ensures.valid W (omega arith) (omega arith)) in
    record {
      in_name = first.in_name;
      out_name = first.out_name;
      src = hs;
      dst = hd;
      proto = first.proto;
      sport = first.sport;
      dport = first.dport;
      flags = first.flags;
      state = first.state;
      icmp = first.icmp;
    }
