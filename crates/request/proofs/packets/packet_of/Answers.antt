use Rattle.std.proofs.Common.{◌∙◌, sym}
use Rattle.request.proofs.packets.packet_of.Goals as goal

pub returns-clause-ok : goal.returns-clause-ok
returns-clause-ok c = record {
  fields = sym c.are_fields.ensures ∙ c.if-not-are_fields.false;
  in_name = c.in_ok-name.ensures.ok;
  out_name = c.in_ok-name-2.ensures.ok;
  src = c.in_ok-address.ensures.ok;
  dst = c.in_ok-address-2.ensures.ok;
  proto = c.in_ok-protocol.ensures.ok;
  sport = c.in_ok-port.ensures.ok;
  dport = c.in_ok-port-2.ensures.ok;
  flags = c.in_ok-flags.ensures.ok;
  state = c.in_ok-state.ensures.ok;
  icmp = c.in_ok-icmp_type.ensures.ok;
}
