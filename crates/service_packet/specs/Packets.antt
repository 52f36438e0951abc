-- The packet that opens a service from one address to another.
use Rattle.std.specs.Prelude.{ℕ, ◌==◌, [], if◌then◌else◌}
use Rattle.primitives.specs.declared.prim.Packet.{Packet}
use Rattle.service_packet.specs.declared.service.Service.{Service}

-- the flags of a packet that opens a connection: SYN alone where the protocol is tcp, and none else
abbrev pub opening_flags : ℕ → ℕ
opening_flags proto = if proto == 6 then 2 else 0

-- the type of a message that asks for an echo, where the protocol is icmp or ipv6-icmp, and 0 else
abbrev pub opening_type : ℕ → ℕ
opening_type proto = if proto == 1 then 8 else if proto == 58 then 128 else 0

-- the first packet of a connection from `s` to `d`: its state is NEW, and it tells no interface
abbrev pub service_packet : Service → ℕ → ℕ → Packet
service_packet service s d = record {
  in_name = [];
  out_name = [];
  src = s;
  dst = d;
  proto = service.proto;
  sport = service.sport;
  dport = service.dport;
  flags = opening_flags service.proto;
  state = 1;
  icmp = opening_type service.proto;
}
