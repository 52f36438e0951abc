use Rattle.std.specs.Net.Addr.{ipv4_bits}
use Rattle.addr_text.proofs.Ipv4Lemmas.{ipv4_of_octets}
use Rattle.addr_text.proofs.ipv4.V4Family32.read.Goals as goal

pub returns-in-Ok-clause-some : goal.returns-in-Ok-clause-some
unfolding ipv4_bits
returns-in-Ok-clause-some c = ipv4_of_octets c.args.text.now c.in-Ok.address.octets c.to_bits.result c.in-Ok.ensures c.to_bits.ensures

pub returns-in-Err-clause-none : goal.returns-in-Err-clause-none
returns-in-Err-clause-none c n is = c.in-Err.ensures (record { octets = is.octets }) is.spelled
