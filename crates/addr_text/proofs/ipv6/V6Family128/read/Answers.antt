use Rattle.std.specs.Net.Addr.{ipv6_bits}
use Rattle.addr_text.proofs.Ipv6Lemmas.{ipv6_of_groups}
use Rattle.addr_text.proofs.ipv6.V6Family128.read.Goals as goal

pub returns-in-Ok-clause-some : goal.returns-in-Ok-clause-some
unfolding ipv6_bits
returns-in-Ok-clause-some c = ipv6_of_groups c.args.text.now c.in-Ok.address.segments c.to_bits.result c.in-Ok.ensures c.to_bits.ensures

pub returns-in-Err-clause-none : goal.returns-in-Err-clause-none
returns-in-Err-clause-none c n is = c.in-Err.ensures (record { segments = is.groups }) is.spelled
