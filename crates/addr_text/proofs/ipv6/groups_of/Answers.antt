use Rattle.std.proofs.Common.{◌∙◌}
use Rattle.std.specs.Net.Addr.{IsIpv6OfBits}
use Rattle.addr_text.proofs.Ipv6Lemmas.{groups_of_bits}
use Rattle.addr_text.proofs.ipv6.groups_of.Goals as goal

pub returns : goal.returns
unfolding IsIpv6OfBits
returns c = c.segments.ensures ∙ (c.from_bits.ensures ∙ groups_of_bits c.args.value)
