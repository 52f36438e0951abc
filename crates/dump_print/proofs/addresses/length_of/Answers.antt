use Rattle.dump_print.proofs.AddressLemmas.{prefix_length_is}
use Rattle.dump_print.proofs.addresses.length_of.Goals as goal

pub returns : goal.returns
returns g c = prefix_length_is g.row.W c.args.range c.prefix_len.result c.prefix_len.ensures.length c.prefix_len.ensures.begins c.prefix_len.ensures.exact
