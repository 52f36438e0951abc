use Rattle.addr_text.proofs.MaskLemmas.{shortened_by_mask}
use Rattle.addr_text.proofs.masks.shorten.Goals as goal

pub returns : goal.returns
returns g c = shortened_by_mask g.row.W c.args.len c.args.value c.low_bits.result c.low_bits.ensures
