use Rattle.std.proofs.Common.{arith}
use Rattle.addr_text.proofs.MaskLemmas.{fewer_bits}
use Rattle.addr_text.proofs.masks.mask.Goals as goal

pub overflow_sub-result : goal.overflow_sub-result
overflow_sub-result g c = omega (arith, fewer_bits g.row.W c.args.len)
