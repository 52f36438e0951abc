use Rattle.std.proofs.Common.{arith, refl}
use Rattle.std.specs.Int.{trailing_zeros, w64}
use Rattle.region_cut.proofs.LeastLaws.{least_bit_is}
use Rattle.region_cut.proofs.hit.least_bit.Goals as goal

pub returns-clause-least : goal.returns-clause-least
returns-clause-least c = (least_bit_is c.args.bits (trailing_zeros w64 c.args.bits) (omega arith) (omega arith) refl).0
