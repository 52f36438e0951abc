use Rattle.std.proofs.Common.{◌≡◌, arith}
use Rattle.std.specs.Int.{bit_at}
use Rattle.std.proofs.lemmas.Bool.Decides.{nat_tests}
use Rattle.std.proofs.lemmas.Nat.Bits.{bit_at_above}
use Rattle.primitives.proofs.bits.has_bit.Goals as goal

pub returns-else-place-lt8 : goal.returns-else-place-lt8
returns-else-place-lt8 c =
    let e : bit_at c.args.bits c.args.place ≡ 0 = bit_at_above c.args.bits 8 c.args.place (omega arith) (omega arith) in
    grind (arith, nat_tests, e, c.if-place-lt8.false)
