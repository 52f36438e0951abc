use Rattle.std.proofs.Common.{◌<◌, ◌≤◌, ◌/◌, ◌^◌, arith}
use Rattle.std.proofs.Math.Pow.{pow_mono}
use Rattle.std.proofs.Math.Nat.{div-lt_iff_lt-mul}
use Rattle.std.proofs.lemmas.Bool.Decides.{nat_tests}
use Rattle.primitives.proofs.packet.fits.Goals as goal

pub returns-then-this-ge128 : goal.returns-then-this-ge128
returns-then-this-ge128 g c =
    let wide : 2 ^ 128 ≤ 2 ^ g.row.W = pow_mono c.if-this-ge128.true in
    let small : c.args.value < 2 ^ 128 = omega (arith, c.ranges.value) in
    grind (arith, nat_tests, wide, small, c.if-this-ge128.true)

pub returns-else-this-ge128 : goal.returns-else-this-ge128
returns-else-this-ge128 g c =
    let positive : 0 < 2 ^ g.row.W = pow_mono {i = 0} {j = g.row.W} (omega arith) in
    let below = div-lt_iff_lt-mul {k = 2 ^ g.row.W} {x = c.args.value} {y = 1} positive in
    let to : c.args.value / 2 ^ g.row.W < 1 → c.args.value < 2 ^ g.row.W = λ h. let f = below.0 h in omega (arith, f) in
    let back : c.args.value < 2 ^ g.row.W → c.args.value / 2 ^ g.row.W < 1 = λ h. below.1 (omega (arith, h)) in
    grind (arith, nat_tests, to, back)
