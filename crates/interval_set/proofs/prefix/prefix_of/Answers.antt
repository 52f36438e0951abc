use Rattle.std.proofs.Common.{◌≤◌, ◌<◌, ◌-◌, ◌+◌, ◌^◌, arith, rules, bit_and}
use Rattle.std.proofs.Math.Pow.{pow_mono}
use Rattle.std.proofs.lemmas.Nat.{pow_pos}
use Rattle.interval_set.specs.Laws.{same_range}
use Rattle.interval_set.proofs.PrefixLaws.{low_is, prefix_top, width_le}
use Rattle.interval_set.proofs.prefix.prefix_of.Goals as goal

pub overflow_add-result : goal.overflow_add-result
overflow_add-result g c =
    let h : 2 ^ g.row.W ≤ 2 ^ 128 = pow_mono (width_le g.row.W c.requires.width) in
    let l = low_is c.args.value (g.row.W - c.args.len) c.low_bits-free.result c.low_bits-free.ensures in
    let t = prefix_top g.row.W c.args.value c.args.len c.requires.length c.requires.in_range in
    let f : c.args.value - bit_and c.args.value c.low_bits-free.result + c.low_bits-free.result < 2 ^ 128 =
    omega (arith, h, l, t, c.low_bits-free.ensures, pow_pos (g.row.W - c.args.len)) in
    search rules

pub returns : goal.returns
returns g c =
    let l = low_is c.args.value (g.row.W - c.args.len) c.low_bits-free.result c.low_bits-free.ensures in
    same_range _ _ l (omega (arith, l, c.low_bits-free.ensures))
