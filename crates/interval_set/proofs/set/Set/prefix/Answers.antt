use Rattle.std.proofs.Common.{◌≤◌, ◌-◌, ◌^◌, arith}
use Rattle.std.proofs.lemmas.Result.{IfOk-weaker}
use Rattle.interval_set.proofs.PrefixLaws.{prefix_ordered, prefix_within, prefix_has}
use Rattle.interval_set.proofs.set.Set.prefix.Goals as goal

pub range-requires : goal.range-requires
range-requires g c =
    let h : c.prefix_of-lo.result.lo ≤ c.prefix_of-lo.result.hi = prefix_ordered g.row.W c.args.value c.args.len _ c.prefix_of-lo.ensures in
    let k : c.prefix_of-lo.result.hi ≤ 2 ^ g.row.W - 1 = prefix_within g.row.W c.args.value c.args.len _ c.requires.length c.requires.in_range c.prefix_of-lo.ensures in
    (omega arith, (c.requires.width, (h, k)))

pub returns-clause-numbers : goal.returns-clause-numbers
returns-clause-numbers g c =
    IfOk-weaker c.range.result _ _ (λ s e n. prefix_has g.row.W c.args.value c.args.len _ _ c.requires.length c.requires.in_range c.prefix_of-lo.ensures e n) c.range.ensures
