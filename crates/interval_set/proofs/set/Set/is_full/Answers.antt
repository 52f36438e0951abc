use Rattle.std.proofs.Common.{◌≡◌, ◌∙◌, ap, arith, length}
use Rattle.interval_set.proofs.Search.{every_number}
use Rattle.interval_set.proofs.set.Set.is_full.Goals as goal

pub returns-in_default-2-clause-numbers : goal.returns-in_default-2-clause-numbers
returns-in_default-2-clause-numbers g c e =
    let f : length c.ranges-2.result.now ≡ 1 = ap (λ xs. length xs) (c.ranges-2.ensures.same ∙ every_number g.row.W c.args.self.now c.ranges-2.ensures.set e) in
    absurd (omega (arith, f, c.in_default.len_at_least))
