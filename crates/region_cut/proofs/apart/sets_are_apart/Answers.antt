use Rattle.std.proofs.Common.{◌&&◌, ◌∙◌, ap, sym}
use Rattle.interval_set.specs.Numbers.{has}
use Rattle.region_cut.proofs.apart.sets_are_apart.Goals as goal

pub returns : goal.returns
returns g c = λ t n.
    ap (λ x. has x n && has c.args.b.now n) (sym c.ranges-2.ensures.same) ∙
    ap (λ x. has c.ranges-2.result.now n && has x n) (sym c.ranges-3.ensures.same) ∙
    c.ranges_are_apart.ensures t n
