use Rattle.std.proofs.Common.{◌≤◌, length, List, get_or, subst, sym}
use Rattle.interval_set.specs.declared.set.Range.{Range}
use Rattle.interval_set.specs.Numbers.{IsLeast}
use Rattle.interval_set.proofs.Lists.{zero_range}
use Rattle.interval_set.proofs.Search.{first_least}
use Rattle.region_cut.proofs.hit.least_number.Goals as goal

pub returns-in-len1-up-clause-least : goal.returns-in-len1-up-clause-least
returns-in-len1-up-clause-least g c =
    let P : List Range → Type 0 = λ xs. 1 ≤ length xs → IsLeast c.args.set.now (get_or xs 0 zero_range).lo in
    subst P (sym c.ranges-2.ensures.same) (first_least g.row.W c.args.set.now c.ranges-2.ensures.set) c.in-len1-up.len_at_least
