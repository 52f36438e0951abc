use Rattle.std.proofs.Common.{◌∙◌, ap, ◌==◌, length}
use Rattle.interval_set.proofs.Search.{no_number}
use Rattle.interval_set.proofs.set.Set.is_empty.Goals as goal

pub returns-clause-numbers : goal.returns-clause-numbers
returns-clause-numbers g c e = c.is_empty.ensures ∙ ap (λ xs. length xs == 0) (c.ranges-2.ensures.same ∙ no_number g.row.W c.args.self.now c.ranges-2.ensures.set e)
