use Rattle.std.proofs.Common.{◌∙◌}
use Rattle.std.proofs.lemmas.Result.{IfOk-weaker}
use Rattle.interval_set.proofs.Spelling.{spelled_or}
use Rattle.interval_set.proofs.set.Set.or.Goals as goal

pub returns-clause-spelled : goal.returns-clause-spelled
returns-clause-spelled g c =
    IfOk-weaker c.of.result _ _ (λ s e. e ∙ spelled_or g.row.W _ _ _ _ _ c.in_ok-either.ensures.set c.in_ok-either.ensures.numbers c.ranges-2.ensures.same c.ranges-3.ensures.same) c.of.ensures
