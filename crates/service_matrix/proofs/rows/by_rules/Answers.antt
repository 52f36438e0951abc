use Rattle.std.proofs.Common.{◌∙◌}
use Rattle.service_matrix.proofs.Passes.{taken_at}
use Rattle.service_matrix.proofs.rows.by_rules.Goals as goal

pub loop-rule-preserved : goal.loop-rule-preserved
loop-rule-preserved g c there otherwise =
    taken_at c.args.fixed otherwise c.args.service.now c.args.here c.args.rules.now c.loop-rule.rule-index c.rule-item.result c.loop-rule-test.true c.rule-item.is c.loop-rule.undecided
    c.loop-rule.accepted c.in-Some.others.now c.in_ok-undecided-2.undecided c.in_ok-accepted.accepted c.in-Some.ensures c.in_ok-undecided-2.ensures.numbers c.in_ok-accepted.ensures there
    ∙ c.loop-rule.invariant there otherwise
