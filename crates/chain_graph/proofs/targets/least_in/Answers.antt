use Rattle.chain_graph.proofs.TargetLemmas.{more_rules, all_rules}
use Rattle.chain_graph.proofs.targets.least_in.Goals as goal

pub loop-rule-preserved : goal.loop-rule-preserved
loop-rule-preserved g c = more_rules c.args.rules.now c.loop-rule.rule-index c.rule-item.result c.loop-rule-test.true c.rule-item.is c.loop-rule.best c.in_ok-target.target c.lesser-best.result
    c.loop-rule.invariant c.in_ok-target.ensures c.lesser-best.ensures

pub returns : goal.returns
returns g c = all_rules c.args.rules.now c.loop-rule.rule-index c.loop-rule.best c.loop-rule-test.false c.loop-rule.invariant
