use Rattle.dump_grammar.proofs.LineLemmas.{base_passed}
use Rattle.dump_grammar.proofs.line_literals.has_base.Goals as goal

pub loop-group-preserved : goal.loop-group-preserved
loop-group-preserved c =
    base_passed c.args.groups.now c.loop-group.group-index c.group-item.result c.args.option.now c.is_base.result _ c.loop-group-test.true c.group-item.is c.is_base.ensures c.if-is_base.false c.loop-group.invariant
