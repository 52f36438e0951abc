use Rattle.std.specs.Option.{option_copied}
use Rattle.name_set.proofs.Next.{sees_turn}
use Rattle.name_set.proofs.least.next_name.Goals as goal

pub loop-pattern-preserved : goal.loop-pattern-preserved
loop-pattern-preserved c =
    sees_turn c.args.text.now c.args.patterns.now (option_copied c.args.last) (option_copied c.loop-pattern.next) (option_copied c.nearer-next.result)
    c.loop-pattern.pattern-index c.pattern-item.result c.loop-pattern-test.true c.pattern-item.is c.nearer-next.ensures c.loop-pattern.invariant
