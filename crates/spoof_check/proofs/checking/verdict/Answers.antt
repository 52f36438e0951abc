use Rattle.spoof_check.proofs.ForgedLemmas.{holds_whole, right}
use Rattle.spoof_check.proofs.checking.verdict.Goals as goal

pub returns-in-Ok-clause-right : goal.returns-in-Ok-clause-right
returns-in-Ok-clause-right g c = right c.args.dump.now c.args.chain c.args.policy c.args.rules.now c.requires.meaning c.args.name.now c.args.inside.now c.in-Ok.verdict c.in-Ok.ensures.said

pub returns-in-Ok-clause-whole : goal.returns-in-Ok-clause-whole
returns-in-Ok-clause-whole g c = holds_whole c.args.dump.now c.args.chain c.args.name.now c.args.inside.now c.in-Ok.verdict (right c.args.dump.now c.args.chain c.args.policy c.args.rules.now c.requires.meaning c.args.name.now c.args.inside.now c.in-Ok.verdict c.in-Ok.ensures.said)
