use Rattle.fffuu_run.proofs.Closings.{check_within}
use Rattle.fffuu_run.proofs.checking.checked.Goals as goal

pub returns-clause-within : goal.returns-clause-within
returns-clause-within g c = check_within c.args.dump.now c.args.chain c.requires.policy c.in_ok-check.ensures.passes
