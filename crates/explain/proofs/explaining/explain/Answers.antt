use Rattle.explain.proofs.ExplainLemmas.{within_deepest}
use Rattle.explain.proofs.explaining.explain.Goals as goal

pub explain_verdict-requires-clause-within : goal.explain_verdict-requires-clause-within
explain_verdict-requires-clause-within g c = within_deepest c.args.dump.now c.args.chain c.args.ranked.now c.requires.settled c.requires.ranked

pub explain_verdict-requires-2-clause-within : goal.explain_verdict-requires-2-clause-within
explain_verdict-requires-2-clause-within g c = within_deepest c.args.dump.now c.args.chain c.args.ranked.now c.requires.settled c.requires.ranked
