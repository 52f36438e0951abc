use Rattle.fw_rule.specs.Walk.{Here}
use Rattle.fw_rule.proofs.Ends.{settled_within}
use Rattle.reckoner.proofs.reckoning.reckon.Goals as goal

pub push_chain-requires-clause-settled : goal.push_chain-requires-clause-settled
push_chain-requires-clause-settled g c = (c.args.chain, c.requires.settled, Here)

pub push_chain-requires-clause-within : goal.push_chain-requires-clause-within
push_chain-requires-clause-within g c = rw c.as_slice.ensures (settled_within c.args.dump.now c.args.chain c.requires.settled)
