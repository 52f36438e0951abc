use Rattle.spoof_check.proofs.ForgedLemmas.{settled_before}
use Rattle.spoof_check.proofs.checking.spoof.Goals as goal

pub settled_policy-policy-requires : goal.settled_policy-policy-requires
settled_policy-policy-requires g c = settled_before c.args.dump.now c.args.chain (c.in_ok-rules.ensures.closed).0.settled
