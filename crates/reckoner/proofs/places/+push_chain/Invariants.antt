use Rattle.reckoner.proofs.places.+push_chain.Given as goal

abbrev pub decreases-push_chain : goal.decreases-push_chain
decreases-push_chain g l = l.depth
