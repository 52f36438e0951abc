use borrow.Author.Count.{below_more}
use Rattle.std.proofs.Common.{arith}
use Rattle.std.proofs.lemmas.Bool.{false≢true}
use Rattle.iface_space.specs.Zones.{HasEarlierName}
use Rattle.iface_space.proofs.Earlier.{names_differ}
use Rattle.iface_space.proofs.zones.first_repeated.Goals as goal

pub loop-at-preserved : goal.loop-at-preserved
loop-at-preserved g c = below_more (λ k. HasEarlierName c.args.zones.now k → ⊥) c.loop-at.at c.loop-at.invariant (λ h. false≢true (c.if-has_earlier_name.ensures.1 h))

pub returns-clause-none : goal.returns-clause-none
returns-clause-none g c = names_differ c.args.zones.now c.loop-at.at (omega arith) c.loop-at.invariant
