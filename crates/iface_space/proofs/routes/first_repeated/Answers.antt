use borrow.Author.Count.{below_more}
use Rattle.std.proofs.Common.{arith}
use Rattle.std.proofs.lemmas.Bool.{false≢true}
use Rattle.std.proofs.lemmas.Option.{slice_get_within}
use Rattle.iface_space.specs.Routes.{HasEarlierPrefix}
use Rattle.iface_space.proofs.routes.first_repeated.Goals as goal

pub loop-at-preserved : goal.loop-at-preserved
loop-at-preserved c = below_more (λ k. HasEarlierPrefix c.args.hops.now k → ⊥) c.loop-at.at c.loop-at.invariant
    (λ h. false≢true (c.if-has_earlier_prefix.ensures.1 h))

pub returns-clause-none : goal.returns-clause-none
returns-clause-none c at h =
    let l = slice_get_within c.args.hops.now at h.2 h.5 in
    c.loop-at.invariant at (omega arith) h
