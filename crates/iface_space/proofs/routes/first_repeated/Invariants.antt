use Rattle.iface_space.specs.Routes.{HasEarlierPrefix}
use Rattle.iface_space.proofs.Earlier.{NoneBefore}
use Rattle.iface_space.proofs.routes.first_repeated.Given as goal

abbrev pub invariant-loop-at : goal.invariant-loop-at
invariant-loop-at l = NoneBefore (HasEarlierPrefix l.hops) l.at
