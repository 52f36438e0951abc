use Rattle.std.proofs.Common.{List, sym, subst, ◌∙◌}
use Rattle.iface_space.specs.declared.hop.Hop.{Hop}
use Rattle.iface_space.specs.First.{IsFirst}
use Rattle.iface_space.specs.Routes.{AreCleared, AreHops, HasEarlierPrefix, PrefixesDiffer}
use Rattle.iface_space.proofs.Choosing.{are_cleared, cleared_fit}
use Rattle.iface_space.proofs.routes.Routes.new.Goals as goal

pub returns-in-Some-clause-refused : goal.returns-in-Some-clause-refused
returns-in-Some-clause-refused g c =
    let is = c.as_slice.ensures ∙ c.in_ok-hops.ensures in
    subst (λ (hops : List Hop). IsFirst (HasEarlierPrefix hops) c.in-Some.at) is c.in-Some.ensures.some.1

pub invariant_of-result : goal.invariant_of-result
invariant_of-result g c = (
  c.requires.width,
  subst (λ (hops : List Hop). AreHops g.row.W hops) (sym c.in_ok-hops.ensures) (cleared_fit g.row.W c.args.list c.requires.hops),
  subst (λ (hops : List Hop). AreCleared g.row.W hops) (sym c.in_ok-hops.ensures) (are_cleared g.row.W c.args.list),
  subst (λ (hops : List Hop). PrefixesDiffer hops) c.as_slice.ensures c.in_default.ensures.none,
)

pub returns-clause-valid : goal.returns-clause-valid
returns-clause-valid g c = subst (λ (hops : List Hop). PrefixesDiffer hops) c.as_slice.ensures c.in_default.ensures.none
