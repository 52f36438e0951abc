use Rattle.std.proofs.Common.{◌≡◌, ◌+◌, ℕ, List, lit<, arith, subst}
use Rattle.name_set.specs.Patterns.{fits}
use Rattle.iface_space.specs.declared.hop.Hop.{Hop}
use Rattle.iface_space.specs.inner.Longest.{Told}
use Rattle.iface_space.proofs.Painting.{told_all}
use Rattle.iface_space.proofs.routes.Routes.targets.Goals as goal

pub told_by-requires : goal.told_by-requires
told_by-requires g c =
    let same = c.list-hops.ensures.same in
    let w = g.row.W in (
      lit< tt,
      (
        c.list-hops.ensures.width,
        (
          rw same c.list-hops.ensures.hops,
          (rw same c.list-hops.ensures.cleared, (rw same c.list-hops.ensures.prefixes, c.loop-len.invariant)),
        ),
      ),
    )

pub returns : goal.returns
returns g c =
    let hops = c.args.self.now in
    let named = fits c.args.by.now in
    let last : c.loop-len.len ≡ g.row.W + 1 = omega arith in
    let told = subst (λ (len : ℕ). Told g.row.W c.list-hops.result.now named len 0 c.loop-len.found) last c.loop-len.invariant in
    told_all g.row.W hops named c.list-hops.ensures.hops c.list-hops.ensures.cleared c.list-hops.ensures.prefixes c.loop-len.found
    (subst (λ (xs : List Hop). Told g.row.W xs named (g.row.W + 1) 0 c.loop-len.found) c.list-hops.ensures.same told)
