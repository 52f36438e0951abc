use Rattle.std.proofs.Common.{List, map, subst, sym}
use Rattle.addr_text.proofs.TextLemmas.{IsFamily}
use Rattle.interval_set.proofs.PrefixLaws.{width_le}
use Rattle.iface_space.specs.declared.hop.Hop.{Hop}
use Rattle.iface_space.specs.Routes.{AreHops}
use Rattle.request.specs.Spaces.{HavePrefixes}
use Rattle.request.proofs.RouteLemmas.{hops_bound_by, hops_once_by}
use Rattle.request.proofs.ReadingLemmas.{handed_on}
use Rattle.request.proofs.routes.read_table.Goals as goal

pub are_routes-requires-clause-hops : goal.are_routes-requires-clause-hops
are_routes-requires-clause-hops g c =
    let laws : IsFamily g.F.Family.Reads = record { one = g.met.F.Family.one; plain = g.met.F.Family.plain; not_number = g.met.F.Family.not_number } in
    subst (λ (hops : List Hop). AreHops g.row.W hops) (sym c.as_slice.ensures)
    (hops_bound_by g.F.Family.Reads g.row.W laws g.met.F.Family.fits (map (λ s. s.now) c.args.arguments.now) c.in_ok-hops.hops c.in_ok-hops.ensures.ok)

pub returns-in_err-are_routes-clause-usage : goal.returns-in_err-are_routes-clause-usage
returns-in_err-are_routes-clause-usage g c error hops (are, differ) =
    let laws : IsFamily g.F.Family.Reads = record { one = g.met.F.Family.one; plain = g.met.F.Family.plain; not_number = g.met.F.Family.not_number } in
    let same = hops_once_by g.F.Family.Reads g.row.W laws (width_le g.row.W c.requires) (map (λ s. s.now) c.args.arguments.now) hops c.in_ok-hops.hops are c.in_ok-hops.ensures.ok in
    let here : HavePrefixes g.row.W c.as_slice.result.now = subst (λ (hs : List Hop). HavePrefixes g.row.W hs) (sym c.as_slice.ensures) (subst (λ (hs : List Hop). HavePrefixes g.row.W hs) same differ) in
    c.in_err-are_routes.ensures.usage (handed_on c.from_residual-in_err-are_routes.result _ _ c.from_residual-in_err-are_routes.ensures.1 error) here

pub returns-clause-ok : goal.returns-clause-ok
returns-clause-ok g c = (c.in_ok-hops.ensures.ok, subst (λ (hops : List Hop). HavePrefixes g.row.W hops) c.as_slice.ensures c.in_ok-are_routes.ensures.ok)
