use Rattle.std.proofs.Common.{List, map, subst, sym}
use Rattle.addr_text.proofs.TextLemmas.{IsFamily}
use Rattle.interval_set.proofs.PrefixLaws.{width_le}
use Rattle.request.specs.Spaces.{AreZones, HaveRanges}
use Rattle.request.specs.declared.types.Claim.{Claim}
use Rattle.request.proofs.ClaimLemmas.{claims_bound_by, claims_once_by}
use Rattle.request.proofs.ReadingLemmas.{handed_on}
use Rattle.request.proofs.claims.read_zones.Goals as goal

pub are_zones-requires-clause-ranges : goal.are_zones-requires-clause-ranges
are_zones-requires-clause-ranges g c =
    let laws : IsFamily g.F.Family.Reads = record { one = g.met.F.Family.one; plain = g.met.F.Family.plain; not_number = g.met.F.Family.not_number } in
    subst (λ (claims : List Claim). HaveRanges g.row.W claims) (sym c.as_slice.ensures)
    (claims_bound_by g.F.Family.Reads g.row.W laws g.met.F.Family.fits (map (λ s. s.now) c.args.arguments.now) c.in_ok-claims.claims c.in_ok-claims.ensures.ok)

pub returns-in_err-are_zones-clause-usage : goal.returns-in_err-are_zones-clause-usage
returns-in_err-are_zones-clause-usage g c error claims (are, zones) =
    let laws : IsFamily g.F.Family.Reads = record { one = g.met.F.Family.one; plain = g.met.F.Family.plain; not_number = g.met.F.Family.not_number } in
    let same = claims_once_by g.F.Family.Reads g.row.W laws (width_le g.row.W c.requires) (map (λ s. s.now) c.args.arguments.now) claims c.in_ok-claims.claims are c.in_ok-claims.ensures.ok in
    let here : AreZones g.row.W c.as_slice.result.now = subst (λ (cs : List Claim). AreZones g.row.W cs) (sym c.as_slice.ensures) (subst (λ (cs : List Claim). AreZones g.row.W cs) same zones) in
    c.in_err-are_zones.ensures.usage (handed_on c.from_residual-in_err-are_zones.result _ _ c.from_residual-in_err-are_zones.ensures.1 error) here

pub returns-clause-ok : goal.returns-clause-ok
returns-clause-ok g c = (c.in_ok-claims.ensures.ok, subst (λ (claims : List Claim). AreZones g.row.W claims) c.as_slice.ensures c.in_ok-are_zones.ensures.ok)
