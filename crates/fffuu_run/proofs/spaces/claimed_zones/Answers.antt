use Rattle.request.proofs.SpaceLemmas.{no_addresses, no_names}
use Rattle.fffuu_run.proofs.spaces.claimed_zones.Goals as goal

pub unreachable-requires : goal.unreachable-requires
unreachable-requires g c =
    no_names g.row.W c.args.claims.now c.in-Err-Repeated.field-0 c.in-Err-Repeated.ensures.refused _ c.in-Err-Repeated.field-0-is c.requires.zones

pub unreachable-requires-in-Err-Overlap : goal.unreachable-requires-in-Err-Overlap
unreachable-requires-in-Err-Overlap g c =
    no_addresses g.row.W c.args.claims.now c.in-Err-Overlap.field-0 c.in-Err-Overlap.ensures.refused _ c.in-Err-Overlap.field-0-is c.requires.zones
