use Rattle.request.proofs.SpaceLemmas.{no_prefixes}
use Rattle.fffuu_run.proofs.spaces.asked_routes.Goals as goal

pub unreachable-requires : goal.unreachable-requires
unreachable-requires g c =
    no_prefixes g.row.W c.args.hops.now c.in-Err-Repeated.field-0 c.in-Err-Repeated.ensures.refused _ c.in-Err-Repeated.field-0-is c.requires.prefixes
