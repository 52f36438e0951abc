use Rattle.request.proofs.SpaceLemmas.{memory_not_usage, no_addresses, no_names, not_usage}
use Rattle.request.proofs.spaces.are_zones.Goals as goal
use Rattle.request.proofs.spaces.are_zones.Goals.{in-Ok, in-Err-Memory, in-Err-Repeated, in-Err-Overlap}

pub returns-clause-usage : goal.returns-clause-usage
returns-clause-usage g c error are = elim c.match-zones_of.branch [
  | in-Ok w ↦ not_usage c.match-zones_of.result w.result-is error
  | in-Err-Memory w ↦ memory_not_usage c.match-zones_of.result w.result-is error
  | in-Err-Repeated w ↦ no_names g.row.W c.args.claims.now w.in-Err-Repeated.field-0 w.in-Err-Repeated.ensures.refused _ w.in-Err-Repeated.field-0-is are
  | in-Err-Overlap w ↦ no_addresses g.row.W c.args.claims.now w.in-Err-Overlap.field-0 w.in-Err-Overlap.ensures.refused _ w.in-Err-Overlap.field-0-is are
]
