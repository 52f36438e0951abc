use Rattle.request.proofs.SpaceLemmas.{memory_not_usage, no_prefixes, not_usage}
use Rattle.request.proofs.spaces.are_routes.Goals as goal
use Rattle.request.proofs.spaces.are_routes.Goals.{in-Ok, in-Err-Memory, in-Err-Repeated}

pub returns-clause-usage : goal.returns-clause-usage
returns-clause-usage g c error are = elim c.match-routes_of.branch [
  | in-Ok w ↦ not_usage c.match-routes_of.result w.result-is error
  | in-Err-Memory w ↦ memory_not_usage c.match-routes_of.result w.result-is error
  | in-Err-Repeated w ↦ no_prefixes g.row.W c.args.hops.now w.in-Err-Repeated.field-0 w.in-Err-Repeated.ensures.refused _ w.in-Err-Repeated.field-0-is are
]
