use Rattle.request.proofs.SpaceLemmas.{on_routes}
use Rattle.request.proofs.spaces.routes_of.Goals as goal

pub returns-clause-valid : goal.returns-clause-valid
returns-clause-valid g c = on_routes g.row.W c.args.hops.now c.in_ok-list.list c.in_ok-list.ensures c.new.result c.new.ensures.same c.new.ensures.valid
