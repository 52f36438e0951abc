use Rattle.request.proofs.SpaceLemmas.{on_zones}
use Rattle.request.proofs.spaces.zones_of.Goals as goal

pub returns-clause-valid : goal.returns-clause-valid
returns-clause-valid g c = on_zones g.row.W c.args.claims.now c.in_ok-zones.zones c.in_ok-zones.ensures c.new.result c.new.ensures.valid
