use Rattle.simple_filter.proofs.Takings.{taken_settled}
use Rattle.simple_filter.proofs.collecting.CollectedSinkPrim_Cubes.is_settled.Goals as goal

pub returns : goal.returns
returns g c over xs ys h = taken_settled c.args.self.now.rules.items c.args.self.now.is_full c.args.self.now.has_boxes over xs ys h
