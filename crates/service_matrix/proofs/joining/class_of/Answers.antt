use Rattle.service_matrix.specs.Services.{accepts_service}
use Rattle.service_matrix.proofs.Joins.{least_is, lone_class}
use Rattle.service_matrix.proofs.joining.class_of.Goals as goal

pub returns : goal.returns
returns g c = (
  c.in_ok-copy.ensures,
  lone_class (accepts_service c.args.rules.now c.args.policy c.args.service.now) c.args.group.now c.in_ok-copy.field-0 c.in_ok-line_at.field-0 c.in_ok-line_at-2.field-0 c.unwrap_or-least.result
      c.requires.group c.in_ok-copy.ensures (least_is c.args.group.now c.least.result c.unwrap_or-least.result c.unwrap_or-least.ensures c.least.ensures.number c.least.ensures.none c.requires.group.some)
      c.in_ok-line_at.ensures c.in_ok-line_at-2.ensures,
)
