use Rattle.std.proofs.Common.{◌+◌, List, drop, subst}
use Rattle.std.proofs.lemmas.List.{drop_all}
use Rattle.interval_set.specs.declared.set.Range.{Range}
use Rattle.service_matrix.specs.inner.Classes.{AreClasses}
use Rattle.service_matrix.specs.Services.{accepts_service}
use Rattle.service_matrix.proofs.Joins.{drop_at, one_more}
use Rattle.service_matrix.proofs.joining.joined_by.Goals as goal

pub loop-group-preserved : goal.loop-group-preserved
loop-group-preserved g c =
    one_more (accepts_service c.args.rules.now c.args.policy c.args.service.now) c.args.groups.now (drop (c.loop-group.group-index + 1) c.args.groups.now) c.group-item.result c.loop-group.classes.items
    c.in_ok-class.class
    (subst (λ (z : List (List Range)). AreClasses (accepts_service c.args.rules.now c.args.policy c.args.service.now) c.args.groups.now z c.loop-group.classes.items)
    (drop_at c.args.groups.now c.loop-group.group-index c.group-item.result c.loop-group-test.true c.group-item.is) c.loop-group.invariant)
    c.in_ok-class.ensures.1 c.in_ok-class.ensures.0 c.put.new.classes.items c.in_ok-put.ensures

pub returns : goal.returns
returns g c =
    subst (λ (z : List (List Range)). AreClasses (accepts_service c.args.rules.now c.args.policy c.args.service.now) c.args.groups.now z c.loop-group.classes.items)
    (drop_all c.loop-group.group-index c.args.groups.now c.loop-group-test.false) c.loop-group.invariant
