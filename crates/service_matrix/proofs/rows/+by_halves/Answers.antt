use Rattle.std.proofs.Common.{List, ◌/◌, length, subst}
use Rattle.box_norm.specs.declared.cube.SimpleRule.{SimpleRule}
use Rattle.service_matrix.specs.inner.Passes.{Tells}
use Rattle.service_matrix.proofs.Passes.{both_tell, first_tells}
use Rattle.service_matrix.proofs.rows.+by_halves.Goals as goal

pub returns-then-is_empty : goal.returns-then-is_empty
returns-then-is_empty g t c =
    first_tells c.args.fixed c.args.rules.now c.args.service.now c.args.here (length c.args.rules.now / 2) c.in_ok-first.first
    (subst (λ (rules : List (SimpleRule g.row.W)). Tells c.args.fixed rules c.args.service.now c.args.here c.in_ok-first.first) c.split_at.ensures.front c.in_ok-first.ensures)
    (c.is_empty.ensures.value.0 c.if-is_empty.true)

pub returns : goal.returns
returns g t c =
    both_tell c.args.fixed c.args.rules.now c.args.service.now c.args.here (length c.args.rules.now / 2) c.in_ok-first.first
    (subst (λ (rules : List (SimpleRule g.row.W)). Tells c.args.fixed rules c.args.service.now c.args.here c.in_ok-first.first) c.split_at.ensures.front c.in_ok-first.ensures)
    c.in_ok-second.second
    (subst (λ (rules : List (SimpleRule g.row.W)). Tells c.args.fixed rules c.args.service.now c.args.here c.in_ok-second.second) c.split_at.ensures.back c.in_ok-second.ensures)
    c.then.result c.then.ensures.accepted c.then.ensures.undecided
