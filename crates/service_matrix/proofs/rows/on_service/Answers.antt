use Rattle.std.proofs.Common.{◌+◌, [], ◌∷◌, ◌++◌, drop, ap, ◌∙◌}
use Rattle.box_norm.specs.declared.cube.SimpleRule.{SimpleRule}
use Rattle.service_matrix.proofs.Passes.{copied_rule, kept_and_left, left_out, put_in}
use Rattle.service_matrix.proofs.rows.on_service.Goals as goal
use Rattle.service_matrix.proofs.rows.on_service.Goals.{then-meets+in_ok-copy+in_ok-push, else-meets}

pub loop-rule-preserved : goal.loop-rule-preserved
loop-rule-preserved g c s d = elim c.if-meets.branch [
  | then-meets+in_ok-copy+in_ok-push w ↦
      put_in c.args.service.now c.args.rules.now c.loop-rule.rule-index c.rule-item.result c.loop-rule-test.true c.rule-item.is c.loop-rule.kept.items c.if-meets.kept.items
      (ap (λ v. v.items) w.kept-is ∙ w.in_ok-push.ensures.items ∙ ap (λ (rule : SimpleRule g.row.W). c.loop-rule.kept.items ++ (rule ∷ [])) (copied_rule c.rule-item.result _ w.in_ok-copy.ensures)) s d
      ∙ c.loop-rule.invariant s d
  | else-meets w ↦
      ap (λ v. kept_and_left c.args.service.now v.items (drop (c.loop-rule.rule-index + 1) c.args.rules.now) s d) w.kept-is
      ∙ left_out c.args.service.now c.args.rules.now c.loop-rule.rule-index c.rule-item.result c.loop-rule-test.true c.rule-item.is c.loop-rule.kept.items (c.meets.ensures w.if-meets.false) s d
      ∙ c.loop-rule.invariant s d
]
