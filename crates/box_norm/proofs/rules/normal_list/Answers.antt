use Rattle.std.proofs.Common.{◌∙◌, ap, arith, subst, sym}
use Rattle.std.proofs.lemmas.Bool.Decides.{nat_tests}
use Rattle.box_norm.specs.Regular.{AreRegular, EachCube, IsRegular}
use Rattle.box_norm.proofs.Normals.{normals_begin, turn}
use Rattle.box_norm.proofs.RegularLaws.{more_regular, whole_regular}
use Rattle.box_norm.proofs.rules.normal_list.Goals as goal
use Rattle.box_norm.proofs.rules.normal_list.Goals.{then-is_full, else-is_full, then-not-is_full+in_ok-push_rules, else-not-is_full}

pub loop-rule-init : goal.loop-rule-init
loop-rule-init g c = record {
  normals = rw c.new-out.ensures.items (normals_begin c.args.rules.now);
  regular = rw c.new-out.ensures.items tt;
}

pub loop-rule-preserved : goal.loop-rule-preserved
loop-rule-preserved g c =
    let same = c.as_slice.ensures.value ∙ c.in_ok-start.ensures in
    let cubes : AreRegular c.into_vec-cubes.result.items = subst AreRegular (sym c.into_vec-cubes.ensures) (c.in-Ok.ensures.regular (subst AreRegular (sym same) (whole_regular g.row.W, tt))) in
    record {
      normals = turn g.row.W c.args.rules.now c.loop-rule.rule-index c.rule-item.result c.loop-rule.is_full c.loop-rule.out.items c.as_slice.result.now c.into_vec-cubes.result.items
          c.loop-rule-test.true c.rule-item.is same c.loop-rule.invariant.normals (c.into_vec-cubes.ensures ∙ c.in-Ok.ensures.answers.0, c.in-Ok.ensures.answers.1)
          c.if-is_full.is_full c.if-not-is_full.out.items
          (elim c.if-is_full.branch [ then-is_full w ↦ λ h. w.is_full-is ∙ h | else-is_full w ↦ λ h. grind (arith, h, w.if-is_full.false) ])
          (elim c.if-is_full.branch [ then-is_full w ↦ λ h. grind (arith, h, w.if-is_full.true) | else-is_full w ↦ λ h. grind (arith, nat_tests, w.is_full-is, w.len.ensures, w.len-else-is_full.ensures) ])
          (elim c.if-not-is_full.branch [ then-not-is_full+in_ok-push_rules w ↦ λ h. grind (arith, h, w.if-not-is_full.true) | else-not-is_full w ↦ λ h. ap (λ z. z.items) w.out-is ])
          (elim c.if-not-is_full.branch [ then-not-is_full+in_ok-push_rules w ↦ λ h. ap (λ z. z.items) w.out-is ∙ w.in_ok-push_rules.ensures | else-not-is_full w ↦ λ h. grind (arith, h, w.if-not-is_full.false) ]);
      regular = elim c.if-not-is_full.branch [
        | then-not-is_full+in_ok-push_rules w ↦ subst (EachCube IsRegular) (sym (ap (λ z. z.items) w.out-is ∙ w.in_ok-push_rules.ensures)) (more_regular c.loop-rule.out.items c.rule-item.result.accept c.into_vec-cubes.result.items c.loop-rule.invariant.regular cubes)
        | else-not-is_full w ↦ subst (EachCube IsRegular) (sym (ap (λ z. z.items) w.out-is)) c.loop-rule.invariant.regular
      ];
    }
