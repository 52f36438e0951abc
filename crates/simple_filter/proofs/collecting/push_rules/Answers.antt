use Rattle.std.proofs.Common.{arith, sym, subst}
use Rattle.std.proofs.lemmas.Grind.{common_steps}
use Rattle.basics.proofs.Lists.{each_more}
use Rattle.box_norm.specs.declared.cube.SimpleRule.{SimpleRule}
use Rattle.box_norm.specs.Regular.{EachCube}
use Rattle.box_norm.specs.Sets.{HasSets}
use Rattle.simple_filter.proofs.collecting.push_rules.Goals as goal

pub loop-cube-preserved : goal.loop-cube-preserved
loop-cube-preserved g c = record {
  rules = grind (arith, common_steps);
  sets = λ old. subst (EachCube HasSets) (sym c.in_ok-push.ensures.items)
      (each_more (λ (rule : SimpleRule g.row.W). HasSets rule.cube) c.loop-cube.out.items (record { cube = c.in-Some.cube; accept = c.args.accept })
      (c.loop-cube.invariant.sets old) c.has_sets.ensures);
}
