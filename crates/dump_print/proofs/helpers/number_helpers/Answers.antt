use Rattle.std.proofs.Common.{refl, arith}
use Rattle.dump_print.specs.Views.{helped_of}
use Rattle.dump_print.proofs.HelperLemmas.{after_few, helped_more}
use Rattle.dump_print.proofs.helpers.number_helpers.Goals as goal

pub loop-rule-preserved : goal.loop-rule-preserved
loop-rule-preserved g c = record {
  whole = helped_more helped_of c.args.rules.now c.loop-rule.rule-index c.rule-item.result c.in_ok-helper.helper _ _ _ _ _ _ (omega arith) c.rule-item.is refl
      c.in_ok-helper.ensures c.next_after-next.ensures c.in_ok-push.ensures.items c.loop-rule.invariant.whole;
  few = after_few c.in_ok-helper.helper _ _ _ c.next_after-next.ensures c.loop-rule.invariant.few;
}
