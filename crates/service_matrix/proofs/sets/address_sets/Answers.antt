use Rattle.std.proofs.Common.{◌≡◌, ◌∙◌, ◌↔◌, true, false, List, Contains, ap, subst, sym, arith}
use Rattle.interval_set.specs.declared.set.Range.{Range}
use Rattle.service_matrix.specs.inner.AddressSets.{IsSetBefore}
use Rattle.service_matrix.proofs.Sources.{are_sets, marked_at, more_sets, passed_over}
use Rattle.service_matrix.proofs.sets.address_sets.Goals as goal
use Rattle.service_matrix.proofs.sets.address_sets.Goals.{then-index+in_ok-push_rules, else-index}

pub loop-next-preserved : goal.loop-next-preserved
loop-next-preserved g c = elim c.if-index.branch [
  | then-index+in_ok-push_rules w ↦
      let reached = (c.in_ok-marks.ensures.is c.loop-next.next).0 (sym (marked_at c.in_ok-marks.marks.items c.loop-next.next c.index.result.now (omega (arith, c.loop-next-test.true, c.len-next-end.ensures)) c.index.ensures) ∙ w.if-index.true) in
      more_sets c.args.dump.now c.args.chain c.loop-next.next w.rules_of.result.now c.loop-next.sets.items c.if-index.sets.items reached w.rules_of.ensures
      (ap (λ z. z.items) w.sets-is ∙ w.in_ok-push_rules.ensures) c.loop-next.invariant
  | else-index w ↦
      passed_over c.args.dump.now c.args.chain c.loop-next.next c.if-index.sets.items
      (λ r. let m = (c.in_ok-marks.ensures.is c.loop-next.next).1 r in
      let k : true ≡ false = sym m ∙ sym (marked_at c.in_ok-marks.marks.items c.loop-next.next c.index.result.now (omega (arith, c.loop-next-test.true, c.len-next-end.ensures)) c.index.ensures) ∙ w.if-index.false in cc)
      (subst (λ (z : List (List Range)). (set : List Range) → Contains z set ↔ IsSetBefore c.args.dump.now c.args.chain c.loop-next.next set) (sym (ap (λ z. z.items) w.sets-is)) c.loop-next.invariant)
]

pub returns : goal.returns
returns g c =
    are_sets c.args.dump.now c.args.chain c.loop-next.next c.loop-next.sets.items
    (omega (arith, c.loop-next-test.false, c.len-next-end.ensures, c.in_ok-marks.ensures.long, c.loop-next.auto.next-end)) c.loop-next.invariant
