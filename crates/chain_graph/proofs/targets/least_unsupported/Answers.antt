use Rattle.std.proofs.Common.{◌≡◌, ◌∙◌, List, Bool, true, false, length, get_or, ap, sym, arith}
use Rattle.chain_graph.proofs.Marking.{reach_inside}
use Rattle.chain_graph.proofs.TargetLemmas.{passed_over, more_chains, some_answer, none_answer}
use Rattle.chain_graph.proofs.targets.least_unsupported.Goals as goal

pub loop-next-preserved-then-not-is_marked : goal.loop-next-preserved-then-not-is_marked
loop-next-preserved-then-not-is_marked g c = passed_over c.args.dump.now c.args.chain c.loop-next.next c.loop-next.best
    (λ r. let e : true ≡ false = sym ((c.in_ok-marks.ensures.is c.loop-next.next).1 r) ∙ ap (λ (z : List Bool). get_or z c.loop-next.next false) (sym c.as_slice-slice.ensures.value)
    ∙ sym c.is_marked.ensures ∙ c.if-not-is_marked.true in cc)
    c.loop-next.invariant

pub loop-next-preserved : goal.loop-next-preserved
loop-next-preserved g c = more_chains c.args.dump.now c.args.chain c.loop-next.next c.rules_of.result.now c.rules_of.ensures
    ((c.in_ok-marks.ensures.is c.loop-next.next).0 (ap (λ (z : List Bool). get_or z c.loop-next.next false) (sym c.as_slice-slice.ensures.value) ∙ sym c.is_marked.ensures ∙ c.if-not-is_marked.false))
    c.loop-next.best c.in_ok-target.target c.lesser-best.result c.loop-next.invariant c.in_ok-target.ensures c.lesser-best.ensures

pub returns-clause-some : goal.returns-clause-some
returns-clause-some g c = some_answer c.args.dump.now c.args.chain c.loop-next.next c.loop-next.best
    (λ k r. let h = reach_inside c.args.dump.now c.requires.named c.args.chain k c.requires.there r in
    omega (arith, h, c.loop-next-test.false, ap length c.as_slice-slice.ensures.value, c.in_ok-marks.ensures.long, c.loop-next.auto.next-end)) c.loop-next.invariant

pub returns-clause-none : goal.returns-clause-none
returns-clause-none g c = none_answer c.args.dump.now c.args.chain c.loop-next.next c.loop-next.best
    (λ k r. let h = reach_inside c.args.dump.now c.requires.named c.args.chain k c.requires.there r in
    omega (arith, h, c.loop-next-test.false, ap length c.as_slice-slice.ensures.value, c.in_ok-marks.ensures.long, c.loop-next.auto.next-end)) c.loop-next.invariant
