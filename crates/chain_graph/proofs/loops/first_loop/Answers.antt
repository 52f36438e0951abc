use Rattle.std.proofs.Common.{◌∙◌, ◌<◌, ℕ, List, get_or, sym, subst, true≢false}
use Rattle.fw_rule.specs.Calls.{Reaches}
use Rattle.chain_graph.specs.Marks.{MarksAre}
use Rattle.chain_graph.specs.inner.Spreading.{IsCalled}
use Rattle.chain_graph.proofs.LoopLemmas.{off_loops, one_off}
use Rattle.chain_graph.proofs.loops.first_loop.Goals as goal

pub loop-next-preserved-then-calls_below : goal.loop-next-preserved-then-calls_below
loop-next-preserved-then-calls_below g c =
    let marked = subst (MarksAre (Reaches c.args.dump.now c.args.chain)) (sym c.as_slice-slice.ensures.value) c.in_ok-marks.ensures.is in
    let numbers : List ℕ = c.as_slice-numbers.result.now in
    let below = λ (k : ℕ) (q : IsCalled c.rules_of.result.now k). subst (λ (n : ℕ). get_or numbers k 0 < n) (c.from-number.ensures ∙ c.number_of.ensures) (c.calls_below.ensures c.if-calls_below.true k q) in
    one_off c.args.dump.now c.args.chain c.loop-next.next c.loop-next.invariant
    (off_loops c.args.dump.now c.args.chain c.as_slice-slice.result.now numbers marked (c.never_rises-ordered.ensures c.if-ordered.true) c.loop-next.next c.rules_of.result.now c.rules_of.ensures below)

pub loop-next-preserved : goal.loop-next-preserved
loop-next-preserved g c = one_off c.args.dump.now c.args.chain c.loop-next.next c.loop-next.invariant
    (λ l. true≢false (sym (c.in_ok-calls_itself.ensures.no l.1) ∙ c.if-branch.false))
