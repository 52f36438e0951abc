use Rattle.std.proofs.Common.{ℕ, ◌<◌, ◌∙◌, List, refl, arith, inl, inr, sym, subst, true≢false}
use Rattle.std.proofs.lemmas.List.{take_all}
use Rattle.fw_rule.specs.declared.rule.Rule.{Rule}
use Rattle.chain_graph.specs.inner.Spreading.{IsCalled}
use Rattle.chain_graph.proofs.Marking.{same_target, no_target, called_cases}
use Rattle.chain_graph.proofs.conditions.callees_below.Goals as goal
use Rattle.chain_graph.proofs.conditions.callees_below.Goals.{in-Some+else-callee-bound, in_default}

pub returns-then-callee-bound : goal.returns-then-callee-bound
returns-then-callee-bound g c = (
  λ t. absurd (true≢false (sym t)),
  λ f. let low = f c.in-Some.callee (c.rule-item.result, (c.loop-rule.rule-index, c.loop-rule-test.true, sym c.rule-item.is), (sym c.in-Some.ensures)) in
      absurd (omega (arith, low, c.if-callee-bound.true)),
)

pub loop-rule-preserved : goal.loop-rule-preserved
loop-rule-preserved g c k q = elim (called_cases c.args.rules.now c.loop-rule.rule-index c.rule-item.result c.loop-rule-test.true c.rule-item.is k q) [
  | inl before ↦ c.loop-rule.invariant k before
  | inr e ↦ elim c.match-target.branch [
    | in-Some+else-callee-bound w ↦ subst (λ (z : ℕ). z < c.args.bound) (same_target w.in-Some.callee k (w.in-Some.ensures ∙ e)) w.if-callee-bound.false
    | in_default w ↦ absurd (no_target c.args.rules.now c.loop-rule.rule-index c.rule-item.result c.loop-rule-test.true c.rule-item.is k (sym w.in_default.ensures) e)
  ]
]

pub returns : goal.returns
returns g c = (
  λ t k q. c.loop-rule.invariant k (subst (λ (z : List (Rule _)). IsCalled z k) (sym (take_all c.loop-rule.rule-index c.args.rules.now c.loop-rule-test.false)) q),
  λ f. refl,
)
