use Rattle.std.proofs.Common.{ℕ, ◌<◌, ◌∙◌, length, refl, ap, arith, inl, inr, sym, subst, true≢false}
use Rattle.std.proofs.lemmas.Bool.{cases_eq}
use Rattle.std.proofs.lemmas.Option.{slice_get_within}
use Rattle.fw_rule.specs.Calls.{Calls}
use Rattle.fw_rule.proofs.Turns.{read_at}
use Rattle.chain_graph.specs.Marks.{AreRulesOf}
use Rattle.chain_graph.specs.inner.Spreading.{IsCalled}
use Rattle.chain_graph.proofs.Marking.{calls_by, called_by}
use Rattle.chain_graph.proofs.conditions.calls_name_chains.Goals as goal

pub returns-then-not-callees_below : goal.returns-then-not-callees_below
returns-then-not-callees_below g c = (
  λ t. absurd (true≢false (sym t)),
  λ f.
      let at : AreRulesOf c.args.dump.now c.loop-chain.chain-index c.as_slice.result.now =
      (c.chain-item.result, read_at c.args.dump.now.chains c.as_slice-chains.result.now c.loop-chain.chain-index c.chain-item.result c.as_slice-chains.ensures c.loop-chain-test.true c.chain-item.is, c.as_slice.ensures) in
      let low = λ (k : ℕ) (q : IsCalled c.as_slice.result.now k).
      subst (λ (n : ℕ). k < n) (ap length (sym c.as_slice-chains.ensures)) (f c.loop-chain.chain-index k (calls_by c.args.dump.now c.loop-chain.chain-index c.as_slice.result.now at k q)) in
      absurd (true≢false (sym ((c.callees_below.ensures).1 low) ∙ c.if-not-callees_below.true)),
)

pub loop-chain-preserved : goal.loop-chain-preserved
loop-chain-preserved g c a b h q = elim (cases_eq a c.loop-chain.chain-index) [
  | inl e ↦ (
      let at : AreRulesOf c.args.dump.now c.loop-chain.chain-index c.as_slice.result.now =
      (c.chain-item.result, read_at c.args.dump.now.chains c.as_slice-chains.result.now c.loop-chain.chain-index c.chain-item.result c.as_slice-chains.ensures c.loop-chain-test.true c.chain-item.is, c.as_slice.ensures) in
      let low : b < length c.as_slice-chains.result.now =
      (c.callees_below.ensures).0 c.if-not-callees_below.false b (called_by c.args.dump.now c.loop-chain.chain-index c.as_slice.result.now at b (subst (λ (z : ℕ). Calls c.args.dump.now z b) e q)) in
      subst (λ (n : ℕ). b < n) (ap length c.as_slice-chains.ensures) low)
  | inr ne ↦ c.loop-chain.invariant a b (omega (arith, h, ne)) q
]

pub returns : goal.returns
returns g c = (
  λ t a b q.
      let there = q.1 in
      let inside = slice_get_within c.args.dump.now.chains a (there.0) there.1 in
      c.loop-chain.invariant a b (omega (arith, inside, ap length c.as_slice-chains.ensures, c.loop-chain-test.false)) q,
  λ f. refl,
)
