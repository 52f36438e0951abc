use Rattle.std.proofs.Common.{◌≡◌, ◌∙◌, ◌++◌, Bool, true, List, [], length, drop, refl, arith, ap, sym, subst, true≢false}
use Rattle.fw_rule.specs.declared.rule.Place.{Place}
use Rattle.fw_rule.specs.Walk.{Path, Here}
use Rattle.chain_graph.proofs.Marking.{written}
use Rattle.explain.specs.inner.Views.{AreRight}
use Rattle.explain.specs.inner.Choosing.{ChoosesTo}
use Rattle.explain.proofs.ExplainLemmas.{covers_none, has_none, unexplained, explained}
use Rattle.explain.proofs.explaining.explain_verdict.Goals as goal
use Rattle.fw_rule.specs.declared.rule.Verdict.{Verdict}
use Rattle.fw_rule.specs.declared.rule.Verdict.TheVariants.{Accept, Drop}
use Rattle.fw_rule.specs.contracts.rule.Verdict.{the_type}
use denote.Enum.Bare.{sameb}

-- what the test of two verdicts tells
same_verdicts : (a b : Verdict) (r : Bool) → r ≡ sameb the_type a b → (r ≡ true → a ≡ b) × (a ≡ b → r ≡ true)
same_verdicts Accept Accept r e = (λ t. refl, λ q. e)
same_verdicts Drop Drop r e = (λ t. refl, λ q. e)
same_verdicts Accept Drop r e = (λ t. absurd (true≢false (sym t ∙ e)), λ q. cc)
same_verdicts Drop Accept r e = (λ t. absurd (true≢false (sym t ∙ e)), λ q. cc)

pub view_chain-requires-clause-settled : goal.view_chain-requires-clause-settled
view_chain-requires-clause-settled g c = (c.args.chain, c.requires.settled, Here)

pub view_chain-requires-clause-covers : goal.view_chain-requires-clause-covers
view_chain-requires-clause-covers g c = covers_none c.args.dump.now c.deref_mut.result.now (c.deref_mut.ensures.value ∙ c.in_ok-views.ensures)

pub view_chain-requires-clause-right : goal.view_chain-requires-clause-right
view_chain-requires-clause-right g c = λ k view h. absurd (has_none c.args.dump.now c.deref_mut.result.now (c.deref_mut.ensures.value ∙ c.in_ok-views.ensures) k view h)

pub returns-then-not-is_reached : goal.returns-then-not-is_reached
returns-then-not-is_reached g c =
    unexplained g.P.Primitive.meaning c.args.dump.now c.args.p.now c.args.wanted c.args.chain c.settled_policy.result c.settled_policy.ensures c.eq-by_policy.result (same_verdicts c.settled_policy.result c.args.wanted c.eq-by_policy.result c.eq-by_policy.ensures) c.in_ok-start.start c.in_ok-start.ensures.is
    (sym c.is_reached.ensures ∙ c.if-not-is_reached.true)

pub choose_in-requires-clause-settled : goal.choose_in-requires-clause-settled
choose_in-requires-clause-settled g c = (c.args.chain, c.requires.settled, Here)

pub returns : goal.returns
returns g c =
    let before = (covers_none c.args.dump.now c.deref_mut.result.now (c.deref_mut.ensures.value ∙ c.in_ok-views.ensures)).long in
    let long : length c.view_chain.new.views ≡ c.in_ok-views.views.len = omega (arith, before, c.in_ok-start.ensures.covers.long, c.deref_mut.ensures.len) in
    let back : c.deref.result.now ≡ c.view_chain.new.views = c.deref.ensures.value ∙ written c.in_ok-views.views.len c.view_chain.new.views (drop (length c.view_chain.new.views) c.in_ok-views.views.items) long in
    let right = subst (AreRight g.P.Primitive.meaning c.args.dump.now c.args.p.now c.args.wanted) (sym back) c.in_ok-start.ensures.right in
    let chosen = c.in_ok-choose_in.ensures.chooses in
    let places_are : chosen.0 ≡ c.of.result = sym (c.of.ensures ∙ chosen.1 ∙ ap (λ (z : List Place). z ++ chosen.0) c.new-places.ensures.items) in
    let empty = c.new-path.ensures.items in
    explained g.P.Primitive.meaning c.args.dump.now c.args.p.now c.args.wanted c.args.chain c.settled_policy.result c.settled_policy.ensures c.eq-by_policy.result (same_verdicts c.settled_policy.result c.args.wanted c.eq-by_policy.result c.eq-by_policy.ensures) c.in_ok-start.start c.in_ok-start.ensures.is
    (sym c.is_reached.ensures ∙ c.if-not-is_reached.false) c.in_ok-choose_in.field-0 c.of.result
    (subst (λ (z : List Place). ChoosesTo g.P.Primitive.meaning c.args.dump.now c.args.p.now c.args.wanted c.args.chain [] c.eq-by_policy.result z c.in_ok-choose_in.field-0) places_are
    (subst (λ (z : Path). ChoosesTo g.P.Primitive.meaning c.args.dump.now c.args.p.now c.args.wanted c.args.chain z c.eq-by_policy.result chosen.0 c.in_ok-choose_in.field-0) empty (chosen.2 c.args.p.now c.args.wanted right)))
