use Rattle.std.proofs.Common.{rules, ◌<◌, ◌-◌, ◌∙◌, Bool, length, arith, ap, sym, subst, refl}
use Rattle.match_expr.specs.Meaning.{eval_of}
use Rattle.fw_rule.specs.Walk.{known_of}
use Rattle.fw_rule.proofs.Turns.{chain_inside, shallower, further}
use Rattle.explain.specs.declared.reach.Reach.{Reach}
use Rattle.explain.specs.inner.Reaching.{match_of, by_match}
use Rattle.explain.specs.inner.Views.{AreRight, Covers, Keeps}
use Rattle.explain.proofs.Going.{rule_read, calls_of}
use Rattle.explain.proofs.ViewLemmas.{none_seen, one_seen, all_seen, has_read, put_covers, put_right, put_keeps, put_has, called_one, called_none, callee_same, keeps_itself}
use Rattle.explain.proofs.views.+view_chain.Goals as goal
use Rattle.explain.proofs.views.+view_chain.Goals.{in-Some-target+in_ok-callee, in_default-target}

pub bounds-views-chain : goal.bounds-views-chain
bounds-views-chain g t c = let h = chain_inside c.args.dump.now c.args.chain c.requires.settled in omega (arith, h, c.requires.covers.long)

pub returns-in-Some-clause-has : goal.returns-in-Some-clause-has
returns-in-Some-clause-has g t c =
    let h = chain_inside c.args.dump.now c.args.chain c.requires.settled in
    let inside : c.args.chain < length c.args.views.now = omega (arith, h, c.requires.covers.long) in
    (c.in-Some.view, has_read c.args.views.now c.args.chain c.index-views-chain.result c.in-Some.view inside c.index-views-chain.is (c.index-views-chain.is ∙ c.in-Some.is))

pub returns-in-Some-clause-is : goal.returns-in-Some-clause-is
returns-in-Some-clause-is g t c =
    let h = chain_inside c.args.dump.now c.args.chain c.requires.settled in
    let inside : c.args.chain < length c.args.views.now = omega (arith, h, c.requires.covers.long) in
    (c.requires.right c.args.chain c.in-Some.view (has_read c.args.views.now c.args.chain c.index-views-chain.result c.in-Some.view inside c.index-views-chain.is (c.index-views-chain.is ∙ c.in-Some.is))).start

pub rules_of-rules-requires : goal.rules_of-rules-requires
rules_of-rules-requires g t c = chain_inside c.args.dump.now c.args.chain c.requires.settled

pub loop-left-init : goal.loop-left-init
loop-left-init g t c = none_seen g.P.Primitive.meaning c.args.dump.now c.args.p.now c.args.wanted c.args.chain c.rules_of-rules.result.now c.rules_of-rules.ensures c.args.views.now c.in_ok-sights.sights.items (length c.rules_of-rules.result.now) refl
    (omega (arith, c.in_ok-sights.ensures.len, c.in_ok-sights.sights.ok.0)) c.requires.covers c.requires.right

pub view_chain-requires : goal.view_chain-requires
view_chain-requires g t c κs within =
    let calls = calls_of c.args.dump.now c.args.chain c.rules_of-rules.result.now c.rules_of-rules.ensures (c.loop-left.left - 1) c.index-rules-left.result (omega (arith, c.loop-left-test.true, c.loop-left.invariant.inside)) c.index-rules-left.is c.in-Some-target.called (sym c.in-Some-target.ensures) in
    let less = shallower c.args.dump.now c.args.depth c.args.chain c.in-Some-target.called c.requires.within calls in
    (omega (arith, less.0, c.decreases), (search rules, (search rules, (further c.args.dump.now c.args.chain c.in-Some-target.called c.requires.settled calls, (less.1, (c.loop-left.invariant.covers, c.loop-left.invariant.right))))))

pub loop-left-preserved : goal.loop-left-preserved
loop-left-preserved g t c = elim c.match-target.branch [
  | in-Some-target+in_ok-callee w ↦ one_seen g.P.Primitive.meaning c.args.dump.now c.args.p.now c.args.wanted c.args.chain c.rules_of-rules.result.now c.rules_of-rules.ensures c.loop-left.left (c.loop-left.left - 1) c.args.views.now c.loop-left.views c.match-target.views c.loop-left.sights.items c.loop-left.behind c.match-target.callee c.index-rules-left.result c.loop-left.invariant
      (omega (arith, c.loop-left-test.true)) (rule_read c.args.dump.now c.args.chain c.rules_of-rules.result.now c.rules_of-rules.ensures (c.loop-left.left - 1) c.index-rules-left.result (omega (arith, c.loop-left-test.true, c.loop-left.invariant.inside)) c.index-rules-left.is)
      (subst (Covers c.args.dump.now) (sym w.views-is) w.in_ok-callee.ensures.covers) (subst (AreRight g.P.Primitive.meaning c.args.dump.now c.args.p.now c.args.wanted) (sym w.views-is) w.in_ok-callee.ensures.right) (subst (Keeps c.loop-left.views) (sym w.views-is) w.in_ok-callee.ensures.keeps)
      (callee_same g.P.Primitive.meaning c.args.dump.now c.args.p.now c.args.wanted c.args.chain c.index-rules-left.result w.view_chain.new.views c.match-target.views w.in_ok-callee.callee c.match-target.callee w.views-is w.callee-is (called_one g.P.Primitive.meaning c.args.dump.now c.args.p.now c.args.wanted c.args.chain c.index-rules-left.result w.view_chain.new.views w.in_ok-callee.callee w.in-Some-target.called (sym w.in-Some-target.ensures) w.in_ok-callee.ensures.has w.in_ok-callee.ensures.is))
      (record { matching = c.match_of-matching.result; behind = c.loop-left.behind })
      (c.match_of-matching.ensures ∙ ap (λ (z : Bool). match_of z c.doubtful.result) c.known_holds.ensures ∙ ap (match_of (eval_of (λ x. g.P.Primitive.meaning x c.args.p.now) (known_of c.index-rules-left.result))) c.doubtful.ensures) refl
      c.by_match-behind.result (c.by_match-behind.ensures ∙ ap (λ (z : Reach). by_match c.match_of-matching.result z c.loop-left.behind) c.by_action.ensures)
  | in_default-target w ↦ one_seen g.P.Primitive.meaning c.args.dump.now c.args.p.now c.args.wanted c.args.chain c.rules_of-rules.result.now c.rules_of-rules.ensures c.loop-left.left (c.loop-left.left - 1) c.args.views.now c.loop-left.views c.match-target.views c.loop-left.sights.items c.loop-left.behind c.match-target.callee c.index-rules-left.result c.loop-left.invariant
      (omega (arith, c.loop-left-test.true)) (rule_read c.args.dump.now c.args.chain c.rules_of-rules.result.now c.rules_of-rules.ensures (c.loop-left.left - 1) c.index-rules-left.result (omega (arith, c.loop-left-test.true, c.loop-left.invariant.inside)) c.index-rules-left.is)
      (subst (Covers c.args.dump.now) (sym w.views-is) c.loop-left.invariant.covers) (subst (AreRight g.P.Primitive.meaning c.args.dump.now c.args.p.now c.args.wanted) (sym w.views-is) c.loop-left.invariant.right) (subst (Keeps c.loop-left.views) (sym w.views-is) (keeps_itself c.loop-left.views))
      (called_none g.P.Primitive.meaning c.args.dump.now c.args.p.now c.args.wanted c.args.chain c.index-rules-left.result c.match-target.views c.match-target.callee (sym w.in_default-target.ensures))
      (record { matching = c.match_of-matching.result; behind = c.loop-left.behind })
      (c.match_of-matching.ensures ∙ ap (λ (z : Bool). match_of z c.doubtful.result) c.known_holds.ensures ∙ ap (match_of (eval_of (λ x. g.P.Primitive.meaning x c.args.p.now) (known_of c.index-rules-left.result))) c.doubtful.ensures) refl
      c.by_match-behind.result (c.by_match-behind.ensures ∙ ap (λ (z : Reach). by_match c.match_of-matching.result z c.loop-left.behind) c.by_action.ensures)
]

pub bounds-views-chain-2 : goal.bounds-views-chain-2
bounds-views-chain-2 g t c = let h = chain_inside c.args.dump.now c.args.chain c.requires.settled in omega (arith, h, c.loop-left.invariant.covers.long)

pub returns-clause-covers : goal.returns-clause-covers
returns-clause-covers g t c = put_covers g.P.Primitive.meaning c.args.dump.now c.args.p.now c.args.wanted c.args.chain c.rules_of-rules.result.now c.rules_of-rules.ensures c.args.views.now c.loop-left.views (record { sights = c.of.result; start = c.loop-left.behind }) (all_seen g.P.Primitive.meaning c.args.dump.now c.args.p.now c.args.wanted c.args.chain c.rules_of-rules.result.now c.loop-left.left c.args.views.now c.loop-left.views c.loop-left.sights.items c.of.result c.loop-left.behind c.loop-left-test.false c.of.ensures c.loop-left.invariant) (let h = chain_inside c.args.dump.now c.args.chain c.requires.settled in omega (arith, h, c.loop-left.invariant.covers.long))

pub returns-clause-right : goal.returns-clause-right
returns-clause-right g t c = put_right g.P.Primitive.meaning c.args.dump.now c.args.p.now c.args.wanted c.args.chain c.rules_of-rules.result.now c.rules_of-rules.ensures c.args.views.now c.loop-left.views (record { sights = c.of.result; start = c.loop-left.behind }) (all_seen g.P.Primitive.meaning c.args.dump.now c.args.p.now c.args.wanted c.args.chain c.rules_of-rules.result.now c.loop-left.left c.args.views.now c.loop-left.views c.loop-left.sights.items c.of.result c.loop-left.behind c.loop-left-test.false c.of.ensures c.loop-left.invariant) (let h = chain_inside c.args.dump.now c.args.chain c.requires.settled in omega (arith, h, c.loop-left.invariant.covers.long))

pub returns-clause-keeps : goal.returns-clause-keeps
returns-clause-keeps g t c = put_keeps g.P.Primitive.meaning c.args.dump.now c.args.p.now c.args.wanted c.args.chain c.rules_of-rules.result.now c.rules_of-rules.ensures c.args.views.now c.loop-left.views (record { sights = c.of.result; start = c.loop-left.behind }) (all_seen g.P.Primitive.meaning c.args.dump.now c.args.p.now c.args.wanted c.args.chain c.rules_of-rules.result.now c.loop-left.left c.args.views.now c.loop-left.views c.loop-left.sights.items c.of.result c.loop-left.behind c.loop-left-test.false c.of.ensures c.loop-left.invariant) (let h = chain_inside c.args.dump.now c.args.chain c.requires.settled in omega (arith, h, c.loop-left.invariant.covers.long))

pub returns-clause-has : goal.returns-clause-has
returns-clause-has g t c = put_has g.P.Primitive.meaning c.args.dump.now c.args.p.now c.args.wanted c.args.chain c.rules_of-rules.result.now c.rules_of-rules.ensures c.args.views.now c.loop-left.views (record { sights = c.of.result; start = c.loop-left.behind }) (all_seen g.P.Primitive.meaning c.args.dump.now c.args.p.now c.args.wanted c.args.chain c.rules_of-rules.result.now c.loop-left.left c.args.views.now c.loop-left.views c.loop-left.sights.items c.of.result c.loop-left.behind c.loop-left-test.false c.of.ensures c.loop-left.invariant) (let h = chain_inside c.args.dump.now c.args.chain c.requires.settled in omega (arith, h, c.loop-left.invariant.covers.long))

pub returns-clause-is : goal.returns-clause-is
returns-clause-is g t c = (all_seen g.P.Primitive.meaning c.args.dump.now c.args.p.now c.args.wanted c.args.chain c.rules_of-rules.result.now c.loop-left.left c.args.views.now c.loop-left.views c.loop-left.sights.items c.of.result c.loop-left.behind c.loop-left-test.false c.of.ensures c.loop-left.invariant).reach
