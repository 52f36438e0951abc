use Rattle.std.proofs.Common.{rules, ◌≡◌, ◌<◌, ◌++◌, ◌∷◌, [], ◌∙◌, ◌^◌, Option, None, Some, Vec, Global, List, arith, ap, sym, subst}
use Rattle.fw_rule.specs.declared.rule.Step.{Step}
use Rattle.fw_rule.specs.Walk.{Path, target_of}
use Rattle.fw_rule.proofs.Turns.{chain_inside, further, shallower}
use Rattle.fw_laws.specs.Frames.{step_of}
use Rattle.explain.proofs.Going.{calls_of, next_fits}
use Rattle.region_queries.specs.Visits.{VisitsFrom}
use Rattle.region_queries.proofs.VisitLemmas.{all_listed, called, none_yet, plain}
use Rattle.region_queries.proofs.visiting.+list_chain.Goals as goal
use Rattle.region_queries.proofs.visiting.+list_chain.Goals.{in-Some+in_ok-list_chain, in_default}

pub rules_of-rules-requires : goal.rules_of-rules-requires
rules_of-rules-requires g t c = chain_inside c.args.dump.now c.args.chain c.requires.settled

pub loop-next-init : goal.loop-next-init
loop-next-init g t c = none_yet c.args.dump.now c.args.chain c.args.path.now c.args.visits.now.items

pub overflow_cast-next : goal.overflow_cast-next
overflow_cast-next g t c = let h : c.loop-next.next < 2 ^ 32 = next_fits c.args.dump.now c.args.chain c.rules_of-rules.result.now c.rules_of-rules.ensures c.loop-next.next c.loop-next-test.true c.requires.room in search rules

pub overflow_sub-depth : goal.overflow_sub-depth
overflow_sub-depth g t c = (shallower c.args.dump.now c.args.depth c.args.chain c.in-Some.callee c.requires.within (calls_of c.args.dump.now c.args.chain c.rules_of-rules.result.now c.rules_of-rules.ensures c.loop-next.next c.index-rules-next.result c.loop-next-test.true c.index-rules-next.is c.in-Some.callee (sym c.target.ensures ∙ c.in-Some.is))).0

pub list_chain-requires : goal.list_chain-requires
list_chain-requires g t c κs within =
    let calls = calls_of c.args.dump.now c.args.chain c.rules_of-rules.result.now c.rules_of-rules.ensures c.loop-next.next c.index-rules-next.result c.loop-next-test.true c.index-rules-next.is c.in-Some.callee (sym c.target.ensures ∙ c.in-Some.is) in
    let less = shallower c.args.dump.now c.args.depth c.args.chain c.in-Some.callee c.requires.within calls in
    (omega (arith, less.0, c.decreases), (search rules, (search rules, (further c.args.dump.now c.args.chain c.in-Some.callee c.requires.settled calls, (less.1, c.requires.room)))))

pub loop-next-preserved : goal.loop-next-preserved
loop-next-preserved g t c =
    let own_is : c.of.result ≡ c.args.path.now ++ step_of c.args.chain c.loop-next.next ∷ [] = c.of.ensures ∙ c.in_ok-from_slice.ensures.items ∙ c.as_slice.ensures.value ∙ c.in_ok-own.ensures in
    elim c.match-target.branch [
      | in-Some+in_ok-list_chain w ↦
          let there = w.in_ok-list_chain.ensures in
          let below : w.as_slice-in-Some.result.now ≡ c.of.result = w.as_slice-in-Some.ensures.value ∙ c.in_ok-own.ensures ∙ sym own_is in
          rw w.visits-is (called c.args.dump.now c.args.chain c.args.path.now c.args.visits.now.items c.rules_of-rules.result.now c.rules_of-rules.ensures c.loop-next.next c.loop-next.visits.items c.loop-next.invariant
          c.index-rules-next.result c.loop-next-test.true c.index-rules-next.is c.of.result own_is c.push.new.self.items c.in_ok-push.ensures.items w.in-Some.callee (sym c.target.ensures ∙ w.in-Some.is)
          w.list_chain.new.visits.items there.0 there.1 (subst (λ (x : Path). VisitsFrom c.args.dump.now w.in-Some.callee 0 x there.0) below there.2))
      | in_default w ↦
          rw w.visits-is (plain c.args.dump.now c.args.chain c.args.path.now c.args.visits.now.items c.rules_of-rules.result.now c.rules_of-rules.ensures c.loop-next.next c.loop-next.visits.items c.loop-next.invariant
          c.index-rules-next.result c.loop-next-test.true c.index-rules-next.is c.of.result own_is c.push.new.self.items c.in_ok-push.ensures.items (sym c.target.ensures ∙ w.in_default.is))
    ]

pub returns : goal.returns
returns g t c = all_listed c.args.dump.now c.args.chain c.args.path.now c.args.visits.now.items c.rules_of-rules.result.now c.rules_of-rules.ensures c.loop-next.next c.loop-next.visits.items c.loop-next.invariant c.loop-next-test.false
