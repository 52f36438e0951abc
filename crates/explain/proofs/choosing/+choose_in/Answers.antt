use Rattle.std.proofs.Common.{rules, ◌≡◌, ◌<◌, ◌++◌, ◌∙◌, ◌^◌, Option, None, Some, IfNone, Vec, Global, vec_len, get_or, arith, ap, sym}
use Rattle.std.proofs.lemmas.Option.{slice_get-get_or}
use Rattle.fw_rule.specs.declared.rule.Step.{Step}
use Rattle.fw_rule.specs.declared.rule.Verdict.{Verdict}
use Rattle.fw_rule.specs.Walk.{Path, target_of}
use Rattle.fw_rule.proofs.Ends.{found_at}
use Rattle.fw_rule.proofs.Turns.{chain_inside, shallower, further}
use Rattle.explain.specs.declared.reach.Match.{Match}
use Rattle.explain.specs.declared.reach.Reach.{Reach}
use Rattle.explain.specs.declared.views.Sight.{Sight}
use Rattle.explain.specs.Choices.{unknown_places}
use Rattle.explain.proofs.Going.{some_of, none_of, rule_at, rule_of, calls_of, some_rule, inside, lits_fit, next_fits, past_at, going_first, going_over, gone_past, gone_accepting, gone_dropping, gone_back, gone_away, going_through, gone_inside, going_behind, popped}
use Rattle.explain.proofs.choosing.+choose_in.Goals as goal
use Rattle.explain.proofs.choosing.+choose_in.Goals.{in-Pass, in-Call+in_ok-outcome-in-Call+else-is_some}

-- what a read past the last sight would give
abbrev unseen : Sight
unseen = record { matching = Match.Fails; behind = Reach.Never }

pub loop-next-init : goal.loop-next-init
loop-next-init g t c = going_first g.P.Primitive.meaning c.args.dump.now c.args.views.now c.args.chain c.args.path.now.items c.args.past_end c.args.places.now.items

pub loop-next-preserved-then-is_passed : goal.loop-next-preserved-then-is_passed
loop-next-preserved-then-is_passed g t c =
    let r = some_rule c.args.dump.now c.args.chain c.rules_of-rules.result.now c.rules_of-rules.ensures c.loop-next.next c.loop-next-test.true in
    going_over g.P.Primitive.meaning c.args.dump.now c.args.views.now c.args.chain c.args.path.now.items c.args.past_end c.args.places.now.items c.loop-next.next c.loop-next.path.items c.loop-next.places.items c.loop-next.invariant c.sights_of-sights.result.now c.sights_of-sights.ensures (get_or c.sights_of-sights.result.now c.loop-next.next unseen) (slice_get-get_or c.sights_of-sights.result.now c.loop-next.next unseen (inside c.args.dump.now c.args.chain c.rules_of-rules.result.now c.rules_of-rules.ensures c.loop-next.next c.args.views.now c.sights_of-sights.result.now c.requires.covers c.sights_of-sights.ensures c.loop-next-test.true)) r.0 r.1
    (sym c.is_passed.ensures ∙ c.if-is_passed.true)

pub overflow_cast-next : goal.overflow_cast-next
overflow_cast-next g t c = let h : c.loop-next.next < 2 ^ 32 = next_fits c.args.dump.now c.args.chain c.rules_of-rules.result.now c.rules_of-rules.ensures c.loop-next.next c.loop-next-test.true c.requires.room in search rules

pub push_places-requires : goal.push_places-requires
push_places-requires g t c = lits_fit c.args.dump.now c.args.chain c.rules_of-rules.result.now c.rules_of-rules.ensures c.loop-next.next c.index-rules-next.result c.loop-next-test.true c.index-rules-next.is c.requires.room

pub returns-in-Accept-clause-chooses : goal.returns-in-Accept-clause-chooses
returns-in-Accept-clause-chooses g t c = gone_accepting g.P.Primitive.meaning c.args.dump.now c.args.views.now c.args.chain c.args.path.now.items c.args.past_end c.args.places.now.items c.loop-next.next c.loop-next.path.items c.loop-next.places.items c.loop-next.invariant c.sights_of-sights.result.now c.sights_of-sights.ensures (get_or c.sights_of-sights.result.now c.loop-next.next unseen) (slice_get-get_or c.sights_of-sights.result.now c.loop-next.next unseen (inside c.args.dump.now c.args.chain c.rules_of-rules.result.now c.rules_of-rules.ensures c.loop-next.next c.args.views.now c.sights_of-sights.result.now c.requires.covers c.sights_of-sights.ensures c.loop-next-test.true)) c.index-rules-next.result (rule_at c.args.dump.now c.args.chain c.rules_of-rules.result.now c.rules_of-rules.ensures c.loop-next.next c.index-rules-next.result c.loop-next-test.true c.index-rules-next.is) (sym c.is_passed.ensures ∙ c.if-is_passed.false) c.push.new.self.items c.in_ok-push.ensures.items c.push_places.new.places.items
    (c.in_ok-push_places.ensures ∙ ap (λ (z : Path). c.loop-next.places.items ++ unknown_places z 0 c.index-rules-next.result.lits) c.as_slice.ensures.value) c.in-Accept.is

pub returns-in-Drop-clause-chooses : goal.returns-in-Drop-clause-chooses
returns-in-Drop-clause-chooses g t c = gone_dropping g.P.Primitive.meaning c.args.dump.now c.args.views.now c.args.chain c.args.path.now.items c.args.past_end c.args.places.now.items c.loop-next.next c.loop-next.path.items c.loop-next.places.items c.loop-next.invariant c.sights_of-sights.result.now c.sights_of-sights.ensures (get_or c.sights_of-sights.result.now c.loop-next.next unseen) (slice_get-get_or c.sights_of-sights.result.now c.loop-next.next unseen (inside c.args.dump.now c.args.chain c.rules_of-rules.result.now c.rules_of-rules.ensures c.loop-next.next c.args.views.now c.sights_of-sights.result.now c.requires.covers c.sights_of-sights.ensures c.loop-next-test.true)) c.index-rules-next.result (rule_at c.args.dump.now c.args.chain c.rules_of-rules.result.now c.rules_of-rules.ensures c.loop-next.next c.index-rules-next.result c.loop-next-test.true c.index-rules-next.is) (sym c.is_passed.ensures ∙ c.if-is_passed.false) c.push.new.self.items c.in_ok-push.ensures.items c.push_places.new.places.items
    (c.in_ok-push_places.ensures ∙ ap (λ (z : Path). c.loop-next.places.items ++ unknown_places z 0 c.index-rules-next.result.lits) c.as_slice.ensures.value) c.in-Drop.is

pub returns-in-Back-clause-chooses : goal.returns-in-Back-clause-chooses
returns-in-Back-clause-chooses g t c = gone_back g.P.Primitive.meaning c.args.dump.now c.args.views.now c.args.chain c.args.path.now.items c.args.past_end c.args.places.now.items c.loop-next.next c.loop-next.path.items c.loop-next.places.items c.loop-next.invariant c.sights_of-sights.result.now c.sights_of-sights.ensures (get_or c.sights_of-sights.result.now c.loop-next.next unseen) (slice_get-get_or c.sights_of-sights.result.now c.loop-next.next unseen (inside c.args.dump.now c.args.chain c.rules_of-rules.result.now c.rules_of-rules.ensures c.loop-next.next c.args.views.now c.sights_of-sights.result.now c.requires.covers c.sights_of-sights.ensures c.loop-next-test.true)) c.index-rules-next.result (rule_at c.args.dump.now c.args.chain c.rules_of-rules.result.now c.rules_of-rules.ensures c.loop-next.next c.index-rules-next.result c.loop-next-test.true c.index-rules-next.is) (sym c.is_passed.ensures ∙ c.if-is_passed.false) c.push.new.self.items c.in_ok-push.ensures.items c.push_places.new.places.items
    (c.in_ok-push_places.ensures ∙ ap (λ (z : Path). c.loop-next.places.items ++ unknown_places z 0 c.index-rules-next.result.lits) c.as_slice.ensures.value) c.in-Back.is

pub overflow_sub-depth : goal.overflow_sub-depth
overflow_sub-depth g t c = (shallower c.args.dump.now c.args.depth c.args.chain c.in-Call.callee c.requires.within (calls_of c.args.dump.now c.args.chain c.rules_of-rules.result.now c.rules_of-rules.ensures c.loop-next.next c.index-rules-next.result c.loop-next-test.true c.index-rules-next.is c.in-Call.callee (ap target_of c.in-Call.is))).0

pub choose_in-requires : goal.choose_in-requires
choose_in-requires g t c κs within =
    let calls = calls_of c.args.dump.now c.args.chain c.rules_of-rules.result.now c.rules_of-rules.ensures c.loop-next.next c.index-rules-next.result c.loop-next-test.true c.index-rules-next.is c.in-Call.callee (ap target_of c.in-Call.is) in
    let less = shallower c.args.dump.now c.args.depth c.args.chain c.in-Call.callee c.requires.within calls in
    (omega (arith, less.0, c.decreases), (search rules, (search rules, (further c.args.dump.now c.args.chain c.in-Call.callee c.requires.settled calls, (less.1, (c.requires.room, (c.requires.covers, c.requires.covers.below c.args.chain c.requires.has.0 c.requires.has.1 c.in-Call.callee calls)))))))

pub returns-then-is_some-clause-chooses : goal.returns-then-is_some-clause-chooses
returns-then-is_some-clause-chooses g t c =
    let calls = calls_of c.args.dump.now c.args.chain c.rules_of-rules.result.now c.rules_of-rules.ensures c.loop-next.next c.index-rules-next.result c.loop-next-test.true c.index-rules-next.is c.in-Call.callee (ap target_of c.in-Call.is) in
    let there = found_at c.args.dump.now.chains c.in-Call.callee (chain_inside c.args.dump.now c.in-Call.callee (further c.args.dump.now c.args.chain c.in-Call.callee c.requires.settled calls)) in
    let some = some_of c.in_ok-outcome-in-Call.outcome (sym c.is_some.ensures ∙ c.if-is_some.true) in
    gone_inside g.P.Primitive.meaning c.args.dump.now c.args.views.now c.args.chain c.args.path.now.items c.args.past_end c.args.places.now.items c.loop-next.next c.loop-next.path.items c.loop-next.places.items c.loop-next.invariant c.sights_of-sights.result.now c.sights_of-sights.ensures (get_or c.sights_of-sights.result.now c.loop-next.next unseen) (slice_get-get_or c.sights_of-sights.result.now c.loop-next.next unseen (inside c.args.dump.now c.args.chain c.rules_of-rules.result.now c.rules_of-rules.ensures c.loop-next.next c.args.views.now c.sights_of-sights.result.now c.requires.covers c.sights_of-sights.ensures c.loop-next-test.true)) c.index-rules-next.result (rule_at c.args.dump.now c.args.chain c.rules_of-rules.result.now c.rules_of-rules.ensures c.loop-next.next c.index-rules-next.result c.loop-next-test.true c.index-rules-next.is) (sym c.is_passed.ensures ∙ c.if-is_passed.false) c.push.new.self.items c.in_ok-push.ensures.items c.push_places.new.places.items
    (c.in_ok-push_places.ensures ∙ ap (λ (z : Path). c.loop-next.places.items ++ unknown_places z 0 c.index-rules-next.result.lits) c.as_slice.ensures.value) c.in-Call.callee c.in-Call.is there.0 there.1 c.is_reached-behind.result c.is_reached-behind.ensures
    c.in_ok-outcome-in-Call.outcome c.choose_in.new.places.items c.in_ok-outcome-in-Call.ensures.chooses some.0 some.1

pub unreachable-requires : goal.unreachable-requires
unreachable-requires g t c = ((c.requires.settled).1).known_targets c.args.chain c.index-rules-next.result c.in-Other.field-0 (c.requires.settled).2 (rule_of c.args.dump.now c.args.chain c.rules_of-rules.result.now c.rules_of-rules.ensures c.loop-next.next c.index-rules-next.result c.loop-next-test.true c.index-rules-next.is) c.in-Other.is

kept : (o : Option Verdict) → o ≡ None → {A : Type 0} → IfNone o A → A
kept None e h = h
kept (Some w) e h = cc

pub overflow_sub-depth-in-Goto : goal.overflow_sub-depth-in-Goto
overflow_sub-depth-in-Goto g t c = (shallower c.args.dump.now c.args.depth c.args.chain c.in-Goto.target c.requires.within (calls_of c.args.dump.now c.args.chain c.rules_of-rules.result.now c.rules_of-rules.ensures c.loop-next.next c.index-rules-next.result c.loop-next-test.true c.index-rules-next.is c.in-Goto.target (ap target_of c.in-Goto.is))).0

pub choose_in-requires-in-Goto : goal.choose_in-requires-in-Goto
choose_in-requires-in-Goto g t c κs within =
    let calls = calls_of c.args.dump.now c.args.chain c.rules_of-rules.result.now c.rules_of-rules.ensures c.loop-next.next c.index-rules-next.result c.loop-next-test.true c.index-rules-next.is c.in-Goto.target (ap target_of c.in-Goto.is) in
    let less = shallower c.args.dump.now c.args.depth c.args.chain c.in-Goto.target c.requires.within calls in
    (omega (arith, less.0, c.decreases), (search rules, (search rules, (further c.args.dump.now c.args.chain c.in-Goto.target c.requires.settled calls, (less.1, (c.requires.room, (c.requires.covers, c.requires.covers.below c.args.chain c.requires.has.0 c.requires.has.1 c.in-Goto.target calls)))))))

where_none : (o : Option Verdict) (A B : Type 0) → (A → B) → IfNone o A → IfNone o B
where_none None A B f h = f h
where_none (Some w) A B f h = h

pub returns-in-Goto-clause-path : goal.returns-in-Goto-clause-path
returns-in-Goto-clause-path g t c =
    let before = c.choose_in-in-Goto.new.path in
    where_none c.in_ok-outcome-in-Goto.outcome (before.items ≡ c.push.new.self.items) (c.pop-in-Goto.new.self.items ≡ c.args.path.now.items)
    (λ back. popped c.loop-next.path.items before.items c.pop-in-Goto.new.self.items (record { chain = c.args.chain; rule = c.loop-next.next }) (vec_len before) (back ∙ c.in_ok-push.ensures.items) c.pop-in-Goto.ensures.rest (omega (arith, before.ok.0))
    ∙ c.loop-next.invariant.path_is) c.in_ok-outcome-in-Goto.ensures.path

pub returns-in-Goto-clause-chooses : goal.returns-in-Goto-clause-chooses
returns-in-Goto-clause-chooses g t c =
    let calls = calls_of c.args.dump.now c.args.chain c.rules_of-rules.result.now c.rules_of-rules.ensures c.loop-next.next c.index-rules-next.result c.loop-next-test.true c.index-rules-next.is c.in-Goto.target (ap target_of c.in-Goto.is) in
    let there = found_at c.args.dump.now.chains c.in-Goto.target (chain_inside c.args.dump.now c.in-Goto.target (further c.args.dump.now c.args.chain c.in-Goto.target c.requires.settled calls)) in
    gone_away g.P.Primitive.meaning c.args.dump.now c.args.views.now c.args.chain c.args.path.now.items c.args.past_end c.args.places.now.items c.loop-next.next c.loop-next.path.items c.loop-next.places.items c.loop-next.invariant c.sights_of-sights.result.now c.sights_of-sights.ensures (get_or c.sights_of-sights.result.now c.loop-next.next unseen) (slice_get-get_or c.sights_of-sights.result.now c.loop-next.next unseen (inside c.args.dump.now c.args.chain c.rules_of-rules.result.now c.rules_of-rules.ensures c.loop-next.next c.args.views.now c.sights_of-sights.result.now c.requires.covers c.sights_of-sights.ensures c.loop-next-test.true)) c.index-rules-next.result (rule_at c.args.dump.now c.args.chain c.rules_of-rules.result.now c.rules_of-rules.ensures c.loop-next.next c.index-rules-next.result c.loop-next-test.true c.index-rules-next.is) (sym c.is_passed.ensures ∙ c.if-is_passed.false) c.push.new.self.items c.in_ok-push.ensures.items c.push_places.new.places.items
    (c.in_ok-push_places.ensures ∙ ap (λ (z : Path). c.loop-next.places.items ++ unknown_places z 0 c.index-rules-next.result.lits) c.as_slice.ensures.value) c.in-Goto.target c.in-Goto.is there.0 there.1
    c.in_ok-outcome-in-Goto.outcome c.choose_in-in-Goto.new.places.items c.in_ok-outcome-in-Goto.ensures.chooses

pub loop-next-preserved : goal.loop-next-preserved
loop-next-preserved g t c = elim c.match-rule.branch [
  | in-Pass w ↦ rw w.places-is (going_through g.P.Primitive.meaning c.args.dump.now c.args.views.now c.args.chain c.args.path.now.items c.args.past_end c.args.places.now.items c.loop-next.next c.loop-next.path.items c.loop-next.places.items c.loop-next.invariant c.sights_of-sights.result.now c.sights_of-sights.ensures (get_or c.sights_of-sights.result.now c.loop-next.next unseen) (slice_get-get_or c.sights_of-sights.result.now c.loop-next.next unseen (inside c.args.dump.now c.args.chain c.rules_of-rules.result.now c.rules_of-rules.ensures c.loop-next.next c.args.views.now c.sights_of-sights.result.now c.requires.covers c.sights_of-sights.ensures c.loop-next-test.true)) c.index-rules-next.result (rule_at c.args.dump.now c.args.chain c.rules_of-rules.result.now c.rules_of-rules.ensures c.loop-next.next c.index-rules-next.result c.loop-next-test.true c.index-rules-next.is) (sym c.is_passed.ensures ∙ c.if-is_passed.false) c.push.new.self.items c.in_ok-push.ensures.items c.push_places.new.places.items
      (c.in_ok-push_places.ensures ∙ ap (λ (z : Path). c.loop-next.places.items ++ unknown_places z 0 c.index-rules-next.result.lits) c.as_slice.ensures.value) w.in-Pass.is c.pop-in-loop-next.new.self.items
      (popped c.loop-next.path.items c.match-rule.path.items c.pop-in-loop-next.new.self.items (record { chain = c.args.chain; rule = c.loop-next.next }) (vec_len c.match-rule.path) (ap (λ (z : Vec Step Global). z.items) w.path-is ∙ c.in_ok-push.ensures.items) c.pop-in-loop-next.ensures.rest (omega (arith, c.match-rule.path.ok.0))))
  | in-Call+in_ok-outcome-in-Call+else-is_some w ↦ (
      let calls = calls_of c.args.dump.now c.args.chain c.rules_of-rules.result.now c.rules_of-rules.ensures c.loop-next.next c.index-rules-next.result c.loop-next-test.true c.index-rules-next.is w.in-Call.callee (ap target_of w.in-Call.is) in
      let there = found_at c.args.dump.now.chains w.in-Call.callee (chain_inside c.args.dump.now w.in-Call.callee (further c.args.dump.now c.args.chain w.in-Call.callee c.requires.settled calls)) in
      let none = none_of w.in_ok-outcome-in-Call.outcome (sym w.is_some.ensures ∙ w.if-is_some.false) in
      let back : w.choose_in.new.path.items ≡ c.push.new.self.items = kept w.in_ok-outcome-in-Call.outcome none w.in_ok-outcome-in-Call.ensures.path in
      rw w.places-is (going_behind g.P.Primitive.meaning c.args.dump.now c.args.views.now c.args.chain c.args.path.now.items c.args.past_end c.args.places.now.items c.loop-next.next c.loop-next.path.items c.loop-next.places.items c.loop-next.invariant c.sights_of-sights.result.now c.sights_of-sights.ensures (get_or c.sights_of-sights.result.now c.loop-next.next unseen) (slice_get-get_or c.sights_of-sights.result.now c.loop-next.next unseen (inside c.args.dump.now c.args.chain c.rules_of-rules.result.now c.rules_of-rules.ensures c.loop-next.next c.args.views.now c.sights_of-sights.result.now c.requires.covers c.sights_of-sights.ensures c.loop-next-test.true)) c.index-rules-next.result (rule_at c.args.dump.now c.args.chain c.rules_of-rules.result.now c.rules_of-rules.ensures c.loop-next.next c.index-rules-next.result c.loop-next-test.true c.index-rules-next.is) (sym c.is_passed.ensures ∙ c.if-is_passed.false) c.push.new.self.items c.in_ok-push.ensures.items c.push_places.new.places.items
      (c.in_ok-push_places.ensures ∙ ap (λ (z : Path). c.loop-next.places.items ++ unknown_places z 0 c.index-rules-next.result.lits) c.as_slice.ensures.value) w.in-Call.callee w.in-Call.is there.0 there.1 w.is_reached-behind.result w.is_reached-behind.ensures
      w.in_ok-outcome-in-Call.outcome w.choose_in.new.places.items w.in_ok-outcome-in-Call.ensures.chooses none c.pop-in-loop-next.new.self.items
      (popped c.loop-next.path.items c.match-rule.path.items c.pop-in-loop-next.new.self.items (record { chain = c.args.chain; rule = c.loop-next.next }) (vec_len c.match-rule.path) (ap (λ (z : Vec Step Global). z.items) w.path-is ∙ back ∙ c.in_ok-push.ensures.items) c.pop-in-loop-next.ensures.rest (omega (arith, c.match-rule.path.ok.0)))))
]

pub returns-clause-chooses : goal.returns-clause-chooses
returns-clause-chooses g t c = gone_past g.P.Primitive.meaning c.args.dump.now c.args.views.now c.args.chain c.args.path.now.items c.args.past_end c.args.places.now.items c.loop-next.next c.loop-next.path.items c.loop-next.places.items c.loop-next.invariant (past_at c.args.dump.now c.args.chain c.rules_of-rules.result.now c.rules_of-rules.ensures c.loop-next.next c.loop-next-test.false)
