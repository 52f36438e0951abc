use Rattle.std.proofs.Common.{◌<◌, ◌^◌, arith, rules, sym, ◌∙◌}
use Rattle.fw_rule.proofs.Turns as turn
use Rattle.reckoner.proofs.places.+push_chain.Goals as goal

pub bounds-as_slice-chain : goal.bounds-as_slice-chain
bounds-as_slice-chain g t c = rw c.as_slice.ensures (turn.chain_inside c.args.dump.now c.args.chain c.requires.settled)

pub overflow_cast-rule_number : goal.overflow_cast-rule_number
overflow_cast-rule_number g t c = let h : c.loop-next.next < 2 ^ 32 = turn.next_fits c.args.dump.now c.args.chain c.loop-next.next c.as_slice.result.now c.index-as_slice-chain.result c.as_slice-rules.result.now c.as_slice.ensures c.requires.settled c.index-as_slice-chain.is c.as_slice-rules.ensures c.index-rules-next.result c.loop-next-test.true c.index-rules-next.is c.requires.room in search rules

pub push_rule-requires : goal.push_rule-requires
push_rule-requires g t c = turn.room_of c.args.dump.now c.args.chain c.loop-next.next c.as_slice.result.now c.index-as_slice-chain.result c.as_slice-rules.result.now c.as_slice.ensures c.requires.settled c.index-as_slice-chain.is c.as_slice-rules.ensures c.index-rules-next.result c.loop-next-test.true c.index-rules-next.is c.requires.room

pub overflow_sub-depth : goal.overflow_sub-depth
overflow_sub-depth g t c =
    (turn.shallower c.args.dump.now c.args.depth c.args.chain c.in-Some.target c.requires.within (turn.calls_of c.args.dump.now c.args.chain c.loop-next.next c.as_slice.result.now c.index-as_slice-chain.result c.as_slice-rules.result.now c.as_slice.ensures c.requires.settled c.index-as_slice-chain.is c.as_slice-rules.ensures c.index-rules-next.result c.loop-next-test.true c.index-rules-next.is c.in-Some.target (sym c.target.ensures ∙ c.in-Some.is))).0

pub push_chain-requires : goal.push_chain-requires
push_chain-requires g t c κs within =
    let calls = turn.calls_of c.args.dump.now c.args.chain c.loop-next.next c.as_slice.result.now c.index-as_slice-chain.result c.as_slice-rules.result.now c.as_slice.ensures c.requires.settled c.index-as_slice-chain.is c.as_slice-rules.ensures c.index-rules-next.result c.loop-next-test.true c.index-rules-next.is c.in-Some.target (sym c.target.ensures ∙ c.in-Some.is) in
    let less = turn.shallower c.args.dump.now c.args.depth c.args.chain c.in-Some.target c.requires.within calls in
    (omega (arith, less.0, c.decreases), (search rules, (search rules, (turn.further c.args.dump.now c.args.chain c.in-Some.target c.requires.settled calls, (less.1, c.requires.room)))))
