use Rattle.dump_grammar.proofs.PortListLemmas.{has_more, joined_set, set_whole}
use Rattle.dump_grammar.proofs.ports.port_set.Goals as goal

pub loop-range-preserved : goal.loop-range-preserved
loop-range-preserved c = record {
  numbers = has_more c.args.ranges.now c.loop-range.range-index (record { lo = 0; hi = 0 }) c.loop-range.ports c.in_ok-one.one c.in_ok-ports.ports c.loop-range-test.true c.in_ok-one.ensures
      c.loop-range.invariant.numbers c.in_ok-ports.ensures.numbers;
  set = joined_set c.loop-range.ports c.in_ok-one.one c.in_ok-ports.ports c.in_ok-ports.ensures.spelled;
}

pub returns : goal.returns
returns c = set_whole c.loop-range.ports c.args.ranges.now c.loop-range.range-index c.loop-range-test.false c.loop-range.invariant.numbers c.loop-range.invariant.set
