use Rattle.std.proofs.Common.{refl}
use Rattle.dump_grammar.proofs.PortListLemmas.{last_many, last_refused, ports_many, ports_passed, ports_refused, ports_whole}
use Rattle.dump_grammar.proofs.ports.port_list.Goals as goal

pub returns-in_default-port_range-clause-none : goal.returns-in_default-port_range-clause-none
returns-in_default-port_range-clause-none c =
    ports_refused c.args.text.now c.loop-part.rest.now c.in-Some.part.now c.in-Some.after.now c.loop-part.found.items c.loop-part.count c.loop-part.invariant c.in-Some.ensures.some
    c.in_default-port_range.ensures.none

pub returns-then-count-gt-MOST_PORTS-clause-none : goal.returns-then-count-gt-MOST_PORTS-clause-none
returns-then-count-gt-MOST_PORTS-clause-none c =
    ports_many c.args.text.now c.loop-part.rest.now c.in-Some.part.now c.in-Some.after.now c.loop-part.found.items c.loop-part.count c.loop-part.invariant c.in-Some.ensures.some
    c.part_weight-count.result _ c.part_weight-count.ensures.value refl c.if-count-gt-MOST_PORTS.true

pub loop-part-preserved : goal.loop-part-preserved
loop-part-preserved c =
    ports_passed c.args.text.now c.loop-part.rest.now c.in-Some.part.now c.in-Some.after.now c.loop-part.found.items c.loop-part.count c.loop-part.invariant c.in-Some.ensures.some
    c.in-Some-port_range.range c.push.new.self.items c.part_weight-count.result _ c.in-Some-port_range.ensures.some c.in_ok-push.ensures.items c.part_weight-count.ensures.value refl
    c.if-count-gt-MOST_PORTS.false

pub returns-in_default-port_range-2-clause-none : goal.returns-in_default-port_range-2-clause-none
returns-in_default-port_range-2-clause-none c =
    last_refused c.args.text.now c.loop-part.rest.now c.loop-part.found.items c.loop-part.count c.loop-part.invariant c.in_default.ensures.none c.in_default-port_range-2.ensures.none

pub returns-then-count-part_weight-gt-MOST_PORTS-clause-none : goal.returns-then-count-part_weight-gt-MOST_PORTS-clause-none
returns-then-count-part_weight-gt-MOST_PORTS-clause-none c =
    last_many c.args.text.now c.loop-part.rest.now c.loop-part.found.items c.loop-part.count c.loop-part.invariant c.in_default.ensures.none
    c.part_weight.result c.part_weight.ensures.value c.if-count-part_weight-gt-MOST_PORTS.true

pub returns-clause-some : goal.returns-clause-some
returns-clause-some c =
    ports_whole c.args.text.now c.loop-part.rest.now c.loop-part.found.items c.loop-part.count c.loop-part.invariant c.in_default.ensures.none
    c.in-Some-port_range-2.last c.push-2.new.self.items c.part_weight.result c.in-Some-port_range-2.ensures.some c.in_ok-push-2.ensures.items c.part_weight.ensures.value
    c.if-count-part_weight-gt-MOST_PORTS.false
