use Rattle.dump_grammar.proofs.ProtocolOnce.{line_none_all, line_none_begin, line_none_more}
use Rattle.dump_grammar.proofs.protocols.line_protocol.Goals as goal

pub loop-group-init : goal.loop-group-init
loop-group-init c = line_none_begin c.args.groups.now

pub loop-group-preserved : goal.loop-group-preserved
loop-group-preserved c =
    line_none_more c.args.groups.now c.loop-group.group-index c.group-item.result c.loop-group-test.true c.group-item.is c.loop-group.invariant c.in_default.ensures.none

pub returns : goal.returns
returns c = line_none_all c.args.groups.now c.loop-group.group-index c.loop-group-test.false c.loop-group.invariant
