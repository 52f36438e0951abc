use Rattle.std.proofs.Common.{sym}
use Rattle.chain_graph.proofs.Marking.{inside, no_call, one_call}
use Rattle.chain_graph.proofs.reach.mark_callees.Goals as goal
use Rattle.chain_graph.proofs.reach.mark_callees.Goals.{in-Some+in_ok-mark, in_default}

pub mark-requires : goal.mark-requires
mark-requires g c = inside c.args.rules.now c.loop-rule.rule-index c.rule-item.result c.loop-rule-test.true c.rule-item.is c.in-Some.chain c.args.marks.now c.loop-rule.marks (sym c.in-Some.ensures) c.requires c.loop-rule.invariant.long

pub loop-rule-preserved : goal.loop-rule-preserved
loop-rule-preserved g c = elim c.match-target.branch [
  | in-Some+in_ok-mark w ↦ rw (w.marks-is, w.todo-is)
      (one_call c.args.rules.now c.loop-rule.rule-index c.rule-item.result c.loop-rule-test.true c.rule-item.is c.args.marks.now c.args.todo.now.items c.loop-rule.marks c.loop-rule.todo.items
      w.mark.new.marks w.mark.new.todo.items w.in-Some.chain (sym w.in-Some.ensures) c.loop-rule.invariant w.in_ok-mark.ensures)
  | in_default w ↦ rw (w.marks-is, w.todo-is)
      (no_call c.args.rules.now c.loop-rule.rule-index c.rule-item.result c.loop-rule-test.true c.rule-item.is c.args.marks.now c.args.todo.now.items c.loop-rule.marks c.loop-rule.todo.items
      (sym w.in_default.ensures) c.loop-rule.invariant)
]
