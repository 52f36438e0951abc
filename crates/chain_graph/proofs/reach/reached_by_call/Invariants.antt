use Rattle.std.proofs.Common.{◌+◌, not, vec_len}
use Rattle.std.specs.List.{count_by}
use Rattle.chain_graph.proofs.Marking.{Flood}
use Rattle.chain_graph.proofs.reach.reached_by_call.Given as goal

abbrev pub invariant-loop-next : goal.invariant-loop-next
invariant-loop-next g l = Flood l.dump l.chain l.marks.items l.todo.items

abbrev pub decreases-loop-next : goal.decreases-loop-next
decreases-loop-next g l = count_by not l.marks.items + vec_len l.todo
