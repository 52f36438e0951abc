use Rattle.std.proofs.Common.{ℕ, ◌<◌, ◌≤◌, get_or}
use Rattle.fw_rule.specs.Calls.{Calls}
use Rattle.chain_graph.specs.Marks.{IsMarked}
use Rattle.chain_graph.proofs.loops.never_rises.Given as goal

abbrev pub invariant-loop-next : goal.invariant-loop-next
invariant-loop-next g l = (a b : ℕ) → a < l.next → IsMarked l.marks a → Calls l.dump a b → get_or l.numbers b 0 ≤ get_or l.numbers a 0
