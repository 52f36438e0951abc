use Rattle.std.proofs.Common.{length}
use Rattle.dump_grammar.proofs.PortListLemmas.{PortsSoFar}
use Rattle.dump_grammar.proofs.ports.port_list.Given as goal

abbrev pub invariant-loop-part : goal.invariant-loop-part
invariant-loop-part l = PortsSoFar l.text l.rest l.found.items l.count

abbrev pub decreases-loop-part : goal.decreases-loop-part
decreases-loop-part l = length l.rest
