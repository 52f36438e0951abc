use Rattle.std.proofs.Common.{◌≡◌, ◌++◌, map, length}
use Rattle.dump_print.specs.Ports.{Listed, chunks, ports_of}
use Rattle.dump_print.proofs.ports.lists.Given as goal

abbrev pub invariant-loop-rest : goal.invariant-loop-rest
invariant-loop-rest l = map ports_of l.all.items ++ map Listed (chunks l.rest) ≡ map Listed (chunks l.ranges)

abbrev pub decreases-loop-rest : goal.decreases-loop-rest
decreases-loop-rest l = length l.rest
