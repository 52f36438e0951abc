use Rattle.std.proofs.Common.{◌≡◌, ◌++◌, ◌∷◌, take}
use Rattle.dump_print.specs.Ports.{port_list}
use Rattle.dump_print.proofs.ports.append_ports.Given as goal

abbrev pub invariant-loop-range : goal.invariant-loop-range
invariant-loop-range l = l.out.items ≡ l.fn.out.items ++ port_list (l.fn.first ∷ take l.range-index l.rest)
