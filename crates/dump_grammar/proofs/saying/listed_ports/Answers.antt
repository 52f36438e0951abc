use Rattle.std.proofs.Common.{List, All, subst, sym}
use Rattle.interval_set.specs.declared.set.Range.{Range}
use Rattle.dump_grammar.specs.Arguments.{IsPortList}
use Rattle.dump_grammar.proofs.PortListLemmas.{IsOrdered, list_ordered}
use Rattle.dump_grammar.proofs.saying.listed_ports.Goals as goal

pub port_set-requires : goal.port_set-requires
port_set-requires c =
    let list : IsPortList c.in-Some-only.text.now c.in-Some-2.ranges.items = rw c.in-Some-2.is at c.in_ok-ranges.ensures.some in
    subst (λ (rs : List Range). All IsOrdered rs) (sym c.as_slice.ensures.value) (list_ordered c.in-Some-only.text.now c.in-Some-2.ranges.items list)
