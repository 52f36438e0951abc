use Rattle.std.proofs.Common.{arith, subst}
use Rattle.primitives.specs.Ports.{HasPorts}
use Rattle.primitives.proofs.WordLemmas.{proto_once}
use Rattle.dump_grammar.proofs.protocols.protocol_with_ports.Goals as goal

pub returns-in_default-clause-none : goal.returns-in_default-clause-none
returns-in_default-clause-none c n spells ports = c.in_default.ensures.none n spells

pub returns-then-not-has_ports-clause-none : goal.returns-then-not-has_ports-clause-none
returns-then-not-has_ports-clause-none c n spells ports =
    let is = c.has_ports.ensures.1 (subst HasPorts (proto_once c.args.name.now n c.in-Some.number spells c.in-Some.ensures.some) ports) in
    absurd (grind (arith, is, c.if-not-has_ports.true))
