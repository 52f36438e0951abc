use Rattle.std.proofs.Common.{rules}
use Rattle.opt_table.specs.declared.kind.Kind.{Kind}
use Rattle.dump_grammar.specs.Lines.{texts, words_of}
use Rattle.dump_grammar.proofs.GroupLemmas.{if_none, if_some, ok_none, ok_some}
use Rattle.dump_grammar.proofs.SayingLemmas.{line_of, line_ports, line_there, of_said, said_of}
use Rattle.dump_grammar.proofs.saying.said.Goals as goal

pub returns-in-Port-clause-some : goal.returns-in-Port-clause-some
returns-in-Port-clause-some g c =
    ok_some c.port.result _ _ c.port.ensures.some (λ e is. said_of {W = g.row.W} g.F.Family.Reads g.groups c.args.kind (Kind.Port c.in-Port.transport c.in-Port.side) (texts (words_of c.args.arguments.now)) c.args.negated e c.in-Port.is is)

pub returns-in-Port-clause-none : goal.returns-in-Port-clause-none
returns-in-Port-clause-none g c =
    ok_none c.port.result _ _ c.port.ensures.none (λ none e says.
    let w = of_said {W = g.row.W} g.F.Family.Reads g.groups c.args.kind (Kind.Port c.in-Port.transport c.in-Port.side) (texts (words_of c.args.arguments.now)) c.args.negated e c.in-Port.is says in
    none w.0 w.1 w.2.0 w.2.1)

pub returns-in-Flags-clause-some : goal.returns-in-Flags-clause-some
returns-in-Flags-clause-some g c =
    if_some c.flags.result _ _ c.flags.ensures.some (λ e is. said_of {W = g.row.W} g.F.Family.Reads g.groups c.args.kind Kind.Flags (texts (words_of c.args.arguments.now)) c.args.negated e c.in-Flags.is is)

pub returns-in-Flags-clause-none : goal.returns-in-Flags-clause-none
returns-in-Flags-clause-none g c =
    if_none c.flags.result _ _ c.flags.ensures.none (λ none e says.
    let w = of_said {W = g.row.W} g.F.Family.Reads g.groups c.args.kind Kind.Flags (texts (words_of c.args.arguments.now)) c.args.negated e c.in-Flags.is says in
    none w.0 w.1 w.2 w.3 w.4.0 w.4.1 w.4.2)

pub returns-in-Syn-clause-some : goal.returns-in-Syn-clause-some
returns-in-Syn-clause-some g c =
    if_some c.syn.result _ _ c.syn.ensures.some (λ e is. said_of {W = g.row.W} g.F.Family.Reads g.groups c.args.kind Kind.Syn (texts (words_of c.args.arguments.now)) c.args.negated e c.in-Syn.is is)

pub returns-in-Syn-clause-none : goal.returns-in-Syn-clause-none
returns-in-Syn-clause-none g c =
    if_none c.syn.result _ _ c.syn.ensures.none (λ none e says.
    let w = of_said {W = g.row.W} g.F.Family.Reads g.groups c.args.kind Kind.Syn (texts (words_of c.args.arguments.now)) c.args.negated e c.in-Syn.is says in
    none w.0)

pub returns-in-Ports-clause-some : goal.returns-in-Ports-clause-some
returns-in-Ports-clause-some g c =
    ok_some c.ports.result _ _ c.ports.ensures.some (λ e is. said_of {W = g.row.W} g.F.Family.Reads g.groups c.args.kind (Kind.Ports c.in-Ports.side) (texts (words_of c.args.arguments.now)) c.args.negated e c.in-Ports.is (is.0, is.1, is.2, (is.3.0, line_of g.groups c.args.protocol is.1 c.requires.1.1.1.1 is.3.1, is.3.2, is.3.3)))

pub returns-in-Ports-clause-none : goal.returns-in-Ports-clause-none
returns-in-Ports-clause-none g c =
    ok_none c.ports.result _ _ c.ports.ensures.none (λ none e says.
    let w = of_said {W = g.row.W} g.F.Family.Reads g.groups c.args.kind (Kind.Ports c.in-Ports.side) (texts (words_of c.args.arguments.now)) c.args.negated e c.in-Ports.is says in
    let there = line_there g.groups c.args.protocol w.1 c.requires.1.1.1.1 w.3.1 in none w.0 there.0 w.2 w.3.0 there.1 w.3.2)

pub returns-in-EitherPorts-clause-some : goal.returns-in-EitherPorts-clause-some
returns-in-EitherPorts-clause-some g c =
    ok_some c.either_ports.result _ _ c.either_ports.ensures.some (λ e is. said_of {W = g.row.W} g.F.Family.Reads g.groups c.args.kind Kind.EitherPorts (texts (words_of c.args.arguments.now)) c.args.negated e c.in-EitherPorts.is (is.0, is.1, is.2, (is.3.0, line_of g.groups c.args.protocol is.1 c.requires.1.1.1.1 is.3.1, is.3.2, is.3.3)))

pub returns-in-EitherPorts-clause-none : goal.returns-in-EitherPorts-clause-none
returns-in-EitherPorts-clause-none g c =
    ok_none c.either_ports.result _ _ c.either_ports.ensures.none (λ none e says.
    let w = of_said {W = g.row.W} g.F.Family.Reads g.groups c.args.kind Kind.EitherPorts (texts (words_of c.args.arguments.now)) c.args.negated e c.in-EitherPorts.is says in
    let there = line_there g.groups c.args.protocol w.1 c.requires.1.1.1.1 w.3.1 in none w.0 there.0 w.2 w.3.0 there.1 w.3.2)

pub returns-in-Addresses-clause-some : goal.returns-in-Addresses-clause-some
returns-in-Addresses-clause-some g c =
    ok_some c.address_range.result _ _ c.address_range.ensures.some (λ e is. said_of {W = g.row.W} g.F.Family.Reads g.groups c.args.kind (Kind.Addresses c.in-Addresses.side) (texts (words_of c.args.arguments.now)) c.args.negated e c.in-Addresses.is is)

pub returns-in-Addresses-clause-none : goal.returns-in-Addresses-clause-none
returns-in-Addresses-clause-none g c =
    ok_none c.address_range.result _ _ c.address_range.ensures.none (λ none e says.
    let w = of_said {W = g.row.W} g.F.Family.Reads g.groups c.args.kind (Kind.Addresses c.in-Addresses.side) (texts (words_of c.args.arguments.now)) c.args.negated e c.in-Addresses.is says in
    none w.0 w.1 w.2.0 w.2.1)

pub returns-in-States-clause-some : goal.returns-in-States-clause-some
returns-in-States-clause-some g c =
    if_some c.states.result _ _ c.states.ensures.some
    (λ e is. said_of {W = g.row.W} g.F.Family.Reads g.groups c.args.kind Kind.States
    (texts (words_of c.args.arguments.now)) c.args.negated e c.in-States.is is)

pub returns-in-States-clause-none : goal.returns-in-States-clause-none
returns-in-States-clause-none g c =
    if_none c.states.result _ _ c.states.ensures.none (λ none e says.
    let w = of_said {W = g.row.W} g.F.Family.Reads g.groups c.args.kind Kind.States
    (texts (words_of c.args.arguments.now)) c.args.negated e c.in-States.is says in
    none w.0 w.1 w.2.0 w.2.1)

pub returns-in-Comment-clause-some : goal.returns-in-Comment-clause-some
returns-in-Comment-clause-some g c =
    if_some c.comment.result _ _ c.comment.ensures.some (λ e is. said_of {W = g.row.W} g.F.Family.Reads g.groups c.args.kind Kind.Comment (texts (words_of c.args.arguments.now)) c.args.negated e c.in-Comment.is is)

pub returns-in-Comment-clause-none : goal.returns-in-Comment-clause-none
returns-in-Comment-clause-none g c =
    if_none c.comment.result _ _ c.comment.ensures.none (λ none e says.
    let w = of_said {W = g.row.W} g.F.Family.Reads g.groups c.args.kind Kind.Comment (texts (words_of c.args.arguments.now)) c.args.negated e c.in-Comment.is says in
    none w.0 w.1.0 w.1.1)

pub returns-in-IcmpType-clause-some : goal.returns-in-IcmpType-clause-some
returns-in-IcmpType-clause-some g c =
    if_some c.icmp_type.result _ _ c.icmp_type.ensures.some
    (λ e is. said_of {W = g.row.W} g.F.Family.Reads g.groups c.args.kind (Kind.IcmpType c.in-IcmpType.messages)
    (texts (words_of c.args.arguments.now)) c.args.negated e c.in-IcmpType.is is)

pub returns-in-IcmpType-clause-none : goal.returns-in-IcmpType-clause-none
returns-in-IcmpType-clause-none g c =
    if_none c.icmp_type.result _ _ c.icmp_type.ensures.none (λ none e says.
    let w = of_said {W = g.row.W} g.F.Family.Reads g.groups c.args.kind (Kind.IcmpType c.in-IcmpType.messages)
    (texts (words_of c.args.arguments.now)) c.args.negated e c.in-IcmpType.is says in
    none w.0 w.1 w.2.0 w.2.1 w.2.2)

pub ports-requires : goal.ports-requires
ports-requires g c = (search rules, line_ports g.groups c.args.protocol c.requires.1.1.1.1)

pub either_ports-requires : goal.either_ports-requires
either_ports-requires g c = (search rules, line_ports g.groups c.args.protocol c.requires.1.1.1.1)
