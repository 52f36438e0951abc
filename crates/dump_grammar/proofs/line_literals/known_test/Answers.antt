use Rattle.std.proofs.Common.{ap}
use Rattle.dump_grammar.specs.GroupWords.{module_of}
use Rattle.dump_grammar.specs.Lines.{texts, words_of}
use Rattle.dump_grammar.proofs.GroupLemmas.{ok_none, ok_some}
use Rattle.dump_grammar.proofs.SayingLemmas.{known_none, known_some, unknown_none}
use Rattle.dump_grammar.proofs.line_literals.known_test.Goals as goal

pub returns-in_default-known_kind-clause-none : goal.returns-in_default-known_kind-clause-none
returns-in_default-known_kind-clause-none g c =
    unknown_none {W = g.row.W} g.F.Family.Reads g.groups (module_of c.args.current) c.in-Some.name.now c.args.option.now (texts (words_of c.args.arguments.now)) c.args.negated
    (ap module_of c.in-Some.is) c.in_default-known_kind.ensures

pub returns-clause-some : goal.returns-clause-some
returns-clause-some g c =
    ok_some c.said.result _ _ c.said.ensures.some (λ e says.
    known_some {W = g.row.W} g.F.Family.Reads g.groups (module_of c.args.current) c.in-Some-known_kind.kind c.in-Some.name.now c.args.option.now (texts (words_of c.args.arguments.now)) c.args.negated e
    (ap module_of c.in-Some.is) c.in-Some-known_kind.ensures says)

pub returns-clause-none : goal.returns-clause-none
returns-clause-none g c =
    ok_none c.said.result _ _ c.said.ensures.none
    (known_none {W = g.row.W} g.F.Family.Reads g.groups (module_of c.args.current) c.in-Some-known_kind.kind c.in-Some.name.now c.args.option.now (texts (words_of c.args.arguments.now)) c.args.negated
    (ap module_of c.in-Some.is) c.in-Some-known_kind.ensures)
