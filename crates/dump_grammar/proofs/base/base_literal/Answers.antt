use Rattle.std.proofs.Common.{rules}
use Rattle.dump_grammar.specs.Lines.{texts, words_of}
use Rattle.dump_grammar.proofs.BaseLemmas.{no_destination, no_input, no_output, no_protocol, no_source}
use Rattle.dump_grammar.proofs.GroupLemmas.{ok_none}
use Rattle.dump_grammar.proofs.base.base_literal.Goals as goal

pub returns-then-is_same-2-clause-none : goal.returns-then-is_same-2-clause-none
returns-then-is_same-2-clause-none g c =
    ok_none c.net_literal.result _ _ c.net_literal.ensures.none
    (no_source {W = g.row.W} g.F.Family.Reads c.args.negated c.args.option.now (texts (words_of c.args.arguments.now)) c.in-Some.text.now (c.is_same-2.ensures.0 (search rules)) c.in-Some.ensures.some)

pub returns-then-is_same-3-clause-none : goal.returns-then-is_same-3-clause-none
returns-then-is_same-3-clause-none g c =
    ok_none c.net_literal-then-is_same-3.result _ _ c.net_literal-then-is_same-3.ensures.none
    (no_destination {W = g.row.W} g.F.Family.Reads c.args.negated c.args.option.now (texts (words_of c.args.arguments.now)) c.in-Some.text.now (c.is_same-3.ensures.0 (search rules)) c.in-Some.ensures.some)

pub returns-then-is_same-4-clause-none : goal.returns-then-is_same-4-clause-none
returns-then-is_same-4-clause-none g c =
    ok_none c.name_literal.result _ _ c.name_literal.ensures.none
    (no_input {W = g.row.W} g.F.Family.Reads c.args.negated c.args.option.now (texts (words_of c.args.arguments.now)) c.in-Some.text.now (c.is_same-4.ensures.0 (search rules)) c.in-Some.ensures.some)

pub returns-then-is_same-5-clause-none : goal.returns-then-is_same-5-clause-none
returns-then-is_same-5-clause-none g c =
    ok_none c.name_literal-then-is_same-5.result _ _ c.name_literal-then-is_same-5.ensures.none
    (no_output {W = g.row.W} g.F.Family.Reads c.args.negated c.args.option.now (texts (words_of c.args.arguments.now)) c.in-Some.text.now (c.is_same-5.ensures.0 (search rules)) c.in-Some.ensures.some)

pub returns-then-is_same-6-clause-none : goal.returns-then-is_same-6-clause-none
returns-then-is_same-6-clause-none g c =
    ok_none c.protocol_literal.result _ _ c.protocol_literal.ensures.none
    (no_protocol {W = g.row.W} g.F.Family.Reads c.args.negated c.args.option.now (texts (words_of c.args.arguments.now)) c.in-Some.text.now (c.is_same-6.ensures.0 (search rules)) c.in-Some.ensures.some)
