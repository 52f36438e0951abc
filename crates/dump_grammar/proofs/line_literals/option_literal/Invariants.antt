use Rattle.dump_grammar.proofs.line_literals.option_literal.Given as goal

abbrev pub ghost-known_test : goal.ghost-known_test
ghost-known_test g a = g.groups
