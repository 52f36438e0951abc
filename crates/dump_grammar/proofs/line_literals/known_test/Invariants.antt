use Rattle.dump_grammar.proofs.line_literals.known_test.Given as goal

abbrev pub ghost-said : goal.ghost-said
ghost-said g a = g.groups
