use Rattle.dump_grammar.proofs.line_literals.group_literal.Given as goal

abbrev pub ghost-option_literal : goal.ghost-option_literal
ghost-option_literal g a = g.groups
