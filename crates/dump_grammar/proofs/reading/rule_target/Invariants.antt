use Rattle.dump_grammar.proofs.reading.rule_target.Given as goal

abbrev pub ghost-jump : goal.ghost-jump
ghost-jump g a = g.chains
