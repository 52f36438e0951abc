use Rattle.dump_grammar.proofs.targets.jump.Given as goal

abbrev pub ghost-other_action : goal.ghost-other_action
ghost-other_action g a = g.names
