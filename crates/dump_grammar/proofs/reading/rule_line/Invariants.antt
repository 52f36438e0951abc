use Rattle.dump_grammar.specs.GroupWords.{groups_of}
use Rattle.dump_grammar.proofs.reading.rule_line.Given as goal

abbrev pub ghost-literals : goal.ghost-literals
ghost-literals g a = groups_of a.groups.now

abbrev pub ghost-rule_target : goal.ghost-rule_target
ghost-rule_target g a = a.names.now
