use Rattle.std.proofs.Common.{◌≡◌, drop}
use Rattle.dump_grammar.specs.GroupWords.{groups_of}
use Rattle.dump_grammar.specs.Literals.{option_follows}
use Rattle.dump_grammar.proofs.line_literals.option_follows.Given as goal

abbrev pub invariant-loop-group : goal.invariant-loop-group
invariant-loop-group l = option_follows (groups_of (drop l.group-index l.groups)) ≡ option_follows (groups_of l.groups)
