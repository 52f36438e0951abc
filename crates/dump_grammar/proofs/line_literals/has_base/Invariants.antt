use Rattle.std.proofs.Common.{◌≡◌, drop}
use Rattle.dump_grammar.specs.ChainLines.{is_among}
use Rattle.dump_grammar.specs.GroupWords.{groups_of}
use Rattle.dump_grammar.specs.Groups.{base_of}
use Rattle.dump_grammar.proofs.line_literals.has_base.Given as goal

abbrev pub invariant-loop-group : goal.invariant-loop-group
invariant-loop-group l = is_among (base_of (groups_of (drop l.group-index l.groups))) l.option ≡ is_among (base_of (groups_of l.groups)) l.option
