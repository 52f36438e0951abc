use Rattle.std.proofs.Common.{◌≡◌, drop}
use Rattle.dump_grammar.specs.GroupWords.{groups_of}
use Rattle.dump_grammar.specs.Groups.{all_differ, base_of}
use Rattle.dump_grammar.proofs.line_literals.options_differ.Given as goal

abbrev pub invariant-loop-i : goal.invariant-loop-i
invariant-loop-i l = all_differ (base_of (groups_of (drop l.i l.groups))) ≡ all_differ (base_of (groups_of l.groups))
