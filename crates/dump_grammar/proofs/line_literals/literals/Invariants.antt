use Rattle.std.proofs.Common.{drop}
use Rattle.dump_grammar.specs.GroupWords.{groups_of}
use Rattle.dump_grammar.proofs.LineLemmas.{LiteralsSoFar}
use Rattle.dump_grammar.proofs.line_literals.literals.Given as goal

abbrev pub ghost-group_literal : goal.ghost-group_literal
ghost-group_literal g a = g.all

abbrev pub invariant-loop-i : goal.invariant-loop-i
invariant-loop-i g l = LiteralsSoFar g.F.Family.Reads g.all g.all (groups_of (drop l.i l.groups)) l.found.items
