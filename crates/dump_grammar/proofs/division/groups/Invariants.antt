use Rattle.std.proofs.Common.{length}
use Rattle.dump_grammar.specs.GroupWords.{module_of}
use Rattle.dump_grammar.specs.Lines.{words_of}
use Rattle.dump_grammar.proofs.DivisionLemmas.{Completes, Remains}
use Rattle.dump_grammar.proofs.division.groups.Given as goal

abbrev pub invariant-loop-current : goal.invariant-loop-current
invariant-loop-current l = Completes (words_of l.words) (module_of l.current) (words_of l.rest) l.found.items × Remains (words_of l.words) (module_of l.current) (words_of l.rest)

abbrev pub decreases-loop-current : goal.decreases-loop-current
decreases-loop-current l = length l.rest
