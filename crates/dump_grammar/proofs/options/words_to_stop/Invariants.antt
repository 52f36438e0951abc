use Rattle.std.proofs.Common.{◌≡◌, ◌≤◌, ◌-◌, false, take, length}
use Rattle.std.specs.List.{AllByRecursion}
use Rattle.dump_grammar.specs.Groups.{stops}
use Rattle.dump_grammar.specs.Lines.{words_of}
use Rattle.dump_grammar.proofs.options.words_to_stop.Given as goal

abbrev pub invariant-loop-n : goal.invariant-loop-n
invariant-loop-n l = (l.n ≤ length l.words) × AllByRecursion (λ word. stops word ≡ false) (words_of (take l.n l.words))

abbrev pub decreases-loop-n : goal.decreases-loop-n
decreases-loop-n l = length l.words - l.n
