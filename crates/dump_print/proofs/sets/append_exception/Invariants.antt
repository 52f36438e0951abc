use Rattle.std.proofs.Common.{◌≡◌, ◌++◌, take}
use Rattle.std.specs.List.{flat_map}
use Rattle.dump_print.specs.Names.{name_word}
use Rattle.dump_print.specs.Parts.{negated_words}
use Rattle.dump_print.specs.Spelling.{spaced}
use Rattle.dump_print.proofs.sets.append_exception.Given as goal

abbrev pub invariant-loop-pattern : goal.invariant-loop-pattern
invariant-loop-pattern l = l.out.items ≡ l.fn.out.items ++ spaced (flat_map (λ p. negated_words l.option (name_word p)) (take l.pattern-index l.pattern-items))
