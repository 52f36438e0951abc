use Rattle.std.proofs.Common.{◌≡◌, ◌++◌, ◌∷◌, [], drop}
use Rattle.std.specs.List.{flat_map}
use Rattle.dump_print.specs.Names.{pattern_spelled}
use Rattle.fffuu_run.specs.Spaces.{unnamed_text}
use Rattle.fffuu_run.proofs.spaces.append_unnamed.Given as goal

abbrev pub invariant-loop-pattern : goal.invariant-loop-pattern
invariant-loop-pattern l =
    l.out.items ++ flat_map (λ by. pattern_spelled by ++ 10 ∷ []) (drop l.pattern-index l.patterns) ≡ l.fn.out.items ++ unnamed_text l.patterns
