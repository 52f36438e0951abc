use Rattle.std.proofs.Common.{◌≡◌, ◌^◌, ◌-◌, min, take}
use Rattle.std.specs.List.{sum_by}
use Rattle.dump_print.specs.Views.{count_of, helped_of}
use Rattle.dump_print.proofs.counting.count_rules.Given as goal

abbrev pub invariant-loop-helped : goal.invariant-loop-helped
invariant-loop-helped g l = l.count ≡ min (sum_by (λ helped. count_of (helped_of helped)) (take l.helped-index l.rules)) (2 ^ 64 - 1)
