use Rattle.std.proofs.Common.{◌≡◌, drop}
use Rattle.std.specs.List.{fold}
use Rattle.iface_space.specs.Tested.{tested_in}
use Rattle.iface_space.specs.inner.Adding.{with_new}
use Rattle.iface_space.proofs.tested.add_rules.Given as goal

abbrev pub invariant-loop-rule : goal.invariant-loop-rule
invariant-loop-rule g l = fold with_new l.found.items (tested_in l.direction (drop l.rule-index l.rules))
    ≡ fold with_new l.fn.found.items (tested_in l.direction l.rules)
