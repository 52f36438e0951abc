use Rattle.std.proofs.Common.{◌≡◌, drop}
use Rattle.std.specs.List.{flat_map, fold}
use Rattle.iface_space.specs.Tested.{tested}
use Rattle.iface_space.specs.inner.Adding.{with_new}
use Rattle.iface_space.proofs.tested.add_literals.Given as goal

abbrev pub invariant-loop-lit : goal.invariant-loop-lit
invariant-loop-lit g l = fold with_new l.found.items (flat_map (tested l.direction) (drop l.lit-index l.lits))
    ≡ fold with_new l.fn.found.items (flat_map (tested l.direction) l.lits)
