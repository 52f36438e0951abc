use Rattle.std.proofs.Common.{◌∙◌, ◌+◌, refl, arith}
use Rattle.ip_partition.proofs.Gathering.{default_off, next_above}
use Rattle.ip_partition.proofs.classes.atom_range.Goals as goal

pub overflow_sub-result : goal.overflow_sub-result
overflow_sub-result c = let h = next_above c.args.atom c.args.starts.now c.requires.ascend c.if-atom-starts.true in omega (arith, h)

pub returns-then-atom-starts : goal.returns-then-atom-starts
returns-then-atom-starts c =
    let h = next_above c.args.atom c.args.starts.now c.requires.ascend c.if-atom-starts.true in
    (refl, default_off c.args.starts.now (c.args.atom + 1) (c.args.top + 1) 0 c.if-atom-starts.true ∙ omega (arith, h))
