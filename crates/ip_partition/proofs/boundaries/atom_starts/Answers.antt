use Rattle.std.proofs.Common.{◌∙◌, ap}
use Rattle.std.proofs.lemmas.Result.{err_from_is_err_and}
use Rattle.ip_partition.specs.inner.Starts.{ends, starts_of, with_numbers}
use Rattle.ip_partition.proofs.Filling.{set_filled, set_passed}
use Rattle.ip_partition.proofs.boundaries.atom_starts.Goals as goal

pub returns-in_err-put_ends-clause-refused : goal.returns-in_err-put_ends-clause-refused
returns-in_err-put_ends-clause-refused g c =
    let p = err_from_is_err_and c.from_residual-in_err-put_ends.result c.from_residual-in_err-put_ends.ensures.1 in
    rw (p.1, p.2) (set_passed c.top-top.result c.args.sets.now c.loop-set.set-index c.set-item.result c.ranges-in-loop-set.result.now c.loop-set.starts.items
    (starts_of g.row.W c.args.sets.now) _ c.loop-set-test.true c.loop-set.invariant (c.ranges-in-loop-set.ensures.same ∙ c.set-item.is) c.in_err-put_ends.ensures.refused)

pub loop-set-preserved : goal.loop-set-preserved
loop-set-preserved g c =
    set_filled c.top-top.result c.args.sets.now c.loop-set.set-index c.set-item.result c.loop-set.starts.items c.put_ends.new.starts.items (starts_of g.row.W c.args.sets.now)
    c.loop-set-test.true c.loop-set.invariant
    (c.in_ok-put_ends.ensures.put ∙ ap (λ rs. with_numbers (ends c.top-top.result rs) c.loop-set.starts.items) (c.ranges-in-loop-set.ensures.same ∙ c.set-item.is))
    c.in_ok-put_ends.ensures.few
