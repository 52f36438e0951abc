use Rattle.std.proofs.lemmas.Slice.Eq.{slice_eq-Decides}
use Rattle.interval_set.proofs.Same.{Decides-range, exactly}
use Rattle.box_norm.specs.Pieces.{single}
use Rattle.box_norm.proofs.numbers.is_only.Goals as goal

pub returns-clause-alone : goal.returns-clause-alone
returns-clause-alone c = exactly c.eq.result c.ranges-2.result.now c.as_slice.result.now c.args.set.now (single c.args.number) (slice_eq-Decides Decides-range _ _ c.eq.result c.eq.ensures)
    c.ranges-2.ensures.same c.as_slice.ensures
