use Rattle.std.proofs.Common.{arith}
use Rattle.service_matrix.specs.inner.Classes.{Differ}
use Rattle.service_matrix.proofs.Joins.{each_passed}
use Rattle.service_matrix.proofs.classes.same_class.Goals as goal
use Rattle.service_matrix.proofs.classes.same_class.Goals.{else-same-via-then-same+else-same-2, else-same-via-else-same}

pub loop-at-preserved : goal.loop-at-preserved
loop-at-preserved g c =
    let other : Differ c.index-classes-at.result c.args.new.now = elim c.else-same.branch [
      | else-same-via-then-same+else-same-2 w ↦ (λ row column. let t = w.same-then-same.ensures.numbers column in absurd (grind (arith, t)))
      | else-same-via-else-same w ↦ (λ row column. let t = c.same.ensures.numbers row in absurd (grind (arith, t)))
    ] in
    each_passed (λ class. Differ class c.args.new.now) c.args.classes.now c.loop-at.at c.index-classes-at.result (omega arith) c.index-classes-at.is other c.loop-at.invariant
