use Rattle.std.proofs.Common.{◌∙◌, ap, arith}
use Rattle.primitives.proofs.NumberLemmas.{digit_added, one_digit}
use Rattle.primitives.proofs.writing.+append_number.Goals as goal
use Rattle.primitives.proofs.writing.+append_number.Goals.{then-n-ge10+in_ok-append_number, else-n-ge10}

pub returns : goal.returns
returns t c =
    elim c.if-n-ge10.branch [
      | then-n-ge10+in_ok-append_number w ↦
          digit_added c.args.n _ _ _ (omega arith) c.ranges.n.fits (ap (λ v. v.items) w.out-is ∙ w.in_ok-append_number.ensures) c.in_ok-push.ensures.items
      | else-n-ge10 w ↦ one_digit c.args.n _ _ _ (omega arith) (ap (λ v. v.items) w.out-is) c.in_ok-push.ensures.items
    ]
