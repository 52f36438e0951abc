use Rattle.std.proofs.Common.{◌/◌, ◌∙◌, arith}
use Rattle.std.proofs.lemmas.Result.{IfOk-weaker}
use Rattle.ip_partition.proofs.Gathering.{halves}
use Rattle.ip_partition.proofs.classes.+union_of.Goals as goal

pub returns : goal.returns
returns g t c =
    IfOk-weaker c.or.result _ _
    (λ s f n. f n ∙ halves c.args.from (c.args.count / 2) c.args.count c.args.ranges.now n _ _ (omega arith) (c.in_ok-low.ensures n) (c.in_ok-high.ensures n))
    c.or.ensures.numbers
