use Rattle.std.proofs.Common.{inr, refl}
use Rattle.fw_rule.specs.declared.side.Side.{Side as ASide}
use Rattle.fffuu_run.proofs.CoverLemmas.{or_out}
use Rattle.fffuu_run.proofs.Closings.{closing_comes, closing_within}
use Rattle.fffuu_run.proofs.covering.refused_first.Goals as goal

pub returns-in-Ok : goal.returns-in-Ok
returns-in-Ok g c = inr (inr (closing_within c.args.first.now.dump c.args.first.now.chain ASide.Upper c.in-Ok.ensures.checked c.in-Ok.ensures.small, refl))

pub returns-in-Err : goal.returns-in-Err
returns-in-Err g c = or_out ASide.Upper c.args.first.now.dump c.args.first.now.chain c.args.other c.in-Err.refusal
    (closing_comes c.args.first.now.dump c.args.first.now.chain ASide.Upper c.in-Err.refusal c.in-Err.ensures.refused) c.told.result c.told.ensures
