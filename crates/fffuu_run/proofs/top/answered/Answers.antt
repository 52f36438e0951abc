use Rattle.std.proofs.Common.{subst}
use Rattle.fffuu_run.specs.Runs.{IsRead}
use Rattle.request.specs.declared.types.Request.{Request}
use Rattle.fffuu_run.proofs.Cases.{one_request}
use Rattle.fffuu_run.proofs.top.answered.Goals as goal

pub returns-in-Ok-clause-unused : goal.returns-in-Ok-clause-unused
returns-in-Ok-clause-unused g c request spells loads =
    c.work-status.ensures.unread (λ read. loads (subst (λ (r : Request). IsRead r.mode) (one_request _ c.in-Ok.request request c.in-Ok.ensures.ok spells) read))
