use Rattle.std.proofs.Common.{refl}
use Rattle.fffuu_run.proofs.Cases.{not_usage, refusal_passes, refusal_works}
use Rattle.fffuu_run.proofs.working.work_in.Goals as goal

pub returns-in-Ok-Err-clause-used : goal.returns-in-Ok-Err-clause-used
returns-in-Ok-Err-clause-used g c =
    let takes = rw c.in-Ok-Err.field-0-is at c.in-Ok-Err.ensures.takes in
    not_usage c.args.request.now takes.0 c.in-Ok-Err.status takes.1.0.1

pub returns-in-Ok-Err-clause-works : goal.returns-in-Ok-Err-clause-works
returns-in-Ok-Err-clause-works g c =
    let takes = rw c.in-Ok-Err.field-0-is at c.in-Ok-Err.ensures.takes in
    refusal_works c.args.request.now _ _ takes.0 c.in-Ok-Err.status takes.1.1.0 (record { held = refl; faults = refl }) takes.1.0.1

pub returns-in-Ok-Err-clause-passed : goal.returns-in-Ok-Err-clause-passed
returns-in-Ok-Err-clause-passed g c =
    let takes = rw c.in-Ok-Err.field-0-is at c.in-Ok-Err.ensures.takes in
    refusal_passes c.args.request.now _ _ takes.0 c.in-Ok-Err.status takes.1.1.1 refl takes.1.0.1
