use Rattle.std.proofs.Common.{sym}
use Rattle.fffuu_run.proofs.FilterCauses.{both_refused, both_within, lower_refused, upper_refused}
use Rattle.fffuu_run.proofs.loading.summary_of.Goals as goal

pub returns-in_ok-summary_text-in-Ok-Ok-clause-ok : goal.returns-in_ok-summary_text-in-Ok-Ok-clause-ok
returns-in_ok-summary_text-in-Ok-Ok-clause-ok g c =
    let upper = rw c.in-Ok-Ok.is-0 at c.in_ok-upper.ensures.ok in
    let lower = rw c.in-Ok-Ok.is-1 at c.in_ok-lower.ensures.ok in
    let text = c.in_ok-summary_text-in-Ok-Ok.ensures in
    rw (sym upper.0, sym upper.1, sym lower.0, sym lower.1) text

pub returns-in_ok-summary_text-in-Ok-Ok-clause-within : goal.returns-in_ok-summary_text-in-Ok-Ok-clause-within
returns-in_ok-summary_text-in-Ok-Ok-clause-within g c =
    let upper = rw c.in-Ok-Ok.is-0 at c.in_ok-upper.ensures.ok in
    let lower = rw c.in-Ok-Ok.is-1 at c.in_ok-lower.ensures.ok in
    both_within g.F.Family.text_of c.args.name.now c.args.dump.now c.args.chain upper.2 lower.2

pub returns-in-Ok-Err-clause-refused : goal.returns-in-Ok-Err-clause-refused
returns-in-Ok-Err-clause-refused g c =
    let upper = rw c.in-Ok-Err.is-0 at c.in_ok-upper.ensures.ok in
    let lower = rw c.in-Ok-Err.is-1 at c.in_ok-lower.ensures.ok in
    lower_refused g.F.Family.text_of c.args.name.now c.args.dump.now c.args.chain c.in-Ok-Err.kind upper.2 lower

pub returns-in-Err-Ok-clause-refused : goal.returns-in-Err-Ok-clause-refused
returns-in-Err-Ok-clause-refused g c =
    let upper = rw c.in-Err-Ok.is-0 at c.in_ok-upper.ensures.ok in
    let lower = rw c.in-Err-Ok.is-1 at c.in_ok-lower.ensures.ok in
    upper_refused g.F.Family.text_of c.args.name.now c.args.dump.now c.args.chain c.in-Err-Ok.kind upper lower.2

pub returns-in-Err-Err-clause-refused : goal.returns-in-Err-Err-clause-refused
returns-in-Err-Err-clause-refused g c =
    let first = rw c.in-Err-Err.is-0 at c.in_ok-upper.ensures.ok in
    let second = rw c.in-Err-Err.is-1 at c.in_ok-lower.ensures.ok in
    let both = c.earlier.ensures in
    both_refused g.F.Family.text_of c.args.name.now c.args.dump.now c.args.chain c.in-Err-Err.first c.in-Err-Err.second c.earlier.result
    first second both.one both.first both.second
