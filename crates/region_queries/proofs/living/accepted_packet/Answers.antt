use Rattle.std.proofs.lemmas.Result.{err_from_is_err_and}
use Rattle.region_queries.proofs.DeadLemmas.{closed_refused, search_tells}
use Rattle.region_queries.proofs.living.accepted_packet.Goals as goal

pub returns-in_err-rules-clause-refused : goal.returns-in_err-rules-clause-refused
returns-in_err-rules-clause-refused g c =
    let p = err_from_is_err_and c.from_residual.result c.from_residual.ensures.1 in
    rw (p.1, p.2) (closed_refused c.args.probe.now c.args.entry c.requires.checked c.in_err-rules.field-0.0 c.in_err-rules.ensures.refused)

pub returns-in-Ok-clause-tells : goal.returns-in-Ok-clause-tells
returns-in-Ok-clause-tells g c =
    search_tells c.args.probe.now c.args.entry c.requires.checked c.requires.drops c.in_ok-rules.rules c.in_ok-rules.ensures.meaning c.in-Ok.packet
    (rw (c.in_ok-region.ensures.value, c.as_slice.ensures) at c.in-Ok.ensures.tells)
