use Rattle.std.proofs.Common.{◌∙◌, sym, arith}
use Rattle.ip_partition.proofs.Placing.{absent, absent_longer, found}
use Rattle.ip_partition.proofs.boundaries.put.Goals as goal

pub returns-then-len-gt-MOST_BOUNDARIES-clause-refused : goal.returns-then-len-gt-MOST_BOUNDARIES-clause-refused
returns-then-len-gt-MOST_BOUNDARIES-clause-refused c =
    let e = absent_longer c.args.starts.now.items c.deref.result.now c.args.start c.in-Err.at c.deref.ensures.value c.requires.ascend c.in-Err.ensures.position in
    omega (arith, e)

pub returns-in-Ok-clause-put : goal.returns-in-Ok-clause-put
returns-in-Ok-clause-put c =
    sym (found c.args.starts.now.items c.deref.result.now c.args.start c.in-Ok.field-0 c.deref.ensures.value c.requires.ascend c.in-Ok.ensures.position)

pub returns-in_ok-insert-in-Err-clause-put : goal.returns-in_ok-insert-in-Err-clause-put
returns-in_ok-insert-in-Err-clause-put c =
    c.in_ok-insert-in-Err.ensures.items
    ∙ sym (absent c.args.starts.now.items c.deref.result.now c.args.start c.in-Err.at c.deref.ensures.value c.requires.ascend c.in-Err.ensures.position)
