use Rattle.std.proofs.Common.{◌∙◌, ◌≤◌, sym, length, arith}
use Rattle.request.proofs.NameLemmas.{pair_step}
use Rattle.request.proofs.names.bytes_of.Goals as goal

pub loop-rest-preserved : goal.loop-rest-preserved
loop-rest-preserved c =
    let two : 2 ≤ length c.loop-rest.rest.now = grind (arith, c.loop-rest-test.true, c.if-rest-eq1.false) in
    rw c.in_ok-push.ensures.items (pair_step c.loop-rest.bytes.items c.loop-rest.rest.now c.in-Some.byte _ two (sym c.byte_of.ensures ∙ c.in-Some.is) c.loop-rest.invariant)
