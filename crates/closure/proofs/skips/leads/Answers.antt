use Rattle.std.proofs.Common.{◌-◌, length, refl, arith}
use Rattle.std.proofs.lemmas.Option.{slice_get_read}
use Rattle.closure.proofs.SkipLemmas.{leads_turn}
use Rattle.closure.proofs.skips.leads.Goals as goal

pub loop-passed-preserved : goal.loop-passed-preserved
loop-passed-preserved g c =
    let rules = c.args.rules.now in
    let at = length rules - 1 - c.loop-passed.passed in
    rw (c.in_ok-push-2.ensures.items, c.either-next.ensures)
    (leads_turn c.args.side rules c.args.mode c.loop-passed.passed c.loop-passed.next c.loop-passed.list.items c.loop-passed-test.true c.loop-passed.invariant at refl c.index-rules-at.result
    (slice_get_read rules (length rules) at c.index-rules-at.result refl (omega (arith, c.loop-passed-test.true)) c.index-rules-at.is) c.is_skipped.result c.is_skipped.ensures)
