use Rattle.std.proofs.Common.{◌-◌, ◌+◌, ◌≡◌, length, refl, arith}
use Rattle.std.proofs.lemmas.Option.{slice_get_read}
use Rattle.closure.proofs.EndLemmas.{ends_more}
use Rattle.closure.proofs.ends.ends_of.Goals as goal

pub loop-passed-preserved : goal.loop-passed-preserved
loop-passed-preserved g c =
    let rules = c.args.rules.now in
    let behind = length rules - c.loop-passed.passed in
    let at = behind - 1 in
    let next : behind ≡ at + 1 = omega (arith, c.loop-passed-test.true) in
    ends_more c.args.side c.args.table.now rules c.loop-passed.ends c.loop-passed.invariant behind at next c.index-rules-behind.result
    (slice_get_read rules (length rules) at c.index-rules-behind.result refl (omega (arith, c.loop-passed-test.true)) c.index-rules-behind.is)
    c.is_silent-hard.result c.is_silent-soft.result c.is_silent-hard.ensures.soft c.is_silent-hard.ensures.same c.is_silent-hard.ensures.quiet c.is_silent-soft.ensures.soft c.is_silent-soft.ensures.quiet
    c.either.result c.either-in-loop-passed.result c.either.ensures c.either-in-loop-passed.ensures
