use Rattle.std.proofs.Common.{inl, inr, refl}
use Rattle.request.specs.Arguments.{IsPart}
use Rattle.request.proofs.ClaimLemmas.{first_is}
use Rattle.request.proofs.claims.part_of.Goals as goal

pub returns-in-Some-clause-ok : goal.returns-in-Some-clause-ok
returns-in-Some-clause-ok g c =
    first_is (IsPart g.F.Family.Reads g.row.W c.args.text.now) c.ranges-in-Some.result.now c.in_ok-prefix.prefix _ _ c.ranges-in-Some.ensures.same c.in_ok-prefix.ensures.spelled
    (inr (inl (c.in-Some.address, c.in-Some.length, c.in-Some.ensures.some, refl)))

pub returns-in-None-clause-usage : goal.returns-in-None-clause-usage
returns-in-None-clause-usage g c error r (inl (address, (reads, is))) = c.in-None.ensures.none address reads
returns-in-None-clause-usage g c error r (inr (inl (address, len, prefix, is))) = c.in_default.ensures.none address len prefix
returns-in-None-clause-usage g c error r (inr (inr range)) = c.in_default-read_range.ensures.none r range
