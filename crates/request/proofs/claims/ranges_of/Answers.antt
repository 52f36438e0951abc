use Rattle.std.proofs.Common.{[], refl}
use Rattle.request.specs.Arguments.{IsPart}
use Rattle.basics.specs.Parts.{comma_parts}
use Rattle.basics.proofs.PartingLemmas.{parts_at, parts_last}
use Rattle.request.proofs.ReadingLemmas.{handed_on, passed, refused, whole}
use Rattle.request.proofs.claims.ranges_of.Goals as goal

pub returns-in_err-part_of-clause-usage : goal.returns-in_err-part_of-clause-usage
returns-in_err-part_of-clause-usage g c error =
    refused (IsPart g.F.Family.Reads g.row.W) (comma_parts c.args.set.now) (comma_parts c.loop-part.rest.now) (comma_parts c.in-Some.after.now) c.in-Some.part.now
    c.loop-part.ranges.items c.loop-part.invariant (parts_at c.loop-part.rest.now c.in-Some.part.now c.in-Some.after.now c.in-Some.ensures.some)
    (c.in_err-part_of.ensures.usage (handed_on c.from_residual.result _ _ c.from_residual.ensures.1 error))

pub loop-part-preserved : goal.loop-part-preserved
loop-part-preserved g c =
    passed (IsPart g.F.Family.Reads g.row.W) (comma_parts c.args.set.now) (comma_parts c.loop-part.rest.now) (comma_parts c.in-Some.after.now) c.in-Some.part.now
    c.loop-part.ranges.items c.push.new.self.items c.in_ok-part_of.field-0 c.loop-part.invariant
    (parts_at c.loop-part.rest.now c.in-Some.part.now c.in-Some.after.now c.in-Some.ensures.some) c.in_ok-part_of.ensures.ok c.in_ok-push.ensures.items

pub returns-in_err-part_of-2-clause-usage : goal.returns-in_err-part_of-2-clause-usage
returns-in_err-part_of-2-clause-usage g c error =
    refused (IsPart g.F.Family.Reads g.row.W) (comma_parts c.args.set.now) (comma_parts c.loop-part.rest.now) [] c.loop-part.rest.now
    c.loop-part.ranges.items c.loop-part.invariant (parts_last c.loop-part.rest.now c.in_default.ensures.none)
    (c.in_err-part_of-2.ensures.usage (handed_on c.from_residual-in_err-part_of-2.result _ _ c.from_residual-in_err-part_of-2.ensures.1 error))

pub returns-clause-ok : goal.returns-clause-ok
returns-clause-ok g c =
    whole (IsPart g.F.Family.Reads g.row.W) (comma_parts c.args.set.now) [] c.push-2.new.self.items
    (passed (IsPart g.F.Family.Reads g.row.W) (comma_parts c.args.set.now) (comma_parts c.loop-part.rest.now) [] c.loop-part.rest.now c.loop-part.ranges.items c.push-2.new.self.items
    c.in_ok-part_of-2.field-0 c.loop-part.invariant (parts_last c.loop-part.rest.now c.in_default.ensures.none) c.in_ok-part_of-2.ensures.ok c.in_ok-push-2.ensures.items) refl
