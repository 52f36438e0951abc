use Rattle.std.proofs.Common.{◌≤◌, ◌∙◌, ap, arith, length, refl, ◌++◌, map}
use Rattle.std.specs.Option.{unwrap_or}
use Rattle.limits.specs.declared.TheConstants.{MOST_CUBES}
use Rattle.box_norm.specs.Cuts.{cuts_by, keep_all}
use Rattle.box_norm.specs.Regular.{IsRegular}
use Rattle.box_norm.proofs.Loops.{goes_begin, goes_turn, omits_begin, omits_fault, omits_keep_fault, omits_full, omits_turn}
use Rattle.box_norm.proofs.RegularLaws.{all_append}
use Rattle.box_norm.proofs.cuts.+cuts.Goals as goal

pub keep_parts-loop-part-init : goal.keep_parts-loop-part-init
keep_parts-loop-part-init g t c = record {
  work = goes_begin (keep_all (map (cuts_by {W = g.row.W}) c.args.parts.now) c.args.list.now);
  regular = λ h. h;
}

pub keep_parts-loop-part-preserved : goal.keep_parts-loop-part-preserved
keep_parts-loop-part-preserved g t c = record {
  work = goes_turn g.row.W c.args.parts.now c.loop-part.part-index c.part-item.result (unwrap_or c.loop-part.kept c.args.list.now) c.list_now.result.now _ c.loop-part-test.true c.part-item.is c.list_now.ensures c.in-Ok.next c.loop-part.invariant.work c.in-Ok.ensures.answers;
  regular = λ h. c.in-Ok.ensures.regular (rw c.list_now.ensures (c.loop-part.invariant.regular h));
}

pub omit_parts-loop-part-init : goal.omit_parts-loop-part-init
omit_parts-loop-part-init g t c = record {
  work = rw c.new-out.ensures.items (omits_begin (map (cuts_by {W = g.row.W}) c.args.parts.now) c.args.list.now);
  regular = λ h. h;
  omitted = λ h. rw c.new-out.ensures.items tt;
}

pub omit_parts-returns-in-Err-clause-answers : goal.omit_parts-returns-in-Err-clause-answers
omit_parts-returns-in-Err-clause-answers g t c = omits_fault g.row.W c.args.parts.now c.loop-part.part-index c.part-item.result (unwrap_or c.loop-part.kept c.args.list.now) c.list_now.result.now _ c.loop-part-test.true c.part-item.is c.list_now.ensures c.loop-part.out.items c.loop-part.invariant.work c.in-Err.fault c.in-Err.ensures.answers

pub omit_parts-returns-then-len-gt-MOST_CUBES-clause-answers : goal.omit_parts-returns-then-len-gt-MOST_CUBES-clause-answers
omit_parts-returns-then-len-gt-MOST_CUBES-clause-answers g t c =
    omits_full g.row.W c.args.parts.now c.loop-part.part-index c.part-item.result (unwrap_or c.loop-part.kept c.args.list.now) c.list_now.result.now _ c.loop-part-test.true c.part-item.is c.list_now.ensures c.loop-part.out.items c.loop-part.invariant.work c.into_vec.result.items (c.into_vec.ensures ∙ c.in-Ok.ensures.answers.0)
    (omega (arith, ap length c.in_ok-out.ensures, c.len.ensures, c.if-len-gt-MOST_CUBES.true))

pub omit_parts-returns-in-Err-keep_list-clause-answers : goal.omit_parts-returns-in-Err-keep_list-clause-answers
omit_parts-returns-in-Err-keep_list-clause-answers g t c = omits_keep_fault g.row.W c.args.parts.now c.loop-part.part-index c.part-item.result (unwrap_or c.loop-part.kept c.args.list.now) c.list_now-in-loop-part.result.now _ c.loop-part-test.true c.part-item.is c.list_now-in-loop-part.ensures c.loop-part.out.items c.loop-part.invariant.work c.in-Err-keep_list.fault c.in-Err-keep_list.ensures.answers

pub omit_parts-loop-part-preserved : goal.omit_parts-loop-part-preserved
omit_parts-loop-part-preserved g t c =
    let a = rw c.list_now.ensures at c.in-Ok.ensures.answers in
    let b = rw c.list_now-in-loop-part.ensures at c.in-Ok-keep_list.ensures.answers in
    let small : length (c.loop-part.out.items ++ c.into_vec.result.items) ≤ MOST_CUBES = omega (arith, ap length c.in_ok-out.ensures, c.len.ensures, c.if-len-gt-MOST_CUBES.false) in
    record {
      work = rw c.in_ok-out.ensures (omits_turn g.row.W c.args.parts.now c.loop-part.part-index c.part-item.result (unwrap_or c.loop-part.kept c.args.list.now) (unwrap_or c.loop-part.kept c.args.list.now) _ c.loop-part-test.true c.part-item.is refl
          c.loop-part.out.items c.loop-part.invariant.work c.in-Ok-keep_list.next c.into_vec.result.items (c.into_vec.ensures ∙ a.0, a.1) b small);
      regular = λ h. c.in-Ok-keep_list.ensures.regular (rw c.list_now-in-loop-part.ensures (c.loop-part.invariant.regular h));
      omitted = λ h. rw c.in_ok-out.ensures (all_append IsRegular c.loop-part.out.items c.into_vec.result.items (c.loop-part.invariant.omitted h)
          (rw c.into_vec.ensures (c.in-Ok.ensures.regular (rw c.list_now.ensures (c.loop-part.invariant.regular h)))));
    }
