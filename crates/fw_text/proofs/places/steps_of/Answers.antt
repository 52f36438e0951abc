use Rattle.std.proofs.Common.{arith}
use Rattle.fw_text.proofs.StepLemmas.{steps_first, steps_more}
use Rattle.fw_text.proofs.places.steps_of.Goals as goal
use Rattle.fw_text.proofs.places.steps_of.Goals.{then-i-gt0+in_ok-extend_from_slice, else-i-gt0}

pub loop-i-preserved : goal.loop-i-preserved
loop-i-preserved g c =
    let here = c.in_ok-step_of.ensures in
    let added = c.in_ok-extend_from_slice-2.ensures.items in
    elim c.if-i-gt0.branch [
      | then-i-gt0+in_ok-extend_from_slice w ↦ steps_more c.args.dump.now c.args.steps.now c.loop-i.i _ c.loop-i.text.items _ _ w.if-i-gt0.true c.loop-i-test.true c.loop-i.invariant here
          (let t = w.text-is in let e = w.in_ok-extend_from_slice.ensures.items in let d = c.deref.ensures.value in cc)
      | else-i-gt0 w ↦ steps_first c.args.dump.now c.args.steps.now c.loop-i.i _ c.loop-i.text.items _ _ (omega (arith, w.if-i-gt0.false)) c.loop-i-test.true c.loop-i.invariant here
          (let t = w.text-is in let d = c.deref.ensures.value in cc)
    ]
