use Rattle.std.proofs.Common.{◌≡◌, ◌+◌, length, get_or, drop, ap, arith, List, ◌∙◌, length-drop}
use Rattle.fw_rule.specs.declared.rule.Step.{Step}
use Rattle.region_cut.proofs.Items.{drop_at}
use Rattle.region_queries.specs.Probe.{copy_of, next_copy, probe_of}
use Rattle.region_queries.proofs.ProbeLemmas.{copies_on, next_is}
use Rattle.region_queries.proofs.DeadLemmas.{triggers_may}
use Rattle.region_queries.proofs.probing.probe_of.Goals as goal

-- what a read past the last step would give
abbrev none : Step
none = record { chain = 0; rule = 0 }

pub loop-step-preserved : goal.loop-step-preserved
loop-step-preserved g c =
    let visit = c.args.visit.now in
    let i = c.loop-step.step-index in
    let rest = drop (i + 1) visit in
    let item = drop_at visit i none c.loop-step-test.true in
    let long = length-drop (i + 1) visit in
    let same = ap length c.as_slice-chains.ensures in
    let copy : c.in_ok-copy_of.field-0 ≡ copy_of c.args.dump.now.chains (get_or visit i none) c.below.result = c.in_ok-copy_of.ensures ∙ ap (λ (xs : List _). copy_of xs (get_or visit i none) c.below.result) c.as_slice-chains.ensures in
    let next : c.below.result ≡ next_copy (c.loop-step.next + 1) rest = c.below.ensures ∙ next_is (c.loop-step.next + 1) _ rest (omega (arith, long, same, c.loop-step.invariant.count, c.loop-step-test.true)) in
    record {
      count = omega (arith, c.loop-step.invariant.count);
      rest = copies_on c.args.dump.now.chains c.loop-step.all.items c.push-in-loop-step.new.self.items (probe_of c.args.dump.now visit).chains (drop i visit) rest
          c.loop-step.next (get_or visit i none) c.in_ok-copy_of.field-0 c.below.result item copy next c.in_ok-push-2.ensures.items c.loop-step.invariant.rest;
    }
