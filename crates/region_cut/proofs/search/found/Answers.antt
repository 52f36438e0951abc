use Rattle.std.proofs.Common.{rules, subst, sym}
use Rattle.std.specs.List.{AllByRecursion}
use Rattle.std.proofs.lemmas.Result.{err_from_is_err_and}
use Rattle.fw_rule.specs.declared.rule.Verdict.{Verdict}
use Rattle.region_cut.proofs.Searching.{accepted_by_policy, dropped_at, dropped_by_policy, found_at, missed_at, passed_at, SearchedTo, search_begins, searched_all, skipped_at, too_large_at}
use Rattle.box_norm.specs.Regular.{HasStates}
use Rattle.region_cut.specs.Search.{with_policy}
use Rattle.region_cut.proofs.search.found.Goals as goal
use Rattle.region_cut.proofs.search.found.Goals.{then-rule+in_ok-packet+in_default, else-rule+in_ok-regions}

pub returns-in-Some-clause-finds : goal.returns-in-Some-clause-finds
returns-in-Some-clause-finds g c =
    found_at c.args.region.now c.args.rules.now c.args.policy c.loop-rule.rule-index c.loop-rule.regions.items c.rule-item.result c.loop-rule-test.true c.rule-item.is
    c.loop-rule.invariant c.in-Some.packet c.if-rule.true (rw (c.in-Some.is, c.as_slice-then-rule.ensures.value) at c.in_ok-packet.ensures)

pub returns-in_err-regions-clause-refused : goal.returns-in_err-regions-clause-refused
returns-in_err-regions-clause-refused g c =
    let told = too_large_at c.args.region.now c.args.rules.now c.args.policy c.loop-rule.rule-index c.loop-rule.regions.items c.rule-item.result c.loop-rule-test.true c.rule-item.is
    c.loop-rule.invariant c.in_err-regions.field-0.0 c.if-rule.false c.in_err-regions.ensures.many in
    let p = err_from_is_err_and c.from_residual-in_err-regions.result c.from_residual-in_err-regions.ensures.1 in
    rw (p.1, p.2) told

pub loop-rule-preserved : goal.loop-rule-preserved
loop-rule-preserved g c = elim c.if-rule.branch [
  | then-rule+in_ok-packet+in_default w ↦ rw w.regions-is
      (skipped_at c.args.region.now c.args.rules.now c.args.policy c.loop-rule.rule-index c.loop-rule.regions.items c.rule-item.result c.loop-rule-test.true c.rule-item.is
      c.loop-rule.invariant w.if-rule.true (rw (w.in_default.is, w.as_slice-then-rule.ensures.value) at w.in_ok-packet.ensures))
  | else-rule+in_ok-regions w ↦ rw w.regions-is
      (dropped_at c.args.region.now c.args.rules.now c.args.policy c.loop-rule.rule-index c.loop-rule.regions.items c.rule-item.result c.loop-rule-test.true c.rule-item.is
      c.loop-rule.invariant w.in_ok-regions.regions.items w.if-rule.false w.in_ok-regions.ensures.pieces w.in_ok-regions.ensures.few)
]

pub returns-in-Accept-clause-finds : goal.returns-in-Accept-clause-finds
returns-in-Accept-clause-finds g c =
    let done = searched_all c.args.region.now c.args.rules.now c.args.policy c.loop-rule.rule-index c.loop-rule.regions.items c.loop-rule-test.false c.loop-rule.invariant in
    rw c.in-Accept.is
    (accepted_by_policy c.args.region.now (with_policy c.args.rules.now Verdict.Accept) c.loop-rule.regions.items (rw c.in-Accept.is at done) c.in_ok-hit_in-in-Accept.field-0
    (rw (c.as_slice-in-Accept.ensures.value, c.in_ok-whole-in-Accept.ensures.value) at c.in_ok-hit_in-in-Accept.ensures))

pub returns-clause-finds : goal.returns-clause-finds
returns-clause-finds g c =
    let done = searched_all c.args.region.now c.args.rules.now c.args.policy c.loop-rule.rule-index c.loop-rule.regions.items c.loop-rule-test.false c.loop-rule.invariant in
    rw c.in-Drop.is (dropped_by_policy c.args.region.now (with_policy c.args.rules.now Verdict.Drop) c.loop-rule.regions.items c.requires.width (rw c.in-Drop.is at done))

pub loop-rule-init : goal.loop-rule-init
loop-rule-init g c =
    subst (SearchedTo c.args.region.now c.args.rules.now c.args.policy 0) (sym c.in_ok-start.ensures)
    (search_begins c.args.region.now c.args.rules.now c.args.policy c.requires.states)

pub hit_in-requires : goal.hit_in-requires
hit_in-requires g c =
    let each : AllByRecursion HasStates c.as_slice-then-rule.result.now = subst (AllByRecursion HasStates) (sym c.as_slice-then-rule.ensures.value) c.loop-rule.invariant.states in
    search rules

pub loop-rule-preserved-then-are_apart : goal.loop-rule-preserved-then-are_apart
loop-rule-preserved-then-are_apart g c =
    missed_at c.args.region.now c.args.rules.now c.args.policy c.loop-rule.rule-index c.loop-rule.regions.items c.rule-item.result c.loop-rule-test.true c.rule-item.is
    c.loop-rule.invariant (c.are_apart.ensures c.if-are_apart.true)

pub loop-rule-preserved-then-are_all_apart : goal.loop-rule-preserved-then-are_all_apart
loop-rule-preserved-then-are_all_apart g c =
    passed_at c.args.region.now c.args.rules.now c.args.policy c.loop-rule.rule-index c.loop-rule.regions.items c.rule-item.result c.loop-rule-test.true c.rule-item.is
    c.loop-rule.invariant (rw c.as_slice.ensures.value at c.are_all_apart.ensures c.if-are_all_apart.true)
