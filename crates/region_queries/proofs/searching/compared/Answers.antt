use Rattle.std.proofs.lemmas.Result.{err_from_is_err_and}
use Rattle.region_queries.proofs.RunLemmas.{asking_refused_at, found_at, leaving_refused_at, passed_at, policy_found, policy_passed, policy_refused}
use Rattle.region_queries.proofs.searching.compared.Goals as goal

pub returns-in_err-packet-clause-refused : goal.returns-in_err-packet-clause-refused
returns-in_err-packet-clause-refused g c =
    let told = asking_refused_at c.args.against.now c.args.other c.args.rules.now c.args.policy c.loop-rule.rule-index c.loop-rule.regions.items c.rule-item.result c.loop-rule-test.true c.rule-item.is
    c.loop-rule.invariant c.in_err-packet.field-0.0 (rw c.as_slice.ensures.value at c.in_err-packet.ensures.refused) in
    let p = err_from_is_err_and c.from_residual-in_err-packet.result c.from_residual-in_err-packet.ensures.1 in
    rw (p.1, p.2) told

pub returns-in-Some-clause-answers : goal.returns-in-Some-clause-answers
returns-in-Some-clause-answers g c =
    found_at c.args.against.now c.args.other c.args.rules.now c.args.policy c.loop-rule.rule-index c.loop-rule.regions.items c.rule-item.result c.loop-rule-test.true c.rule-item.is
    c.loop-rule.invariant c.in-Some.packet (rw (c.in-Some.is, c.as_slice.ensures.value) at c.in_ok-packet.ensures.answers)

pub returns-in_err-regions-clause-refused : goal.returns-in_err-regions-clause-refused
returns-in_err-regions-clause-refused g c =
    let told = leaving_refused_at c.args.against.now c.args.other c.args.rules.now c.args.policy c.loop-rule.rule-index c.loop-rule.regions.items c.rule-item.result c.loop-rule-test.true c.rule-item.is
    c.loop-rule.invariant c.in_err-regions.field-0.0 (rw (c.in_default.is, c.as_slice.ensures.value) at c.in_ok-packet.ensures.answers) c.in_err-regions.ensures.many in
    let p = err_from_is_err_and c.from_residual-in_err-regions.result c.from_residual-in_err-regions.ensures.1 in
    rw (p.1, p.2) told

pub loop-rule-preserved : goal.loop-rule-preserved
loop-rule-preserved g c =
    passed_at c.args.against.now c.args.other c.args.rules.now c.args.policy c.loop-rule.rule-index c.loop-rule.regions.items c.rule-item.result c.loop-rule-test.true c.rule-item.is
    c.loop-rule.invariant c.in_ok-regions.regions.items (rw (c.in_default.is, c.as_slice.ensures.value) at c.in_ok-packet.ensures.answers)
    c.in_ok-regions.ensures.pieces c.in_ok-regions.ensures.few

pub returns-in_err-packet-2-clause-refused : goal.returns-in_err-packet-2-clause-refused
returns-in_err-packet-2-clause-refused g c =
    let told = policy_refused c.args.against.now c.args.other c.args.rules.now c.args.policy c.loop-rule.rule-index c.loop-rule.regions.items c.loop-rule-test.false
    c.loop-rule.invariant c.in_err-packet-2.field-0.0 (rw (c.in_ok-last.ensures, c.as_slice-2.ensures.value) at c.in_err-packet-2.ensures.refused) in
    let p = err_from_is_err_and c.from_residual-in_err-packet-2.result c.from_residual-in_err-packet-2.ensures.1 in
    rw (p.1, p.2) told

pub returns-in-Some-2-clause-answers : goal.returns-in-Some-2-clause-answers
returns-in-Some-2-clause-answers g c =
    policy_found c.args.against.now c.args.other c.args.rules.now c.args.policy c.loop-rule.rule-index c.loop-rule.regions.items c.loop-rule-test.false
    c.loop-rule.invariant c.in-Some-2.packet (rw (c.in-Some-2.is, c.in_ok-last.ensures, c.as_slice-2.ensures.value) at c.in_ok-packet-2.ensures.answers)

pub returns-clause-answers : goal.returns-clause-answers
returns-clause-answers g c =
    policy_passed c.args.against.now c.args.other c.args.rules.now c.args.policy c.loop-rule.rule-index c.loop-rule.regions.items c.loop-rule-test.false
    c.loop-rule.invariant c.requires (rw (c.in-None.is, c.in_ok-last.ensures, c.as_slice-2.ensures.value) at c.in_ok-packet-2.ensures.answers)
