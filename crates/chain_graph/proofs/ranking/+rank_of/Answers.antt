use Rattle.std.proofs.Common.{◌+◌, ◌<◌, length, refl, sym, arith, rules}
use Rattle.chain_graph.specs.declared.ranking.Found.{Found}
use Rattle.chain_graph.proofs.Marking.{calls_by, callee_inside}
use Rattle.chain_graph.proofs.RankLemmas.{known_deep, read_has, grown, too_deep, plain, calling, put_table, put_grows, put_has}
use Rattle.chain_graph.proofs.ranking.+rank_of.Goals as goal
use Rattle.chain_graph.proofs.ranking.+rank_of.Goals.{in-Some-target+in-Some-rank_of, in_default-target}

pub returns-in-Some-clause-none : goal.returns-in-Some-clause-none
returns-in-Some-clause-none g t c =
    let inside : c.args.chain < length c.args.table.now = omega (arith, c.requires.there, c.requires.right.long) in
    known_deep c.args.dump.now c.args.table.now c.args.chain c.args.depth c.in-Some.known c.requires.right (read_has c.args.dump.now c.args.table.now c.args.chain _ c.in-Some.known inside c.in-Some.is) c.if-known-depth.false

pub rank_of-requires : goal.rank_of-requires
rank_of-requires g t c κs within =
    let inside = callee_inside c.args.dump.now c.requires.named c.args.chain c.rules_of-rule-items.result.now c.rules_of-rule-items.ensures c.in-Some-target.callee (c.rule-item.result, (c.loop-rule.rule-index, c.loop-rule-test.true, sym c.rule-item.is), (sym c.in-Some-target.ensures)) in
    (omega (arith, c.if-depth-eq0.false, c.decreases), (search rules, (search rules, (inside, (c.requires.named, c.loop-rule.invariant.right)))))

pub returns-in_default-rank_of-clause-grows : goal.returns-in_default-rank_of-clause-grows
returns-in_default-rank_of-clause-grows g t c = grown c.args.dump.now c.args.chain c.in-Some-target.callee c.args.table.now c.loop-rule.table c.rank_of.new.table
    (calls_by c.args.dump.now c.args.chain c.rules_of-rule-items.result.now c.rules_of-rule-items.ensures c.in-Some-target.callee (c.rule-item.result, (c.loop-rule.rule-index, c.loop-rule-test.true, sym c.rule-item.is), (sym c.in-Some-target.ensures))) c.loop-rule.invariant.grows c.in_default-rank_of.ensures.grows

pub returns-in_default-rank_of-clause-none : goal.returns-in_default-rank_of-clause-none
returns-in_default-rank_of-clause-none g t c = too_deep c.args.dump.now c.args.chain c.args.depth c.in-Some-target.callee (omega (arith, c.if-depth-eq0.false))
    (calls_by c.args.dump.now c.args.chain c.rules_of-rule-items.result.now c.rules_of-rule-items.ensures c.in-Some-target.callee (c.rule-item.result, (c.loop-rule.rule-index, c.loop-rule-test.true, sym c.rule-item.is), (sym c.in-Some-target.ensures))) c.in_default-rank_of.ensures.none

pub loop-rule-preserved : goal.loop-rule-preserved
loop-rule-preserved g t c = elim c.match-target.branch [
  | in-Some-target+in-Some-rank_of w ↦ rw (w.table-is, w.below-is, w.visits-is)
      (calling c.args.dump.now c.args.chain c.args.depth c.rules_of-rule-items.result.now c.loop-rule.rule-index c.args.table.now c.loop-rule.table c.loop-rule.below c.loop-rule.visits c.rule-item.result c.loop-rule-test.true c.rule-item.is c.loop-rule.invariant
      w.in-Some-target.callee (sym w.in-Some-target.ensures) (calls_by c.args.dump.now c.args.chain c.rules_of-rule-items.result.now c.rules_of-rule-items.ensures w.in-Some-target.callee (c.rule-item.result, (c.loop-rule.rule-index, c.loop-rule-test.true, sym c.rule-item.is), (sym w.in-Some-target.ensures)))
      w.rank_of.new.table w.in-Some-rank_of.found w.in-Some-rank_of.ensures.right w.in-Some-rank_of.ensures.grows (w.in-Some-rank_of.ensures.some).0 (w.in-Some-rank_of.ensures.some).1
      w.max-below.result w.saturating_add-visits-in-Some-target.result (omega (arith, w.max-below.ensures)) (omega (arith, w.saturating_add-visits-in-Some-target.ensures, c.saturating_add-visits.ensures)))
  | in_default-target w ↦ rw (w.table-is, w.below-is, w.visits-is)
      (plain c.args.dump.now c.args.chain c.args.depth c.rules_of-rule-items.result.now c.loop-rule.rule-index c.args.table.now c.loop-rule.table c.loop-rule.below c.loop-rule.visits c.rule-item.result c.loop-rule-test.true c.rule-item.is c.loop-rule.invariant (sym w.in_default-target.ensures) c.saturating_add-visits.result (omega (arith, c.saturating_add-visits.ensures)))
]

pub returns-clause-right : goal.returns-clause-right
returns-clause-right g t c =
    let inside : c.args.chain < length c.loop-rule.table = omega (arith, c.requires.there, c.loop-rule.invariant.right.long) in
    let f : Found = record { rank = c.loop-rule.below + 1; visits = c.loop-rule.visits } in
    put_table c.args.dump.now c.args.chain c.args.depth c.rules_of-rule-items.result.now c.loop-rule.rule-index c.args.table.now c.loop-rule.table c.loop-rule.below c.loop-rule.visits f c.rules_of-rule-items.ensures c.loop-rule-test.false inside refl refl c.loop-rule.invariant

pub returns-clause-grows : goal.returns-clause-grows
returns-clause-grows g t c =
    let inside : c.args.chain < length c.loop-rule.table = omega (arith, c.requires.there, c.loop-rule.invariant.right.long) in
    let f : Found = record { rank = c.loop-rule.below + 1; visits = c.loop-rule.visits } in
    put_grows c.args.dump.now c.args.chain c.args.depth c.rules_of-rule-items.result.now c.loop-rule.rule-index c.args.table.now c.loop-rule.table c.loop-rule.below c.loop-rule.visits f c.rules_of-rule-items.ensures c.loop-rule-test.false inside refl refl c.loop-rule.invariant

pub returns-clause-some : goal.returns-clause-some
returns-clause-some g t c =
    let inside : c.args.chain < length c.loop-rule.table = omega (arith, c.requires.there, c.loop-rule.invariant.right.long) in
    let f : Found = record { rank = c.loop-rule.below + 1; visits = c.loop-rule.visits } in
    put_has c.args.dump.now c.args.chain c.args.depth c.rules_of-rule-items.result.now c.loop-rule.rule-index c.args.table.now c.loop-rule.table c.loop-rule.below c.loop-rule.visits f c.rules_of-rule-items.ensures c.loop-rule-test.false inside refl refl c.loop-rule.invariant
