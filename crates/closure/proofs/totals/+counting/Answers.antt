use Rattle.std.proofs.Common.{length, refl, sym, ◌∙◌, ap, arith, rules}
use Rattle.fw_rule.proofs.Turns.{chain_inside}
use Rattle.fw_rule.specs.Matching.{known_of, doubt_in}
use Rattle.rewriting.specs.declared.rows.Mode.TheVariants.{Soft}
use Rattle.rewriting.specs.declared.rows.Row.{Row}
use Rattle.closure.specs.Rewriting.{Leave, to_the_end}
use Rattle.rewriting.specs.Table.{kind}
use Rattle.closure.specs.inner.Items.{items_from}
use Rattle.closure.specs.inner.Moves.{then_leave}
use Rattle.closure.proofs.RowLemmas.{row_is}
use Rattle.closure.proofs.FlatLemmas.{hardness_small, led, stands_here, rule_here, rules_over}
use Rattle.closure.proofs.Tallies.{goes_on, over_decide, over_leave, over_block, end_counted, turn_decided, turn_left, turn_left_later, turn_ran, turn_ran_left, turn_ran_later, counted_none, counted_more, counted_all}
use Rattle.closure.proofs.totals.+counting.Goals as goal

pub count_from-bounds-as_slice-from : goal.count_from-bounds-as_slice-from
count_from-bounds-as_slice-from g t c = let h = chain_inside c.args.dump.now c.args.from.chain c.requires.settled in omega (arith, h, ap length c.as_slice.ensures)

pub count_from-first_item-next-requires-clause-inside : goal.count_from-first_item-next-requires-clause-inside
count_from-first_item-next-requires-clause-inside g t c = chain_inside c.args.dump.now c.args.from.chain c.requires.settled

pub count_from-first_item-next-requires-in-loop-next-clause-inside : goal.count_from-first_item-next-requires-in-loop-next-clause-inside
count_from-first_item-next-requires-in-loop-next-clause-inside g t c = chain_inside c.args.dump.now c.args.from.chain c.requires.settled

pub count_from-count_rule-requires : goal.count_from-count_rule-requires
count_from-count_rule-requires g t c κs within = (
  omega (arith, c.decreases),
  (
    search rules,
    (
      search rules,
      (
        c.requires.settled,
        (
          c.requires.within,
          (
            c.requires.room,
            (
              c.requires.table,
              stands_here c.args.dump.now c.args.from.chain c.loop-next.next c.as_slice.result.now c.index-as_slice-from.result c.as_slice-rules.result.now c.as_slice.ensures c.requires.settled c.index-as_slice-from.is c.as_slice-rules.ensures c.index-rules-next.result c.loop-next-test.true c.index-rules-next.is,
            ),
          ),
        ),
      ),
    ),
  ),
)

pub count_block-returns : goal.count_block-returns
count_block-returns g t c e k_is behind =
    over_block c.args.around (omega (arith, c.ranges.around.fits)) e c.args.literals k_is c.args.tally.now c.run.new.self c.saturating_add-whole.result (c.saturating_add-whole.ensures ∙ rw c.saturating_add.ensures refl) (items_from c.args.side c.args.dump.now c.args.block) c.in_ok-inner.inner.total c.in_ok-inner.inner.ways.items c.in_ok-inner.ensures.total c.in_ok-inner.ensures.ways c.in_ok-run.ensures.past c.in_ok-run.ensures.total c.in_ok-run.ensures.ways behind

pub count_end_block-returns : goal.count_end_block-returns
count_end_block-returns g t c e k_is behind =
    over_block c.args.around (omega (arith, c.ranges.around.fits)) e c.args.literals k_is c.args.tally.now c.run.new.self c.saturating_add-whole.result (c.saturating_add-whole.ensures ∙ rw c.saturating_add.ensures refl) (to_the_end (items_from c.args.side c.args.dump.now c.args.block)) c.in_ok-inner.inner.total c.in_ok-inner.inner.ways.items c.in_ok-inner.ensures.total c.in_ok-inner.ensures.ways c.in_ok-run.ensures.past c.in_ok-run.ensures.total c.in_ok-run.ensures.ways behind

pub count_and_leave-returns : goal.count_and_leave-returns
count_and_leave-returns g t c e k_is behind =
    goes_on c.args.around (then_leave e (items_from c.args.side c.args.dump.now c.args.block) behind) (Leave e 0 behind) behind c.args.tally.now c.count_block.new.tally c.leave.new.self (c.in_ok-count_block.ensures e k_is (Leave e 0 behind)) (over_leave c.args.around (omega (arith, c.ranges.around.fits)) e c.args.literals k_is c.count_block.new.tally c.leave.new.self 0 c.in_ok-leave.ensures.past c.in_ok-leave.ensures.total c.in_ok-leave.ensures.ways behind)

pub count_to_the_end-returns-clause-total : goal.count_to_the_end-returns-clause-total
count_to_the_end-returns-clause-total g t c =
    (end_counted c.args.around (omega (arith, c.ranges.around.fits)) (items_from c.args.side c.args.dump.now c.args.from) c.no_tally-tally.result c.count_block.new.tally c.leave.new.self (record { no_past = c.no_tally-tally.ensures.past; no_total = c.no_tally-tally.ensures.total; no_ways = c.no_tally-tally.ensures.ways }) c.in_ok-count_block.ensures c.in_ok-leave.ensures.past c.in_ok-leave.ensures.total c.in_ok-leave.ensures.ways).0

pub count_to_the_end-returns-clause-ways : goal.count_to_the_end-returns-clause-ways
count_to_the_end-returns-clause-ways g t c =
    (end_counted c.args.around (omega (arith, c.ranges.around.fits)) (items_from c.args.side c.args.dump.now c.args.from) c.no_tally-tally.result c.count_block.new.tally c.leave.new.self (record { no_past = c.no_tally-tally.ensures.past; no_total = c.no_tally-tally.ensures.total; no_ways = c.no_tally-tally.ensures.ways }) c.in_ok-count_block.ensures c.in_ok-leave.ensures.past c.in_ok-leave.ensures.total c.in_ok-leave.ensures.ways).1

pub count_rule-count_block-requires : goal.count_rule-count_block-requires
count_rule-count_block-requires g t c κs within =
    let l = led c.args.side c.args.dump.now c.args.behind c.args.rule.now c.requires.rule c.requires.settled c.requires.within c.requires.room (Row.Run c.in-Run.callee c.in-Run.mode) (sym c.in-Run.is ∙ (row_is c.args.side c.args.behind.mode c.row_of.result c.doubtful.result (doubt_in c.args.rule.now.lits) c.kind_of-kind.result (kind c.args.side c.args.rule.now.action) c.row_of.ensures c.doubtful.ensures c.kind_of-kind.ensures)) c.in-Run.callee c.in-Run.mode (refl, refl) in
    let small = hardness_small c.in-Run.mode in
    rw c.led_to-called.ensures (omega (arith, l.deep, small, c.decreases), (search rules, (search rules, (l.settled, (l.within, (l.room, c.requires.table))))))

pub count_rule-count_and_leave-requires-in-RunThenLeave : goal.count_rule-count_and_leave-requires-in-RunThenLeave
count_rule-count_and_leave-requires-in-RunThenLeave g t c κs within =
    let l = led c.args.side c.args.dump.now c.args.behind c.args.rule.now c.requires.rule c.requires.settled c.requires.within c.requires.room (Row.RunThenLeave c.in-RunThenLeave.target c.in-RunThenLeave.mode) (sym c.in-RunThenLeave.is ∙ (row_is c.args.side c.args.behind.mode c.row_of.result c.doubtful.result (doubt_in c.args.rule.now.lits) c.kind_of-kind.result (kind c.args.side c.args.rule.now.action) c.row_of.ensures c.doubtful.ensures c.kind_of-kind.ensures)) c.in-RunThenLeave.target c.in-RunThenLeave.mode (refl, refl) in
    let small = hardness_small c.in-RunThenLeave.mode in
    rw c.led_to-gone.ensures (omega (arith, l.deep, small, c.decreases), (search rules, (search rules, (l.settled, (l.within, (l.room, c.requires.table))))))

pub count_rule-count_end_block-requires : goal.count_rule-count_end_block-requires
count_rule-count_end_block-requires g t c κs within =
    let l = led c.args.side c.args.dump.now c.args.behind c.args.rule.now c.requires.rule c.requires.settled c.requires.within c.requires.room (Row.RunLater c.in-RunLater.target) (sym c.in-RunLater.is ∙ (row_is c.args.side c.args.behind.mode c.row_of.result c.doubtful.result (doubt_in c.args.rule.now.lits) c.kind_of-kind.result (kind c.args.side c.args.rule.now.action) c.row_of.ensures c.doubtful.ensures c.kind_of-kind.ensures)) c.in-RunLater.target (Soft 1) (refl, refl) in
    let small = hardness_small (Soft 1) in
    rw c.led_to-gone-in-RunLater.ensures (omega (arith, l.deep, small, c.decreases), (search rules, (search rules, (l.settled, (l.within, (l.room, c.requires.table))))))

pub count_rule-returns-in-Decide : goal.count_rule-returns-in-Decide
count_rule-returns-in-Decide g t c =
    turn_decided c.args.around c.args.side c.args.dump.now c.args.rule.now c.args.behind c.args.tally.now (record { past = c.args.tally.now.past; total = c.saturating_add-tally.result; ways = c.args.tally.now.ways }) c.in-Decide._accept (sym c.in-Decide.is ∙ (row_is c.args.side c.args.behind.mode c.row_of.result c.doubtful.result (doubt_in c.args.rule.now.lits) c.kind_of-kind.result (kind c.args.side c.args.rule.now.action) c.row_of.ensures c.doubtful.ensures c.kind_of-kind.ensures)) (λ more. over_decide c.args.around (omega (arith, c.ranges.around.fits)) (known_of c.args.rule.now) c.known_literals-literals.result c.known_literals-literals.ensures c.args.tally.now (record { past = c.args.tally.now.past; total = c.saturating_add-tally.result; ways = c.args.tally.now.ways }) c.in-Decide._accept c.saturating_add-whole.result (c.saturating_add-whole.ensures ∙ rw c.saturating_add.ensures refl) refl c.saturating_add-tally.ensures refl more)

pub count_rule-returns-in_ok-leave-in-Leave : goal.count_rule-returns-in_ok-leave-in-Leave
count_rule-returns-in_ok-leave-in-Leave g t c =
    turn_left c.args.around c.args.side c.args.dump.now c.args.rule.now c.args.behind c.args.tally.now c.leave.new.self c.in-Leave.n (sym c.in-Leave.is ∙ (row_is c.args.side c.args.behind.mode c.row_of.result c.doubtful.result (doubt_in c.args.rule.now.lits) c.kind_of-kind.result (kind c.args.side c.args.rule.now.action) c.row_of.ensures c.doubtful.ensures c.kind_of-kind.ensures)) (λ more. over_leave c.args.around (omega (arith, c.ranges.around.fits)) (known_of c.args.rule.now) c.known_literals-literals.result c.known_literals-literals.ensures c.args.tally.now c.leave.new.self c.in-Leave.n c.in_ok-leave-in-Leave.ensures.past c.in_ok-leave-in-Leave.ensures.total c.in_ok-leave-in-Leave.ensures.ways more)

pub count_rule-returns-in_ok-count_and_leave-in-LeaveLater : goal.count_rule-returns-in_ok-count_and_leave-in-LeaveLater
count_rule-returns-in_ok-count_and_leave-in-LeaveLater g t c =
    turn_left_later c.args.around c.args.side c.args.dump.now c.args.rule.now c.args.behind c.args.tally.now c.count_and_leave.new.tally c.softest-rest.result c.softest-rest.ensures (sym c.in-LeaveLater.is ∙ (row_is c.args.side c.args.behind.mode c.row_of.result c.doubtful.result (doubt_in c.args.rule.now.lits) c.kind_of-kind.result (kind c.args.side c.args.rule.now.action) c.row_of.ensures c.doubtful.ensures c.kind_of-kind.ensures)) (λ more. c.in_ok-count_and_leave-in-LeaveLater.ensures (known_of c.args.rule.now) c.known_literals-literals.ensures more)

pub count_rule-returns-in_ok-count_block-in-Run : goal.count_rule-returns-in_ok-count_block-in-Run
count_rule-returns-in_ok-count_block-in-Run g t c =
    turn_ran c.args.around c.args.side c.args.dump.now c.args.rule.now c.args.behind c.args.tally.now c.count_block.new.tally c.in-Run.callee c.in-Run.mode (items_from c.args.side c.args.dump.now c.led_to-called.result) ((led c.args.side c.args.dump.now c.args.behind c.args.rule.now c.requires.rule c.requires.settled c.requires.within c.requires.room (Row.Run c.in-Run.callee c.in-Run.mode) (sym c.in-Run.is ∙ (row_is c.args.side c.args.behind.mode c.row_of.result c.doubtful.result (doubt_in c.args.rule.now.lits) c.kind_of-kind.result (kind c.args.side c.args.rule.now.action) c.row_of.ensures c.doubtful.ensures c.kind_of-kind.ensures)) c.in-Run.callee c.in-Run.mode (refl, refl)).same ∙ ap (items_from c.args.side c.args.dump.now) (sym c.led_to-called.ensures)) (sym c.in-Run.is ∙ (row_is c.args.side c.args.behind.mode c.row_of.result c.doubtful.result (doubt_in c.args.rule.now.lits) c.kind_of-kind.result (kind c.args.side c.args.rule.now.action) c.row_of.ensures c.doubtful.ensures c.kind_of-kind.ensures)) (λ more. c.in_ok-count_block-in-Run.ensures (known_of c.args.rule.now) c.known_literals-literals.ensures more)

pub count_rule-returns-in_ok-count_and_leave-in-RunThenLeave : goal.count_rule-returns-in_ok-count_and_leave-in-RunThenLeave
count_rule-returns-in_ok-count_and_leave-in-RunThenLeave g t c =
    turn_ran_left c.args.around c.args.side c.args.dump.now c.args.rule.now c.args.behind c.args.tally.now c.count_and_leave-in-RunThenLeave.new.tally c.in-RunThenLeave.target c.in-RunThenLeave.mode (items_from c.args.side c.args.dump.now c.led_to-gone.result) ((led c.args.side c.args.dump.now c.args.behind c.args.rule.now c.requires.rule c.requires.settled c.requires.within c.requires.room (Row.RunThenLeave c.in-RunThenLeave.target c.in-RunThenLeave.mode) (sym c.in-RunThenLeave.is ∙ (row_is c.args.side c.args.behind.mode c.row_of.result c.doubtful.result (doubt_in c.args.rule.now.lits) c.kind_of-kind.result (kind c.args.side c.args.rule.now.action) c.row_of.ensures c.doubtful.ensures c.kind_of-kind.ensures)) c.in-RunThenLeave.target c.in-RunThenLeave.mode (refl, refl)).same ∙ ap (items_from c.args.side c.args.dump.now) (sym c.led_to-gone.ensures)) (sym c.in-RunThenLeave.is ∙ (row_is c.args.side c.args.behind.mode c.row_of.result c.doubtful.result (doubt_in c.args.rule.now.lits) c.kind_of-kind.result (kind c.args.side c.args.rule.now.action) c.row_of.ensures c.doubtful.ensures c.kind_of-kind.ensures)) (λ more. c.in_ok-count_and_leave-in-RunThenLeave.ensures (known_of c.args.rule.now) c.known_literals-literals.ensures more)

pub count_rule-returns-in_ok-count_end_block-in-RunLater : goal.count_rule-returns-in_ok-count_end_block-in-RunLater
count_rule-returns-in_ok-count_end_block-in-RunLater g t c =
    turn_ran_later c.args.around c.args.side c.args.dump.now c.args.rule.now c.args.behind c.args.tally.now c.count_end_block.new.tally c.in-RunLater.target (items_from c.args.side c.args.dump.now c.led_to-gone-in-RunLater.result) ((led c.args.side c.args.dump.now c.args.behind c.args.rule.now c.requires.rule c.requires.settled c.requires.within c.requires.room (Row.RunLater c.in-RunLater.target) (sym c.in-RunLater.is ∙ (row_is c.args.side c.args.behind.mode c.row_of.result c.doubtful.result (doubt_in c.args.rule.now.lits) c.kind_of-kind.result (kind c.args.side c.args.rule.now.action) c.row_of.ensures c.doubtful.ensures c.kind_of-kind.ensures)) c.in-RunLater.target (Soft 1) (refl, refl)).same ∙ ap (items_from c.args.side c.args.dump.now) (sym c.led_to-gone-in-RunLater.ensures)) (sym c.in-RunLater.is ∙ (row_is c.args.side c.args.behind.mode c.row_of.result c.doubtful.result (doubt_in c.args.rule.now.lits) c.kind_of-kind.result (kind c.args.side c.args.rule.now.action) c.row_of.ensures c.doubtful.ensures c.kind_of-kind.ensures)) c.count_block-in-RunLater.new.tally c.softest-rest-in-RunLater.result c.softest-rest-in-RunLater.ensures (λ more. c.in_ok-count_block-in-RunLater.ensures (known_of c.args.rule.now) c.known_literals-literals.ensures more) (λ more. c.in_ok-count_end_block-in-RunLater.ensures (known_of c.args.rule.now) c.known_literals-literals.ensures more)

pub count_from-loop-next-init : goal.count_from-loop-next-init
count_from-loop-next-init g t c =
    counted_none c.args.around c.args.side c.args.dump.now c.args.from c.first_item-next.result c.first_item-next.ensures.same c.no_tally-tally.result (record { no_past = c.no_tally-tally.ensures.past; no_total = c.no_tally-tally.ensures.total; no_ways = c.no_tally-tally.ensures.ways })

pub count_from-loop-next-preserved : goal.count_from-loop-next-preserved
count_from-loop-next-preserved g t c =
    counted_more c.args.around c.args.side c.args.dump.now c.args.from c.loop-next.next c.index-rules-next.result (rule_here c.args.dump.now c.args.from.chain c.loop-next.next c.as_slice.result.now c.index-as_slice-from.result c.as_slice-rules.result.now c.as_slice.ensures c.requires.settled c.index-as_slice-from.is c.as_slice-rules.ensures c.index-rules-next.result c.loop-next-test.true c.index-rules-next.is) c.no_tally-tally.result c.loop-next.tally c.count_rule.new.tally c.loop-next.invariant c.first_item-next-in-loop-next.result c.first_item-next-in-loop-next.ensures.same c.in_ok-count_rule.ensures

pub count_from-returns-clause-total : goal.count_from-returns-clause-total
count_from-returns-clause-total g t c =
    (counted_all c.args.around c.args.side c.args.dump.now c.args.from c.loop-next.next c.no_tally-tally.result c.loop-next.tally (rules_over c.args.dump.now c.args.from.chain c.loop-next.next c.as_slice.result.now c.index-as_slice-from.result c.as_slice-rules.result.now c.as_slice.ensures c.requires.settled c.index-as_slice-from.is c.as_slice-rules.ensures c.loop-next-test.false) c.loop-next.invariant).0

pub count_from-returns-clause-ways : goal.count_from-returns-clause-ways
count_from-returns-clause-ways g t c =
    (counted_all c.args.around c.args.side c.args.dump.now c.args.from c.loop-next.next c.no_tally-tally.result c.loop-next.tally (rules_over c.args.dump.now c.args.from.chain c.loop-next.next c.as_slice.result.now c.index-as_slice-from.result c.as_slice-rules.result.now c.as_slice.ensures c.requires.settled c.index-as_slice-from.is c.as_slice-rules.ensures c.loop-next-test.false) c.loop-next.invariant).1
