use Rattle.std.proofs.Common.{◌+◌, List, length, refl, sym, ◌∙◌, ap, arith, rules}
use Rattle.fw_rule.proofs.Turns.{chain_inside, went}
use Rattle.match_expr.specs.declared.expr.Expr.TheVariants.{All}
use Rattle.fw_rule.specs.Matching.{doubt_in}
use Rattle.rewriting.specs.declared.rows.Mode.TheVariants.{Soft}
use Rattle.rewriting.specs.declared.rows.Row.{Row}
use Rattle.closure.specs.Rewriting.{to_the_end}
use Rattle.rewriting.specs.Table.{kind}
use Rattle.closure.specs.inner.Items.{items_from}
use Rattle.closure.proofs.RowLemmas.{row_is}
use Rattle.closure.proofs.FlatLemmas.{hardness_small, within_some, led, stands_here, rule_here, rules_over}
use Rattle.closure.proofs.Handing.{moved, blind_done, end_settled, end_gone, over_block, settled_block, over_both, settled_both, turn_decided, turn_left, turn_left_later, turn_ran, turn_ran_left, turn_later_settled, turn_ran_later, handed_none, handed_more, handed_settled, handed_all, silent_from, silent_past, nothing_behind}
use Rattle.closure.proofs.streaming.+streaming.Goals as goal

pub pass_and_leave-returns-then-not-branch : goal.pass_and_leave-returns-then-not-branch
pass_and_leave-returns-then-not-branch g t c =
    settled_both g.K.Sink.given g.S.State.left c.args.needs c.args.e.now (items_from c.args.side c.args.dump.now c.args.block) c.args.out.now c.pass_block.new.out c.args.passed.now c.pass_block.new.passed (rw c.if-not-branch.true at c.in_ok-pass_block.ensures)

pub pass_and_leave-returns : goal.pass_and_leave-returns
pass_and_leave-returns g t c =
    over_both g.K.Sink.given g.S.State.left c.args.needs c.args.e.now (items_from c.args.side c.args.dump.now c.args.block) c.args.out.now c.pass_block.new.out c.args.passed.now c.pass_block.new.passed c.leave.new.self (rw c.if-not-branch.false at c.in_ok-pass_block.ensures) c.in_ok-leave.ensures.state c.in_ok-leave.ensures.past c.in_ok-leave.ensures.found

pub pass_block-returns-in_ok-run-in-Some : goal.pass_block-returns-in_ok-run-in-Some
pass_block-returns-in_ok-run-in-Some g t c =
    over_block g.K.Sink.given g.S.State.left c.args.needs c.args.e.now (items_from c.args.side c.args.dump.now c.args.block) c.args.out.now c.stream_from.new.out c.args.passed.now
    c.in_ok-inside.inside c.in_ok-inside.ensures c.in_ok-escapes.ensures.states c.any.result c.any.ensures.escapes c.any.ensures.state
    c.in-Some.escapes.items (rw c.in-Some.is at c.in_ok-escapes.ensures.escapes) c.run.new.self c.in_ok-run-in-Some.ensures.state c.in_ok-run-in-Some.ensures.past c.in_ok-run-in-Some.ensures.found

pub pass_block-returns-in-None : goal.pass_block-returns-in-None
pass_block-returns-in-None g t c =
    settled_block g.K.Sink.given g.S.State.left c.args.needs c.args.e.now (items_from c.args.side c.args.dump.now c.args.block) c.args.out.now c.stream_from.new.out c.args.passed.now
    c.in_ok-inside.inside c.in_ok-inside.ensures c.in_ok-escapes.ensures.states c.args.passed.now (rw c.in-None.is at c.in_ok-escapes.ensures.escapes)

pub pass_rule-row_of-requires : goal.pass_rule-row_of-requires
pass_rule-row_of-requires g t c = let h = within_some c.args.dump.now c.args.behind.depth c.args.behind.chain c.requires.within in omega (arith, h, c.requires.room)

pub pass_rule-returns-in-Decide : goal.pass_rule-returns-in-Decide
pass_rule-returns-in-Decide g t c =
    turn_decided g.K.Sink.given g.S.State.left c.args.side c.args.dump.now c.args.rule.now c.args.behind c.in_ok-e.field-0 c.in_ok-e.ensures.is c.args.needs c.requires.silent c.requires.last c.in-Decide.accept (sym c.in-Decide.is ∙ (row_is c.args.side c.args.behind.mode c.row_of.result c.doubtful.result (doubt_in c.args.rule.now.lits) c.kind_of-kind.result (kind c.args.side c.args.rule.now.action) c.row_of.ensures c.doubtful.ensures c.kind_of-kind.ensures)) c.is_settled.result c.args.out.now c.put_cut.new.self c.args.passed.now c.is_settled.ensures c.in_ok-put_cut-in-Decide.ensures

pub pass_rule-returns-in-Leave : goal.pass_rule-returns-in-Leave
pass_rule-returns-in-Leave g t c =
    turn_left g.K.Sink.given g.S.State.left c.args.side c.args.dump.now c.args.rule.now c.args.behind c.in_ok-e.field-0 c.in_ok-e.ensures.is c.args.needs c.requires.silent c.requires.last c.in-Leave.n (sym c.in-Leave.is ∙ (row_is c.args.side c.args.behind.mode c.row_of.result c.doubtful.result (doubt_in c.args.rule.now.lits) c.kind_of-kind.result (kind c.args.side c.args.rule.now.action) c.row_of.ensures c.doubtful.ensures c.kind_of-kind.ensures)) c.args.out.now c.args.passed.now c.leave.new.self c.in_ok-leave-in-Leave.ensures.state c.in_ok-leave-in-Leave.ensures.past c.in_ok-leave-in-Leave.ensures.found

pub pass_rule-returns-in-LeaveLater : goal.pass_rule-returns-in-LeaveLater
pass_rule-returns-in-LeaveLater g t c =
    went _ _ c.pass_and_leave.result (λ on h. turn_left_later g.K.Sink.given g.S.State.left c.args.side c.args.dump.now c.args.rule.now c.args.behind c.in_ok-e.field-0 c.in_ok-e.ensures.is c.args.needs c.requires.silent c.requires.last (sym c.in-LeaveLater.is ∙ (row_is c.args.side c.args.behind.mode c.row_of.result c.doubtful.result (doubt_in c.args.rule.now.lits) c.kind_of-kind.result (kind c.args.side c.args.rule.now.action) c.row_of.ensures c.doubtful.ensures c.kind_of-kind.ensures)) on c.args.out.now c.pass_and_leave.new.out c.args.passed.now c.pass_and_leave.new.passed (rw c.softest-rest.ensures at h)) c.pass_and_leave.ensures

pub pass_rule-led_to-called-requires : goal.pass_rule-led_to-called-requires
pass_rule-led_to-called-requires g t c = within_some c.args.dump.now c.args.behind.depth c.args.behind.chain c.requires.within

pub pass_rule-pass_block-requires : goal.pass_rule-pass_block-requires
pass_rule-pass_block-requires g t c κs within =
    let l = led c.args.side c.args.dump.now c.args.behind c.args.rule.now c.requires.rule c.requires.settled c.requires.within c.requires.room (Row.Run c.in-Run.callee c.in-Run.mode) (sym c.in-Run.is ∙ (row_is c.args.side c.args.behind.mode c.row_of.result c.doubtful.result (doubt_in c.args.rule.now.lits) c.kind_of-kind.result (kind c.args.side c.args.rule.now.action) c.row_of.ensures c.doubtful.ensures c.kind_of-kind.ensures)) c.in-Run.callee c.in-Run.mode (refl, refl) in
    let small = hardness_small c.in-Run.mode in
    rw c.led_to-called.ensures (omega (arith, l.deep, small, c.decreases), (search rules, (search rules, (search rules, (search rules, (l.settled, (l.within, (l.room, (c.requires.skips, c.requires.ends)))))))))

pub pass_rule-returns-in-Run : goal.pass_rule-returns-in-Run
pass_rule-returns-in-Run g t c =
    went _ _ c.pass_block.result (λ on h. turn_ran g.K.Sink.given g.S.State.left c.args.side c.args.dump.now c.args.rule.now c.args.behind c.in_ok-e.field-0 c.in_ok-e.ensures.is c.args.needs c.requires.silent c.requires.last c.in-Run.callee c.in-Run.mode (items_from c.args.side c.args.dump.now c.led_to-called.result) ((led c.args.side c.args.dump.now c.args.behind c.args.rule.now c.requires.rule c.requires.settled c.requires.within c.requires.room (Row.Run c.in-Run.callee c.in-Run.mode) (sym c.in-Run.is ∙ (row_is c.args.side c.args.behind.mode c.row_of.result c.doubtful.result (doubt_in c.args.rule.now.lits) c.kind_of-kind.result (kind c.args.side c.args.rule.now.action) c.row_of.ensures c.doubtful.ensures c.kind_of-kind.ensures)) c.in-Run.callee c.in-Run.mode (refl, refl)).same ∙ ap (items_from c.args.side c.args.dump.now) (sym c.led_to-called.ensures)) on c.args.out.now c.pass_block.new.out c.args.passed.now c.pass_block.new.passed (sym c.in-Run.is ∙ (row_is c.args.side c.args.behind.mode c.row_of.result c.doubtful.result (doubt_in c.args.rule.now.lits) c.kind_of-kind.result (kind c.args.side c.args.rule.now.action) c.row_of.ensures c.doubtful.ensures c.kind_of-kind.ensures)) h) c.pass_block.ensures

pub pass_rule-led_to-gone-requires : goal.pass_rule-led_to-gone-requires
pass_rule-led_to-gone-requires g t c = within_some c.args.dump.now c.args.behind.depth c.args.behind.chain c.requires.within

pub pass_rule-pass_and_leave-requires-in-RunThenLeave : goal.pass_rule-pass_and_leave-requires-in-RunThenLeave
pass_rule-pass_and_leave-requires-in-RunThenLeave g t c κs within =
    let l = led c.args.side c.args.dump.now c.args.behind c.args.rule.now c.requires.rule c.requires.settled c.requires.within c.requires.room (Row.RunThenLeave c.in-RunThenLeave.target c.in-RunThenLeave.mode) (sym c.in-RunThenLeave.is ∙ (row_is c.args.side c.args.behind.mode c.row_of.result c.doubtful.result (doubt_in c.args.rule.now.lits) c.kind_of-kind.result (kind c.args.side c.args.rule.now.action) c.row_of.ensures c.doubtful.ensures c.kind_of-kind.ensures)) c.in-RunThenLeave.target c.in-RunThenLeave.mode (refl, refl) in
    let small = hardness_small c.in-RunThenLeave.mode in
    rw c.led_to-gone.ensures (omega (arith, l.deep, small, c.decreases), (search rules, (search rules, (search rules, (search rules, (l.settled, (l.within, (l.room, (c.requires.skips, c.requires.ends)))))))))

pub pass_rule-returns-in-RunThenLeave : goal.pass_rule-returns-in-RunThenLeave
pass_rule-returns-in-RunThenLeave g t c =
    went _ _ c.pass_and_leave-in-RunThenLeave.result (λ on h. turn_ran_left g.K.Sink.given g.S.State.left c.args.side c.args.dump.now c.args.rule.now c.args.behind c.in_ok-e.field-0 c.in_ok-e.ensures.is c.args.needs c.requires.silent c.requires.last c.in-RunThenLeave.target c.in-RunThenLeave.mode (items_from c.args.side c.args.dump.now c.led_to-gone.result) ((led c.args.side c.args.dump.now c.args.behind c.args.rule.now c.requires.rule c.requires.settled c.requires.within c.requires.room (Row.RunThenLeave c.in-RunThenLeave.target c.in-RunThenLeave.mode) (sym c.in-RunThenLeave.is ∙ (row_is c.args.side c.args.behind.mode c.row_of.result c.doubtful.result (doubt_in c.args.rule.now.lits) c.kind_of-kind.result (kind c.args.side c.args.rule.now.action) c.row_of.ensures c.doubtful.ensures c.kind_of-kind.ensures)) c.in-RunThenLeave.target c.in-RunThenLeave.mode (refl, refl)).same ∙ ap (items_from c.args.side c.args.dump.now) (sym c.led_to-gone.ensures)) on c.args.out.now c.pass_and_leave-in-RunThenLeave.new.out c.args.passed.now c.pass_and_leave-in-RunThenLeave.new.passed (sym c.in-RunThenLeave.is ∙ (row_is c.args.side c.args.behind.mode c.row_of.result c.doubtful.result (doubt_in c.args.rule.now.lits) c.kind_of-kind.result (kind c.args.side c.args.rule.now.action) c.row_of.ensures c.doubtful.ensures c.kind_of-kind.ensures)) h) c.pass_and_leave-in-RunThenLeave.ensures

pub pass_rule-returns-then-not-branch : goal.pass_rule-returns-then-not-branch
pass_rule-returns-then-not-branch g t c =
    turn_later_settled g.K.Sink.given g.S.State.left c.args.side c.args.dump.now c.args.rule.now c.args.behind c.in_ok-e.field-0 c.in_ok-e.ensures.is c.args.needs c.requires.silent c.requires.last c.in-RunLater.target (sym c.in-RunLater.is ∙ (row_is c.args.side c.args.behind.mode c.row_of.result c.doubtful.result (doubt_in c.args.rule.now.lits) c.kind_of-kind.result (kind c.args.side c.args.rule.now.action) c.row_of.ensures c.doubtful.ensures c.kind_of-kind.ensures)) c.before_more-both.result c.before_more-both.ensures.escapes c.before_more-both.ensures.past c.before_more-both.ensures.state c.softest-rest-in-RunLater.result c.softest-rest-in-RunLater.ensures c.in_ok-pass_block-in-RunLater.field-0 c.if-not-branch.true c.args.out.now c.pass_block-in-RunLater.new.out c.args.passed.now c.pass_block-in-RunLater.new.passed c.in_ok-pass_block-in-RunLater.ensures

pub pass_rule-led_to-gone-requires-in-RunLater : goal.pass_rule-led_to-gone-requires-in-RunLater
pass_rule-led_to-gone-requires-in-RunLater g t c = within_some c.args.dump.now c.args.behind.depth c.args.behind.chain c.requires.within

pub pass_rule-pass_to_the_end-requires : goal.pass_rule-pass_to_the_end-requires
pass_rule-pass_to_the_end-requires g t c κs within =
    let l = led c.args.side c.args.dump.now c.args.behind c.args.rule.now c.requires.rule c.requires.settled c.requires.within c.requires.room (Row.RunLater c.in-RunLater.target) (sym c.in-RunLater.is ∙ (row_is c.args.side c.args.behind.mode c.row_of.result c.doubtful.result (doubt_in c.args.rule.now.lits) c.kind_of-kind.result (kind c.args.side c.args.rule.now.action) c.row_of.ensures c.doubtful.ensures c.kind_of-kind.ensures)) c.in-RunLater.target (Soft 1) (refl, refl) in
    let small = hardness_small (Soft 1) in
    rw c.led_to-gone-in-RunLater.ensures (omega (arith, l.deep, small, c.decreases), (search rules, (search rules, (search rules, (search rules, (l.settled, (l.within, (l.room, (c.requires.skips, c.requires.ends)))))))))

pub pass_rule-returns : goal.pass_rule-returns
pass_rule-returns g t c =
    went _ _ c.pass_to_the_end.result (λ on h. turn_ran_later g.K.Sink.given g.S.State.left c.args.side c.args.dump.now c.args.rule.now c.args.behind c.in_ok-e.field-0 c.in_ok-e.ensures.is c.args.needs c.requires.silent c.requires.last c.in-RunLater.target (sym c.in-RunLater.is ∙ (row_is c.args.side c.args.behind.mode c.row_of.result c.doubtful.result (doubt_in c.args.rule.now.lits) c.kind_of-kind.result (kind c.args.side c.args.rule.now.action) c.row_of.ensures c.doubtful.ensures c.kind_of-kind.ensures)) c.before_more-both.result c.before_more-both.ensures.escapes c.before_more-both.ensures.past c.before_more-both.ensures.state (items_from c.args.side c.args.dump.now c.led_to-gone-in-RunLater.result) ((led c.args.side c.args.dump.now c.args.behind c.args.rule.now c.requires.rule c.requires.settled c.requires.within c.requires.room (Row.RunLater c.in-RunLater.target) (sym c.in-RunLater.is ∙ (row_is c.args.side c.args.behind.mode c.row_of.result c.doubtful.result (doubt_in c.args.rule.now.lits) c.kind_of-kind.result (kind c.args.side c.args.rule.now.action) c.row_of.ensures c.doubtful.ensures c.kind_of-kind.ensures)) c.in-RunLater.target (Soft 1) (refl, refl)).same ∙ ap (items_from c.args.side c.args.dump.now) (sym c.led_to-gone-in-RunLater.ensures)) on c.args.out.now c.pass_block-in-RunLater.new.out c.pass_to_the_end.new.out c.args.passed.now c.pass_block-in-RunLater.new.passed c.pass_to_the_end.new.passed (rw c.softest-rest-in-RunLater.ensures at (rw c.if-not-branch.false at c.in_ok-pass_block-in-RunLater.ensures)) h) c.pass_to_the_end.ensures

pub pass_to_the_end-returns-in_ok-run-in-Some : goal.pass_to_the_end-returns-in_ok-run-in-Some
pass_to_the_end-returns-in_ok-run-in-Some g t c =
    over_block g.K.Sink.given g.S.State.left c.args.needs c.args.e.now (to_the_end (items_from c.args.side c.args.dump.now c.args.block)) c.args.out.now c.stream_to_the_end.new.out c.args.passed.now
    c.in_ok-inside.inside c.in_ok-inside.ensures c.in_ok-escapes.ensures.states c.any.result c.any.ensures.escapes c.any.ensures.state
    c.in-Some.escapes.items (rw c.in-Some.is at c.in_ok-escapes.ensures.escapes) c.run.new.self c.in_ok-run-in-Some.ensures.state c.in_ok-run-in-Some.ensures.past c.in_ok-run-in-Some.ensures.found

pub pass_to_the_end-returns-in-None : goal.pass_to_the_end-returns-in-None
pass_to_the_end-returns-in-None g t c =
    settled_block g.K.Sink.given g.S.State.left c.args.needs c.args.e.now (to_the_end (items_from c.args.side c.args.dump.now c.args.block)) c.args.out.now c.stream_to_the_end.new.out c.args.passed.now
    c.in_ok-inside.inside c.in_ok-inside.ensures c.in_ok-escapes.ensures.states c.args.passed.now (rw c.in-None.is at c.in_ok-escapes.ensures.escapes)

pub stream_from-bounds-as_slice-from : goal.stream_from-bounds-as_slice-from
stream_from-bounds-as_slice-from g t c = let h = chain_inside c.args.dump.now c.args.from.chain c.requires.settled in omega (arith, h, ap length c.as_slice.ensures)

pub stream_from-end_of-end-requires-clause-inside : goal.stream_from-end_of-end-requires-clause-inside
stream_from-end_of-end-requires-clause-inside g t c = chain_inside c.args.dump.now c.args.from.chain c.requires.settled

pub stream_from-first_item-next-requires-clause-inside : goal.stream_from-first_item-next-requires-clause-inside
stream_from-first_item-next-requires-clause-inside g t c = chain_inside c.args.dump.now c.args.from.chain c.requires.settled

pub stream_from-loop-next-init : goal.stream_from-loop-next-init
stream_from-loop-next-init g t c =
    handed_none g.K.Sink.given g.S.State.left c.args.side c.args.dump.now c.args.from c.args.wanted c.args.start c.first_item-next.result c.first_item-next.ensures.same c.args.out.now
    (record { state = c.args.start; past = c.new.result; found = c.new-2.result }) refl c.new.ensures.items c.new-2.ensures.items

pub stream_from-first_item-after-requires-clause-inside : goal.stream_from-first_item-after-requires-clause-inside
stream_from-first_item-after-requires-clause-inside g t c = chain_inside c.args.dump.now c.args.from.chain c.requires.settled

pub stream_from-pass_rule-requires : goal.stream_from-pass_rule-requires
stream_from-pass_rule-requires g t c κs within = (
  omega (arith, c.decreases),
  (
    search rules,
    (
      search rules,
      (
        search rules,
        (
          search rules,
          (
            c.requires.settled,
            (
              c.requires.within,
              (
                c.requires.room,
                (
                  c.requires.skips,
                  (
                    c.requires.ends,
                    (
                      stands_here c.args.dump.now c.args.from.chain c.loop-next.next c.as_slice.result.now c.index-as_slice-from.result c.as_slice-rules.result.now c.as_slice.ensures c.requires.settled c.index-as_slice-from.is c.as_slice-rules.ensures c.index-rules-next.result (omega (arith, c.loop-next-test.true, c.stop_of-stop.ensures.inside)) c.index-rules-next.is,
                      (
                        λ f. silent_from c.args.side c.args.dump.now c.args.from c.end_of-end.result (c.loop-next.next + 1) c.end_of-end.ensures (c.needs_of-needs.ensures.state f),
                        λ f. blind_done (items_from c.args.side c.args.dump.now (moved c.args.from (c.loop-next.next + 1) c.args.from.mode))
                            (nothing_behind c.args.side c.args.dump.now c.args.from (c.loop-next.next + 1) c.first_item-after.result c.first_item-after.ensures.same
                            (rules_over c.args.dump.now c.args.from.chain c.first_item-after.result c.as_slice.result.now c.index-as_slice-from.result c.as_slice-rules.result.now c.as_slice.ensures c.requires.settled c.index-as_slice-from.is c.as_slice-rules.ensures (c.needs_of-needs.ensures.past f))),
                      ),
                    ),
                  ),
                ),
              ),
            ),
          ),
        ),
      ),
    ),
  ),
)

pub stream_from-returns-then-not-branch-clause-states : goal.stream_from-returns-then-not-branch-clause-states
stream_from-returns-then-not-branch-clause-states g t c =
    (handed_settled g.K.Sink.given g.S.State.left c.args.side c.args.dump.now c.args.from c.args.wanted c.args.start c.loop-next.next c.index-rules-next.result (rule_here c.args.dump.now c.args.from.chain c.loop-next.next c.as_slice.result.now c.index-as_slice-from.result c.as_slice-rules.result.now c.as_slice.ensures c.requires.settled c.index-as_slice-from.is c.as_slice-rules.ensures c.index-rules-next.result (omega (arith, c.loop-next-test.true, c.stop_of-stop.ensures.inside)) c.index-rules-next.is) c.needs_of-needs.result.escapes c.needs_of-needs.ensures.escapes c.args.out.now c.loop-next.out c.pass_rule.new.out (record { state = c.args.start; past = c.new.result; found = c.new-2.result }) c.loop-next.passed c.pass_rule.new.passed c.loop-next.invariant c.in_ok-pass_rule.field-0 c.if-not-branch.true c.in_ok-pass_rule.ensures).1

pub stream_from-loop-next-preserved : goal.stream_from-loop-next-preserved
stream_from-loop-next-preserved g t c =
    handed_more g.K.Sink.given g.S.State.left c.args.side c.args.dump.now c.args.from c.args.wanted c.args.start c.loop-next.next c.index-rules-next.result (rule_here c.args.dump.now c.args.from.chain c.loop-next.next c.as_slice.result.now c.index-as_slice-from.result c.as_slice-rules.result.now c.as_slice.ensures c.requires.settled c.index-as_slice-from.is c.as_slice-rules.ensures c.index-rules-next.result (omega (arith, c.loop-next-test.true, c.stop_of-stop.ensures.inside)) c.index-rules-next.is) c.needs_of-needs.result.escapes c.needs_of-needs.ensures.escapes c.args.out.now c.loop-next.out c.pass_rule.new.out (record { state = c.args.start; past = c.new.result; found = c.new-2.result }) c.loop-next.passed c.pass_rule.new.passed c.loop-next.invariant c.in_ok-pass_rule.field-0 c.if-not-branch.false c.first_item-after.result c.first_item-after.ensures.same c.in_ok-pass_rule.ensures

pub stream_from-returns-clause-states : goal.stream_from-returns-clause-states
stream_from-returns-clause-states g t c =
    (handed_all g.K.Sink.given g.S.State.left c.args.side c.args.dump.now c.args.from c.args.wanted c.args.start c.loop-next.next c.args.out.now c.loop-next.out (record { state = c.args.start; past = c.new.result; found = c.new-2.result }) c.loop-next.passed
    (silent_past c.args.side c.args.dump.now c.args.from c.end_of-end.result c.stop_of-stop.result (length c.as_slice-rules.result.now) c.loop-next.next c.end_of-end.ensures c.stop_of-stop.ensures.inside c.stop_of-stop.ensures.rest c.loop-next-test.false (rules_over c.args.dump.now c.args.from.chain c.loop-next.next c.as_slice.result.now c.index-as_slice-from.result c.as_slice-rules.result.now c.as_slice.ensures c.requires.settled c.index-as_slice-from.is c.as_slice-rules.ensures))
    (λ w. rules_over c.args.dump.now c.args.from.chain c.loop-next.next c.as_slice.result.now c.index-as_slice-from.result c.as_slice-rules.result.now c.as_slice.ensures c.requires.settled c.index-as_slice-from.is c.as_slice-rules.ensures (let all = c.stop_of-stop.ensures.all w in omega (arith, all, c.loop-next-test.false))) c.loop-next.invariant).0

pub stream_from-returns-clause-escapes : goal.stream_from-returns-clause-escapes
stream_from-returns-clause-escapes g t c =
    (handed_all g.K.Sink.given g.S.State.left c.args.side c.args.dump.now c.args.from c.args.wanted c.args.start c.loop-next.next c.args.out.now c.loop-next.out (record { state = c.args.start; past = c.new.result; found = c.new-2.result }) c.loop-next.passed
    (silent_past c.args.side c.args.dump.now c.args.from c.end_of-end.result c.stop_of-stop.result (length c.as_slice-rules.result.now) c.loop-next.next c.end_of-end.ensures c.stop_of-stop.ensures.inside c.stop_of-stop.ensures.rest c.loop-next-test.false (rules_over c.args.dump.now c.args.from.chain c.loop-next.next c.as_slice.result.now c.index-as_slice-from.result c.as_slice-rules.result.now c.as_slice.ensures c.requires.settled c.index-as_slice-from.is c.as_slice-rules.ensures))
    (λ w. rules_over c.args.dump.now c.args.from.chain c.loop-next.next c.as_slice.result.now c.index-as_slice-from.result c.as_slice-rules.result.now c.as_slice.ensures c.requires.settled c.index-as_slice-from.is c.as_slice-rules.ensures (let all = c.stop_of-stop.ensures.all w in omega (arith, all, c.loop-next-test.false))) c.loop-next.invariant).1

pub stream_to_the_end-returns-then-not-branch-clause-states : goal.stream_to_the_end-returns-then-not-branch-clause-states
stream_to_the_end-returns-then-not-branch-clause-states g t c =
    (end_settled g.K.Sink.given g.S.State.left c.args.wanted (All c.from_vec.result) (ap (λ (es : List _). All es) (c.from_vec.ensures ∙ c.new.ensures.items)) (items_from c.args.side c.args.dump.now c.args.from) c.args.out.now c.pass_block.new.out (record { state = c.args.start; past = c.new-2.result; found = c.new-3.result }) c.pass_block.new.passed (rw c.if-not-branch.true at c.in_ok-pass_block.ensures)).1

pub stream_to_the_end-returns-then-not-branch-clause-escapes : goal.stream_to_the_end-returns-then-not-branch-clause-escapes
stream_to_the_end-returns-then-not-branch-clause-escapes g t c =
    (end_settled g.K.Sink.given g.S.State.left c.args.wanted (All c.from_vec.result) (ap (λ (es : List _). All es) (c.from_vec.ensures ∙ c.new.ensures.items)) (items_from c.args.side c.args.dump.now c.args.from) c.args.out.now c.pass_block.new.out (record { state = c.args.start; past = c.new-2.result; found = c.new-3.result }) c.pass_block.new.passed (rw c.if-not-branch.true at c.in_ok-pass_block.ensures)).0

pub stream_to_the_end-returns-clause-states : goal.stream_to_the_end-returns-clause-states
stream_to_the_end-returns-clause-states g t c =
    (end_gone g.K.Sink.given g.S.State.left c.args.wanted (All c.from_vec.result) (ap (λ (es : List _). All es) (c.from_vec.ensures ∙ c.new.ensures.items)) (items_from c.args.side c.args.dump.now c.args.from) c.args.out.now c.pass_block.new.out (record { state = c.args.start; past = c.new-2.result; found = c.new-3.result }) c.pass_block.new.passed (rw c.if-not-branch.false at c.in_ok-pass_block.ensures) c.leave.new.self c.in_ok-leave.ensures.past c.in_ok-leave.ensures.found c.new-2.ensures.items c.new-3.ensures.items).0

pub stream_to_the_end-returns-clause-escapes : goal.stream_to_the_end-returns-clause-escapes
stream_to_the_end-returns-clause-escapes g t c =
    (end_gone g.K.Sink.given g.S.State.left c.args.wanted (All c.from_vec.result) (ap (λ (es : List _). All es) (c.from_vec.ensures ∙ c.new.ensures.items)) (items_from c.args.side c.args.dump.now c.args.from) c.args.out.now c.pass_block.new.out (record { state = c.args.start; past = c.new-2.result; found = c.new-3.result }) c.pass_block.new.passed (rw c.if-not-branch.false at c.in_ok-pass_block.ensures) c.leave.new.self c.in_ok-leave.ensures.past c.in_ok-leave.ensures.found c.new-2.ensures.items c.new-3.ensures.items).1
