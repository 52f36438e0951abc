use Rattle.std.proofs.Common.{◌≡◌, ◌++◌, ◌∙◌, ap, rules, subst, sym}
use Rattle.fw_rule.specs.Walk.{Here}
use Rattle.explain.proofs.ExplainLemmas.{within_deepest}
use Rattle.region_queries.specs.Visits.{AreVisits}
use Rattle.region_queries.proofs.DeadLemmas.{are_few, check_refused, many_visits}
use Rattle.region_queries.proofs.dying.dead.Goals as goal

pub list_chain-requires-clause-settled : goal.list_chain-requires-clause-settled
list_chain-requires-clause-settled g c = (c.args.chain, (c.in_ok-ranked.ensures.passes c.requires.policy.0 c.requires.policy.1).settled, Here)

pub list_chain-requires-clause-within : goal.list_chain-requires-clause-within
list_chain-requires-clause-within g c =
    within_deepest c.args.dump.now c.args.chain c.in_ok-ranked.ranked (c.in_ok-ranked.ensures.passes c.requires.policy.0 c.requires.policy.1).settled c.in_ok-ranked.ensures.ranked

pub answers_of-requires : goal.answers_of-requires
answers_of-requires g c =
    let checked = c.in_ok-ranked.ensures.passes c.requires.policy.0 c.requires.policy.1 in
    let there = c.in_ok-list_chain.ensures in
    let items : c.list_chain.new.visits.items ≡ there.0 = there.1 ∙ ap (λ (xs : _). xs ++ there.0) c.new-paths.ensures.items in (
      search rules,
      (
        c.requires.width,
        (
          record { checked = checked; few = are_few c.args.dump.now c.args.chain c.in_ok-ranked.ranked c.in_ok-ranked.ensures.ranked c.if-ranked-gt-MOST_LISTED_VISITS.false },
          (
            within_deepest c.args.dump.now c.args.chain c.in_ok-ranked.ranked checked.settled c.in_ok-ranked.ensures.ranked,
            (c.requires.room, (c.requires.few, (c.requires.named, subst (AreVisits c.args.dump.now c.args.chain) (sym items) there.2))),
          ),
        ),
      ),
    )
