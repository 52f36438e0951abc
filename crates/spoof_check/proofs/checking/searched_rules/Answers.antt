use Rattle.std.proofs.Common.{IfErr, rules, subst}
use Rattle.std.proofs.lemmas.Result.{IfOk-weaker}
use Rattle.primitives.specs.declared.prim.Prim_.{Prim_}
use Rattle.fw_rule.specs.declared.rule.Dump.{Dump}
use Rattle.fw_rule.specs.declared.side.Side.{Side}
use Rattle.simple_filter.specs.Closed.{RefusesClosed}
use Rattle.spoof_check.proofs.ForgedLemmas.{meaning_there, named_there, policy_there, room_there}
use Rattle.spoof_check.proofs.checking.searched_rules.Goals as goal

pub closed-requires : goal.closed-requires
closed-requires g c =
    let stay = c.hiding_keeps_calls.ensures in
    let same = c.in_ok-hidden.ensures in (
      search rules,
      (
        search rules,
        (
          c.requires.width,
          (
            policy_there c.args.dump.now stay c.args.chain c.in_ok-hidden.hidden same c.requires.policy,
            (
              room_there c.args.dump.now stay c.args.chain c.in_ok-hidden.hidden same c.requires.room,
              named_there c.args.dump.now stay c.args.chain c.in_ok-hidden.hidden same c.requires.named,
            ),
          ),
        ),
      ),
    )

pub returns-clause-meaning : goal.returns-clause-meaning
returns-clause-meaning g c =
    IfOk-weaker c.closed.result _ _ (λ rules h. meaning_there c.args.dump.now c.hiding_keeps_calls.ensures c.args.chain c.in_ok-hidden.hidden c.in_ok-hidden.ensures rules h) c.closed.ensures.meaning

pub returns-clause-refused : goal.returns-clause-refused
returns-clause-refused g c = subst (λ (d : Dump (Prim_ g.row.W)). IfErr c.closed.result (RefusesClosed d c.args.chain Side.Upper)) c.in_ok-hidden.ensures c.closed.ensures.refused
