use Rattle.std.proofs.Common.{◌≡◌, ◌∙◌, map}
use Rattle.fw_rule.specs.declared.side.Side.{Side}
use Rattle.region_queries.specs.Refusals.{simple_rules}
use Rattle.region_queries.specs.Search.{turned, turned_policy}
use Rattle.region_queries.proofs.MeaningLemmas.{right}
use Rattle.region_queries.proofs.covering.cover.Goals as goal

pub returns-in-Ok-clause-right : goal.returns-in-Ok-clause-right
returns-in-Ok-clause-right g c =
    let of_first : c.as_slice.result.now ≡ simple_rules c.args.first.now c.args.first_chain Side.Upper = c.as_slice.ensures ∙ c.in_ok-rules.ensures.rules in
    let of_second : c.as_slice-2.result.now ≡ map turned (simple_rules c.args.second.now c.args.second_chain Side.Lower) = c.as_slice-2.ensures ∙ c.in_ok-against.ensures.rules in
    let other : c.turned_policy-other.result ≡ turned_policy c.settled_policy.result = c.turned_policy-other.ensures in
    right c.args.first.now c.args.first_chain c.args.second.now c.args.second_chain c.settled_policy-policy.result c.settled_policy.result
    c.in_ok-rules.ensures.meant c.in_ok-against.ensures.meant c.settled_policy-policy.ensures c.settled_policy.ensures c.in-Ok.answer
    (rw (of_second, of_first, other) at c.in-Ok.ensures.answers)
