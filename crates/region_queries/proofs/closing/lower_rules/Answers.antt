use Rattle.std.proofs.Common.{subst}
use Rattle.fw_rule.specs.declared.side.Side.{Side as ASide}
use Rattle.simple_filter.specs.Closed.{Accepts}
use Rattle.region_queries.proofs.closing.lower_rules.Goals as goal

pub returns-in-Ok-clause-meant : goal.returns-in-Ok-clause-meant
returns-in-Ok-clause-meant g c = record {
  closed = (c.in-Ok.ensures.checked, c.in-Ok.ensures.small);
  means = λ policy is. subst (Accepts ASide.Lower c.args.dump.now c.args.chain policy) c.in-Ok.ensures.rules (c.in-Ok.ensures.meaning policy is);
}
