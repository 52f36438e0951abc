use Rattle.fw_rule.specs.Hiding.{hidden_literal}
use Rattle.fw_laws.proofs.Mapping as laws
use Rattle.simple_filter.specs.Hidden.{hides}
use Rattle.simple_filter.proofs.laws.hiding_keeps_settled.Goals as goal

pub returns : goal.returns
returns g c hide = laws.settled_stays c.args.dump.now (hidden_literal (hides hide))
