use Rattle.printed_filter.proofs.Whole.{means}
use Rattle.printed_filter.proofs.means_its_rules.Goals as goal

pub returns : goal.returns
returns g c = means c.args.chain.now c.args.policy c.args.rules.now c.requires c.flags_are_kept.ensures c.ports_are_kept.ensures
