use Rattle.fw_laws.proofs.LoneChain.{lone_settled}
use Rattle.filter_trial.proofs.laws.the_laws_can_be_called_at_a_settled_dump.Goals as goal

pub exactly_one_verdict-requires : goal.exactly_one_verdict-requires
exactly_one_verdict-requires c = lone_settled c.in_ok-dump.dump c.in_ok-dump.ensures

pub hiding_narrows_must-requires : goal.hiding_narrows_must-requires
hiding_narrows_must-requires c = lone_settled c.in_ok-dump.dump c.in_ok-dump.ensures

pub dropped_or_accepted-requires : goal.dropped_or_accepted-requires
dropped_or_accepted-requires c = lone_settled c.in_ok-dump.dump c.in_ok-dump.ensures
