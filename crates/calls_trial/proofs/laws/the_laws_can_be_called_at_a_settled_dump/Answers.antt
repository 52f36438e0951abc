use Rattle.std.proofs.Common.{arith}
use Rattle.fw_laws.proofs.LoneChain.{lone_settled}
use Rattle.calls_trial.proofs.laws.the_laws_can_be_called_at_a_settled_dump.Goals as goal

pub hiding_narrows_must-requires : goal.hiding_narrows_must-requires
hiding_narrows_must-requires c = (omega arith, lone_settled c.in_ok-dump.dump c.in_ok-dump.ensures)
