use Rattle.dump_print.proofs.PortCover.{ports_covered}
use Rattle.dump_print.proofs.laws.ports_are_kept.Goals as goal

pub returns : goal.returns
returns c = λ rs s. ports_covered rs s.1
