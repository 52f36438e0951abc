use Rattle.dump_print.proofs.FlagCover.{flags_covered}
use Rattle.dump_print.proofs.laws.flags_are_kept.Goals as goal

pub returns : goal.returns
returns c = flags_covered
