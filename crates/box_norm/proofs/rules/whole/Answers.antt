use Rattle.std.proofs.Common.{rules, subst, sym}
use Rattle.box_norm.specs.Regular.{IsRegular}
use Rattle.box_norm.proofs.RegularLaws.{whole_regular}
use Rattle.box_norm.proofs.rules.whole.Goals as goal

pub returns-clause-value : goal.returns-clause-value
returns-clause-value g c = search rules

pub returns-clause-regular : goal.returns-clause-regular
returns-clause-regular g c = subst IsRegular (sym (returns-clause-value g c)) (whole_regular g.row.W)
