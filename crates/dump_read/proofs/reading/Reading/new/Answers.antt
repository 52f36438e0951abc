use Rattle.std.proofs.Common.{[], refl, arith}
use Rattle.dump_read.proofs.PieceLemmas.{taken_none, taken_good}
use Rattle.dump_read.proofs.reading.Reading.new.Goals as goal

pub returns : goal.returns
returns g c =
    let taken = taken_none g.row.W g.F.Family.Reads c.new.result c.new.ensures.state c.new.ensures.count c.new.ensures.unfinished in
    record { sound = refl; taken = taken; good = taken_good g.row.W g.F.Family.Reads c.new.result [] taken; size = refl; short = omega arith }
