use Rattle.std.proofs.Common.{◌++◌, length-append, arith}
use Rattle.dump_read.proofs.PieceLemmas.{taken_good}
use Rattle.dump_read.proofs.reading.Reading.feed.Goals as goal

pub returns-in-Ok-clause-ok : goal.returns-in-Ok-clause-ok
returns-in-Ok-clause-ok g c text stands =
    let piece = c.args.piece.now in
    let taken = c.in-Ok.ensures.taken text stands.taken in
    let room = c.requires.size stands.sound in
    record {
      sound = stands.sound;
      taken = taken;
      good = taken_good g.row.W g.F.Family.Reads _ (text ++ piece) taken;
      size = omega (arith, stands.size, length-append text piece);
      short = omega (arith, room, stands.size, length-append text piece);
    }
