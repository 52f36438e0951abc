use Rattle.fffuu_run.proofs.Feeding.{fed_on}
use Rattle.fffuu_run.proofs.reading.ReadingTaker.take.Goals as goal

pub returns : goal.returns
returns g c = record {
  takes = λ text taken. (
    taken.0,
    fed_on g.F.Family.Reads c.args.self.now c.feed.new.self text c.args.piece.now c.feed.result
        c.feed.ensures.ok c.feed.ensures.fault c.feed.ensures.fails c.feed.ensures.failed taken.1,
  );
}
