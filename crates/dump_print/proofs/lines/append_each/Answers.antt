use Rattle.std.proofs.Common.{arith}
use Rattle.dump_print.specs.Parts.{with_destinations}
use Rattle.dump_print.specs.Views.{axes_in, frame_words}
use Rattle.dump_print.proofs.LineLemmas.{flat_passed, lines_more, range_at}
use Rattle.dump_print.proofs.lines.append_each.Goals as goal

pub append_between-requires : goal.append_between-requires
append_between-requires g c = (
  omega arith,
  (
    c.requires.sources.0,
    (
      c.requires.frame,
      (
        range_at _ 0 c.args.axes.now.sources.now c.loop-source.source-index _ c.requires.sources.1 (omega arith),
        range_at _ 0 c.args.axes.now.destinations.now c.loop-destination.destination-index _ c.requires.destinations.1 (omega arith),
      ),
    ),
  ),
)

pub loop-source-preserved : goal.loop-source-preserved
loop-source-preserved g c =
    let words = frame_words g.F.Family.text_of g.row.W c.args.frame.now in
    lines_more words (λ source. with_destinations source (axes_in c.args.axes.now)) c.args.axes.now.sources.now c.loop-source.source-index _ _ _ _ (omega arith) c.loop-source.invariant
    (flat_passed words _ c.args.axes.now.destinations.now c.loop-destination.destination-index _ _ (omega arith) c.loop-destination.invariant)
