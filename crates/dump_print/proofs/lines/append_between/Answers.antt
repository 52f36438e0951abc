use Rattle.std.proofs.Common.{arith}
use Rattle.dump_print.specs.Parts.{between, with_dports}
use Rattle.dump_print.specs.Ports.{ports_of}
use Rattle.dump_print.specs.Views.{axes_in, frame_words}
use Rattle.dump_print.proofs.LineLemmas.{lines_end, lines_more}
use Rattle.dump_print.proofs.lines.append_between.Goals as goal

pub loop-sports-preserved : goal.loop-sports-preserved
loop-sports-preserved g c =
    let words = frame_words g.F.Family.text_of g.row.W c.args.frame.now in
    lines_more words (λ sports. with_dports (record (between c.args.source c.args.destination) { sports = ports_of sports }) (axes_in c.args.axes.now))
    c.args.axes.now.sports.now c.loop-sports.sports-index _ _ _ _ (omega arith) c.loop-sports.invariant
    (lines_end words ports_of _ c.args.axes.now.dports.now c.loop-dports.dports-index _ _ (omega arith) c.loop-dports.invariant)

pub returns : goal.returns
returns g c =
    lines_end (frame_words g.F.Family.text_of g.row.W c.args.frame.now) ports_of
    (λ sports. with_dports (record (between c.args.source c.args.destination) { sports = sports }) (axes_in c.args.axes.now))
    c.args.axes.now.sports.now c.loop-sports.sports-index _ _ (omega arith) c.loop-sports.invariant
