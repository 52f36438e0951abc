use Rattle.std.proofs.Common.{◌≡◌, ◌++◌, map, take}
use Rattle.std.specs.List.{flat_map}
use Rattle.dump_print.specs.Parts.{between, with_destinations, with_sports}
use Rattle.dump_print.specs.Spelling.{lines_text}
use Rattle.dump_print.specs.Views.{axes_in, frame_words}
use Rattle.dump_print.proofs.lines.append_each.Given as goal

abbrev pub invariant-loop-source : goal.invariant-loop-source
invariant-loop-source g l = l.out.items ≡ l.fn.out.items ++ lines_text (map (frame_words g.F.Family.text_of g.row.W l.frame)
    (flat_map (λ source. with_destinations source (axes_in l.axes)) (take l.source-index l.axes.sources.now)))

abbrev pub invariant-loop-destination : goal.invariant-loop-destination
invariant-loop-destination g l = l.out.items ≡ l.initial.out.items ++ lines_text (map (frame_words g.F.Family.text_of g.row.W l.frame)
    (flat_map (λ destination. with_sports (between l.source destination) (axes_in l.axes)) (take l.destination-index l.axes.destinations.now)))
