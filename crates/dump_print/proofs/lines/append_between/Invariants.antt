use Rattle.std.proofs.Common.{◌≡◌, ◌++◌, map, take}
use Rattle.std.specs.List.{flat_map}
use Rattle.dump_print.specs.Parts.{between, with_dports, with_flags}
use Rattle.dump_print.specs.Ports.{ports_of}
use Rattle.dump_print.specs.Spelling.{lines_text}
use Rattle.dump_print.specs.Views.{axes_in, frame_words}
use Rattle.dump_print.proofs.lines.append_between.Given as goal

abbrev pub invariant-loop-sports : goal.invariant-loop-sports
invariant-loop-sports g l = l.out.items ≡ l.fn.out.items ++ lines_text (map (frame_words g.F.Family.text_of g.row.W l.frame)
    (flat_map (λ sports. with_dports (record (between l.source l.destination) { sports = ports_of sports }) (axes_in l.axes)) (take l.sports-index l.axes.sports.now)))

abbrev pub invariant-loop-dports : goal.invariant-loop-dports
invariant-loop-dports g l = l.out.items ≡ l.initial.out.items ++ lines_text (map (frame_words g.F.Family.text_of g.row.W l.frame)
    (flat_map (λ dports. with_flags (record (between l.source l.destination) { sports = ports_of l.sports; dports = ports_of dports }) l.axes.flags.now) (take l.dports-index l.axes.dports.now)))

abbrev pub invariant-loop-flags : goal.invariant-loop-flags
invariant-loop-flags g l = l.out.items ≡ l.initial.out.items ++ lines_text (map (frame_words g.F.Family.text_of g.row.W l.frame)
    (with_flags (record (between l.source l.destination) { sports = ports_of l.sports; dports = ports_of l.dports }) (take l.flags-index l.axes.flags.now)))
