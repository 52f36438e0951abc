use Rattle.std.proofs.Common.{◌≡◌, ◌++◌, drop, map}
use Rattle.std.specs.List.{flat_map}
use Rattle.fffuu_run.specs.Spaces.{way_line, ways_text}
use Rattle.fffuu_run.proofs.routing.append_ways.Given as goal

abbrev pub invariant-loop-name : goal.invariant-loop-name
invariant-loop-name g l =
    l.out.items ++ flat_map (way_line g.F.Family.text_of g.row.W l.routes) (map (λ n. n.now) (drop l.name-index l.name-items))
    ≡ l.fn.out.items ++ ways_text g.F.Family.text_of g.row.W l.routes
