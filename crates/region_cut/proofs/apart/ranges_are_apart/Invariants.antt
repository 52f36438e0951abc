use Rattle.std.proofs.Common.{drop, ◌+◌, ◌-◌, length}
use Rattle.region_cut.proofs.ApartLaws.{Passed}
use Rattle.region_cut.proofs.apart.ranges_are_apart.Given as goal

abbrev pub decreases-loop-i : goal.decreases-loop-i
decreases-loop-i g l = (length l.a - l.i) + (length l.b - l.j)

abbrev pub invariant-loop-i : goal.invariant-loop-i
invariant-loop-i g l = Passed g.row.W l.a l.b (drop l.i l.a) (drop l.j l.b)
