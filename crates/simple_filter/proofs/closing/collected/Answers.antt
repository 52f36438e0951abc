use Rattle.std.proofs.Common.{[]}
use Rattle.simple_filter.proofs.CutInTurn.{by_parts}
use Rattle.simple_filter.proofs.Takings.{taken_none}
use Rattle.simple_filter.proofs.closing.collected.Goals as goal

pub returns : goal.returns
returns g c = rw c.in_ok-start.ensures at (c.in_ok-stream_to.ensures.list (rw c.in_ok-start.ensures (by_parts g.row.W)) [] (rw c.new.ensures.items taken_none))
