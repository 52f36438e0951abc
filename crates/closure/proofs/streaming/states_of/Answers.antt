use Rattle.std.proofs.Common.{[]}
use Rattle.closure.proofs.streaming.states_of.Goals as goal

pub returns-clause-tree : goal.returns-clause-tree
returns-clause-tree g c = c.in_ok-stream_to.ensures.tree [] c.new-states.ensures.items

pub returns-clause-list : goal.returns-clause-list
returns-clause-list g c by_parts = c.in_ok-stream_to.ensures.list by_parts [] c.new-states.ensures.items
