use Rattle.std.proofs.Common.{◌+◌, ◌*◌, ◌-◌, length}
use Rattle.closure.proofs.FlatLemmas.{work}
use Rattle.closure.proofs.Tallies.{Counted}
use Rattle.closure.proofs.totals.+counting.Given as goal

abbrev pub decreases-count_from : goal.decreases-count_from
decreases-count_from g l = 8 * work l.from + 7

abbrev pub decreases-count_rule : goal.decreases-count_rule
decreases-count_rule g l = 8 * work l.behind + 6

abbrev pub decreases-count_block : goal.decreases-count_block
decreases-count_block g l = 8 * work l.block + 8

abbrev pub decreases-count_and_leave : goal.decreases-count_and_leave
decreases-count_and_leave g l = 8 * work l.block + 9

abbrev pub decreases-count_to_the_end : goal.decreases-count_to_the_end
decreases-count_to_the_end g l = 8 * work l.from + 9

abbrev pub decreases-count_end_block : goal.decreases-count_end_block
decreases-count_end_block g l = 8 * work l.block + 10

abbrev pub decreases-count_from-loop-next : goal.decreases-count_from-loop-next
decreases-count_from-loop-next g l = length l.rules - l.next

abbrev pub invariant-count_from-loop-next : goal.invariant-count_from-loop-next
invariant-count_from-loop-next g l = Counted l.around l.side l.dump l.from l.next l.initial.tally l.tally
