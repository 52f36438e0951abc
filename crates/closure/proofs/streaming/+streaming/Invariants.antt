use Rattle.std.proofs.Common.{◌+◌, ◌*◌, ◌-◌}
use Rattle.closure.proofs.FlatLemmas.{work}
use Rattle.closure.proofs.Handing.{Handed}
use Rattle.closure.proofs.streaming.+streaming.Given as goal

abbrev pub decreases-stream_from : goal.decreases-stream_from
decreases-stream_from g l = 8 * work l.from + 7

abbrev pub decreases-pass_rule : goal.decreases-pass_rule
decreases-pass_rule g l = 8 * work l.behind + 6

abbrev pub decreases-pass_block : goal.decreases-pass_block
decreases-pass_block g l = 8 * work l.block + 8

abbrev pub decreases-pass_and_leave : goal.decreases-pass_and_leave
decreases-pass_and_leave g l = 8 * work l.block + 9

abbrev pub decreases-stream_to_the_end : goal.decreases-stream_to_the_end
decreases-stream_to_the_end g l = 8 * work l.from + 9

abbrev pub decreases-pass_to_the_end : goal.decreases-pass_to_the_end
decreases-pass_to_the_end g l = 8 * work l.block + 10

abbrev pub decreases-stream_from-loop-next : goal.decreases-stream_from-loop-next
decreases-stream_from-loop-next g l = l.stop - l.next

abbrev pub invariant-stream_from-loop-next : goal.invariant-stream_from-loop-next
invariant-stream_from-loop-next g l = Handed g.K.Sink.given g.S.State.left l.side l.dump l.from l.wanted l.fn.start l.next l.fn.out l.out l.initial.passed l.passed
