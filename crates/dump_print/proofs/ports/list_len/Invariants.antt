use Rattle.std.proofs.Common.{◌≡◌, ◌≤◌, drop, take}
use Rattle.dump_print.specs.Ports.{chunks, chunks_after, weight_of}
use Rattle.dump_print.proofs.ports.list_len.Given as goal

abbrev pub invariant-loop-i : goal.invariant-loop-i
invariant-loop-i l = record {
  total : l.total ≡ weight_of (take l.i l.ranges);
  few : l.total ≤ 15;
  lists : chunks l.ranges ≡ chunks_after (take l.i l.ranges) (drop l.i l.ranges);
}
