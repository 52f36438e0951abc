use Rattle.std.proofs.Common.{◌≡◌, drop, map}
use Rattle.closure.specs.Stream.{cut_all}
use Rattle.closure.specs.inner.Steps.{refuted}
use Rattle.closure.proofs.cutting.Passed.cut_behind.Given as goal

abbrev pub invariant-loop-x : goal.invariant-loop-x
invariant-loop-x g l = record {
  state : cut_all g.S.State.left l.self.state (map refuted (drop l.x-index l.escapes)) ≡ cut_all g.S.State.left l.fn.self.state (map refuted l.escapes);
  past : l.self.past.items ≡ l.fn.self.past.items;
  found : l.self.found.items ≡ l.fn.self.found.items;
}
