use Rattle.std.proofs.Common.{◌≡◌, ◌++◌, ◌+◌, take, drop, map, length}
use Rattle.region_queries.specs.Probe.{barred_chain, copies_of, probe_of}
use Rattle.region_queries.proofs.probing.probe_of.Given as goal

abbrev pub invariant-loop-chain : goal.invariant-loop-chain
invariant-loop-chain g l = l.all.items ≡ map barred_chain (take l.chain-index l.chains)

abbrev pub invariant-loop-step : goal.invariant-loop-step
invariant-loop-step g l = record {
  count : l.next ≡ length l.dump.chains + l.step-index;
  rest : l.all.items ++ copies_of l.dump.chains l.next (drop l.step-index l.visit) ≡ (probe_of l.dump l.visit).chains;
}
