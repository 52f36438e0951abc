use Rattle.closure.proofs.SkipLemmas.{Leading}
use Rattle.closure.proofs.skips.leads.Given as goal

abbrev pub invariant-loop-passed : goal.invariant-loop-passed
invariant-loop-passed g l = Leading l.side l.rules l.mode l.passed l.next l.list.items
