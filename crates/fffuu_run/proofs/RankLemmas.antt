-- Ranks of the asked chain are those of its entry.
use Rattle.std.proofs.Common.{ℕ, subst, sym}
use Rattle.fw_rule.specs.declared.rule.Dump.{Dump}
use Rattle.chain_graph.specs.declared.graph.Ranked.{Ranked}
use Rattle.chain_graph.specs.Results.{IsRanked}

pub of_entry : {P : Type 0} (dump : Dump P) (asked : ℕ) (r : Ranked) → IsRanked dump asked r → IsRanked dump r.entry r
of_entry dump asked r is = subst (λ (c : ℕ). IsRanked dump c r) (sym is.entry) is
