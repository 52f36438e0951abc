use Rattle.std.proofs.Common.{List, subst, sym, ◌∙◌, ap}
use Rattle.fw_rule.specs.declared.rule.Chain.{Chain}
use Rattle.fw_rule.specs.declared.rule.Rule.{Rule}
use Rattle.fw_rule.proofs.Turns.{read_at}
use Rattle.closure.specs.inner.Ends.{EndsWith}
use Rattle.closure.proofs.EndLemmas.{ends_set}
use Rattle.closure.proofs.ends.add_rank.Goals as goal
use Rattle.closure.proofs.ends.add_rank.Goals.{then-has_rank, else-has_rank}

pub loop-chain-preserved : goal.loop-chain-preserved
loop-chain-preserved g c = elim c.if-has_rank.branch [
  | then-has_rank w ↦ rw w.table-is
      (ends_set c.args.side c.args.dump.now c.loop-chain.table c.loop-chain.invariant c.loop-chain.chain w.index-chains-chain.result
      (read_at c.args.dump.now.chains c.as_slice-chains.result.now c.loop-chain.chain w.index-chains-chain.result c.as_slice-chains.ensures c.loop-chain-test.true w.index-chains-chain.is)
      w.ends_of-ends.result
      (subst (λ (rules : List (Rule _)). EndsWith c.args.side c.loop-chain.table rules w.ends_of-ends.result) (w.as_slice.ensures ∙ ap (λ (here : Chain _). here.rules) (sym w.index-chains-chain.is)) w.ends_of-ends.ensures))
  | else-has_rank w ↦ rw w.table-is c.loop-chain.invariant
]
