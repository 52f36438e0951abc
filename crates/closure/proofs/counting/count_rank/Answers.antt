use Rattle.std.proofs.Common.{length, Some, sym, ◌∙◌, ap, arith, true≢false}
use Rattle.std.proofs.lemmas.Option.{slice_get_within}
use Rattle.fw_rule.specs.declared.rule.Chain.{Chain}
use Rattle.fw_rule.proofs.Turns.{read_at}
use Rattle.closure.specs.inner.Counts.{rules_items}
use Rattle.closure.proofs.CountLemmas.{start, other_rank, this_rank, counted}
use Rattle.closure.proofs.RankReads.{ranks_long}
use Rattle.closure.proofs.counting.count_rank.Goals as goal
use Rattle.closure.proofs.counting.count_rank.Goals.{then-has_rank, else-has_rank}

pub loop-chain-init : goal.loop-chain-init
loop-chain-init g c = start c.args.side c.args.dump.now c.args.ranked.now c.args.rank c.args.table.now c.requires.lesser

pub loop-chain-preserved : goal.loop-chain-preserved
loop-chain-preserved g c = elim c.if-has_rank.branch [
  | then-has_rank w ↦ rw w.table-is
      (this_rank c.args.side c.args.dump.now c.args.ranked.now c.args.rank (c.args.ranked.now).entry c.requires.checked c.loop-chain.chain c.loop-chain.table w.index-chains-chain.result w.rules_counts-counts.result
      (read_at c.args.dump.now.chains c.as_slice-chains.result.now c.loop-chain.chain w.index-chains-chain.result c.as_slice-chains.ensures c.loop-chain-test.true w.index-chains-chain.is)
      (c.has_rank.ensures.0 w.if-has_rank.true) (w.rules_counts-counts.ensures ∙ ap (rules_items c.args.side c.loop-chain.table) w.as_slice.ensures
      ∙ ap (λ (here : Chain _). rules_items c.args.side c.loop-chain.table here.rules) (sym w.index-chains-chain.is)) c.loop-chain.invariant)
  | else-has_rank w ↦ rw w.table-is
      (other_rank c.args.side c.args.dump.now c.args.ranked.now c.args.rank c.loop-chain.chain c.loop-chain.table (λ e. true≢false (sym (c.has_rank.ensures.1 e) ∙ w.if-has_rank.false)) c.loop-chain.invariant)
]

pub returns : goal.returns
returns g c =
    counted c.args.side c.args.dump.now c.args.ranked.now c.args.rank c.loop-chain.chain c.loop-chain.table (omega (arith, c.loop-chain-test.false, ap length c.as_slice-chains.ensures))
    (λ k r e. let n = slice_get_within (c.args.ranked.now).ranks k (Some r) e in omega (arith, n, ranks_long c.args.dump.now (c.args.ranked.now).entry c.args.ranked.now c.requires.checked)) c.loop-chain.invariant
