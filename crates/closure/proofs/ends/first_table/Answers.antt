use Rattle.std.proofs.Common.{length, sym, ◌∙◌, ap, arith}
use Rattle.fw_rule.specs.declared.rule.Chain.{Chain}
use Rattle.fw_rule.proofs.Turns.{read_at}
use Rattle.closure.proofs.EndLemmas.{begun_more, begun_all}
use Rattle.closure.proofs.ends.first_table.Goals as goal

pub loop-chain-preserved : goal.loop-chain-preserved
loop-chain-preserved g c =
    let here = c.index-chains-chain.result in
    rw c.in_ok-push.ensures.items
    (begun_more c.args.side c.args.dump.now c.loop-chain.chain c.loop-chain.table.items here
    (read_at c.args.dump.now.chains c.as_slice-chains.result.now c.loop-chain.chain here c.as_slice-chains.ensures c.loop-chain-test.true c.index-chains-chain.is) c.loop-chain.invariant
    (length c.as_slice-count.result.now) (ap length (c.as_slice-count.ensures ∙ ap (λ (z : Chain _). z.rules) (sym c.index-chains-chain.is))))

pub returns : goal.returns
returns g c = begun_all c.args.side c.args.dump.now c.loop-chain.chain c.loop-chain.table.items (omega (arith, c.loop-chain-test.false, ap length c.as_slice-chains.ensures, c.loop-chain.auto.chain-end)) c.loop-chain.invariant
