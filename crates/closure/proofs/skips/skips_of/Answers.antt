use Rattle.std.proofs.Common.{length, ap, arith, rules}
use Rattle.fw_rule.proofs.Turns.{read_at}
use Rattle.closure.proofs.SkipLemmas.{tabled_more, tabled_all}
use Rattle.closure.proofs.skips.skips_of.Goals as goal

pub loop-chain-preserved : goal.loop-chain-preserved
loop-chain-preserved g c =
    let here = c.index-chains-chain.result in
    rw c.in_ok-push.ensures.items
    (tabled_more c.args.side c.args.dump.now c.loop-chain.chain c.loop-chain.table.items here
    (read_at c.args.dump.now.chains c.as_slice-chains.result.now c.loop-chain.chain here c.as_slice-chains.ensures c.loop-chain-test.true c.index-chains-chain.is) c.loop-chain.invariant
    (record { firm = c.in_ok-firm.firm; soft = c.in_ok-soft.soft })
    (record { firm = search rules; soft = search rules }))

pub returns : goal.returns
returns g c = tabled_all c.args.side c.args.dump.now c.loop-chain.chain c.loop-chain.table.items (omega (arith, c.loop-chain-test.false, ap length c.as_slice-chains.ensures, c.loop-chain.auto.chain-end)) c.loop-chain.invariant
