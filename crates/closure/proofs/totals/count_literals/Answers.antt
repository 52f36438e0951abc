use Rattle.std.proofs.Common.{◌∙◌, ap, sym, arith}
use Rattle.fw_rule.specs.Walk.{Here}
use Rattle.rewriting.specs.declared.rows.Mode.TheVariants.{Hard}
use Rattle.closure.specs.inner.Counts.{capped}
use Rattle.closure.specs.Rewriting.{Tree, chain_tree}
use Rattle.closure.specs.Stream.{stream}
use Rattle.closure.specs.inner.Totals.{total_of, with_literals}
use Rattle.closure.proofs.FlatLemmas.{tree_called, within_some}
use Rattle.closure.proofs.RankReads.{is_settled, asked_rank, rank_is, within_rank, ranked_tree}
use Rattle.closure.proofs.TotalLemmas.{literals_totalled}
use Rattle.closure.proofs.totals.count_literals.Goals as goal

pub rank_of-requires : goal.rank_of-requires
rank_of-requires g c = asked_rank c.args.dump.now c.args.chain c.args.ranked.now c.requires

pub count_from-requires-clause-settled : goal.count_from-requires-clause-settled
count_from-requires-clause-settled g c = (c.args.chain, is_settled c.args.dump.now c.args.chain c.args.ranked.now c.requires, Here)

pub count_from-requires-clause-within : goal.count_from-requires-clause-within
count_from-requires-clause-within g c = within_rank c.args.dump.now c.args.chain c.args.ranked.now c.requires c.args.chain c.rank_of.result c.rank_of.ensures

pub count_from-requires-clause-room : goal.count_from-requires-clause-room
count_from-requires-clause-room g c = omega (arith, (rank_is c.args.dump.now c.args.chain c.args.ranked.now c.requires c.args.chain c.rank_of.result c.rank_of.ensures).2)

pub returns : goal.returns
returns g c =
    let within = within_rank c.args.dump.now c.args.chain c.args.ranked.now c.requires c.args.chain c.rank_of.result c.rank_of.ensures in
    let called = tree_called c.args.side c.args.dump.now c.rank_of.result c.args.chain Hard (within_some c.args.dump.now c.rank_of.result c.args.chain within) in
    let same = ranked_tree c.args.dump.now c.args.chain c.args.ranked.now c.requires c.args.side c.args.chain c.rank_of.result c.rank_of.ensures Hard in
    c.in_ok-tally.ensures.total ∙ ap (λ (z : Tree _). capped (total_of (stream with_literals 0 z))) (sym called ∙ same) ∙ literals_totalled (chain_tree c.args.side c.args.dump.now c.args.chain)
