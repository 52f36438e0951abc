use Rattle.std.proofs.Common.{◌∙◌, ◌++◌, Bool, List, subst, sym, arith}
use Rattle.fw_rule.specs.Walk.{Here}
use Rattle.rewriting.specs.declared.rows.Mode.TheVariants.{Hard}
use Rattle.closure.specs.Rewriting.{Tree, chain_tree}
use Rattle.closure.specs.Stream.{stream}
use Rattle.closure.proofs.FlatLemmas.{tree_called, within_some}
use Rattle.closure.proofs.RankReads.{is_settled, asked_rank, rank_is, within_rank, ranked_tree}
use Rattle.closure.proofs.Streams.{stream_is}
use Rattle.closure.proofs.streaming.stream_to.Goals as goal

pub rank_of-requires : goal.rank_of-requires
rank_of-requires g c = asked_rank c.args.dump.now c.args.chain c.args.ranked.now c.requires

pub stream_from-requires-clause-settled : goal.stream_from-requires-clause-settled
stream_from-requires-clause-settled g c = (c.args.chain, is_settled c.args.dump.now c.args.chain c.args.ranked.now c.requires, Here)

pub stream_from-requires-clause-within : goal.stream_from-requires-clause-within
stream_from-requires-clause-within g c = within_rank c.args.dump.now c.args.chain c.args.ranked.now c.requires c.args.chain c.rank_of.result c.rank_of.ensures

pub stream_from-requires-clause-room : goal.stream_from-requires-clause-room
stream_from-requires-clause-room g c = omega (arith, (rank_is c.args.dump.now c.args.chain c.args.ranked.now c.requires c.args.chain c.rank_of.result c.rank_of.ensures).2)

pub returns-clause-tree : goal.returns-clause-tree
returns-clause-tree g c xs h =
    let within = within_rank c.args.dump.now c.args.chain c.args.ranked.now c.requires c.args.chain c.rank_of.result c.rank_of.ensures in
    let called = tree_called c.args.side c.args.dump.now c.rank_of.result c.args.chain Hard (within_some c.args.dump.now c.rank_of.result c.args.chain within) in
    let same = ranked_tree c.args.dump.now c.args.chain c.args.ranked.now c.requires c.args.side c.args.chain c.rank_of.result c.rank_of.ensures Hard in
    subst (λ (tree : Tree g.row.P.Denot). g.K.Sink.given c.stream_from.new.out (xs ++ stream g.S.State.left c.args.start tree)) (sym called ∙ same) (c.in_ok-_escapes.ensures.states xs h)

pub returns-clause-list : goal.returns-clause-list
returns-clause-list g c by_parts xs h =
    subst (λ (states : List (g.row.S.Denot × Bool)). g.K.Sink.given c.stream_from.new.out (xs ++ states)) (sym (stream_is g.S.State.left c.args.start by_parts (chain_tree c.args.side c.args.dump.now c.args.chain))) (returns-clause-tree g c xs h)
