use Rattle.std.proofs.Common.{◌≡◌, ◌∙◌, length, drop, map, refl, ap, arith}
use Rattle.std.specs.Option.{option_map}
use Rattle.chain_graph.specs.declared.ranking.Found.{Found}
use Rattle.chain_graph.specs.declared.graph.Ranked.{Ranked}
use Rattle.chain_graph.proofs.Marking.{written}
use Rattle.chain_graph.proofs.TableLemmas.{has_none, no_table, is_ranked}
use Rattle.chain_graph.proofs.ranking.ranked.Goals as goal

pub rank_of-requires-clause-right : goal.rank_of-requires-clause-right
rank_of-requires-clause-right g c = no_table c.args.dump.now c.deref_mut.result.now (c.deref_mut.ensures.value ∙ c.in_ok-table.ensures)

pub returns-clause-some : goal.returns-clause-some
returns-clause-some g c =
    let start = c.deref_mut.ensures.value ∙ c.in_ok-table.ensures in
    let before = (no_table c.args.dump.now c.deref_mut.result.now start).long in
    let long : length c.rank_of.new.table ≡ c.in_ok-table.table.len = omega (arith, before, c.in-Some.ensures.right.long, c.deref_mut.ensures.len) in
    let back = written c.in_ok-table.table.len c.rank_of.new.table (drop (length c.rank_of.new.table) c.in_ok-table.table.items) long in
    let r : Ranked = record { entry = c.args.chain; ranks = c.of.result; visits = c.in-Some.top.visits } in
    is_ranked c.args.dump.now c.args.chain c.deref_mut.result.now c.rank_of.new.table (has_none c.args.dump.now c.deref_mut.result.now start) c.in-Some.ensures.right c.in-Some.ensures.grows
    c.in-Some.top (c.in-Some.ensures.some).0 (c.in-Some.ensures.some).1 r refl
    (c.of.ensures ∙ c.in_ok-ranks.ensures ∙ ap (map (option_map (λ (f : Found). f.rank))) (c.deref.ensures.value ∙ back)) refl
