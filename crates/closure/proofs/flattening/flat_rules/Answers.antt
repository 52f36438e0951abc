use Rattle.std.proofs.Common.{◌≡◌, ◌∙◌, sym, refl, ap, map, []}
use Rattle.closure.specs.Rewriting.{chain_tree}
use Rattle.closure.specs.Stream.{stream}
use Rattle.closure.specs.inner.Parts.{with_part, rule_of_parts}
use Rattle.closure.proofs.PartLemmas.{flat_streamed}
use Rattle.closure.proofs.flattening.flat_rules.Goals as goal

pub returns : goal.returns
returns g c =
    let states : c.in_ok-states.states.items ≡ stream (with_part {P = g.row.P.Denot}) (record { parts = [] }) (chain_tree c.args.side c.args.dump.now c.args.chain) =
    c.in_ok-states.ensures.tree ∙ rw (c.of.ensures, c.new.ensures.items) refl in
    c.of-2.ensures ∙ c.in_ok-rules.ensures ∙ ap (map (rule_of_parts {P = g.row.P.Denot})) states ∙ sym (flat_streamed (chain_tree c.args.side c.args.dump.now c.args.chain))
