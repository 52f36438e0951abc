use Rattle.std.proofs.Common.{◌∙◌, Bool, ap, ap₂, sym, length, List, []}
use Rattle.std.specs.Prelude.{if◌then◌else◌}
use Rattle.std.specs.List.{fold}
use Rattle.fw_rule.specs.declared.rule.Chain.{Chain}
use Rattle.fw_rule.specs.declared.rule.Rule.{Rule}
use Rattle.primitives.specs.declared.prim.Prim_.{Prim_}
use Rattle.iface_space.specs.Tested.{all_tested, tested_in}
use Rattle.iface_space.specs.inner.Adding.{with_new}
use Rattle.iface_space.proofs.Going.{all_gone, one_more}
use Rattle.iface_space.proofs.Once.{all_once}
use Rattle.iface_space.proofs.tested.tested_patterns.Goals as goal

pub loop-chain-preserved : goal.loop-chain-preserved
loop-chain-preserved g c =
    one_more c.args.direction c.as_slice-chains.result.now c.args.ranked.now.ranks c.loop-chain.chain c.index-chains-chain.result
    c.loop-chain.found.items _ c.loop-chain-test.true
    (c.requires.ranks.0 ∙ ap (λ (xs : List (Chain (Prim_ g.row.W))). length xs) (sym c.as_slice-chains.ensures))
    (c.in_ok-add_reached.ensures
    ∙ ap₂ (λ (b : Bool) (rules : List (Rule (Prim_ g.row.W))). fold with_new c.loop-chain.found.items (if b then tested_in c.args.direction rules else []))
    c.is_reached-reached.ensures c.as_slice-rules.ensures)
    ∙ c.loop-chain.invariant

pub returns : goal.returns
returns g c = sym (all_gone c.args.direction c.as_slice-chains.result.now c.args.ranked.now.ranks c.loop-chain.chain c.loop-chain.found.items c.loop-chain-test.false)
    ∙ c.loop-chain.invariant
    ∙ all_once (all_tested c.args.direction c.args.dump.now c.args.ranked.now.ranks)
