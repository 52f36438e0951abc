use Rattle.std.proofs.Common.{◌≡◌, ◌∙◌, ◌++◌, ◌∷◌, [], List, ℕ, false, not, ap, cond, refl}
use Rattle.fw_rule.specs.declared.rule.Rule.{Rule}
use Rattle.primitives.specs.declared.prim.Prim_.{Prim_}
use Rattle.dump_grammar.specs.ChainLines.{is_among}
use Rattle.dump_grammar.specs.Tables.{names_of}
use Rattle.basics.proofs.Truths.{clash}
use Rattle.dump_read.proofs.StateLemmas.{chain_added, declared_of, none_ruled}
use Rattle.dump_read.proofs.rules.add_chain.Goals as goal

pub returns-then-not-branch-clause-stuck : goal.returns-then-not-branch-clause-stuck
returns-then-not-branch-clause-stuck g c chains rules keeps nil fresh =
    let known = declared_of c.args.state.now.names chains c.args.chain.name c.as_slice.result.now c.in_ok-declare.field-0 keeps.names c.as_slice.ensures c.in_ok-declare.ensures.added in
    clash (is_among (names_of chains) c.args.chain.name) (known ∙ ap not c.if-not-branch.true) fresh

pub returns-clause-added : goal.returns-clause-added
returns-clause-added g c chains rules keeps =
    let b = c.in_ok-declare.field-0 in
    let known = declared_of c.args.state.now.names chains c.args.chain.name c.as_slice.result.now b keeps.names c.as_slice.ensures c.in_ok-declare.ensures.added in
    let fresh : is_among (names_of chains) c.args.chain.name ≡ false = known ∙ ap not c.if-not-branch.false in
    let names = c.in_ok-declare.ensures.names ∙ ap (λ t. cond t (c.args.state.now.names ++ c.as_slice.result.now ∷ []) c.args.state.now.names) c.if-not-branch.false
    ∙ ap (λ (z : List ℕ). c.args.state.now.names ++ z ∷ []) c.as_slice.ensures in
    let none : c.of.result ≡ [] = c.of.ensures ∙ c.new.ensures.items in
    let pushed = c.in_ok-push.ensures.items
    ∙ ap (λ (z : List (Rule (Prim_ g.row.W))). c.args.state.now.chains.items ++ record { name = c.args.chain.name; policy = c.args.chain.policy; rules = z } ∷ []) none in (
      none_ruled c.args.state.now.has_rules rules keeps.ruled c.if-state.false,
      fresh,
      chain_added c.args.state.now _ chains rules c.args.chain keeps c.if-state.false fresh names pushed refl refl,
    )
