use Rattle.std.proofs.Common.{ℕ, ◌≡◌, ◌∙◌, ◌++◌, ◌∷◌, [], Option, Some, None, position, refl, sym, ap, subst, set}
use Rattle.std.specs.Str.{bytes_eq}
use Rattle.std.proofs.lemmas.Result.{on_ok_weaker}
use Rattle.fw_rule.specs.declared.rule.Action.{Action}
use Rattle.fw_rule.specs.declared.rule.Chain.{Chain}
use Rattle.primitives.specs.declared.prim.Prim_.{Prim_}
use Rattle.dump_grammar.specs.Tables.{Placed}
use Rattle.dump_grammar.specs.Reads.{rule_of}
use Rattle.dump_read.specs.declared.state.State.{State}
use Rattle.dump_read.specs.inner.States.{Keeps, now_undefined, with_rule}
use Rattle.dump_read.proofs.StateLemmas.{rule_added, rule_kept}
use Rattle.dump_read.proofs.rules.add_rule.Goals as goal

pub returns-in_default-clause-added : goal.returns-in_default-clause-added
returns-in_default-clause-added g c chains rules keeps =
    let number : c.number-number.result ≡ None = c.in_default.is in
    let there : position (bytes_eq c.args.rule.chain) c.args.state.now.names ≡ None =
    ap (λ z. position (bytes_eq z) c.args.state.now.names) (sym c.as_slice.ensures) ∙ sym c.number-number.ensures ∙ number in
    let p : Placed g.row.W = record { number = c.args.line; rule = c.args.rule } in
    rule_kept c.args.state.now _ chains rules p keeps c.requires.writable there refl refl refl
    (c.first_undefined-state.ensures ∙ ap (λ (z : Option ℕ). now_undefined c.args.state.now.undefined z c.args.rule.target c.args.line) number)

pub returns-clause-added : goal.returns-clause-added
returns-clause-added g c =
    let number : c.number-number.result ≡ Some c.in-Some.number = c.in-Some.is in
    let there : position (bytes_eq c.args.rule.chain) c.args.state.now.names ≡ Some c.in-Some.number =
    ap (λ z. position (bytes_eq z) c.args.state.now.names) (sym c.as_slice.ensures) ∙ sym c.number-number.ensures ∙ number in
    let p : Placed g.row.W = record { number = c.args.line; rule = c.args.rule } in
    on_ok_weaker c.push_rule.result (λ pushed chains rules keeps.
    rule_added c.args.state.now _ chains rules p c.in-Some.number c.index_mut-here.result.now keeps c.requires.writable there refl
    (ap (λ (z : Chain (Prim_ g.row.W)). set c.args.state.now.chains.items c.in-Some.number z) (pushed ∙ ap (λ (a : Action). with_rule c.index_mut-here.result.now (record { lits = c.args.rule.literals; action = a; line = c.args.line })) c.into_action.ensures
    ∙ ap (λ (z : Chain (Prim_ g.row.W)). with_rule z (rule_of p)) c.index_mut-here.ensures.value))
    refl (c.first_undefined-state.ensures ∙ ap (λ (z : Option ℕ). now_undefined c.args.state.now.undefined z c.args.rule.target c.args.line) number)) c.push_rule.ensures
