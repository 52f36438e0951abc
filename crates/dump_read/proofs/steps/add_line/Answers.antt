use Rattle.std.proofs.Common.{length, subst, ap, arith, lit<}
use Rattle.std.specs.List.{AllByRecursion}
use Rattle.std.proofs.lemmas.Result.{err_from_is_err_and, on_ok_weaker, IfErr-weaker}
use Rattle.dump_grammar.specs.Lines.{Word, IsLine}
use Rattle.dump_grammar.proofs.PolicyLemmas.{one_chain_line}
use Rattle.dump_read.proofs.Readers.{words_lines}
use Rattle.basics.proofs.Truths.{clash}
use Rattle.dump_read.proofs.TakeLemmas.{malformed_less, words_has, add_close, chain_goes, rule_goes, add_none, chain_stuck}
use Rattle.dump_read.proofs.steps.add_line.Goals as goal

pub returns-in_err-tokens-clause-stuck : goal.returns-in_err-tokens-clause-stuck
returns-in_err-tokens-clause-stuck g c =
    let p = err_from_is_err_and c.from_residual.result c.from_residual.ensures.1 in
    rw (p.1, p.2) (malformed_less _ _ c.in_err-tokens.field-0.0 (λ none chains rules q s m. none m.0 m.1.0) c.in_err-tokens.ensures.none)

pub returns-then-is_close-clause-moved : goal.returns-then-is_close-clause-moved
returns-then-is_close-clause-moved g c chains rules s =
    let has = words_has c.args.line.now c.in_ok-tokens.tokens c.as_slice-words.result.now c.as_slice-words.ensures c.in_ok-tokens.ensures.words in
    add_close g.row.W g.F.Family.Reads c.args.state.now chains rules c.args.number c.args.line.now _ has (c.is_close.ensures.0 c.if-is_close.true) s

pub returns-in-Some-clause-moved : goal.returns-in-Some-clause-moved
returns-in-Some-clause-moved g c =
    let has = words_has c.args.line.now c.in_ok-tokens.tokens c.as_slice-words.result.now c.as_slice-words.ensures c.in_ok-tokens.ensures.words in
    let is = rw c.in-Some.is at c.in_ok-chain.ensures.some in
    on_ok_weaker c.add_chain.result (λ added chains rules s.
    chain_goes g.row.W g.F.Family.Reads c.args.state.now c.add_chain.new.state chains rules c.args.number c.args.line.now _ c.in-Some.chain has is added c.add_chain.ensures.part c.add_chain.ensures.has_filter s)
    c.add_chain.ensures.added

pub returns-in-Some-clause-stuck : goal.returns-in-Some-clause-stuck
returns-in-Some-clause-stuck g c =
    let has = words_has c.args.line.now c.in_ok-tokens.tokens c.as_slice-words.result.now c.as_slice-words.ensures c.in_ok-tokens.ensures.words in
    let is = rw c.in-Some.is at c.in_ok-chain.ensures.some in
    IfErr-weaker c.add_chain.result _ _ (λ fault told. malformed_less _ _ fault (λ stuck chains rules q s m.
    chain_stuck g.row.W g.F.Family.Reads one_chain_line c.args.state.now chains rules c.args.number c.args.line.now _ c.in-Some.chain q has is stuck s m) told)
    c.add_chain.ensures.stuck

pub returns-clause-stuck : goal.returns-clause-stuck
returns-clause-stuck g c chains rules q s m =
    let has = words_has c.args.line.now c.in_ok-tokens.tokens c.as_slice-words.result.now c.as_slice-words.ensures c.in_ok-tokens.ensures.words in
    let no_chain = rw c.in_default.is at c.in_ok-chain.ensures.none in
    let no_rule = rw c.in-None.is at c.in_ok-rule.ensures.none in
    add_none g.row.W g.F.Family.Reads c.args.state.now chains rules c.args.number c.args.line.now _ q has
    (λ e. clash c.is_close.result (c.is_close.ensures.1 e) c.if-is_close.false) no_chain no_rule s m

pub returns-in-Some-2-clause-moved : goal.returns-in-Some-2-clause-moved
returns-in-Some-2-clause-moved g c chains rules s =
    let has = words_has c.args.line.now c.in_ok-tokens.tokens c.as_slice-words.result.now c.as_slice-words.ensures c.in_ok-tokens.ensures.words in
    let is = rw c.in-Some-2.is at c.in_ok-rule.ensures.some in
    rule_goes g.row.W g.F.Family.Reads c.args.state.now c.add_rule.new.state chains rules c.args.number c.args.line.now _ c.in-Some-2.rule has is c.in_ok-add_rule-in-Some-2.ensures.added
    c.add_rule.ensures.part c.add_rule.ensures.has_filter s

pub add_rule-requires : goal.add_rule-requires
add_rule-requires g c =
    let words = c.as_slice-words.result.now in
    let has = words_has c.args.line.now c.in_ok-tokens.tokens words c.as_slice-words.ensures c.in_ok-tokens.ensures.words in
    let few = rw c.in-Some-2.is at c.in_ok-rule.ensures.few in
    let printable = rw c.in-Some-2.is at c.in_ok-rule.ensures.printable in
    let lines = subst (AllByRecursion (λ (word : Word). IsLine word.text)) has.2 (words_lines 0 has.0 c.args.line.now has.1 c.requires.line) in
    (lit< tt, (lit< tt, (c.requires.stands, (omega (arith, few, ap length c.as_slice-words.ensures, c.in_ok-tokens.ensures.few, c.requires.size), printable lines))))
