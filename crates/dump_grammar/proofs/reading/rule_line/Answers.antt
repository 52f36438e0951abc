use Rattle.std.proofs.Common.{◌≡◌, ◌∙◌, List, true, false, ap, arith, length, subst, sym}
use Rattle.std.proofs.lemmas.Bool.{false≢true}
use Rattle.std.proofs.lemmas.List.{length-map}
use Rattle.std.specs.List.{AllByRecursion}
use Rattle.fw_rule.specs.declared.rule.Lit.{Lit}
use Rattle.primitives.specs.declared.prim.Prim_.{Prim_}
use Rattle.dump_grammar.specs.declared.grouping.GroupWords.{GroupWords}
use Rattle.dump_grammar.specs.GroupWords.{groups_of}
use Rattle.dump_grammar.specs.Groups.{all_differ, base_of}
use Rattle.dump_grammar.specs.Lines.{word_of, words_of}
use Rattle.dump_grammar.specs.Literals.{AreLiterals}
use Rattle.dump_grammar.specs.Printable.{IsPrintableLiteral}
use Rattle.dump_grammar.proofs.PrintableLemmas.{rule_printable}
use Rattle.dump_grammar.proofs.RuleOnce.{parts_of, rule_few}
use Rattle.dump_grammar.proofs.reading.rule_line.Goals as goal

pub returns-then-not-options_differ-clause-none : goal.returns-then-not-options_differ-clause-none
returns-then-not-options_differ-clause-none g c = λ rule is.
    let parts = parts_of {W = g.row.W} g.F.Family.Reads c.args.names.now (words_of c.args.words.now) c.in-Some.chain.now (words_of c.in-Some.rest.now) (words_of c.in-Some-2.end.now)
    (groups_of c.in-Some-2.found.items) rule c.in-Some.ensures.some (rw c.in-Some-2.is at c.in_ok-found.ensures.some) (rw c.in-Some-2.is at c.in_ok-found.ensures.ends) is in
    let wrong : false ≡ true = sym c.if-not-options_differ.true ∙ c.options_differ.ensures
    ∙ ap (λ (gs : List GroupWords). all_differ (base_of (groups_of gs))) c.as_slice.ensures.value ∙ parts.once in
    false≢true wrong

pub returns-in_default-3-clause-none : goal.returns-in_default-3-clause-none
returns-in_default-3-clause-none g c = λ rule is.
    let parts = parts_of {W = g.row.W} g.F.Family.Reads c.args.names.now (words_of c.args.words.now) c.in-Some.chain.now (words_of c.in-Some.rest.now) (words_of c.in-Some-2.end.now)
    (groups_of c.in-Some-2.found.items) rule c.in-Some.ensures.some (rw c.in-Some-2.is at c.in_ok-found.ensures.some) (rw c.in-Some-2.is at c.in_ok-found.ensures.ends) is in
    (rw c.in_default-3.is at c.in_ok-literals.ensures.none) rule.literals
    (subst (λ (gs : List GroupWords). AreLiterals {W = g.row.W} g.F.Family.Reads (groups_of gs) (groups_of gs) rule.literals) (sym c.as_slice-2.ensures.value) parts.literals)

pub returns-in_default-4-clause-none : goal.returns-in_default-4-clause-none
returns-in_default-4-clause-none g c = λ rule is.
    let parts = parts_of {W = g.row.W} g.F.Family.Reads c.args.names.now (words_of c.args.words.now) c.in-Some.chain.now (words_of c.in-Some.rest.now) (words_of c.in-Some-2.end.now)
    (groups_of c.in-Some-2.found.items) rule c.in-Some.ensures.some (rw c.in-Some-2.is at c.in_ok-found.ensures.some) (rw c.in-Some-2.is at c.in_ok-found.ensures.ends) is in
    (rw c.in_default-4.is at c.in_ok-target.ensures.none) rule.target parts.targeted

pub returns-clause-few : goal.returns-clause-few
returns-clause-few g c =
    let are = subst (λ (gs : List GroupWords). AreLiterals {W = g.row.W} g.F.Family.Reads (groups_of gs) (groups_of gs) c.in-Some-3.literals.items) c.as_slice-2.ensures.value
    (rw c.in-Some-3.is at c.in_ok-literals.ensures.some) in
    let few = rule_few {W = g.row.W} g.F.Family.Reads (words_of c.args.words.now) c.in-Some.chain.now (words_of c.in-Some.rest.now) (words_of c.in-Some-2.end.now)
    (groups_of c.in-Some-2.found.items) c.in-Some-3.literals.items c.in-Some.ensures.some (rw c.in-Some-2.is at c.in_ok-found.ensures.some) are in
    omega (arith, few, ap length c.of-2.ensures, length-map c.args.words.now word_of)

pub returns-clause-printable : goal.returns-clause-printable
returns-clause-printable g c = λ free.
    let are = subst (λ (gs : List GroupWords). AreLiterals {W = g.row.W} g.F.Family.Reads (groups_of gs) (groups_of gs) c.in-Some-3.literals.items) c.as_slice-2.ensures.value
    (rw c.in-Some-3.is at c.in_ok-literals.ensures.some) in
    subst (λ (ls : List (Lit (Prim_ g.row.W))). AllByRecursion IsPrintableLiteral ls) (sym c.of-2.ensures)
    (rule_printable {W = g.row.W} g.F.Family.Reads (words_of c.args.words.now) c.in-Some.chain.now (words_of c.in-Some.rest.now) (words_of c.in-Some-2.end.now)
    (groups_of c.in-Some-2.found.items) c.in-Some-3.literals.items c.in-Some.ensures.some (rw c.in-Some-2.is at c.in_ok-found.ensures.some) are free)

pub returns-in_default-clause-none : goal.returns-in_default-clause-none
returns-in_default-clause-none g c = λ rule is. c.in_default.ensures.none rule.chain is.rest is.head
