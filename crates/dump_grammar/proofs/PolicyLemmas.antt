-- A chain line has one name and one policy.
use Rattle.std.proofs.Common.{◌≡◌, ◌∷◌, ◌∙◌, [], List, Option, Some, None, is_some, refl, sym, ap}
use Rattle.fw_rule.specs.declared.rule.Verdict.{Verdict}
use Rattle.dump_token.specs.declared.token.Token.{Token}
use Rattle.dump_grammar.specs.declared.chains.Declared.{Declared}
use Rattle.dump_grammar.specs.ChainLines.{IsChainLine, built_in, is_among, policy_text}
use Rattle.dump_grammar.specs.Lines.{Text, Word, bare, word_of, words_of}

policy_once : (p q : Option Verdict) → policy_text p ≡ policy_text q → p ≡ q
policy_once None None e = refl
policy_once None (Some Verdict.Accept) e = cc
policy_once None (Some Verdict.Drop) e = cc
policy_once (Some Verdict.Accept) None e = cc
policy_once (Some Verdict.Accept) (Some Verdict.Accept) e = refl
policy_once (Some Verdict.Accept) (Some Verdict.Drop) e = cc
policy_once (Some Verdict.Drop) None e = cc
policy_once (Some Verdict.Drop) (Some Verdict.Accept) e = cc
policy_once (Some Verdict.Drop) (Some Verdict.Drop) e = refl

pub words_are : (words rest counter : List Token) (first second : Token) (a b : Word) → words ≡ first ∷ rest → rest ≡ second ∷ counter
    → word_of first ≡ a → word_of second ≡ b → words_of words ≡ a ∷ b ∷ words_of counter
words_are words rest counter first second a b e f g h =
    ap words_of e ∙ ap (λ (ws : List Token). word_of first ∷ words_of ws) f
    ∙ ap (λ (w : Word). w ∷ word_of second ∷ words_of counter) g ∙ ap (λ (w : Word). a ∷ w ∷ words_of counter) h

first_text : List Word → Text
first_text [] = []
first_text (w ∷ ws) = w.text

second_text : List Word → Text
second_text [] = []
second_text (w ∷ ws) = first_text ws

after_first : Text → Text
after_first [] = []
after_first (b ∷ bs) = bs

fits_by : (words : List Word) (counter : List Word) (name : Text) (p : Option Verdict) (chain : Declared)
    → words ≡ bare (58 ∷ name) ∷ bare (policy_text p) ∷ counter → IsChainLine words chain → is_among built_in name ≡ is_some p
unfolding first_text second_text after_first
fits_by words counter name p chain are is =
    let same = sym are ∙ is.whole in
    let name_is : name ≡ chain.name = ap (λ (ws : List Word). after_first (first_text ws)) same in
    let text_is : policy_text p ≡ policy_text chain.policy = ap (λ (ws : List Word). second_text ws) same in
    ap (is_among built_in) name_is ∙ is.policy ∙ ap is_some (sym (policy_once p chain.policy text_is))

-- a chain's name is a built-in one exactly where there is a policy
pub policy_fits : (words rest counter : List Token) (first second : Token) (name : Text) (p : Option Verdict) (chain : Declared)
    → words ≡ first ∷ rest → rest ≡ second ∷ counter → word_of first ≡ bare (58 ∷ name) → word_of second ≡ bare (policy_text p)
    → IsChainLine (words_of words) chain → is_among built_in name ≡ is_some p
policy_fits words rest counter first second name p chain e f g h is =
    fits_by (words_of words) (words_of counter) name p chain (words_are words rest counter first second _ _ e f g h) is

same_chain : (a b : Declared) → a.name ≡ b.name → a.policy ≡ b.policy → a ≡ b
same_chain a b e f = λ i. record { name = e i; policy = f i }

-- the words of a line declare one chain at most
pub one_chain_line : (words : List Word) (a b : Declared) → IsChainLine words a → IsChainLine words b → a ≡ b
unfolding first_text second_text after_first
one_chain_line words a b p q =
    let same = sym p.whole ∙ q.whole in
    same_chain a b (ap (λ (ws : List Word). after_first (first_text ws)) same) (policy_once a.policy b.policy (ap (λ (ws : List Word). second_text ws) same))
