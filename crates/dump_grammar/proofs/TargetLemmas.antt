-- Words that may follow a target.
use Rattle.std.proofs.Common.{◌≡◌, ◌==◌, ◌∷◌, ◌∙◌, ℕ, [], List, Bool, true, Option, Some, None, length, refl, sym, subst, ap, arith, inr}
use Rattle.std.proofs.lemmas.Bool.Decides.{nat_tests}
use Rattle.std.specs.Prelude.{codes}
use Rattle.dump_token.specs.declared.token.Token.{Token}
use Rattle.fw_rule.specs.declared.rule.Action.{Action}
use Rattle.dump_grammar.specs.declared.rule.Target.{Target}
use Rattle.dump_grammar.specs.Lines.{Text, Word, bare, word_of, words_of}
use Rattle.dump_grammar.specs.Targets.{IsRejectOption, IsTarget, user_chain}
use Rattle.dump_grammar.proofs.PolicyLemmas.{words_are}

pub no_words : (xs : List Token) (r : Bool) → r ≡ (length xs == 0) → r ≡ true → xs ≡ []
no_words [] r e f = refl
no_words (x ∷ xs) r e f = absurd (grind (arith, nat_tests, e, f))

pub reject_option : (words rest after : List Token) (option kind : Token) (r : Bool) → words ≡ option ∷ rest → rest ≡ kind ∷ after
    → word_of option ≡ bare (codes "--reject-with") → r ≡ (length after == 0) → r ≡ true → IsRejectOption (words_of words)
reject_option words rest after option kind r e f g h i =
    inr (word_of kind, words_are words rest after option kind _ _ e f g refl ∙ ap (λ (ws : List Token). bare (codes "--reject-with") ∷ word_of kind ∷ words_of ws) (no_words after r h i))

-- what the words after `-g` say, by the number of the chain of that name
by_number : (names : List Text) (words : List Word) (name : Word) (number : Option ℕ) (t : Target) → words ≡ bare (codes "-g") ∷ name ∷ [] → user_chain names name.text ≡ number
    → ((k : ℕ) → number ≡ Some k → t ≡ Target.Does (Action.Goto k)) → (number ≡ None → t ≡ Target.Undefined) → IsTarget names words t
by_number names words name (Some k) t e u does un = subst (λ (x : Target). IsTarget names words x) (sym (does k refl)) (inr (inr (name, k, (e, u, refl))))
by_number names words name None t e u does un = subst (λ (x : Target). IsTarget names words x) (sym (un refl)) (name, (e, u))

pub goto_target : (names : List Text) (words rest after : List Token) (option name : Token) (r : Bool) (number : Option ℕ) (t : Target) → words ≡ option ∷ rest → rest ≡ name ∷ after
    → word_of option ≡ bare (codes "-g") → r ≡ (length after == 0) → r ≡ true → user_chain names (word_of name).text ≡ number
    → ((k : ℕ) → number ≡ Some k → t ≡ Target.Does (Action.Goto k)) → (number ≡ None → t ≡ Target.Undefined) → IsTarget names (words_of words) t
goto_target names words rest after option name r number t e f g h i u does un =
    by_number names (words_of words) (word_of name) number t
    (words_are words rest after option name _ _ e f g refl ∙ ap (λ (ws : List Token). bare (codes "-g") ∷ word_of name ∷ words_of ws) (no_words after r h i)) u does un
