-- From each position a line leads to one position at most.
use Rattle.std.proofs.Common.{ℕ, ◌≡◌, inl, inr, Option, List, [], ◌∷◌, ◌++◌, map, refl, sym, ap, subst, ◌∙◌, arith, codes}
use Rattle.dump_token.proofs.Once.{one_list}
use Rattle.dump_grammar.specs.Lines.{Text, Word, Numbered, is_passed_over, bare, word_of, HasWords}
use Rattle.dump_grammar.specs.declared.chains.Declared.{Declared}
use Rattle.dump_grammar.specs.ChainLines.{IsChainLine, IsMaybeCounter, policy_text}
use Rattle.dump_grammar.specs.declared.rule.RuleLine.{RuleLine}
use Rattle.dump_grammar.specs.RuleLines.{IsRuleLine}
use Rattle.dump_grammar.specs.Tables.{Placed, names_of}
use Rattle.dump_read.specs.inner.Positions.{Filter, Position, Opens, Adds, Moves, Step, Leads}
use Rattle.basics.proofs.Lists.{head_same, tail_same}
use Rattle.basics.proofs.Truths.{clash}

pub one_words : (line : Text) (v w : List Word) → HasWords line v → HasWords line w → v ≡ w
one_words line v w p q = sym p.2 ∙ ap (map word_of) (one_list 0 p.0 q.0 line p.1 q.1) ∙ q.2

unlike : (a b : ℕ) (xs ys : Text) → a ∷ xs ≡ b ∷ ys → (a ≡ b → ⊥) → ⊥
unlike a b xs ys e h = h (head_same a b xs ys e)

module _ (W : ℕ) (Reads : Text → ℕ → Type 0) where
  -- the line that closes filter declares no chain
  pub close_chain : (words : List Word) (chain : Declared) → words ≡ bare (codes "COMMIT") ∷ [] → IsChainLine words chain → ⊥
  close_chain words chain e is =
      let f : bare (codes "COMMIT") ≡ bare (58 ∷ chain.name) = head_same (bare (codes "COMMIT")) (bare (58 ∷ chain.name)) [] (bare (policy_text chain.policy) ∷ is.counter) (sym e ∙ is.whole) in
      unlike 67 58 (codes "OMMIT") chain.name (ap (λ (w : Word). w.text) f) (λ e. omega arith)

  close_counter : (more : List Word) (counter : List Word) → bare (codes "COMMIT") ∷ [] ≡ counter ++ (bare (codes "-A") ∷ more) → IsMaybeCounter counter → ⊥
  close_counter more [] f m =
      let t : codes "COMMIT" ≡ codes "-A" = ap (λ (w : Word). w.text) (head_same (bare (codes "COMMIT")) (bare (codes "-A")) [] more f) in
      unlike 67 45 (codes "OMMIT") (codes "A") t (λ e. omega arith)
  close_counter more (c ∷ []) f m =
      let t : [] ≡ bare (codes "-A") ∷ more = tail_same (bare (codes "COMMIT")) c [] (bare (codes "-A") ∷ more) f in
      cc
  close_counter more (c ∷ (d ∷ cs)) f m = m

  -- .. and is no rule
  close_rule : (words : List Word) (names : List Text) (rule : RuleLine W) → words ≡ bare (codes "COMMIT") ∷ [] → IsRuleLine Reads names words rule → ⊥
  close_rule words names rule e is = close_counter (is.head.1 ∷ is.rest) is.head.0 (sym e ∙ is.head.2.2) is.head.2.0

  -- no words begin as a chain line and as a rule
  apart : (name : Text) (rest more : List Word) (counter : List Word) → IsMaybeCounter counter → bare (58 ∷ name) ∷ rest ≡ counter ++ (bare (codes "-A") ∷ more) → ⊥
  apart name rest more [] m f =
      let t : 58 ∷ name ≡ 45 ∷ 65 ∷ [] = ap (λ (w : Word). w.text) (head_same (bare (58 ∷ name)) (bare (codes "-A")) rest more f) in
      unlike 58 45 name (65 ∷ []) t (λ e. omega arith)
  apart name rest more (c ∷ []) m f =
      let s : 58 ∷ name ≡ c.text = ap (λ (w : Word). w.text) (head_same (bare (58 ∷ name)) c rest (bare (codes "-A") ∷ more) f) in
      unlike 58 91 name (m.1.packets ++ 58 ∷ (m.1.bytes ++ 93 ∷ [])) (s ∙ m.1.spelled) (λ e. omega arith)
  apart name rest more (c ∷ (d ∷ cs)) m f = m

  -- a line that declares a chain is no rule
  pub chain_rule : (words : List Word) (names : List Text) (chain : Declared) (rule : RuleLine W) → IsChainLine words chain → IsRuleLine Reads names words rule → ⊥
  chain_rule words names chain rule is that =
      apart chain.name (bare (policy_text chain.policy) ∷ is.counter) (that.head.1 ∷ that.rest) that.head.0 that.head.2.0 (sym is.whole ∙ that.head.2.2)

-- The laws that words are one chain line at most, and one rule line, are what the calls of their readers promise.
module _ (W : ℕ) (Reads : Text → ℕ → Type 0)
    (one_chain : (words : List Word) (a b : Declared) → IsChainLine words a → IsChainLine words b → a ≡ b)
    (one_rule : (names : List Text) (words : List Word) (a b : RuleLine W) → IsRuleLine Reads names words a → IsRuleLine Reads names words b → a ≡ b) where
  opens_once : (found : Option (Filter W)) (name other : Text) (q r : Position W) → name ≡ other → Opens W Reads found name q → Opens W Reads found other r → q ≡ r
  opens_once found name other q r e (inl a) (inl b) = a.2 ∙ sym b.2
  opens_once found name other q r e (inl a) (inr b) = absurd (b.0 (sym e ∙ a.0))
  opens_once found name other q r e (inr a) (inl b) = absurd (a.0 (e ∙ b.0))
  opens_once found name other q r e (inr a) (inr b) = a.1 ∙ sym b.1

  adds_once : (chains : List Declared) (rules : List (Placed W)) (n : ℕ) (words : List Word) (q r : Position W) → Adds W Reads chains rules n words q → Adds W Reads chains rules n words r → q ≡ r
  adds_once chains rules n words q r (inl a) (inl b) = a.1 ∙ sym b.1
  adds_once chains rules n words q r (inl a) (inr (inl b)) = absurd (close_chain W Reads words b.0 a.0 b.1.1)
  adds_once chains rules n words q r (inl a) (inr (inr b)) = absurd (close_rule W Reads words (names_of chains) b.0 a.0 b.1.0)
  adds_once chains rules n words q r (inr (inl a)) (inl b) = absurd (close_chain W Reads words a.0 b.0 a.1.1)
  adds_once chains rules n words q r (inr (inl a)) (inr (inl b)) =
      let to : Declared → Position W = λ c. Position.Inside (chains ++ c ∷ []) [] in
      a.1.3 ∙ ap to (one_chain words a.0 b.0 a.1.1 b.1.1) ∙ sym b.1.3
  adds_once chains rules n words q r (inr (inl a)) (inr (inr b)) = absurd (chain_rule W Reads words (names_of chains) a.0 b.0 a.1.1 b.1.0)
  adds_once chains rules n words q r (inr (inr a)) (inl b) = absurd (close_rule W Reads words (names_of chains) a.0 b.0 a.1.0)
  adds_once chains rules n words q r (inr (inr a)) (inr (inl b)) = absurd (chain_rule W Reads words (names_of chains) b.0 a.0 b.1.1 a.1.0)
  adds_once chains rules n words q r (inr (inr a)) (inr (inr b)) =
      let to : RuleLine W → Position W = λ x. Position.Inside chains (rules ++ record { number = n; rule = x } ∷ []) in
      a.1.1 ∙ ap to (one_rule (names_of chains) words a.0 b.0 a.1.0 b.1.0) ∙ sym b.1.1

  moves_once : (p : Position W) (line : Numbered) (q r : Position W) → Moves W Reads p line q → Moves W Reads p line r → q ≡ r
  moves_once (Position.Outside found) line q r a b =
      let e : bare (42 ∷ a.0) ∷ [] ≡ bare (42 ∷ b.0) ∷ [] = one_words line.bytes (bare (42 ∷ a.0) ∷ []) (bare (42 ∷ b.0) ∷ []) a.1.1 b.1.1 in
      let f : a.0 ≡ b.0 = tail_same 42 42 a.0 b.0 (ap (λ (w : Word). w.text) (head_same (bare (42 ∷ a.0)) (bare (42 ∷ b.0)) [] [] e)) in
      opens_once found a.0 b.0 q r f a.1.2 b.1.2
  moves_once (Position.Passing found) line q r (inl a) (inl b) = a.1 ∙ sym b.1
  moves_once (Position.Passing found) line q r (inl a) (inr b) = absurd (b.0 a.0)
  moves_once (Position.Passing found) line q r (inr a) (inl b) = absurd (a.0 b.0)
  moves_once (Position.Passing found) line q r (inr a) (inr b) = a.1 ∙ sym b.1
  moves_once (Position.Inside chains rules) line q r a b =
      adds_once chains rules line.number a.0 q r a.1.1
      (subst (λ (ws : List Word). Adds W Reads chains rules line.number ws r) (one_words line.bytes b.0 a.0 b.1.0 a.1.0) b.1.1)

  pub step_once : (p : Position W) (line : Numbered) (q r : Position W) → Step W Reads p line q → Step W Reads p line r → q ≡ r
  step_once p line q r (inl a) (inl b) = a.1 ∙ sym b.1
  step_once p line q r (inl a) (inr b) = absurd (clash (is_passed_over line.bytes) a.0 b.0)
  step_once p line q r (inr a) (inl b) = absurd (clash (is_passed_over line.bytes) b.0 a.0)
  step_once p line q r (inr a) (inr b) = moves_once p line q r a.1 b.1

  pub leads_once : (p : Position W) (lines : List Numbered) (q r : Position W) → Leads W Reads p lines q → Leads W Reads p lines r → q ≡ r
  leads_once p [] q r a b = a ∙ sym b
  leads_once p (line ∷ lines) q r a b =
      let same : b.0 ≡ a.0 = step_once p line b.0 a.0 b.1.0 a.1.0 in
      leads_once a.0 lines q r a.1.1 (subst (λ (m : Position W). Leads W Reads m lines r) same b.1.1)

module _ (W : ℕ) (Reads : Text → ℕ → Type 0) where
  pub leads_append : (p : Position W) (a b : List Numbered) (m q : Position W) → Leads W Reads p a m → Leads W Reads m b q → Leads W Reads p (a ++ b) q
  leads_append p [] b m q x y = subst (λ (z : Position W). Leads W Reads z b q) x y
  leads_append p (line ∷ a) b m q x y = (x.0, (x.1.0, leads_append x.0 a b m q x.1.1 y))

  pub leads_part : (p : Position W) (a b : List Numbered) (q : Position W) → Leads W Reads p (a ++ b) q → (m : Position W) × (Leads W Reads p a m × Leads W Reads m b q)
  leads_part p [] b q x = (p, (refl, x))
  leads_part p (line ∷ a) b q x =
      let rest = leads_part x.0 a b q x.1.1 in
      (rest.0, ((x.0, (x.1.0, rest.1.0)), rest.1.1))
