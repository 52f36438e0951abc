-- Known literals, and whether they hold of a packet.
use Rattle.std.proofs.Common.{◌≡◌, ℕ, ◌+◌, List, [], ◌∷◌, ◌++◌, Bool, true, false, not, ◌&&◌, refl, sym, ◌∙◌, ap}
use Rattle.std.proofs.lemmas.Bool.{or_from}
use Rattle.std.proofs.lemmas.List.Folds.{list_any-append}
use Rattle.match_expr.specs.Meaning.{eval_of, truth}
use Rattle.match_expr.specs.declared.expr.Expr.TheVariants.{Prim, rolls-Prim}
use Rattle.match_expr.specs.declared.expr.Expr.TheOpen.{Expr-F}
use Rattle.match_expr.specs.declared.expr.Expr.TheFolds.{fold-roll-Expr}
use Rattle.fw_rule.specs.declared.rule.Lit.{Lit}
use Rattle.fw_rule.specs.Walk.{Path, Meaning, known_holds, literals_hold, is_unknown, doubt_in}
use Rattle.basics.proofs.Truths.{and_assoc}
use Rattle.printed_filter.proofs.Truths.{and_true}

pub eval-Prim : {P : Type 0} (test : P → Bool) (x : P) → eval_of test (Prim x) ≡ test x
eval-Prim {P} test x = ap (eval_of test) (sym (rolls-Prim x)) ∙ fold-roll-Expr P Bool (truth test) (Expr-F.Prim x)

module _ {P Packet : Type 0} (holds : P → Packet → Bool) (p : Packet) where
  -- whether the literals are known and hold
  abbrev pub facts : List (Lit P) → Bool
  facts [] = true
  facts (Lit.Known neg expr ∷ lits) = known_holds holds p neg expr && facts lits
  facts (Lit.Unknown text ∷ lits) = false

  pub facts-append : (a b : List (Lit P)) → facts (a ++ b) ≡ (facts a && facts b)
  facts-append [] b = refl
  facts-append (Lit.Known neg expr ∷ a) b =
      ap (λ x. known_holds holds p neg expr && x) (facts-append a b) ∙ sym (and_assoc (known_holds holds p neg expr) (facts a) (facts b))
  facts-append (Lit.Unknown text ∷ a) b = refl

  -- known literals hold at any place where they are facts
  pub hold_by_facts : (m : Meaning) (path : Path) (l : ℕ) (lits : List (Lit P)) → doubt_in lits ≡ false → literals_hold holds p m path l lits ≡ facts lits
  hold_by_facts m path l [] k = refl
  hold_by_facts m path l (Lit.Known neg expr ∷ lits) k = ap (λ x. known_holds holds p neg expr && x) (hold_by_facts m path (l + 1) lits k)
  hold_by_facts m path l (Lit.Unknown text ∷ lits) k = let wrong : true ≡ false = k in cc

  pub one_fact : (x : P) → facts (Lit.Known false (Prim x) ∷ []) ≡ holds x p
  one_fact x = and_true (known_holds holds p false (Prim x)) ∙ eval-Prim (λ y. holds y p) x

  pub one_denied : (x : P) → facts (Lit.Known true (Prim x) ∷ []) ≡ not (holds x p)
  one_denied x = and_true (known_holds holds p true (Prim x)) ∙ ap not (eval-Prim (λ y. holds y p) x)

module _ {P : Type 0} where
  pub known-append : (a b : List (Lit P)) → doubt_in a ≡ false → doubt_in b ≡ false → doubt_in (a ++ b) ≡ false
  known-append a b k l = list_any-append (is_unknown {P = P}) a b ∙ or_from (doubt_in a) (doubt_in b) k l
