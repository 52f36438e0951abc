-- The flat list is the stream of the parts of its rules.
use Rattle.std.proofs.Common.{◌≡◌, List, [], ◌∷◌, ◌++◌, map, refl, sym, ◌∙◌, ap, append_assoc, append-nil}
use Rattle.std.proofs.lemmas.List.{map-append}
use Rattle.match_expr.specs.declared.expr.Expr.{Expr}
use Rattle.match_expr.specs.declared.expr.Expr.TheVariants.{All, Not}
use Rattle.match_expr.specs.declared.expr.FlatRule.{FlatRule}
use Rattle.closure.specs.declared.modes.Parts.{Parts}
use Rattle.closure.specs.Rewriting.{Tree, Done, Decide, Leave, Block}
use Rattle.closure.specs.Flat.{stayed, escapes, flat_of, flat_list}
use Rattle.closure.specs.Stream.{cut_all, stream}
use Rattle.closure.specs.inner.Parts.{with_part, rule_of_parts}

module _ {P : Type 0} where
  abbrev made : List (Expr P) → Parts P
  made es = record { parts = es }

  all_parts : (s es : List (Expr P)) → cut_all with_part (made s) es ≡ made (s ++ es)
  all_parts s [] = ap made (sym (append-nil s))
  all_parts s (e ∷ es) = all_parts (s ++ e ∷ []) es ∙ ap made (append_assoc s (e ∷ []) es)

  abbrev rules : Parts P → Tree P → List (FlatRule P)
  rules s tree = map rule_of_parts (stream with_part s tree)

  streamed : (around past : List (Expr P)) (tree : Tree P) → flat_of around past tree ≡ rules (made (around ++ past)) tree
  streamed around past Done = refl
  streamed around past (Decide e v rest) =
      ap (λ (z : List (FlatRule P)). record { expr = All (around ++ past ++ e ∷ []); accept = v } ∷ z) (streamed around past rest)
  streamed around past (Leave e n rest) =
      streamed around (past ++ Not e ∷ []) rest ∙ ap (λ (z : List (Expr P)). rules (made z) rest) (sym (append_assoc around past (Not e ∷ [])))
  streamed around past (Block e inner rest) =
      ap (λ (z : List (FlatRule P)). z ++ flat_of around (past ++ stayed e (escapes [] inner)) rest)
      (streamed (around ++ past ++ e ∷ []) [] inner ∙ ap (λ (z : List (Expr P)). rules (made z) inner) (append-nil (around ++ past ++ e ∷ [])))
      ∙ ap (λ (z : List (FlatRule P)). rules (made (around ++ past ++ e ∷ [])) inner ++ z)
      (streamed around (past ++ stayed e (escapes [] inner)) rest
      ∙ ap (λ (z : Parts P). rules z rest)
      (ap made (sym (append_assoc around past (stayed e (escapes [] inner)))) ∙ sym (all_parts (around ++ past) (stayed e (escapes [] inner)))))
      ∙ sym (map-append rule_of_parts (stream with_part (made (around ++ past ++ e ∷ [])) inner)
      (stream with_part (cut_all with_part (made (around ++ past)) (stayed e (escapes [] inner))) rest))

  pub flat_streamed : (tree : Tree P) → flat_list tree ≡ map rule_of_parts (stream with_part (made []) tree)
  flat_streamed tree = streamed [] [] tree
