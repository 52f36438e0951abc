-- The number of items depends on a mode only as far as it is Soft 0 or not: two numbers a chain suffice.
use Rattle.std.proofs.Common.{◌≡◌, ℕ, zero, suc, ◌+◌, Bool, true, false, List, [], ◌∷◌, refl, ap}
use Rattle.match_expr.specs.declared.expr.Expr.{Expr}
use Rattle.fw_rule.specs.declared.rule.Rule.{Rule}
use Rattle.fw_rule.specs.declared.rule.Dump.{Dump}
use Rattle.fw_rule.specs.declared.side.Side.{Side}
use Rattle.rewriting.specs.declared.kinds.ActionKind.{ActionKind}
use Rattle.rewriting.specs.declared.kinds.ActionKind.TheVariants.{GoodVerdict, BadVerdict, GoOn, GoBack, CallTo, GoTo}
use Rattle.rewriting.specs.declared.rows.Mode.{Mode}
use Rattle.rewriting.specs.declared.rows.Mode.TheVariants.{Hard, Soft}
use Rattle.fw_rule.specs.Matching.{known_of, doubt_in}
use Rattle.closure.specs.Rewriting.{Tree, nodes, shape, to_the_end, items, tree, rules_of}
use Rattle.rewriting.specs.Table.{row_of, kind}

module _ {P : Type 0} (side : Side) where
  row_nodes : (callee : ℕ → Mode → Tree P) → ((c j : ℕ) → nodes (callee c (Soft (suc j))) ≡ nodes (callee c Hard)) → (k : Expr P) (rest : Mode → Tree P) (j : ℕ) →
      nodes (rest (Soft (suc j))) ≡ nodes (rest Hard) → (d : Bool) (what : ActionKind) →
      nodes (shape callee k rest (Soft (suc j)) (row_of side d what (Soft (suc j)))) ≡ nodes (shape callee k rest Hard (row_of side d what Hard))
  row_nodes callee hc k rest j e true GoodVerdict = ap suc e
  row_nodes callee hc k rest j e false GoodVerdict = ap suc e
  row_nodes callee hc k rest j e true BadVerdict = e
  row_nodes callee hc k rest j e false BadVerdict = ap suc e
  row_nodes callee hc k rest j e true GoOn = e
  row_nodes callee hc k rest j e false GoOn = e
  row_nodes callee hc k rest j e true GoBack = ap (λ (n : ℕ). suc (nodes (rest (Soft 0)) + suc n)) e
  row_nodes callee hc k rest j e false GoBack = ap suc e
  row_nodes callee hc k rest j e true (CallTo c) = ap (λ (n : ℕ). suc (nodes (callee c (Soft 0)) + n)) e
  row_nodes callee hc k rest j e false (CallTo c) = rw (hc c (suc j), e) refl
  row_nodes callee hc k rest j e true (GoTo c) = ap (λ (n : ℕ). suc (nodes (rest (Soft 0)) + suc (nodes (to_the_end (callee c (Soft 1))) + n))) e
  row_nodes callee hc k rest j e false (GoTo c) = rw (hc c (suc j), e) refl

  items_nodes : (callee : ℕ → Mode → Tree P) → ((c j : ℕ) → nodes (callee c (Soft (suc j))) ≡ nodes (callee c Hard)) → (rules : List (Rule P)) (j : ℕ) →
      nodes (items side callee rules (Soft (suc j))) ≡ nodes (items side callee rules Hard)
  items_nodes callee hc [] j = refl
  items_nodes callee hc (rule ∷ rules) j =
      row_nodes callee hc (known_of rule) (λ (m : Mode). items side callee rules m) j (items_nodes callee hc rules j) (doubt_in rule.lits) (kind side rule.action)

  pub tree_nodes : (dump : Dump P) (depth c j : ℕ) → nodes (tree side dump depth c (Soft (suc j))) ≡ nodes (tree side dump depth c Hard)
  tree_nodes dump zero c j = refl
  tree_nodes dump (suc depth) c j = items_nodes (tree side dump depth) (tree_nodes dump depth) (rules_of dump c) j
