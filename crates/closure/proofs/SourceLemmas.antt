-- Each primitive of the flat list stands in a known literal of a rule that is reached.
use Rattle.std.proofs.Common.{◌≡◌, ℕ, zero, suc, Bool, true, false, List, [], ◌∷◌, ◌++◌, map, Some, slice_get, Contains, if◌then◌else◌, refl, sym, ◌∙◌, ap, subst, arith}
use Rattle.std.specs.List.{AllByRecursion}
use Rattle.basics.proofs.Lists.{each_append, each_contained, each_more}
use Rattle.match_expr.specs.declared.expr.Expr.{Expr}
use Rattle.match_expr.specs.declared.expr.Expr.TheOpen.{Expr-F}
use Rattle.match_expr.specs.declared.expr.Expr.TheFolds.{fold-roll-Expr}
use Rattle.match_expr.specs.declared.expr.Expr.TheVariants.{All, Not, rolls-All, rolls-Not}
use Rattle.match_expr.specs.declared.expr.FlatRule.{FlatRule}
use Rattle.fw_rule.specs.declared.rule.Lit.{Lit}
use Rattle.fw_rule.specs.declared.rule.Rule.{Rule}
use Rattle.fw_rule.specs.declared.rule.Dump.{Dump}
use Rattle.fw_rule.specs.Matching.{known_of, known_in, doubt_in}
use Rattle.fw_rule.specs.Walk.{Reaches, Here, RuleOf, target_of}
use Rattle.fw_rule.proofs.Ends.{append}
use Rattle.fw_rule.specs.declared.side.Side.{Side}
use Rattle.closure.specs.declared.modes.Escape.{Escape}
use Rattle.rewriting.specs.declared.rows.Mode.{Mode}
use Rattle.rewriting.specs.declared.rows.Mode.TheVariants.{Soft}
use Rattle.rewriting.specs.declared.rows.Row.{Row}
use Rattle.closure.specs.Rewriting.{Tree, Done, Decide, Leave, Block, shape, items, rules_of, tree}
use Rattle.rewriting.specs.Table.{kind, row_of}
use Rattle.closure.specs.Flat.{escape, carried, stayed, escapes, flat_of, flat_list}
use Rattle.match_expr.specs.Primitives.{joined, listed, primitives_in}
use Rattle.closure.specs.Sources.{IsKnown, AreKnown}
use Rattle.closure.proofs.FlatLemmas.{Runs, run_kind, calls}
use Rattle.closure.proofs.Depths.{stands}

-- what goes over from parts to their All and their Not goes over from the items of a tree to its flat list
module _ {P : Type 0} (Q : Expr P → Type 0) (of_all : (es : List (Expr P)) → AllByRecursion Q es → Q (All es)) (of_not : (e : Expr P) → Q e → Q (Not e)) where
  abbrev Items : Tree P → Type 0
  Items Done = Unit {0}
  Items (Decide e v rest) = Q e × Items rest
  Items (Leave e n rest) = Q e × Items rest
  Items (Block e inner rest) = Q e × Items inner × Items rest

  abbrev Each : List (Expr P) → Type 0
  Each es = AllByRecursion Q es

  abbrev Escapes : List (Escape P) → Type 0
  Escapes xs = AllByRecursion (λ (x : Escape P). Q x.condition) xs

  abbrev Rules : List (FlatRule P) → Type 0
  Rules rules = AllByRecursion (λ (rule : FlatRule P). Q rule.expr) rules

  both : (e x : Expr P) → Q e → Q x → Q (All (e ∷ x ∷ []))
  both e x a b = of_all (e ∷ x ∷ []) (a, (b, tt))

  one_escape : (past : List (Expr P)) (n : ℕ) (e : Expr P) (rest : List (Escape P)) → Each past → Q e → Escapes rest → Escapes (escape past n e rest)
  one_escape past zero e rest p q r = r
  one_escape past (suc n) e rest p q r = (of_all (past ++ e ∷ []) (each_more Q past e p q), r)

  all_carried : (past : List (Expr P)) (e : Expr P) (xs : List (Escape P)) → Each past → Q e → Escapes xs → Escapes (carried past e xs)
  all_carried past e [] p q s = tt
  all_carried past e (x ∷ xs) p q s =
      one_escape past x.up (All (e ∷ x.condition ∷ [])) (carried past e xs) p (both e x.condition q s.0) (all_carried past e xs p q s.1)

  all_stayed : (e : Expr P) (xs : List (Escape P)) → Q e → Escapes xs → Each (stayed e xs)
  all_stayed e [] q s = tt
  all_stayed e (x ∷ xs) q s = (of_not (All (e ∷ x.condition ∷ [])) (both e x.condition q s.0), all_stayed e xs q s.1)

  all_escapes : (past : List (Expr P)) (tree : Tree P) → Each past → Items tree → Escapes (escapes past tree)
  all_escapes past Done p i = tt
  all_escapes past (Decide e v rest) p i = all_escapes past rest p i.1
  all_escapes past (Leave e n rest) p i =
      one_escape past n e (escapes (past ++ Not e ∷ []) rest) p i.0 (all_escapes (past ++ Not e ∷ []) rest (each_more Q past (Not e) p (of_not e i.0)) i.1)
  all_escapes past (Block e inner rest) p i =
      let inside = all_escapes [] inner tt i.1 in
      each_append (λ (x : Escape P). Q x.condition) (carried past e (escapes [] inner)) (escapes (past ++ stayed e (escapes [] inner)) rest)
      (all_carried past e (escapes [] inner) p i.0 inside)
      (all_escapes (past ++ stayed e (escapes [] inner)) rest (each_append Q past (stayed e (escapes [] inner)) p (all_stayed e (escapes [] inner) i.0 inside)) i.2)

  all_flat : (around past : List (Expr P)) (tree : Tree P) → Each around → Each past → Items tree → Rules (flat_of around past tree)
  all_flat around past Done a p i = tt
  all_flat around past (Decide e v rest) a p i =
      (of_all (around ++ past ++ e ∷ []) (each_more Q (around ++ past) e (each_append Q around past a p) i.0), all_flat around past rest a p i.1)
  all_flat around past (Leave e n rest) a p i = all_flat around (past ++ Not e ∷ []) rest a (each_more Q past (Not e) p (of_not e i.0)) i.1
  all_flat around past (Block e inner rest) a p i =
      each_append (λ (rule : FlatRule P). Q rule.expr) (flat_of (around ++ past ++ e ∷ []) [] inner) (flat_of around (past ++ stayed e (escapes [] inner)) rest)
      (all_flat (around ++ past ++ e ∷ []) [] inner (each_more Q (around ++ past) e (each_append Q around past a p) i.0) tt i.1)
      (all_flat around (past ++ stayed e (escapes [] inner)) rest a
      (each_append Q past (stayed e (escapes [] inner)) p (all_stayed e (escapes [] inner) i.0 (all_escapes [] inner tt i.1))) i.2)

  module _ (side : Side) where
    row_items : (callee : ℕ → Mode → Tree P) (k : Expr P) (rest : Mode → Tree P) (mode : Mode) (r : Row) → Q k → ((m : Mode) → Items (rest m)) →
        ((c : ℕ) (m : Mode) → Runs r c m → Items (callee c m)) → Items (shape callee k rest mode r)
    row_items callee k rest mode Row.Skip q behind called = behind mode
    row_items callee k rest mode (Row.Decide v) q behind called = (q, behind mode)
    row_items callee k rest mode (Row.Leave n) q behind called = (q, behind mode)
    row_items callee k rest mode Row.LeaveLater q behind called = (q, behind (Soft 0), (q, behind mode))
    row_items callee k rest mode (Row.Run c m) q behind called = (q, called c m (refl, refl), behind mode)
    row_items callee k rest mode (Row.RunThenLeave c m) q behind called = (q, called c m (refl, refl), (q, behind mode))
    row_items callee k rest mode (Row.RunLater c) q behind called =
        (q, behind (Soft 0), (q, (of_all [] tt, called c (Soft 1) (refl, refl), (of_all [] tt, tt)), behind mode))

    rules_items : (callee : ℕ → Mode → Tree P) (rules : List (Rule P)) →
        ((i : ℕ) (rule : Rule P) → slice_get rules i ≡ Some rule → Q (known_of rule) × ((k : ℕ) (m : Mode) → target_of rule.action ≡ Some k → Items (callee k m))) →
        (mode : Mode) → Items (items side callee rules mode)
    rules_items callee [] each mode = tt
    rules_items callee (rule ∷ rules) each mode =
        let one = each 0 rule refl in
        row_items callee (known_of rule) (λ (m : Mode). items side callee rules m) mode (row_of side (doubt_in rule.lits) (kind side rule.action) mode) one.0
        (λ m. rules_items callee rules (λ i r e. each (suc i) r e) m)
        (λ k m e. one.1 k m (calls side rule.action k (run_kind side (doubt_in rule.lits) (kind side rule.action) mode m k e).0))

    tree_items : (dump : Dump P) (asked : ℕ) → ((c : ℕ) (rule : Rule P) → Reaches dump asked c → RuleOf dump c rule → Q (known_of rule)) →
        (depth c : ℕ) → Reaches dump asked c → (mode : Mode) → Items (tree side dump depth c mode)
    tree_items dump asked known zero c r mode = tt
    tree_items dump asked known (suc depth) c r mode =
        rules_items (tree side dump depth) (rules_of dump c)
        (λ i rule e. let there = stands dump c (slice_get dump.chains c) refl i rule e in
        (known c rule r there, λ k m a. tree_items dump asked known depth k (append dump r (rule, there, a)) m)) mode

module _ {P : Type 0} where
  of_All : (es : List (Expr P)) → primitives_in (All es) ≡ joined (map primitives_in es)
  of_All es = ap (primitives_in {P = P}) (sym (rolls-All es)) ∙ fold-roll-Expr P (List P) (listed {P = P}) (Expr-F.All es)

  of_Not : (e : Expr P) → primitives_in (Not e) ≡ primitives_in e
  of_Not e = ap (primitives_in {P = P}) (sym (rolls-Not e)) ∙ fold-roll-Expr P (List P) (listed {P = P}) (Expr-F.Not e)

  module _ (R : P → Type 0) where
    abbrev Has : Expr P → Type 0
    Has e = AllByRecursion R (primitives_in e)

    has_parts : (es : List (Expr P)) → AllByRecursion Has es → AllByRecursion R (joined (map primitives_in es))
    has_parts [] x = tt
    has_parts (e ∷ es) x = each_append R (primitives_in e) (joined (map primitives_in es)) x.0 (has_parts es x.1)

    has_all : (es : List (Expr P)) → AllByRecursion Has es → Has (All es)
    has_all es x = subst (AllByRecursion R) (sym (of_All es)) (has_parts es x)

    has_not : (e : Expr P) → Has e → Has (Not e)
    has_not e x = subst (AllByRecursion R) (sym (of_Not e)) x

    known_parts : (lits : List (Lit P)) → ((neg : Bool) (e : Expr P) → Contains lits (Lit.Known neg e) → Has e) → AllByRecursion Has (known_in lits)
    known_parts [] f = tt
    known_parts (Lit.Known neg e ∷ lits) f = (of_neg neg (f neg e (zero, omega arith, refl)), known_parts lits (λ n x c. f n x (suc c.0, omega (arith, c.1), c.2)))
      where
        of_neg : (n : Bool) → Has e → Has (if n then Not e else e)
        of_neg true x = has_not e x
        of_neg false x = x
    known_parts (Lit.Unknown text ∷ lits) f = known_parts lits (λ n x c. f n x (suc c.0, omega (arith, c.1), c.2))

  pub list_known : (side : Side) (dump : Dump P) (depth chain : ℕ) (mode : Mode) → AreKnown dump chain (flat_list (tree side dump depth chain mode))
  list_known side dump depth chain mode =
      all_flat (Has (IsKnown dump chain)) (has_all (IsKnown dump chain)) (has_not (IsKnown dump chain)) [] [] (tree side dump depth chain mode) tt tt
      (tree_items (Has (IsKnown dump chain)) (has_all (IsKnown dump chain)) (has_not (IsKnown dump chain)) side dump chain
      (λ c rule r there. has_all (IsKnown dump chain) (known_in rule.lits) (known_parts (IsKnown dump chain) rule.lits
      (λ neg e stood. each_contained (IsKnown dump chain) (primitives_in e) (λ x stood_in. (c, rule, neg, e, r, there, stood, stood_in)))))
      depth chain Here mode)
