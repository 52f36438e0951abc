-- The patterns of the simple rules stand in known literals of the dump.
use Rattle.std.proofs.Common.{◌≡◌, ℕ, List, [], ◌∷◌, map, Contains, sym, subst, inl, inr, ◌⊎◌}
use Rattle.std.specs.List.{AllByRecursion}
use Rattle.basics.proofs.Lists.{contained, each_append, each_contained, each_left, each_right, each_weaker}
use Rattle.match_expr.specs.declared.expr.Expr.{Expr, map-Expr, roll-Expr}
use Rattle.match_expr.specs.declared.expr.Expr.TheOpen.{Expr-F}
use Rattle.match_expr.specs.declared.expr.Expr.TheFolds.{fold-roll-Expr, ind-Expr}
use Rattle.match_expr.specs.declared.expr.FlatRule.{FlatRule}
use Rattle.name_set.specs.declared.pattern.Pattern.{Pattern}
use Rattle.name_set.specs.declared.set.NameSet.{NameSet}
use Rattle.primitives.specs.declared.prim.Prim_.{Prim_}
use Rattle.fw_rule.specs.declared.rule.Dump.{Dump}
use Rattle.match_expr.specs.Primitives.{joined, listed, primitives_in}
use Rattle.closure.specs.Sources.{IsKnown, AreKnown}
use Rattle.box_norm.specs.declared.cube.Cube.{Cube}
use Rattle.box_norm.specs.declared.cube.SimpleRule.{SimpleRule}
use Rattle.box_norm.specs.Normal.{normal_of}
use Rattle.box_norm.specs.Regular.{patterns_in, patterns_step, patterns_of, rule_patterns, IsOf, NamesAreOf, EachCube}
use Rattle.box_norm.proofs.StayLaws.{normal_patterns}
use Rattle.simple_filter.specs.Closed.{IsKnownPattern, NamesKnown, NamesAreKnown}

module _ {W : ℕ} (dump : Dump (Prim_ W)) (chain : ℕ) where
  abbrev E : Type 0
  E = Expr (Prim_ W)

  abbrev Known : Pattern → Type 0
  Known = IsKnownPattern dump chain

  abbrev Kept : E → Type 0
  Kept e = AllByRecursion (IsKnown dump chain) (primitives_in e) → AllByRecursion Known (patterns_of {W = W} e)

  every : (es : List ((e : E) × Kept e)) → AllByRecursion (IsKnown dump chain) (joined (map primitives_in (map (λ e. e.0) es))) →
      AllByRecursion Known (joined (map (patterns_of {W = W}) (map (λ e. e.0) es)))
  every [] h = tt
  every (e ∷ es) h =
      each_append Known (patterns_of {W = W} e.0) (joined (map (patterns_of {W = W}) (map (λ e. e.0) es)))
      (e.1 (each_left (IsKnown dump chain) (primitives_in e.0) (joined (map primitives_in (map (λ e. e.0) es))) h))
      (every es (each_right (IsKnown dump chain) (primitives_in e.0) (joined (map primitives_in (map (λ e. e.0) es))) h))

  abbrev Layer : Expr-F (Prim_ W) E → Type 0
  Layer z = AllByRecursion (IsKnown dump chain) (listed (map-Expr (Prim_ W) E (List (Prim_ W)) primitives_in z)) →
      AllByRecursion Known (patterns_step {W = W} (map-Expr (Prim_ W) E (List Pattern) (patterns_of {W = W}) z))

  layer : (z : Expr-F (Prim_ W) ((e : E) × Kept e)) → Layer (map-Expr (Prim_ W) ((e : E) × Kept e) E (λ e. e.0) z)
  layer (Expr-F.All es) = every es
  layer (Expr-F.Not e) = e.1
  layer (Expr-F.Prim x) = λ h. each_contained Known (patterns_in x) (λ p c. (x, h.0, c))

  known_patterns : (e : E) → Kept e
  known_patterns = ind-Expr (Prim_ W) Kept (λ x y is.
      subst (λ t. AllByRecursion (IsKnown dump chain) t → AllByRecursion Known (patterns_of {W = W} (roll-Expr (Prim_ W) x))) (sym (fold-roll-Expr (Prim_ W) (List (Prim_ W)) listed x))
      (subst (λ c. AllByRecursion (IsKnown dump chain) (listed (map-Expr (Prim_ W) E (List (Prim_ W)) primitives_in x)) → AllByRecursion Known c) (sym (fold-roll-Expr (Prim_ W) (List Pattern) (patterns_step {W = W}) x))
      (subst Layer is (layer y))))

  known_rules : (rules : List (FlatRule (Prim_ W))) → AreKnown dump chain rules → AllByRecursion Known (rule_patterns rules)
  known_rules [] h = tt
  known_rules (rule ∷ rules) h = each_append Known (patterns_of {W = W} rule.expr) (rule_patterns rules) (known_patterns rule.expr h.0) (known_rules rules h.1)

  module _ (ps : List Pattern) (known : AllByRecursion Known ps) where
    base_known : (p : Pattern) → (p ≡ Pattern.Prefix []) ⊎ Contains ps p → (p ≡ Pattern.Prefix []) ⊎ Known p
    base_known p (inl e) = inl e
    base_known p (inr c) = inr (contained Known ps p known c)

    names_known : (s : NameSet) → IsOf ps s → NamesKnown dump chain s
    names_known s h = record { base = base_known s.base h.base; excluded = each_weaker (Contains ps) Known (λ p c. contained Known ps p known c) s.excluded h.excluded }

    cube_known : (c : Cube W) → NamesAreOf ps c → NamesAreKnown dump chain c
    cube_known c h = record { in_name = names_known c.in_name h.in_name; out_name = names_known c.out_name h.out_name }

  pub normal_known : (rules : List (FlatRule (Prim_ W))) → AreKnown dump chain rules → EachCube (NamesAreKnown dump chain) (normal_of rules)
  normal_known rules h =
      each_weaker (λ (r : SimpleRule W). NamesAreOf (rule_patterns rules) r.cube) (λ (r : SimpleRule W). NamesAreKnown dump chain r.cube)
      (λ r k. cube_known (rule_patterns rules) (known_rules rules h) r.cube k) (normal_of rules) (normal_patterns W rules)
