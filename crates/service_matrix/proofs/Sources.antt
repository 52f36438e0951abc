-- Which sets of addresses are listed.
use Rattle.std.proofs.Common.{◌≡◌, ℕ, zero, suc, ◌+◌, ◌<◌, ◌≤◌, ◌⊎◌, inl, inr, ◌↔◌, Bool, List, [], ◌∷◌, ◌++◌, append_assoc, append-nil, ◌==◌, true, false, map, length, get_or, Some, slice_get, Contains, refl, sym, ◌∙◌, ap, subst, arith}
use Rattle.std.proofs.lemmas.Bool.Decides.{nat_tests}
use Rattle.std.proofs.lemmas.Option.{slice_get_within}
use Rattle.interval_set.specs.declared.set.Range.{Range}
use Rattle.match_expr.specs.declared.expr.Expr.{Expr, map-Expr}
use Rattle.match_expr.specs.declared.expr.Expr.TheOpen.{Expr-F}
use Rattle.match_expr.specs.declared.expr.Expr.TheFolds.{fold-roll-Expr, ind-Expr}
use Rattle.match_expr.specs.Primitives.{joined, listed, primitives_in}
use Rattle.fw_rule.specs.declared.rule.Chain.{Chain}
use Rattle.fw_rule.specs.declared.rule.Dump.{Dump}
use Rattle.fw_rule.specs.declared.rule.Lit.{Lit}
use Rattle.fw_rule.specs.declared.rule.Rule.{Rule}
use Rattle.fw_rule.specs.Walk.{Reaches, RuleOf}
use Rattle.chain_graph.specs.Marks.{AreRulesOf}
use Rattle.primitives.specs.declared.prim.Prim_.{Prim_}
use Rattle.closure.specs.Sources.{IsKnown}
use Rattle.service_matrix.specs.Refusals.{IsAddressSet}
use Rattle.service_matrix.specs.inner.AddressSets.{prim_sets, level_sets, expr_sets, literal_sets, rule_sets, all_sets, IsSetBefore, AreAddressSets}

more : {X : Type 0} (x y : X) (xs : List X) → Contains xs y → Contains (x ∷ xs) y
more x y xs c = (suc c.0, omega (arith, c.1), c.2)

here : {X : Type 0} (x y : X) (xs : List X) → x ≡ y → Contains (x ∷ xs) y
here x y xs e = (zero, omega arith, e)

left_in : {X : Type 0} (a b : List X) (y : X) → Contains a y → Contains (a ++ b) y
left_in [] b y (i, less, at) = absurd (omega (arith, less))
left_in (x ∷ a) b y (zero, less, at) = here x y (a ++ b) at
left_in (x ∷ a) b y (suc i, less, at) = more x y (a ++ b) (left_in a b y (i, omega (arith, less), at))

right_in : {X : Type 0} (a b : List X) (y : X) → Contains b y → Contains (a ++ b) y
right_in [] b y c = c
right_in (x ∷ a) b y c = more x y (a ++ b) (right_in a b y c)

of_either : {X : Type 0} (a b : List X) (y : X) → Contains (a ++ b) y → Contains a y ⊎ Contains b y
of_either [] b y c = inr c
of_either (x ∷ a) b y (zero, less, at) = inl (here x y a at)
of_either (x ∷ a) b y (suc i, less, at) = by (of_either a b y (i, omega (arith, less), at))
  where
    by : Contains a y ⊎ Contains b y → Contains (x ∷ a) y ⊎ Contains b y
    by (inl c) = inl (more x y a c)
    by (inr c) = inr c

-- the mark at a place, whatever stands past the end
pub marked_at : (marks : List Bool) (i : ℕ) (b : Bool) → i < length marks → b ≡ get_or marks i b → b ≡ get_or marks i false
marked_at [] i b h e = absurd (omega (arith, h))
marked_at (m ∷ marks) zero b h e = e
marked_at (m ∷ marks) (suc i) b h e = marked_at marks i b (omega (arith, h)) e

-- what one of the lists has, their join has
in_joined : {X Y : Type 0} (g : X → List Y) (xs : List X) (x : X) (y : Y) → Contains xs x → Contains (g x) y → Contains (joined (map g xs)) y
in_joined g [] x y (i, less, at) c = absurd (omega (arith, less))
in_joined g (z ∷ xs) x y (zero, less, at) c = left_in (g z) (joined (map g xs)) y (subst (λ w. Contains (g w) y) (sym at) c)
in_joined g (z ∷ xs) x y (suc i, less, at) c = right_in (g z) (joined (map g xs)) y (in_joined g xs x y (i, omega (arith, less), at) c)

of_joined : {X Y : Type 0} (g : X → List Y) (xs : List X) (y : Y) → Contains (joined (map g xs)) y → (x : X) × Contains xs x × Contains (g x) y
of_joined g [] y (i, less, at) = absurd (omega (arith, less))
of_joined g (z ∷ xs) y c = by (of_joined g xs y) (of_either (g z) (joined (map g xs)) y c)
  where
    by : (Contains (joined (map g xs)) y → (x : _) × Contains xs x × Contains (g x) y) → Contains (g z) y ⊎ Contains (joined (map g xs)) y → (x : _) × Contains (z ∷ xs) x × Contains (g x) y
    by later (inl k) = (z, here z z xs refl, k)
    by later (inr k) = let t = later k in (t.0, more z t.0 xs t.1, t.2)

joined_append : {X Y : Type 0} (g : X → List Y) (a b : List X) → joined (map g (a ++ b)) ≡ joined (map g a) ++ joined (map g b)
joined_append g [] b = refl
joined_append g (x ∷ a) b = ap (λ z. g x ++ z) (joined_append g a b) ∙ sym (append_assoc (g x) (joined (map g a)) (joined (map g b)))

-- the sets of an expression are those of its tests
module _ (W : ℕ) where
  abbrev E : Type 0
  E = Expr (Prim_ W)

  abbrev Listed : E → Type 0
  Listed e = expr_sets e ≡ joined (map (prim_sets {W = W}) (primitives_in e))

  each_part : (es : List ((e : E) × Listed e)) → joined (map (expr_sets {W = W}) (map (λ e. e.0) es)) ≡ joined (map (prim_sets {W = W}) (joined (map primitives_in (map (λ e. e.0) es))))
  each_part [] = refl
  each_part (e ∷ es) =
      ap (λ z. expr_sets e.0 ++ z) (each_part es) ∙ ap (λ z. z ++ joined (map (prim_sets {W = W}) (joined (map primitives_in (map (λ e. e.0) es))))) e.1
      ∙ sym (joined_append (prim_sets {W = W}) (primitives_in e.0) (joined (map primitives_in (map (λ e. e.0) es))))

  abbrev Layer : Expr-F (Prim_ W) E → Type 0
  Layer z = level_sets {W = W} (map-Expr (Prim_ W) E (List (List Range)) (expr_sets {W = W}) z) ≡ joined (map (prim_sets {W = W}) (listed (map-Expr (Prim_ W) E (List (Prim_ W)) primitives_in z)))

  of_one : (x : Prim_ W) → prim_sets x ≡ prim_sets x ++ []
  of_one x = sym (append-nil (prim_sets x))

  layer : (z : Expr-F (Prim_ W) ((e : E) × Listed e)) → Layer (map-Expr (Prim_ W) ((e : E) × Listed e) E (λ e. e.0) z)
  layer (Expr-F.All es) = each_part es
  layer (Expr-F.Not e) = e.1
  layer (Expr-F.Prim x) = of_one x

  expr_listed : (e : E) → Listed e
  expr_listed = ind-Expr (Prim_ W) Listed (λ x y is.
      fold-roll-Expr (Prim_ W) (List (List Range)) (level_sets {W = W}) x ∙ subst Layer is (layer y)
      ∙ sym (ap (λ z. joined (map (prim_sets {W = W}) z)) (fold-roll-Expr (Prim_ W) (List (Prim_ W)) listed x)))

  has_one : (x : Prim_ W) (set : List Range) → (x ≡ Prim_.Src set) ⊎ (x ≡ Prim_.Dst set) → Contains (prim_sets x) set
  has_one x set (inl e) = subst (λ (z : Prim_ W). Contains (prim_sets z) set) (sym e) (here set set [] refl)
  has_one x set (inr e) = subst (λ (z : Prim_ W). Contains (prim_sets z) set) (sym e) (here set set [] refl)

  only : (set held : List Range) → Contains (held ∷ []) set → held ≡ set
  only set held (zero, less, at) = at
  only set held (suc i, less, at) = absurd (omega (arith, less))

  none : (set : List Range) → Contains [] set → ⊥
  none set (i, less, at) = omega (arith, less)

  is_one : (x : Prim_ W) (set : List Range) → Contains (prim_sets x) set → (x ≡ Prim_.Src set) ⊎ (x ≡ Prim_.Dst set)
  is_one (Prim_.Src held) set c = inl (ap (λ z. Prim_.Src z) (only set held c))
  is_one (Prim_.Dst held) set c = inr (ap (λ z. Prim_.Dst z) (only set held c))
  is_one (Prim_.InName pattern) set c = absurd (none set c)
  is_one (Prim_.OutName pattern) set c = absurd (none set c)
  is_one (Prim_.Proto proto) set c = absurd (none set c)
  is_one (Prim_.SrcPorts ports) set c = absurd (none set c)
  is_one (Prim_.DstPorts ports) set c = absurd (none set c)
  is_one (Prim_.Flags mask comp) set c = absurd (none set c)
  is_one (Prim_.State states) set c = absurd (none set c)
  is_one (Prim_.IcmpKind m) set c = absurd (none set c)
  is_one Prim_.Always set c = absurd (none set c)

module _ {W : ℕ} (dump : Dump (Prim_ W)) (chain : ℕ) where
  -- a set of a rule in reach
  module _ (c : ℕ) (rules : List (Rule (Prim_ W))) (r : Reaches dump chain c) (is : AreRulesOf dump c rules) where
    of_literal : (rule : Rule (Prim_ W)) → RuleOf dump c rule → (lit : Lit (Prim_ W)) → Contains rule.lits lit → (set : List Range) → Contains (literal_sets lit) set → IsAddressSet dump chain set
    of_literal rule there (Lit.Known neg expr) stood set k =
        let t = of_joined (prim_sets {W = W}) (primitives_in expr) set (subst (λ z. Contains z set) (expr_listed W expr) k) in
        (t.0, (c, rule, neg, expr, r, there, stood, t.1), is_one W t.0 set t.2)
    of_literal rule there (Lit.Unknown text) stood set k = absurd (none W set k)

    of_rules : (set : List Range) → Contains (all_sets rules) set → IsAddressSet dump chain set
    of_rules set k =
        let t = of_joined (rule_sets {W = W}) rules set k in
        let u = of_joined (literal_sets {W = W}) (t.0).lits set t.2 in
        of_literal t.0 (is.0, is.1, subst (λ z. Contains z t.0) is.2 t.1) u.0 u.1 set u.2

  -- one more chain
  pub passed_over : (n : ℕ) (sets : List (List Range)) → (Reaches dump chain n → ⊥) → ((set : List Range) → Contains sets set ↔ IsSetBefore dump chain n set) →
      (set : List Range) → Contains sets set ↔ IsSetBefore dump chain (n + 1) set
  passed_over n sets not_reached h set = (
    λ k. let t = (h set).0 k in (t.0, t.1, omega (arith, t.2), t.3, t.4, t.5),
    λ t. (h set).1 (t.0, t.1, earlier t.0 t.2 t.3 (t.0 == n) refl, t.3, t.4, t.5),
  )
    where
      earlier : (c : ℕ) → c < n + 1 → Reaches dump chain c → (b : Bool) → (c == n) ≡ b → c < n
      earlier c l r true e = let same : c ≡ n = grind (arith, nat_tests, e) in absurd (not_reached (subst (λ (z : ℕ). Reaches dump chain z) same r))
      earlier c l r false e = grind (arith, nat_tests, l, e)

  pub more_sets : (n : ℕ) (rules : List (Rule (Prim_ W))) (sets sets' : List (List Range)) → Reaches dump chain n → AreRulesOf dump n rules → sets' ≡ sets ++ all_sets rules →
      ((set : List Range) → Contains sets set ↔ IsSetBefore dump chain n set) → (set : List Range) → Contains sets' set ↔ IsSetBefore dump chain (n + 1) set
  more_sets n rules sets sets' r is e h set = (
    λ k. from_old (of_either sets (all_sets rules) set (subst (λ z. Contains z set) e k)),
    λ t. subst (λ z. Contains z set) (sym e) (to_new t (t.0 == n) refl),
  )
    where
      from_old : Contains sets set ⊎ Contains (all_sets rules) set → IsSetBefore dump chain (n + 1) set
      from_old (inl k) = let t = (h set).0 k in (t.0, t.1, omega (arith, t.2), t.3, t.4, t.5)
      from_old (inr k) = (n, rules, omega arith, r, is, k)

      to_new : (t : IsSetBefore dump chain (n + 1) set) → (b : Bool) → (t.0 == n) ≡ b → Contains (sets ++ all_sets rules) set
      to_new t true q =
          let same : t.0 ≡ n = grind (arith, nat_tests, q) in
          right_in sets (all_sets rules) set (subst (λ z. Contains (all_sets z) set) (one_list t.0 t.1 same t.4) t.5)
        where
          one_list : (c : ℕ) (others : List (Rule (Prim_ W))) → c ≡ n → AreRulesOf dump c others → others ≡ rules
          one_list c others same a =
              let at : slice_get dump.chains n ≡ Some a.0 = subst (λ (z : ℕ). slice_get dump.chains z ≡ Some a.0) same a.1 in
              let chains : a.0 ≡ is.0 = cc (at, is.1) in
              a.2 ∙ ap (λ (z : Chain (Prim_ W)). z.rules) chains ∙ sym is.2
      to_new t false q = left_in sets (all_sets rules) set ((h set).1 (t.0, t.1, let l = t.2 in grind (arith, nat_tests, l, q), t.3, t.4, t.5))

  -- all chains
  pub no_sets : (set : List Range) → Contains [] set ↔ IsSetBefore dump chain 0 set
  no_sets set = (λ k. absurd (none W set k), λ t. absurd (omega (arith, t.2)))

  pub are_sets : (n : ℕ) (sets : List (List Range)) → length dump.chains ≤ n → ((set : List Range) → Contains sets set ↔ IsSetBefore dump chain n set) → AreAddressSets dump chain sets
  are_sets n sets long h set = (
    λ k. let t = (h set).0 k in of_rules t.0 t.1 t.3 t.4 set t.5,
    λ x. (h set).1 (known x.0 x.1 x.2),
  )
    where
      known : (x : Prim_ W) → IsKnown dump chain x → (x ≡ Prim_.Src set) ⊎ (x ≡ Prim_.Dst set) → IsSetBefore dump chain n set
      known x (c, rule, neg, expr, r, there, stood, stood_in) one =
          let k = subst (λ z. Contains z set) (sym (expr_listed W expr)) (in_joined (prim_sets {W = W}) (primitives_in expr) x set stood_in (has_one W x set one)) in
          let l = in_joined (literal_sets {W = W}) rule.lits (Lit.Known neg expr) set stood k in
          let a = in_joined (rule_sets {W = W}) (there.0).rules rule set there.2 l in
          let inside = slice_get_within dump.chains c there.0 there.1 in
          (c, (there.0).rules, omega (arith, inside, long), r, (there.0, there.1, refl), a)
