-- A chain's tree is the same for each depth that bounds its calls.
use Rattle.std.proofs.Common.{◌≡◌, ℕ, zero, suc, List, [], ◌∷◌, Option, None, Some, slice_get, refl, ap}
use Rattle.match_expr.specs.declared.expr.Expr.{Expr}
use Rattle.fw_rule.specs.declared.rule.Rule.{Rule}
use Rattle.fw_rule.specs.declared.rule.Chain.{Chain}
use Rattle.fw_rule.specs.declared.rule.Dump.{Dump}
use Rattle.fw_rule.specs.Matching.{known_of, doubt_in}
use Rattle.fw_rule.specs.Walk.{RuleOf, Calls, Within, deep, target_of}
use Rattle.fw_rule.proofs.Ends.{contains_at}
use Rattle.rewriting.specs.declared.rows.Mode.{Mode}
use Rattle.rewriting.specs.declared.rows.Mode.TheVariants.{Soft}
use Rattle.rewriting.specs.declared.rows.Row.{Row}
use Rattle.fw_rule.specs.declared.side.Side.{Side}
use Rattle.closure.specs.Rewriting.{Tree, Decide, Leave, shape, items, rules_at, rules_of, tree}
use Rattle.rewriting.specs.Table.{kind, row_of}
use Rattle.closure.proofs.FlatLemmas.{Runs, run_kind, calls}

module _ {P : Type 0} where
  -- a rule of the chain's list stands in the chain
  pub stands : (dump : Dump P) (c : ℕ) (o : Option (Chain P)) → slice_get dump.chains c ≡ o → (i : ℕ) (rule : Rule P) → slice_get (rules_at o) i ≡ Some rule → RuleOf dump c rule
  stands dump c None q i rule e = cc
  stands dump c (Some here) q i rule e = (here, q, contains_at here.rules i rule e)

  module _ (a b : ℕ → Mode → Tree P) where
    shape_same : (k : Expr P) (rest rest' : Mode → Tree P) → ((m : Mode) → rest m ≡ rest' m) → (mode : Mode) (r : Row) → ((c : ℕ) (m : Mode) → Runs r c m → a c m ≡ b c m) →
        shape a k rest mode r ≡ shape b k rest' mode r
    shape_same k rest rest' e mode Row.Skip f = e mode
    shape_same k rest rest' e mode (Row.Decide v) f = ap (λ (z : Tree P). Decide k v z) (e mode)
    shape_same k rest rest' e mode (Row.Leave n) f = ap (λ (z : Tree P). Leave k n z) (e mode)
    shape_same k rest rest' e mode Row.LeaveLater f = rw (e (Soft 0), e mode) refl
    shape_same k rest rest' e mode (Row.Run c m) f = rw (f c m (refl, refl), e mode) refl
    shape_same k rest rest' e mode (Row.RunThenLeave c m) f = rw (f c m (refl, refl), e mode) refl
    shape_same k rest rest' e mode (Row.RunLater c) f = rw (f c (Soft 1) (refl, refl), e (Soft 0), e mode) refl

    -- it is enough that the called chains have the same items
    pub items_same : (side : Side) (rules : List (Rule P)) → ((i : ℕ) (rule : Rule P) (k : ℕ) (m : Mode) → slice_get rules i ≡ Some rule → target_of rule.action ≡ Some k → a k m ≡ b k m) →
        (mode : Mode) → items side a rules mode ≡ items side b rules mode
    items_same side [] same mode = refl
    items_same side (rule ∷ rules) same mode =
        shape_same (known_of rule) (items side a rules) (items side b rules) (items_same side rules (λ i r k m e q. same (suc i) r k m e q)) mode (row_of side (doubt_in rule.lits) (kind side rule.action) mode)
        (λ c m e. same 0 rule c m refl (calls side rule.action c (run_kind side (doubt_in rule.lits) (kind side rule.action) mode m c e).0))

  pub same_tree : (side : Side) (dump : Dump P) (d e c : ℕ) → Within dump d c → Within dump e c → (mode : Mode) → tree side dump d c mode ≡ tree side dump e c mode
  same_tree side dump zero e c w v mode = elim w [ ]
  same_tree side dump (suc d) zero c w v mode = elim v [ ]
  same_tree side dump (suc d) (suc e) c (deep f) (deep g) mode =
      items_same (tree side dump d) (tree side dump e) side (rules_of dump c)
      (λ i rule k m at a. let call : Calls dump c k = (rule, stands dump c (slice_get dump.chains c) refl i rule at, a) in same_tree side dump d e k (f k call) (g k call) m) mode
