-- Where no reachable rule is doubtful, each walk has the best outcome.
use Rattle.std.proofs.Common.{◌≡◌, ℕ, zero, suc, ◌+◌, Bool, true, false, List, [], ◌∷◌, Some, slice_get, unwrap_or, refl, sym, ◌∙◌, ap, ◌↔◌, if◌then◌else◌}
use Rattle.match_expr.specs.Meaning.{eval_of}
use Rattle.match_expr.specs.FirstMatch.{first_match}
use Rattle.fw_rule.specs.declared.rule.Verdict.{Verdict}
use Rattle.fw_rule.specs.declared.rule.Verdict.TheVariants.{Accept}
use Rattle.fw_rule.specs.declared.rule.Rule.{Rule}
use Rattle.fw_rule.specs.declared.rule.Dump.{Dump}
use Rattle.fw_rule.specs.Walk.{Meaning, Walks, Settled, Within, Reaches, Here, is_accept, policy_of, target_of}
use Rattle.fw_rule.proofs.Ends.{append}
use Rattle.fw_rule.specs.declared.side.Side.{Side}
use Rattle.fw_rule.specs.Matching.{known_of, doubt_in}
use Rattle.closure.specs.Rewriting.{rules_of, tree}
use Rattle.rewriting.specs.Table.{kind}
use Rattle.rewriting.specs.declared.rows.Mode.TheVariants.{Hard}
use Rattle.closure.specs.Flat.{flat_list}
use Rattle.closure.proofs.Outcomes.{Outcome, best_row, best_rules, best, Truth, under, step_of, lits_hold, walked_rules, walked, truth_of}
use Rattle.closure.specs.Sides.{IsSure}
use Rattle.closure.proofs.Bounds.{sure_rule}
use Rattle.closure.proofs.Tightness.{row_if}
use Rattle.closure.proofs.Depths.{stands}
use Rattle.closure.proofs.Exact.{accepts, list_has, accepting, accepted}
use Rattle.closure.proofs.FlatLemmas.{calls}

module _ {P : Type 0} (side : Side) (h : P → Bool) where
  sure_rules : (callee : ℕ → Truth → Outcome) (best_callee : ℕ → Outcome) (c n : ℕ) (t : Truth) (rules : List (Rule P)) →
      ((i : ℕ) (rule : Rule P) → slice_get rules i ≡ Some rule → (doubt_in rule.lits ≡ false) × ((k : ℕ) (u : Truth) → target_of rule.action ≡ Some k → callee k u ≡ best_callee k)) →
      walked_rules side h callee c n t rules ≡ best_rules side h best_callee rules
  sure_rules callee best_callee c n t [] each = refl
  sure_rules callee best_callee c n t (rule ∷ rules) each =
      let one = each 0 rule refl in
      row_if (lits_hold h t (step_of c n ∷ []) 0 rule.lits) (eval_of h (known_of rule)) (λ k. callee k (under (step_of c n) t)) best_callee
      (walked_rules side h callee c (n + 1) t rules) (best_rules side h best_callee rules) (sure_rule h t (step_of c n ∷ []) rule one.0)
      (sure_rules callee best_callee c (n + 1) t rules (λ i r e. each (suc i) r e)) (kind side rule.action)
      (λ k e. one.1 k (under (step_of c n) t) (calls side rule.action k e))
      ∙ ap (λ (d : Bool). if eval_of h (known_of rule) then best_row best_callee (best_rules side h best_callee rules) d (kind side rule.action) else best_rules side h best_callee rules) (sym one.0)

  pub sure_walked : (dump : Dump P) (asked : ℕ) → IsSure dump asked → (depth c : ℕ) → Reaches dump asked c → (t : Truth) → walked side h dump depth c t ≡ best side h dump depth c
  sure_walked dump asked sure zero c r t = refl
  sure_walked dump asked sure (suc depth) c r t =
      sure_rules (walked side h dump depth) (best side h dump depth) c 0 t (rules_of dump c)
      (λ i rule e. let there = stands dump c (slice_get dump.chains c) refl i rule e in
      (sure c rule r there, λ k u a. sure_walked dump asked sure depth k (append dump r (rule, there, a)) u))

module _ {P Packet : Type 0} (holds : P → Packet → Bool) (dump : Dump P) (c depth : ℕ) (settled : Settled dump c) (within : Within dump depth c)
    (policy : Verdict) (policy_is : policy_of dump c ≡ Some policy) (sure : IsSure dump c) where
  -- without doubtful rules the list accepts exactly where the walk does, whatever the meaning
  pub sure_closes : (side : Side) (p : Packet) (m : Meaning) →
      (unwrap_or (first_match (λ x. holds x p) (flat_list (tree side dump depth c Hard))) (is_accept policy) ≡ true) ↔ Walks holds dump p m c Accept
  sure_closes side p m =
      let same : walked side (λ x. holds x p) dump depth c (truth_of m) ≡ best side (λ x. holds x p) dump depth c = sure_walked side (λ x. holds x p) dump c sure depth c Here (truth_of m) in
      let list = list_has holds dump c depth settled within policy policy_is side p in (
        λ e. accepting holds dump c depth settled within policy policy_is side p m (ap (accepts side policy) same ∙ sym list ∙ e),
        λ w. list ∙ sym (ap (accepts side policy) same) ∙ accepted holds dump c depth settled within policy policy_is side p m w,
      )
