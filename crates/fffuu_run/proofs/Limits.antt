-- Limits in their order: which come where others are kept.
use Rattle.std.proofs.Common.{◌≡◌, ◌⊎◌, ◌<◌, ◌+◌, ℕ, inl, inr, arith, ap, subst}
use Rattle.fw_rule.specs.declared.rule.Dump.{Dump}
use Rattle.simple_filter.specs.declared.refusal.Kind.{Kind}
use Rattle.simple_filter.specs.declared.refusal.Refusal.{Refusal}
use Rattle.fffuu_run.specs.Questions.{Comes, IsWithin, order_of}
use Rattle.fffuu_run.proofs.Refusals.{one_order, settled_loops, settled_targets}

-- no number whose place in the order is less than this is past its limit
abbrev pub KeptTo : (Kind → Type 0) → ℕ → Type 0
KeptTo IsOver place = (k : Kind) → order_of k < place → IsOver k → ⊥

pub kept_none : (IsOver : Kind → Type 0) → KeptTo IsOver 0
kept_none IsOver k less over = omega (arith, less)

-- one limit more is kept
pub kept_next : (IsOver : Kind → Type 0) (k : Kind) → KeptTo IsOver (order_of k) → (IsOver k → ⊥) → KeptTo IsOver (order_of k + 1)
kept_next IsOver k before kept e less over =
    let low : order_of e < order_of k → ⊥ = λ l. before e l over in
    let is : order_of e ≡ order_of k = omega (arith, less, low) in
    kept (subst IsOver (one_order e k is) over)

-- A question with one limit more, the last one.
module _ {P : Type 0} (dump : Dump P) (chain : ℕ) (IsOver IsOver' : Kind → Type 0) (last : Kind) (to : (k : Kind) → IsOver k → IsOver' k)
    (front : (k : Kind) → IsOver k → order_of k < order_of last) (parted : (k : Kind) → IsOver' k → (k ≡ last) ⊎ IsOver k) where
  kept_front : (e : Kind) → order_of e < order_of last → (IsOver e → ⊥) → IsOver' e → ⊥
  kept_front e less kept over = elim (parted e over) [
    | inl is ↦ omega (arith, less, ap order_of is)
    | inr before ↦ kept before
  ]

  -- what refused the question still does
  pub comes_too : (r : Refusal) → Comes dump chain IsOver r → Comes dump chain IsOver' r
  comes_too (Refusal.Unsupported line name) p = p
  comes_too (Refusal.Loop c) p = p
  comes_too (Refusal.Limit k) (none, no_loop, over, first) =
      (none, no_loop, to k over, λ e less. kept_front e (omega (arith, less, front k over)) (first e less))
  comes_too Refusal.Memory p = tt

  pub within_too : IsWithin dump chain IsOver → (IsOver' last → ⊥) → IsWithin dump chain IsOver'
  within_too w kept = record {
    settled = w.settled;
    within = λ k over. elim (parted k over) [ inl is ↦ kept (subst IsOver' is over) | inr before ↦ w.within k before ];
  }

  -- the last limit refuses it where nothing else did
  pub last_comes : IsWithin dump chain IsOver → IsOver' last → Comes dump chain IsOver' (Refusal.Limit last)
  last_comes w over =
      (settled_targets dump chain w.settled, settled_loops dump chain w.settled, over, λ e less. kept_front e less (w.within e))
