-- Which limits a check, an explanation and the closing of a chain pass or keep.
use Rattle.std.proofs.Common.{◌≡◌, ◌⊎◌, ◌<◌, ℕ, suc, Some, refl, inl, inr, arith}
use Rattle.primitives.specs.declared.prim.Prim_.{Prim_}
use Rattle.fw_rule.specs.declared.rule.Dump.{Dump}
use Rattle.fw_rule.specs.declared.rule.Verdict.{Verdict}
use Rattle.fw_rule.specs.Walk.{policy_of}
use Rattle.chain_graph.specs.Faults.{NoLoop, NoneUnsupported}
use Rattle.chain_graph.specs.Paths.{HasPath}
use Rattle.chain_graph.specs.Refusals.{IsChecked, Refuses as RefusesGraph}
use Rattle.chain_graph.specs.Results.{IsRanked}
use Rattle.chain_graph.specs.declared.graph.GraphFault.{GraphFault}
use Rattle.chain_graph.specs.declared.graph.GraphFault.TheVariants as graph
use Rattle.chain_graph.specs.declared.graph.Ranked.{Ranked}
use Rattle.closure.specs.Checked.{HasPolicy}
use Rattle.fw_rule.specs.declared.side.Side.{Side}
use Rattle.limits.specs.declared.TheConstants.{MOST_CHAINS, MOST_VISITS}
use Rattle.simple_filter.specs.Closed.{IsSmall, IsSmallTree, RefusesClosed}
use Rattle.simple_filter.specs.Refused.{of_check}
use Rattle.simple_filter.specs.declared.refusal.Kind.{Kind}
use Rattle.simple_filter.specs.declared.refusal.Kind.TheVariants as kind
use Rattle.simple_filter.specs.declared.refusal.Refusal.{Refusal}
use Rattle.fffuu_run.specs.Checks.{IsCheckOver}
use Rattle.fffuu_run.specs.Explanations.{IsExplanationOver}
use Rattle.fffuu_run.specs.Filters.{IsClosingOver}
use Rattle.fffuu_run.specs.Questions.{Comes, IsWithin, order_of}
use Rattle.fffuu_run.proofs.Limits.{KeptTo, comes_too, kept_next, kept_none, last_comes, within_too}
use Rattle.fffuu_run.proofs.Refusals.{settled_loops, settled_targets}
use Rattle.fffuu_run.proofs.VisitLemmas.{chain_once}

module _ {P : Type 0} (dump : Dump P) (chain : ℕ) where
  -- what refuses a check
  pub check_comes : (fault : GraphFault) → RefusesGraph dump chain fault → Comes dump chain (IsCheckOver dump chain) (of_check fault)
  check_comes (graph.Unsupported line name) p = p
  check_comes (graph.Loop c) p = p
  check_comes graph.Depth (none, no_loop, path) = (none, no_loop, path, kept_none (IsCheckOver dump chain))
  check_comes graph.Memory p = tt

  check_kept : (HasPath dump chain (suc MOST_CHAINS) → ⊥) → (k : Kind) → IsCheckOver dump chain k → ⊥
  check_kept deep kind.Depth path = deep path
  check_kept deep k over = over

  -- what a check answers
  pub check_within : HasPolicy dump chain → ((v : Verdict) → policy_of dump chain ≡ Some v → IsChecked dump chain)
      → IsWithin dump chain (IsCheckOver dump chain)
  check_within (v, is) passes = let checked = passes v is in record { settled = checked.settled; within = check_kept checked.depth }

  -- An explanation has one limit more.
  visits_to : (k : Kind) → IsCheckOver dump chain k → IsExplanationOver dump chain k
  visits_to kind.Visits over = absurd over
  visits_to k over = over

  visits_front : (k : Kind) → IsCheckOver dump chain k → order_of k < 8
  visits_front kind.Depth over = omega arith
  visits_front k over = absurd over

  visits_parted : (k : Kind) → IsExplanationOver dump chain k → (k ≡ kind.Visits) ⊎ IsCheckOver dump chain k
  visits_parted kind.Visits over = inl refl
  visits_parted k over = inr over

  pub check_refuses : (a : Refusal) → Comes dump chain (IsCheckOver dump chain) a → Comes dump chain (IsExplanationOver dump chain) a
  check_refuses = comes_too dump chain (IsCheckOver dump chain) (IsExplanationOver dump chain) kind.Visits visits_to visits_front visits_parted

  pub many_visits : (r : Ranked) → IsWithin dump chain (IsCheckOver dump chain) → IsRanked dump chain r → MOST_VISITS < r.visits
      → Comes dump chain (IsExplanationOver dump chain) (Refusal.Limit kind.Visits)
  many_visits r within ranked many =
      let (n, has, is) = ranked.visits in
      last_comes dump chain (IsCheckOver dump chain) (IsExplanationOver dump chain) kind.Visits visits_to visits_front visits_parted within
      (n, has, omega (arith, is, many))

  pub few_visits : (r : Ranked) → IsWithin dump chain (IsCheckOver dump chain) → IsRanked dump chain r → (MOST_VISITS < r.visits → ⊥)
      → IsWithin dump chain (IsExplanationOver dump chain)
  few_visits r within ranked few =
      let (n, has, is) = ranked.visits in
      within_too dump chain (IsCheckOver dump chain) (IsExplanationOver dump chain) kind.Visits visits_to visits_front visits_parted within
      (λ over. let (m, has', many) = over in few (omega (arith, is, many, chain_once dump chain n m has has')))

module _ {W : ℕ} (dump : Dump (Prim_ W)) (chain : ℕ) (side : Side) where
  abbrev IsOver : Kind → Type 0
  IsOver = IsClosingOver dump chain side

  targets : IsChecked dump chain → NoneUnsupported dump chain
  targets calls = settled_targets dump chain calls.settled

  loops : IsChecked dump chain → NoLoop dump chain
  loops calls = settled_loops dump chain calls.settled

  kept_depth : IsChecked dump chain → KeptTo IsOver 1
  kept_depth calls = kept_next IsOver kind.Depth (kept_none IsOver) calls.depth

  kept_tree : IsChecked dump chain → IsSmallTree dump chain side → KeptTo IsOver 3
  kept_tree calls small =
      let nodes = kept_next IsOver kind.Nodes (kept_depth calls) (λ over. omega (arith, small.nodes, over)) in
      kept_next IsOver kind.Literals nodes (λ over. omega (arith, small.literals, over))

  -- what keeps a chain from being closed
  passes_comes : (k : Kind) → RefusesClosed dump chain side (Refusal.Limit k) → Comes dump chain IsOver (Refusal.Limit k)
  passes_comes kind.Depth (none, no_loop, path) = (none, no_loop, path, kept_none IsOver)
  passes_comes kind.Nodes (calls, many) = (targets calls, loops calls, many, kept_depth calls)
  passes_comes kind.Literals (calls, few, many) =
      (targets calls, loops calls, many, kept_next IsOver kind.Nodes (kept_depth calls) (λ over. omega (arith, few, over)))
  passes_comes kind.Boxes (calls, small, many) = (targets calls, loops calls, many, kept_tree calls small)
  passes_comes kind.Rules (calls, small, few, many) =
      (targets calls, loops calls, many, kept_next IsOver kind.Boxes (kept_tree calls small) (λ over. omega (arith, few, over)))
  passes_comes k over = absurd over

  pub closing_comes : (a : Refusal) → RefusesClosed dump chain side a → Comes dump chain IsOver a
  closing_comes (Refusal.Unsupported line name) p = p
  closing_comes (Refusal.Loop c) p = p
  closing_comes (Refusal.Limit k) p = passes_comes k p
  closing_comes Refusal.Memory p = tt

  closing_kept : IsChecked dump chain → IsSmall dump chain side → (k : Kind) → IsOver k → ⊥
  closing_kept calls small kind.Depth over = calls.depth over
  closing_kept calls small kind.Nodes over = omega (arith, small.tree.nodes, over)
  closing_kept calls small kind.Literals over = omega (arith, small.tree.literals, over)
  closing_kept calls small kind.Boxes over = omega (arith, small.boxes, over)
  closing_kept calls small kind.Rules over = omega (arith, small.rules, over)
  closing_kept calls small k over = over

  -- a chain that is closed
  pub closing_within : IsChecked dump chain → IsSmall dump chain side → IsWithin dump chain IsOver
  closing_within calls small = record { settled = calls.settled; within = closing_kept calls small }

  -- the limits of a closing come before the others
  pub closing_front : (k : Kind) → IsOver k → order_of k < 5
  closing_front kind.Depth over = omega arith
  closing_front kind.Nodes over = omega arith
  closing_front kind.Literals over = omega arith
  closing_front kind.Boxes over = omega arith
  closing_front kind.Rules over = omega arith
  closing_front k over = absurd over
