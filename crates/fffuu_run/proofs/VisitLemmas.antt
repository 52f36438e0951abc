-- A chain has one number of visits.
use Rattle.std.proofs.Common.{◌≡◌, ℕ, suc, List, [], ◌∷◌, Some, refl, arith, ap, sym, subst, slice_get}
use Rattle.fw_rule.specs.declared.rule.Rule.{Rule}
use Rattle.fw_rule.specs.declared.rule.Chain.{Chain}
use Rattle.fw_rule.specs.declared.rule.Dump.{Dump}
use Rattle.fw_rule.specs.Walk.{target_of}
use Rattle.chain_graph.specs.Visits.{VisitsOf, HasVisits, None_left, Plain, Called}
use Rattle.fffuu_run.proofs.Options.{none_or_some, one_some}

module _ {P : Type 0} (dump : Dump P) where
  visits_once : (rules : List (Rule P)) (m n : ℕ) → VisitsOf dump rules m → VisitsOf dump rules n → m ≡ n
  visits_once [] m n None_left None_left = refl
  visits_once (rule ∷ rules) m n (Plain {n = a} none more) (Plain {n = b} none' more') = ap suc (visits_once rules a b more more')
  visits_once (rule ∷ rules) m n (Plain none more) (Called {k = k} there calls at callee more') = absurd (none_or_some (target_of rule.action) k none calls)
  visits_once (rule ∷ rules) m n (Called {k = k} there calls at callee more) (Plain none more') = absurd (none_or_some (target_of rule.action) k none calls)
  visits_once (rule ∷ rules) m n (Called {k = j} {m = a} {n = c} there calls at callee more) (Called {k = k} {m = b} {n = d} there' calls' at' callee' more') =
      let same : j ≡ k = one_some (target_of rule.action) j k calls calls' in
      let chains : there' ≡ there = one_some (slice_get dump.chains j) there' there (subst (λ (c : ℕ). slice_get dump.chains c ≡ Some there') (sym same) at') at in
      let inner : a ≡ b = visits_once there.rules a b callee (subst (λ (h : Chain P). VisitsOf dump h.rules b) chains callee') in
      let rest : c ≡ d = visits_once rules c d more more' in
      omega (arith, inner, rest)

  pub chain_once : (c m n : ℕ) → HasVisits dump c m → HasVisits dump c n → m ≡ n
  chain_once c m n (here, at, visits) (here', at', visits') =
      let same : here' ≡ here = one_some (slice_get dump.chains c) here' here at' at in
      visits_once here.rules m n visits (subst (λ (h : Chain P). VisitsOf dump h.rules n) same visits')
