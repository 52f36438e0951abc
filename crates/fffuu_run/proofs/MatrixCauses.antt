-- When a matrix is refused.
use Rattle.std.proofs.Common.{◌≡◌, ◌⊎◌, ◌<◌, ℕ, refl, inl, inr, arith}
use Rattle.primitives.specs.declared.prim.Prim_.{Prim_}
use Rattle.fw_rule.specs.declared.rule.Dump.{Dump}
use Rattle.fw_rule.specs.Walk.{hidden_literal}
use Rattle.fw_rule.specs.declared.side.Side.{Side}
use Rattle.simple_filter.specs.Hidden.{hidden, hides}
use Rattle.simple_filter.specs.declared.hiding.Hide.{Hide}
use Rattle.simple_filter.specs.declared.refusal.Kind.{Kind}
use Rattle.simple_filter.specs.declared.refusal.Kind.TheVariants as kind
use Rattle.simple_filter.specs.declared.refusal.Refusal.{Refusal}
use Rattle.service_matrix.specs.Refusals.{HasFewAtoms, IsAddressSet, RefusesMatrix}
use Rattle.fffuu_run.specs.Filters.{IsClosingOver}
use Rattle.fffuu_run.specs.Matrices.{IsMatrixOver}
use Rattle.fffuu_run.specs.Questions.{Comes, IsWithin, order_of}
use Rattle.fffuu_run.proofs.BoundaryLemmas.{one_count}
use Rattle.fffuu_run.proofs.Closings.{closing_comes, closing_front, closing_within}
use Rattle.fffuu_run.proofs.HiddenRules.{comes_from, within_from}
use Rattle.fffuu_run.proofs.Limits.{comes_too, last_comes, within_too}

module _ {W : ℕ} (side : Side) (dump : Dump (Prim_ W)) (chain : ℕ) where
  abbrev nameless : Dump (Prim_ W)
  nameless = hidden Hide.BothNames dump

  abbrev IsOver : Kind → Type 0
  IsOver = IsMatrixOver side dump chain

  atoms_to : (k : Kind) → IsClosingOver nameless chain side k → IsOver k
  atoms_to kind.Atoms over = absurd over
  atoms_to k over = over

  atoms_front : (k : Kind) → IsClosingOver nameless chain side k → order_of k < 6
  atoms_front k over = omega (arith, closing_front nameless chain side k over)

  atoms_parted : (k : Kind) → IsOver k → (k ≡ kind.Atoms) ⊎ IsClosingOver nameless chain side k
  atoms_parted kind.Atoms over = inl refl
  atoms_parted k over = inr over

  closing_refuses : (a : Refusal) → Comes nameless chain (IsClosingOver nameless chain side) a → Comes nameless chain IsOver a
  closing_refuses = comes_too nameless chain (IsClosingOver nameless chain side) IsOver kind.Atoms atoms_to atoms_front atoms_parted

  found : (a : Refusal) → RefusesMatrix side dump chain a → Comes nameless chain IsOver a
  found (Refusal.Limit kind.Atoms) (closed, many) =
      last_comes nameless chain (IsClosingOver nameless chain side) IsOver kind.Atoms atoms_to atoms_front atoms_parted
      (closing_within nameless chain side closed.0 closed.1) many
  found (Refusal.Limit k) p = closing_refuses (Refusal.Limit k) (closing_comes nameless chain side (Refusal.Limit k) p)
  found (Refusal.Unsupported line name) p = p
  found (Refusal.Loop c) p = p
  found Refusal.Memory p = tt

  pub matrix_comes : (a : Refusal) → RefusesMatrix side dump chain a → Comes dump chain IsOver a
  matrix_comes a p = comes_from (hidden_literal (hides Hide.BothNames)) dump chain IsOver a (found a p)

  pub matrix_within : HasFewAtoms side dump chain → IsWithin dump chain IsOver
  matrix_within (closed, (count, has, few)) = within_from (hidden_literal (hides Hide.BothNames)) dump chain IsOver
      (within_too nameless chain (IsClosingOver nameless chain side) IsOver kind.Atoms atoms_to atoms_front atoms_parted
      (closing_within nameless chain side closed.0 closed.1)
      (λ over. let (other, has', many) = over in omega (arith, one_count W (IsAddressSet nameless chain) count other has has', few, many)))
