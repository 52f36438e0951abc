-- From the parts of a matrix to the matrix.
use Rattle.std.proofs.Common.{◌≡◌, ◌∙◌, ◌⊎◌, ℕ, List, Contains, Result, Ok, Err, IfErr, IfOk, IsErrAnd, OnOk, inl, inr, subst, sym}
use Rattle.interval_set.specs.declared.set.Range.{Range}
use Rattle.primitives.specs.declared.prim.Prim_.{Prim_}
use Rattle.fw_rule.specs.declared.rule.Dump.{Dump}
use Rattle.fw_rule.specs.declared.side.Side.{Side}
use Rattle.chain_graph.specs.Refusals.{IsChecked}
use Rattle.simple_filter.specs.Closed.{IsSmall}
use Rattle.simple_filter.specs.Hidden.{hidden}
use Rattle.simple_filter.specs.declared.hiding.Hide.{Hide}
use Rattle.simple_filter.specs.declared.refusal.Kind.{Kind}
use Rattle.simple_filter.specs.declared.refusal.Refusal.{Refusal}
use Rattle.ip_partition.specs.Boundaries.{HasFewBoundaries, HasManyBoundaries}
use Rattle.service_packet.specs.declared.service.Service.{Service}
use Rattle.service_matrix.specs.declared.table.Matrix.{Matrix}
use Rattle.service_matrix.specs.inner.AddressSets.{AreAddressSets}
use Rattle.service_matrix.specs.Matrices.{IsMatrix}
use Rattle.service_matrix.specs.Refusals.{HasFewSets, RefusesSets}
use Rattle.service_matrix.specs.Services.{GoesTo, HoldsOfAllNames}
use Rattle.service_matrix.proofs.Groups.{boundaries}
use Rattle.service_matrix.proofs.NameLaws.{all_names, settled_before}

module _ {W : ℕ} (dump : Dump (Prim_ W)) (chain : ℕ) (side : Side) where
  module _ (sets : List (List Range)) (are : AreAddressSets dump chain sets) (is_closed : IsChecked dump chain × IsSmall dump chain side) where
    pub refused_by : {M : Type 0} (r : Result M Refusal) (x : Refusal) → IsErrAnd r (λ e. e ≡ x) →
        (x ≡ Refusal.Memory) ⊎ ((x ≡ Refusal.Limit Kind.Atoms) × HasManyBoundaries W (Contains sets)) → IfErr r (RefusesSets dump chain side)
    refused_by (Ok m) x e h = absurd e
    refused_by (Err y) x e h = elim h [
      | inl memory ↦ subst (RefusesSets dump chain side) (sym (e ∙ memory)) tt
      | inr many ↦ subst (RefusesSets dump chain side) (sym (e ∙ many.0))
          (is_closed, ((many.1).0, boundaries dump chain sets are (many.1).0 (many.1).1, (many.1).2))
    ]

    pub few_sets : HasFewBoundaries W (Contains sets) → HasFewSets dump chain side
    few_sets h = (is_closed, (h.0, boundaries dump chain sets are h.0 h.1, h.2))

  -- of the dump with its names hidden
  pub names_of : (service : Service) (plain : Dump (Prim_ W)) (r : Result (Matrix W) Refusal) → plain ≡ hidden Hide.BothNames dump →
      IfOk r (IsMatrix (GoesTo side plain chain service)) → OnOk r (HasFewSets plain chain side) → IfOk r (HoldsOfAllNames side dump chain service)
  names_of service plain (Ok matrix) e is few =
      let f = subst (λ (d : Dump (Prim_ W)). HasFewSets d chain side) e few in
      all_names dump chain side service matrix (settled_before dump chain ((f.0).0).settled) (subst (λ (d : Dump (Prim_ W)). IsMatrix (GoesTo side d chain service) matrix) e is)
  names_of service plain (Err refusal) e is few = tt
