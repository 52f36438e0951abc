-- How many rules a chain stands for, with those of the chains that it calls or goes to.
use Rattle.std.specs.Prelude.{ℕ, suc, ◌+◌, ◌≡◌, List, [], ◌∷◌, None, Some, slice_get}
use Rattle.fw_rule.specs.declared.rule.Rule.{Rule}
use Rattle.fw_rule.specs.declared.rule.Chain.{Chain}
use Rattle.fw_rule.specs.declared.rule.Dump.{Dump}
use Rattle.fw_rule.specs.Calls.{target_of}

module _ {P : Type 0} (dump : Dump P) where
  -- each rule counts 1, and one that leads to a chain counts that chain's rules too
  pub data VisitsOf : List (Rule P) → ℕ → Type 0 where
    None_left : VisitsOf [] 0
    Plain : {rule : Rule P} {rules : List (Rule P)} {n : ℕ} → target_of rule.action ≡ None → VisitsOf rules n →
        VisitsOf (rule ∷ rules) (suc n)
    Called : {rule : Rule P} {rules : List (Rule P)} {k m n : ℕ} (there : Chain P) → target_of rule.action ≡ Some k →
        slice_get dump.chains k ≡ Some there →
        VisitsOf there.rules m → VisitsOf rules n → VisitsOf (rule ∷ rules) (suc (m + n))

  -- the visits of a chain
  abbrev pub HasVisits : ℕ → ℕ → Type 0
  HasVisits c n = (here : Chain P) × (slice_get dump.chains c ≡ Some here) × VisitsOf here.rules n
