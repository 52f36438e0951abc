-- What closing one of the two dumps answers.
use Rattle.std.specs.Prelude.{ℕ, ◌≡◌, Some}
use Rattle.primitives.specs.declared.prim.Prim_.{Prim_}
use Rattle.fw_rule.specs.declared.rule.Dump.{Dump}
use Rattle.fw_rule.specs.declared.rule.Verdict.{Verdict}
use Rattle.fw_rule.specs.declared.side.Side.{Side}
use Rattle.fw_rule.specs.Walk.{policy_of}
use Rattle.simple_filter.specs.Closed.{Accepts}
use Rattle.region_queries.specs.declared.fault.CoverFault.{CoverFault}
use Rattle.region_queries.specs.Refusals.{IsClosed, IsRefused, simple_rules}

module _ {W : ℕ} (dump : Dump (Prim_ W)) (chain : ℕ) where
  -- the chain is closed, and with its policy the simple rules accept what the side asks for
  pub record IsMeant (side : Side) : Type 0 where
    pub closed : IsClosed dump chain side
    pub means : (policy : Verdict) → policy_of dump chain ≡ Some policy → Accepts side dump chain policy (simple_rules dump chain side)

  -- the chain is the first dump's, and isn't closed
  abbrev pub RefusesFirst : CoverFault → Type 0
  RefusesFirst (CoverFault.First refusal) = IsRefused dump chain Side.Upper refusal
  RefusesFirst (CoverFault.Second refusal) = ⊥
  RefusesFirst CoverFault.Regions = ⊥
  RefusesFirst CoverFault.Memory = Unit {0}

  -- the chain is the second dump's, and isn't closed
  abbrev pub RefusesSecond : CoverFault → Type 0
  RefusesSecond (CoverFault.First refusal) = ⊥
  RefusesSecond (CoverFault.Second refusal) = IsRefused dump chain Side.Lower refusal
  RefusesSecond CoverFault.Regions = ⊥
  RefusesSecond CoverFault.Memory = Unit {0}
