-- Laws of verdicts, may and must.
use Rattle.std.specs.Prelude.{ℕ, ◌≡◌, Bool, [], length}
use Rattle.fw_rule.specs.declared.rule.Verdict.{Verdict}
use Rattle.fw_rule.specs.declared.rule.Verdict.TheVariants.{Accept, Drop}
use Rattle.fw_rule.specs.declared.rule.Dump.{Dump}
use Rattle.fw_rule.specs.Walk.{Meaning, Walks, Settled}
use Rattle.fw_rule.proofs.WalkLaws.{one_verdict}
use Rattle.fw_rule.proofs.Ends.{settled_within, verdict_there}
use Rattle.fw_laws.specs.Verdicts.{HasOneVerdict, MustIsMay, NeverIsDropped, MustIsNeverDropped}

module _ {P Packet : Type 0} (holds : P → Packet → Bool) (dump : Dump P) (chain : ℕ) (p : Packet) where
  pub must_is_may : MustIsMay holds dump chain p
  must_is_may must = ([], must [])

  both : (m : Meaning) → Walks holds dump p m chain Accept → Walks holds dump p m chain Drop → ⊥
  both m a d = let e : Accept ≡ Drop = one_verdict holds dump p m chain Accept Drop a d in cc

  module _ (s : Settled dump chain) where
    pub verdict_of : (m : Meaning) → (v : Verdict) × Walks holds dump p m chain v
    verdict_of m = verdict_there holds dump p m chain (length dump.chains) s (settled_within dump chain s)

    pub has_one_verdict : (m : Meaning) → HasOneVerdict holds dump chain p m
    has_one_verdict m = let h = verdict_of m in (h.0, h.1, λ w g. one_verdict holds dump p m chain w h.0 g h.1)

    -- the walk drops where it can't accept, and accepts where it can't drop
    dropped : (m : Meaning) (v : Verdict) → Walks holds dump p m chain v → (Walks holds dump p m chain Accept → ⊥) → Walks holds dump p m chain Drop
    dropped m Accept h never = absurd (never h)
    dropped m Drop h never = h

    accepted : (m : Meaning) (v : Verdict) → Walks holds dump p m chain v → (Walks holds dump p m chain Drop → ⊥) → Walks holds dump p m chain Accept
    accepted m Accept h never = h
    accepted m Drop h never = absurd (never h)

    pub never_is_dropped : NeverIsDropped holds dump chain p
    never_is_dropped = (λ never m. let h = verdict_of m in dropped m h.0 h.1 (λ a. never (m, a)), λ all may. both may.0 may.1 (all may.0))

    pub must_is_never_dropped : MustIsNeverDropped holds dump chain p
    must_is_never_dropped = (λ must m d. both m (must m) d, λ never m. let h = verdict_of m in accepted m h.0 h.1 (never m))
