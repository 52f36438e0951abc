-- The verdicts on forged sources in a text.
use Rattle.std.specs.Prelude.{ℕ, ◌≡◌, List, [], ◌∷◌, ◌++◌, Some, Contains, codes}
use Rattle.primitives.specs.Holds.{IsValid}
use Rattle.primitives.specs.declared.prim.Prim_.{Prim_}
use Rattle.fw_rule.specs.declared.rule.Dump.{Dump}
use Rattle.fw_rule.specs.declared.rule.Verdict.{Verdict}
use Rattle.fw_rule.specs.Walk.{policy_of}
use Rattle.fw_rule.specs.declared.side.Side.{Side}
use Rattle.fw_text.specs.Names.{shown_name}
use Rattle.fw_text.specs.Packets.{packet_text}
use Rattle.request.specs.Spaces.{set_of}
use Rattle.request.specs.declared.types.Claim.{Claim}
use Rattle.simple_filter.specs.Hidden.{hidden}
use Rattle.simple_filter.specs.declared.hiding.Hide.{Hide}
use Rattle.simple_filter.specs.declared.refusal.Kind.{Kind}
use Rattle.spoof_check.specs.declared.answers.Spoof.{Spoof}
use Rattle.spoof_check.specs.Verdicts.{HoldsWhole, IsRight, IsTooLong}
use Rattle.spoof_check.specs.Refusals.{IsShown, searched_rules}
use Rattle.fffuu_run.specs.Filters.{IsClosingOver}
use Rattle.fffuu_run.specs.Questions.{Answers, RefusesQuestion}
use Rattle.fffuu_run.specs.declared.status.Status.{Status}

-- a packet that is shown is one of addresses of w bits
abbrev pub HasValidPacket : ℕ → Spoof → Type 0
HasValidPacket w Spoof.Holds = Unit {0}
HasValidPacket w (Spoof.Violated p) = IsValid w p

-- what is said of a claim: that it holds, or a packet that breaks it
abbrev pub claim_text : (ℕ → List ℕ) → Spoof → List ℕ
claim_text text_of Spoof.Holds = codes " holds"
claim_text text_of (Spoof.Violated p) = codes " violated" ++ packet_text text_of p

-- the interface's shown name, and what is said of it
abbrev pub verdict_line : (ℕ → List ℕ) → List ℕ → Spoof → List ℕ
verdict_line text_of name verdict = shown_name name ++ (claim_text text_of verdict ++ 10 ∷ [])

module _ {W : ℕ} (dump : Dump (Prim_ W)) (chain : ℕ) where
  -- The verdict on a claim is right. The claim's addresses are those inside.
  pub record IsVerdict (claim : Claim) (verdict : Spoof) : Type 0 where
    pub right : IsRight dump chain claim.name claim.inside verdict
    pub whole : HoldsWhole dump chain claim.name claim.inside verdict
    pub shown : IsShown dump chain claim.name (set_of W claim.inside) verdict

  -- so is each of them, and this is a line for each
  abbrev pub AreVerdicts : (ℕ → List ℕ) → List Claim → List ℕ → Type 0
  AreVerdicts text_of [] written = written ≡ []
  AreVerdicts text_of (claim ∷ claims) written = (verdict : Spoof) × (rest : List ℕ) × (IsVerdict claim verdict
      × (written ≡ verdict_line text_of claim.name verdict ++ rest) × AreVerdicts text_of claims rest)

  -- with the tests of output interfaces hidden, the rewriting is too large, or the search for some claim comes to too
  -- many regions
  abbrev pub IsSpoofOver : List Claim → Kind → Type 0
  IsSpoofOver claims Kind.Regions = (claim : Claim) × Contains claims claim
      × ((policy : Verdict) × (policy_of dump chain ≡ Some policy)
      × IsTooLong (searched_rules dump chain) policy claim.name (set_of W claim.inside))
  IsSpoofOver claims kind = IsClosingOver (hidden Hide.OutNames dump) chain Side.Upper kind

-- `Reads` says which text is one of which address of `W` bits, and `text_of` is the one text that is written for an address
module _ (W : ℕ) (Reads : List ℕ → ℕ → Type 0) (text_of : ℕ → List ℕ) (claims : List Claim) (name text : List ℕ) where
  -- these are the lines of the verdicts on the claims, of the chain of this name in the dump that the text is
  abbrev pub Spoofs : List ℕ → Type 0
  Spoofs written = Answers W Reads name text (λ dump chain. IsSpoofOver dump chain claims)
      (λ dump chain. AreVerdicts dump chain text_of claims written)

  -- why there are none
  abbrev pub RefusesSpoofs : Status → Type 0
  RefusesSpoofs s = RefusesQuestion W Reads name text (λ dump chain. IsSpoofOver dump chain claims) s
