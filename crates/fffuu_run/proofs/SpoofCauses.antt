-- When verdicts are refused.
use Rattle.std.proofs.Common.{◌≡◌, ◌⊎◌, ◌<◌, ◌≤◌, ℕ, List, [], ◌∷◌, Contains, get_or, length, Some, take, take_all, refl, inl, inr, arith, subst, sym}
use Rattle.interval_set.specs.declared.set.Range.{Range}
use Rattle.primitives.specs.declared.prim.Prim_.{Prim_}
use Rattle.fw_rule.specs.declared.rule.Dump.{Dump}
use Rattle.fw_rule.specs.declared.rule.Verdict.{Verdict}
use Rattle.fw_rule.specs.Walk.{hidden_literal, policy_of}
use Rattle.fw_rule.specs.declared.side.Side.{Side}
use Rattle.request.specs.declared.types.Claim.{Claim}
use Rattle.simple_filter.specs.Closed.{RefusesClosed}
use Rattle.simple_filter.specs.Hidden.{hidden, hides}
use Rattle.simple_filter.specs.declared.hiding.Hide.{Hide}
use Rattle.simple_filter.specs.declared.refusal.Kind.{Kind}
use Rattle.simple_filter.specs.declared.refusal.Kind.TheVariants as kind
use Rattle.simple_filter.specs.declared.refusal.Refusal.{Refusal}
use Rattle.spoof_check.specs.declared.answers.Spoof.{Spoof}
use Rattle.spoof_check.specs.Refusals.{HasSearchedRules, RefusesSpoof, searched_rules}
use Rattle.spoof_check.specs.Verdicts.{IsTooLong}
use Rattle.fffuu_run.specs.Filters.{IsClosingOver}
use Rattle.fffuu_run.specs.Questions.{Comes, IsWithin, order_of}
use Rattle.request.specs.Spaces.{set_of}
use Rattle.fffuu_run.specs.Spoofing.{AreVerdicts, IsSpoofOver, IsVerdict}
use Rattle.fffuu_run.proofs.Closings.{closing_comes, closing_front, closing_within}
use Rattle.fffuu_run.proofs.DumpLemmas.{contains_cons, contains_none}
use Rattle.fffuu_run.proofs.HiddenRules.{comes_from, within_from}
use Rattle.fffuu_run.proofs.Limits.{comes_too, last_comes, within_too}
use Rattle.fffuu_run.proofs.Options.{one_some}
use Rattle.fffuu_run.proofs.SpoofLemmas.{searched_within}

module _ {W : ℕ} (dump : Dump (Prim_ W)) (chain : ℕ) (claims : List Claim) where
  abbrev nameless : Dump (Prim_ W)
  nameless = hidden Hide.OutNames dump

  abbrev IsOver : Kind → Type 0
  IsOver = IsSpoofOver dump chain claims

  abbrev IsClosing : Kind → Type 0
  IsClosing = IsClosingOver nameless chain Side.Upper

  regions_to : (k : Kind) → IsClosing k → IsOver k
  regions_to kind.Regions over = absurd over
  regions_to k over = over

  regions_front : (k : Kind) → IsClosing k → order_of k < 7
  regions_front k over = omega (arith, closing_front nameless chain Side.Upper k over)

  regions_parted : (k : Kind) → IsOver k → (k ≡ kind.Regions) ⊎ IsClosing k
  regions_parted kind.Regions over = inl refl
  regions_parted k over = inr over

  -- what keeps the chain from being closed keeps it from having verdicts
  pub searched_comes : (a : Refusal) → RefusesClosed nameless chain Side.Upper a → Comes dump chain IsOver a
  searched_comes a p = comes_from (hidden_literal (hides Hide.OutNames)) dump chain IsOver a
      (comes_too nameless chain IsClosing IsOver kind.Regions regions_to regions_front regions_parted a (closing_comes nameless chain Side.Upper a p))

  -- so does a claim whose search is too long
  claim_comes : (claim : Claim) → Contains claims claim → (a : Refusal) → (a ≡ Refusal.Memory) ⊎ (a ≡ Refusal.Limit kind.Regions)
      → RefusesSpoof dump chain claim.name (set_of W claim.inside) a → Comes dump chain IsOver a
  claim_comes claim there a (inl is) p = subst (Comes dump chain IsOver) (sym is) tt
  claim_comes claim there a (inr is) p =
      let (closed, long) = subst (RefusesSpoof dump chain claim.name (set_of W claim.inside)) is p in
      subst (Comes dump chain IsOver) (sym is) (comes_from (hidden_literal (hides Hide.OutNames)) dump chain IsOver (Refusal.Limit kind.Regions)
      (last_comes nameless chain IsClosing IsOver kind.Regions regions_to regions_front regions_parted
      (closing_within nameless chain Side.Upper closed.0 closed.1) (claim, there, long)))

  -- the same of one that is searched by its name and its set
  pub refused_one : (i : ℕ) (claim : Claim) → i < length claims → claim ≡ get_or claims i claim → (name : List ℕ) (inside : List Range)
      → name ≡ claim.name → inside ≡ set_of W claim.inside → (a : Refusal) → (a ≡ Refusal.Memory) ⊎ (a ≡ Refusal.Limit kind.Regions)
      → RefusesSpoof dump chain name inside a → Comes dump chain IsOver a
  refused_one i claim below at name inside name_is inside_is a which p = claim_comes claim (i, below, sym at) a which
      (subst (λ (n : List ℕ). RefusesSpoof dump chain n (set_of W claim.inside) a) name_is
      (subst (λ (s : List Range). RefusesSpoof dump chain name s a) inside_is p))

  -- a claim with a verdict was searched within the limit
  verdict_within : (claim : Claim) (verdict : Spoof) → IsVerdict dump chain claim verdict → (policy : Verdict) → policy_of dump chain ≡ Some policy
      → IsTooLong (searched_rules dump chain) policy claim.name (set_of W claim.inside) → ⊥
  verdict_within claim verdict is policy has long =
      let (policy', has', searched) = is.shown.1 in
      let same = one_some (policy_of dump chain) policy policy' has has' in
      searched_within (searched_rules dump chain) policy' claim.name (set_of W claim.inside) verdict searched
      (subst (λ (v : Verdict). IsTooLong (searched_rules dump chain) v claim.name (set_of W claim.inside)) same long)

  verdict_of : (text_of : ℕ → List ℕ) (claims : List Claim) (written : List ℕ) → AreVerdicts dump chain text_of claims written → (claim : Claim) → Contains claims claim
      → (verdict : Spoof) × IsVerdict dump chain claim verdict
  verdict_of text_of [] written are claim there = absurd (contains_none claim there)
  verdict_of text_of (first ∷ claims) written (verdict, rest, (right, is, others)) claim there = elim (contains_cons first claims claim there) [
    | inl same ↦ (verdict, subst (λ (c : Claim). IsVerdict dump chain c verdict) same right)
    | inr later ↦ verdict_of text_of claims rest others claim later
  ]

  none_long : (text_of : ℕ → List ℕ) (written : List ℕ) → AreVerdicts dump chain text_of claims written → IsOver kind.Regions → ⊥
  none_long text_of written are (claim, there, (policy, has, long)) =
      let (verdict, is) = verdict_of text_of claims written are claim there in
      verdict_within claim verdict is policy has long

  -- the verdicts on all claims are within the limits
  pub verdicts_within : (i : ℕ) → length claims ≤ i → (text_of : ℕ → List ℕ) (written : List ℕ) → HasSearchedRules dump chain
      → AreVerdicts dump chain text_of (take i claims) written → IsWithin dump chain IsOver
  verdicts_within i past text_of written closed are =
      let all = subst (λ (cs : List Claim). AreVerdicts dump chain text_of cs written) (take_all i claims past) are in
      within_from (hidden_literal (hides Hide.OutNames)) dump chain IsOver
      (within_too nameless chain IsClosing IsOver kind.Regions regions_to regions_front regions_parted
      (closing_within nameless chain Side.Upper closed.0 closed.1) (none_long text_of written all))
