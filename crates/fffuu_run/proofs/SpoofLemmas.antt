-- Searches that answer stay within their limit, and what a chain's verdicts on claims are.
use Rattle.std.proofs.Common.{◌≡◌, ◌∙◌, ◌<◌, ◌^◌, ℕ, List, [], ◌∷◌, ◌++◌, append-nil, append_assoc, refl, inl, inr, arith, ap, sym, subst, length, get_or, take, ◌+◌}
use Rattle.std.proofs.lemmas.Bool.Decides.{nat_tests}
use Rattle.interval_set.specs.declared.set.Range.{Range}
use Rattle.interval_set.specs.Numbers.{has}
use Rattle.interval_set.proofs.Spelling.{where_has}
use Rattle.primitives.specs.declared.prim.Packet.{Packet}
use Rattle.primitives.specs.declared.prim.Prim_.{Prim_}
use Rattle.fw_rule.specs.declared.rule.Dump.{Dump}
use Rattle.fw_rule.specs.declared.rule.Verdict.{Verdict}
use Rattle.box_norm.specs.declared.cube.SimpleRule.{SimpleRule}
use Rattle.request.specs.Spaces.{set_of}
use Rattle.request.specs.declared.types.Claim.{Claim}
use Rattle.request.proofs.SpaceLemmas.{take_next}
use Rattle.spoof_check.specs.declared.answers.Spoof.{Spoof}
use Rattle.spoof_check.specs.Refusals.{IsShown}
use Rattle.spoof_check.specs.Verdicts.{HoldsWhole, IsForged, IsRight, IsSearched, IsTooLong}
use Rattle.fffuu_run.specs.Spoofing.{AreVerdicts, IsVerdict, verdict_line}

-- a search that answers isn't too long
pub searched_within : {W : ℕ} (rules : List (SimpleRule W)) (policy : Verdict) (name : List ℕ) (inside : List Range) (verdict : Spoof)
    → IsSearched rules policy name inside verdict → IsTooLong rules policy name inside → ⊥
searched_within rules policy name inside Spoof.Holds searched long = elim searched [ inl all ↦ long.0 all | inr found ↦ found.1 long.1 ]
searched_within rules policy name inside (Spoof.Violated p) searched long = (searched.1).1 long.1

-- the addresses inside a claim and their set have the same forged packets
module _ (w : ℕ) (name : List ℕ) (inside : List Range) (p : Packet) where
  same_inside : p.src < 2 ^ w → has (set_of w inside) p.src ≡ has inside p.src
  same_inside below = let a = where_has (has inside) (2 ^ w) p.src in grind (arith, nat_tests, a, below)

  to_set : IsForged w name inside p → IsForged w name (set_of w inside) p
  to_set f = record { valid = f.valid; named = f.named; opens = f.opens; outside = same_inside f.valid.src ∙ f.outside }

  from_set : IsForged w name (set_of w inside) p → IsForged w name inside p
  from_set f = record { valid = f.valid; named = f.named; opens = f.opens; outside = sym (same_inside f.valid.src) ∙ f.outside }

is_verdict : {W : ℕ} (dump : Dump (Prim_ W)) (chain : ℕ) (claim : Claim) (verdict : Spoof) → IsRight dump chain claim.name (set_of W claim.inside) verdict
    → HoldsWhole dump chain claim.name (set_of W claim.inside) verdict → IsShown dump chain claim.name (set_of W claim.inside) verdict → IsVerdict dump chain claim verdict
is_verdict {W} dump chain claim Spoof.Holds right whole shown = record {
  right = λ p forged may. right p (to_set W claim.name claim.inside p forged) may;
  whole = λ p forged may. whole p (to_set W claim.name claim.inside p forged) may;
  shown = shown;
}
is_verdict {W} dump chain claim (Spoof.Violated p) right whole shown = record { right = (from_set W claim.name claim.inside p right.0, right.1); whole = tt; shown = shown }

module _ {W : ℕ} (dump : Dump (Prim_ W)) (chain : ℕ) where
  -- one verdict more
  verdicts_more : (text_of : ℕ → List ℕ) (claims : List Claim) (written : List ℕ) (claim : Claim) (verdict : Spoof) → AreVerdicts dump chain text_of claims written
      → IsVerdict dump chain claim verdict → AreVerdicts dump chain text_of (claims ++ claim ∷ []) (written ++ verdict_line text_of claim.name verdict)
  verdicts_more text_of [] written claim verdict is one =
      let line = verdict_line text_of claim.name verdict in
      (verdict, [], (one, ap (λ (t : List ℕ). t ++ line) is ∙ sym (append-nil line), refl))
  verdicts_more text_of (first ∷ claims) written claim verdict (v, rest, (right, is, others)) one =
      let line = verdict_line text_of claim.name verdict in
      (v, rest ++ line, (right, ap (λ (t : List ℕ). t ++ line) is ∙ append_assoc (verdict_line text_of first.name v) rest line, verdicts_more text_of claims rest claim verdict others one))

  -- a claim that is searched by its name and its set
  module _ (claims : List Claim) (i : ℕ) (claim : Claim) (below : i < length claims) (at : claim ≡ get_or claims i claim)
      (name : List ℕ) (inside : List Range) (name_is : name ≡ claim.name) (inside_is : inside ≡ set_of W claim.inside) where
    along : (P : List ℕ → List Range → Type 0) → P name inside → P claim.name (set_of W claim.inside)
    along P h = subst (λ (n : List ℕ). P n (set_of W claim.inside)) name_is (subst (P name) inside_is h)

    pub next_verdict : (text_of : ℕ → List ℕ) (written line after : List ℕ) (verdict : Spoof) → AreVerdicts dump chain text_of (take i claims) written
        → IsRight dump chain name inside verdict → HoldsWhole dump chain name inside verdict → IsShown dump chain name inside verdict
        → line ≡ verdict_line text_of name verdict → after ≡ written ++ line → AreVerdicts dump chain text_of (take (i + 1) claims) after
    next_verdict text_of written line after verdict are right whole shown line_is after_is =
        let one = is_verdict dump chain claim verdict (along (λ n s. IsRight dump chain n s verdict) right) (along (λ n s. HoldsWhole dump chain n s verdict) whole)
        (along (λ n s. IsShown dump chain n s verdict) shown) in
        let text = after_is ∙ ap (λ (l : List ℕ). written ++ l) (line_is ∙ ap (λ (n : List ℕ). verdict_line text_of n verdict) name_is) in
        let front = take_next claims i claim below ∙ ap (λ (c : Claim). take i claims ++ c ∷ []) (sym at) in
        subst (λ (t : List ℕ). AreVerdicts dump chain text_of (take (i + 1) claims) t) (sym text)
        (subst (λ (cs : List Claim). AreVerdicts dump chain text_of cs (written ++ verdict_line text_of claim.name verdict)) (sym front)
        (verdicts_more text_of (take i claims) written claim verdict are one))
