-- The region of forged packets, and what the rules say of it.
use Rattle.std.proofs.Common.{ℕ, suc, zero, ◌<◌, ◌^◌, ◌≡◌, Bool, false, true, List, Option, None, Some, ap, arith, refl, sym, subst, true≢false, ◌∙◌}
use Rattle.std.specs.Prelude.{not, ◌&&◌, nat_lt}
use Rattle.std.proofs.lemmas.Bool.Decides.{nat_tests}
use Rattle.std.proofs.lemmas.Slice.Eq.{bytes_eq-Decides}
use Rattle.std.specs.Str.{bytes_eq}
use Rattle.interval_set.specs.declared.set.Range.{Range}
use Rattle.interval_set.specs.Numbers.{has}
use Rattle.interval_set.specs.Spelling.{set_not}
use Rattle.interval_set.proofs.Spelling.{not_has}
use Rattle.primitives.specs.declared.prim.Packet.{Packet}
use Rattle.primitives.specs.declared.prim.Prim_.{Prim_}
use Rattle.primitives.specs.Holds.{IsValid, has_bit, holds_of}
use Rattle.fw_rule.specs.declared.rule.Dump.{Dump}
use Rattle.fw_rule.specs.declared.rule.Verdict.{Verdict}
use Rattle.fw_rule.specs.Walk.{HasRoom, Settled, hidden_literal, policy_of}
use Rattle.fw_laws.proofs.Hiding.{may_widens}
use Rattle.fw_laws.proofs.Mapping.{settled_stays}
use Rattle.chain_graph.specs.Paths.{CallsNameChains}
use Rattle.closure.specs.Checked.{HasPolicy}
use Rattle.fw_rule.specs.declared.side.Side.{Side}
use Rattle.box_norm.specs.declared.cube.SimpleRule.{SimpleRule}
use Rattle.box_norm.specs.Cubes.{holds_cube}
use Rattle.box_norm.proofs.NormalLaws.{whole_holds}
use Rattle.region_cut.specs.Search.{Tells}
use Rattle.simple_filter.specs.Closed.{Accepts}
use Rattle.simple_filter.specs.Laws.{CallsStay}
use Rattle.simple_filter.specs.Hidden.{hidden, hides}
use Rattle.simple_filter.specs.declared.hiding.Hide.{Hide}
use Rattle.spoof_check.specs.Verdicts.{HoldsWhole, IsForged, IsRight, IsSaid, forged_region}
use Rattle.spoof_check.specs.declared.answers.Spoof.{Spoof}

-- of the states of a packet, the second bit has NEW alone
state_is : (n : ℕ) → n < 5 → has_bit 2 n ≡ true → n ≡ 1
state_is zero l e = cc
state_is (suc zero) l e = refl
state_is (suc (suc zero)) l e = cc
state_is (suc (suc (suc zero))) l e = cc
state_is (suc (suc (suc (suc zero)))) l e = cc
state_is (suc (suc (suc (suc (suc n))))) l e = absurd (omega (arith, l))

outside_of : (a b : Bool) → (a && not b) ≡ true → b ≡ false
outside_of a true e = grind arith
outside_of a false e = refl

module _ (W : ℕ) (name : List ℕ) (inside : List Range) (p : Packet) where
  pub in_region : IsForged W name inside p → holds_cube (forged_region {W = W} name inside) p ≡ true
  in_region f =
      let w = whole_holds W p f.valid in
      let n : bytes_eq name p.in_name ≡ true = (bytes_eq-Decides name p.in_name).1 (sym f.named) in
      let s = not_has W inside p.src in
      let o = f.outside in
      let l = f.valid.src in
      let t : has_bit 2 p.state ≡ true = ap (has_bit 2) f.opens in
      grind (arith, nat_tests, w, n, s, o, l, t)

  pub from_region : IsValid W p → holds_cube (forged_region {W = W} name inside) p ≡ true → IsForged W name inside p
  from_region valid e =
      let n : bytes_eq name p.in_name ≡ true = grind (arith, nat_tests, e) in
      let s : has (set_not W inside) p.src ≡ true = grind (arith, nat_tests, e) in
      let t : has_bit 2 p.state ≡ true = grind (arith, nat_tests, e) in
      record {
        valid = valid;
        named = sym ((bytes_eq-Decides name p.in_name).0 n);
        opens = state_is p.state valid.state t;
        outside = outside_of (nat_lt p.src (2 ^ W)) (has inside p.src) (sym (not_has W inside p.src) ∙ s);
      }

-- what an answer of the search says
abbrev pub verdict_of : Option Packet → Spoof
verdict_of None = Spoof.Holds
verdict_of (Some p) = Spoof.Violated p

module _ {W : ℕ} (rules : List (SimpleRule W)) (policy : Verdict) (name : List ℕ) (inside : List Range) where
  pub told : (o : Option Packet) → Tells (forged_region name inside) rules policy o → IsSaid rules policy name inside (verdict_of o)
  told None h = λ p f. h p f.valid (in_region W name inside p f)
  told (Some p) h = (from_region W name inside p h.0 h.1, h.2)

-- from what the rules say to what the chain may do
module _ {W : ℕ} (dump : Dump (Prim_ W)) (chain : ℕ) (policy : Verdict) (rules : List (SimpleRule W)) (accepts : Accepts Side.Upper (hidden Hide.OutNames dump) chain policy rules)
    (name : List ℕ) (inside : List Range) where
  pub right : (v : Spoof) → IsSaid rules policy name inside v → IsRight dump chain name inside v
  right Spoof.Holds h = λ p f may. true≢false (sym ((accepts p f.valid).1 may) ∙ h p f)
  right (Spoof.Violated p) h = (h.0, (accepts p h.0.valid).0 h.1)

pub holds_whole : {W : ℕ} (dump : Dump (Prim_ W)) (chain : ℕ) (name : List ℕ) (inside : List Range) (v : Spoof) → IsRight dump chain name inside v → HoldsWhole dump chain name inside v
holds_whole dump chain name inside Spoof.Holds h = λ p f may. h p f (may_widens dump holds_of chain p (hides Hide.OutNames) may)
holds_whole dump chain name inside (Spoof.Violated p) h = tt

-- what hiding keeps, for a dump that is the hidden one
module _ {W : ℕ} (dump : Dump (Prim_ W)) (stay : CallsStay dump) (chain : ℕ) (shown : Dump (Prim_ W)) (same : shown ≡ hidden Hide.OutNames dump) where
  along : (P : Dump (Prim_ W) → Type 0) → P (hidden Hide.OutNames dump) → P shown
  along P h = subst P (sym same) h

  pub room_there : HasRoom dump → HasRoom shown
  room_there h = along HasRoom (stay.room Hide.OutNames h)

  pub named_there : CallsNameChains dump → CallsNameChains shown
  named_there h = along CallsNameChains (stay.named Hide.OutNames h)

  same_policy : policy_of shown chain ≡ policy_of dump chain
  same_policy = ap (λ (d : Dump (Prim_ W)). policy_of d chain) same ∙ stay.policy Hide.OutNames chain

  pub policy_there : HasPolicy dump chain → HasPolicy shown chain
  policy_there h = (h.0, same_policy ∙ h.1)

  pub meaning_there : (rules : List (SimpleRule W)) →
      ((policy : Verdict) → policy_of shown chain ≡ Some policy → Accepts Side.Upper shown chain policy rules) →
      (policy : Verdict) → policy_of dump chain ≡ Some policy → Accepts Side.Upper (hidden Hide.OutNames dump) chain policy rules
  meaning_there rules h policy has =
      subst (λ (d : Dump (Prim_ W)). Accepts Side.Upper d chain policy rules) same (h policy (same_policy ∙ has))

-- the dump itself is settled where the searched one is
pub settled_before : {W : ℕ} (dump : Dump (Prim_ W)) (chain : ℕ) → Settled (hidden Hide.OutNames dump) chain → Settled dump chain
settled_before dump chain h = (settled_stays dump (hidden_literal (hides Hide.OutNames)) chain).1 h
