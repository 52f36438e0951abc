-- The normal form answers what the flat list answers.
use Rattle.std.proofs.Common.{◌≡◌, ℕ, ◌-◌, ◌^◌, ◌<◌, List, [], ◌∷◌, ◌++◌, Bool, true, false, ◌&&◌, ◌||◌, Option, Some, refl, ◌∙◌, ap, arith}
use Rattle.std.specs.Prelude.{if◌then◌else◌}
use Rattle.std.proofs.lemmas.Bool.Decides.{nat_tests}
use Rattle.std.proofs.lemmas.Nat.Bits.{bit_at_ones}
use Rattle.match_expr.specs.FirstMatch.{first_match}
use Rattle.match_expr.specs.Meaning.{eval_of}
use Rattle.match_expr.specs.declared.expr.FlatRule.{FlatRule}
use Rattle.primitives.specs.declared.prim.Packet.{Packet}
use Rattle.primitives.specs.declared.prim.Prim_.{Prim_}
use Rattle.primitives.specs.Holds.{holds_of, has_bit, IsValid}
use Rattle.box_norm.specs.declared.cube.Cube.{Cube}
use Rattle.box_norm.specs.declared.cube.SimpleRule.{SimpleRule}
use Rattle.box_norm.specs.Cubes.{holds_cube, any_holds}
use Rattle.box_norm.specs.Cuts.{cuts_by}
use Rattle.box_norm.specs.Normal.{whole_of, with_verdict, normal_of, first_of}
use Rattle.box_norm.proofs.CutLaws.{cuts_keep}

ones : (k i : ℕ) → i < k → has_bit (2 ^ k - 1) i ≡ true
ones k i h = let e = bit_at_ones k i h in grind (arith, nat_tests, e)

pub whole_holds : (W : ℕ) (p : Packet) → IsValid W p → holds_cube (whole_of W) p ≡ true
whole_holds W p v = let f = ones 64 p.flags v.flags in let s = ones 5 p.state v.state in grind (arith, nat_tests, f, s, v.src, v.dst, v.proto, v.sport, v.dport, v.icmp)

chosen : (h a b : Bool) (r s : Option Bool) → s ≡ (if a then Some b else r) → (if h then Some b else s) ≡ (if h || a then Some b else r)
chosen true a b r s e = refl
chosen false a b r s e = e

first_append : {W : ℕ} (b : Bool) (cs : List (Cube W)) (rest : List (SimpleRule W)) (p : Packet) →
    first_of (with_verdict b cs ++ rest) p ≡ (if any_holds cs p then Some b else first_of rest p)
first_append b [] rest p = refl
first_append b (c ∷ cs) rest p = let ih = first_append b cs rest p in chosen (holds_cube c p) (any_holds cs p) b (first_of rest p) (first_of (with_verdict b cs ++ rest) p) ih

pub normal_first : (W : ℕ) (p : Packet) → IsValid W p → (rules : List (FlatRule (Prim_ W))) → first_of (normal_of rules) p ≡ first_match (λ x. holds_of x p) rules
normal_first W p v [] = refl
normal_first W p v (rule ∷ rules) =
    let k = (cuts_keep W p v rule.expr).keep (whole_of W ∷ []) in
    let e : any_holds ((cuts_by {W = W} rule.expr).keep (whole_of W ∷ [])).list p ≡ eval_of (λ x. holds_of x p) rule.expr = k ∙ ap (λ b. (b || false) && eval_of (λ x. holds_of x p) rule.expr) (whole_holds W p v) in
    first_append rule.accept ((cuts_by {W = W} rule.expr).keep (whole_of W ∷ [])).list (normal_of rules) p ∙
    ap (λ b. if b then Some rule.accept else first_of (normal_of rules) p) e ∙
    ap (λ r. if eval_of (λ x. holds_of x p) rule.expr then Some rule.accept else r) (normal_first W p v rules)
