-- The state of the loop over the flat rules.
use Rattle.std.proofs.Common.{◌≡◌, ℕ, ◌<◌, ◌≤◌, ◌+◌, suc, List, [], ◌∷◌, ◌++◌, Bool, true, false, refl, sym, ◌∙◌, ap, arith, length, drop, drop-cons, add-one, get_or, length-append, append_assoc, nat_lt}
use Rattle.std.proofs.lemmas.Bool.Decides.{nat_tests}
use Rattle.std.specs.Prelude.{Result, Ok, Err, IfOk}
use Rattle.limits.specs.declared.TheConstants.{MOST_CUBES, MOST_RULES}
use Rattle.match_expr.specs.FirstMatch.{first_match}
use Rattle.match_expr.specs.declared.expr.FlatRule.{FlatRule}
use Rattle.primitives.specs.declared.prim.Packet.{Packet}
use Rattle.primitives.specs.declared.prim.Prim_.{Prim_}
use Rattle.primitives.specs.Holds.{holds_of, IsValid}
use Rattle.box_norm.specs.declared.cube.Cube.{Cube}
use Rattle.box_norm.specs.declared.cube.CubeFault.{CubeFault}
use Rattle.box_norm.specs.declared.cube.SimpleRule.{SimpleRule}
use Rattle.box_norm.specs.Cuts.{cuts_by}
use Rattle.box_norm.specs.Normal.{NormalAnswers, boxes_of, first_of, normal_of, whole_of, with_verdict}
use Rattle.box_norm.proofs.NormalLaws.{normal_first}

pub length_verdicts : {W : ℕ} (b : Bool) (cs : List (Cube W)) → length (with_verdict b cs) ≡ length cs
length_verdicts b [] = refl
length_verdicts b (c ∷ cs) = let ih = length_verdicts b cs in omega (arith, ih)

-- what is left ends as the whole does
pub record Normals {W : ℕ} (full : Bool) (out : List (SimpleRule W)) (rest rules : List (FlatRule (Prim_ W))) : Type 0 where
  pub over : MOST_CUBES < boxes_of rest → MOST_CUBES < boxes_of rules
  pub within : boxes_of rest ≤ MOST_CUBES → boxes_of rules ≤ MOST_CUBES
  pub list : full ≡ false → out ++ normal_of rest ≡ normal_of rules
  pub some : length out ≤ MOST_RULES
  pub many : full ≡ true → MOST_RULES < length (normal_of rules)

pub normals_begin : {W : ℕ} (rules : List (FlatRule (Prim_ W))) → Normals false [] rules rules
normals_begin rules = record { over = λ h. h; within = λ h. h; list = λ h. refl; some = omega arith; many = λ h. absurd (grind (arith, h)) }

-- the turn at one rule
module _ {W : ℕ} (full : Bool) (out : List (SimpleRule W)) (rule : FlatRule (Prim_ W)) (rest rules : List (FlatRule (Prim_ W))) (g : Normals full out (rule ∷ rest) rules)
    (cubes : List (Cube W)) (is : cubes ≡ ((cuts_by {W = W} rule.expr).keep (whole_of W ∷ [])).list) (small : ((cuts_by {W = W} rule.expr).keep (whole_of W ∷ [])).longest ≤ MOST_CUBES) where
  pub normals_add : full ≡ false → length out + length cubes ≤ MOST_RULES → Normals false (out ++ with_verdict rule.accept cubes) rest rules
  normals_add f h = record {
    over = λ k. g.over (omega (arith, k));
    within = λ k. g.within (omega (arith, k, small));
    list = λ k. ap (λ z. (out ++ with_verdict rule.accept z) ++ normal_of rest) is ∙ append_assoc out (with_verdict rule.accept ((cuts_by {W = W} rule.expr).keep (whole_of W ∷ [])).list) (normal_of rest) ∙ g.list f;
    some = omega (arith, h, length-append out (with_verdict rule.accept cubes), length_verdicts rule.accept cubes);
    many = λ k. absurd (grind (arith, k));
  }

  too_many : full ≡ false → MOST_RULES < length out + length cubes → MOST_RULES < length (normal_of rules)
  too_many f h =
      omega (
        arith,
        h,
        ap length is,
        ap length (g.list f),
        length-append out (normal_of (rule ∷ rest)),
        length-append (with_verdict rule.accept ((cuts_by {W = W} rule.expr).keep (whole_of W ∷ [])).list) (normal_of rest),
        length_verdicts rule.accept ((cuts_by {W = W} rule.expr).keep (whole_of W ∷ [])).list,
      )

  pub normals_full : MOST_RULES < length (normal_of rules) → Normals true out rest rules
  normals_full m = record {
    over = λ k. g.over (omega (arith, k));
    within = λ k. g.within (omega (arith, k, small));
    list = λ k. absurd (grind (arith, k));
    some = g.some;
    many = λ k. m;
  }

  pub normals_over : full ≡ false → MOST_RULES < length out + length cubes → Normals true out rest rules
  normals_over f h = normals_full (too_many f h)

  pub normals_on : full ≡ true → Normals true out rest rules
  normals_on f = normals_full (g.many f)

-- from what `normal` answers to a fact of its list
pub answers_of : (W : ℕ) (rules : List (FlatRule (Prim_ W))) (r : Result (List (SimpleRule W)) CubeFault) (Q : List (SimpleRule W) → Type 0) →
    ((l : List (SimpleRule W)) → l ≡ normal_of rules → Q l) → NormalAnswers rules r → IfOk r Q
answers_of W rules (Ok l) Q f a = f l a.0
answers_of W rules (Err e) Q f a = tt

pub answers_first : (W : ℕ) (rules : List (FlatRule (Prim_ W))) (r : Result (List (SimpleRule W)) CubeFault) → NormalAnswers rules r →
    IfOk r (λ l. (p : Packet) → IsValid W p → first_of l p ≡ first_match (λ x. holds_of x p) rules)
answers_first W rules r a = answers_of W rules r (λ l. (p : Packet) → IsValid W p → first_of l p ≡ first_match (λ x. holds_of x p) rules)
    (λ l is p v. ap (λ z. first_of z p) is ∙ normal_first W p v rules) a

-- the turn at one rule of the loop
module _ (W : ℕ) (rules : List (FlatRule (Prim_ W))) (i : ℕ) (x : FlatRule (Prim_ W)) (full : Bool) (out : List (SimpleRule W)) (lent cubes : List (Cube W))
    (h : i < length rules) (is : x ≡ get_or rules i x) (same : lent ≡ whole_of W ∷ []) (g : Normals full out (drop i rules) rules)
    (a : (cubes ≡ ((cuts_by {W = W} x.expr).keep lent).list) × (((cuts_by {W = W} x.expr).keep lent).longest ≤ MOST_CUBES)) where
  opened : drop i rules ≡ x ∷ drop (i + 1) rules
  opened = rw add-one (drop-cons rules i x h ∙ ap (λ y. y ∷ drop (suc i) rules) (sym is))

  at_rule : Normals full out (x ∷ drop (i + 1) rules) rules
  at_rule = rw opened at g

  at_cubes : (cubes ≡ ((cuts_by {W = W} x.expr).keep (whole_of W ∷ [])).list) × (((cuts_by {W = W} x.expr).keep (whole_of W ∷ [])).longest ≤ MOST_CUBES)
  at_cubes = rw same at a

  pub turn_on : full ≡ true → Normals true out (drop (i + 1) rules) rules
  turn_on f = normals_on full out x (drop (i + 1) rules) rules at_rule cubes at_cubes.0 at_cubes.1 f

  pub turn_over : full ≡ false → MOST_RULES < length out + length cubes → Normals true out (drop (i + 1) rules) rules
  turn_over f k = normals_over full out x (drop (i + 1) rules) rules at_rule cubes at_cubes.0 at_cubes.1 f k

  pub turn_add : full ≡ false → length out + length cubes ≤ MOST_RULES → Normals false (out ++ with_verdict x.accept cubes) (drop (i + 1) rules) rules
  turn_add f k = normals_add full out x (drop (i + 1) rules) rules at_rule cubes at_cubes.0 at_cubes.1 f k

  by_now : full ≡ false → (now : Bool) (next : List (SimpleRule W)) → (now ≡ nat_lt MOST_RULES (length out + length cubes)) →
      (now ≡ true → next ≡ out) → (now ≡ false → next ≡ out ++ with_verdict x.accept cubes) → Normals now next (drop (i + 1) rules) rules
  by_now f true next e stays adds = rw (stays refl) (turn_over f (grind (arith, nat_tests, e)))
  by_now f false next e stays adds = rw (adds refl) (turn_add f (grind (arith, nat_tests, e)))

  by_full : (b : Bool) → full ≡ b → (now : Bool) (next : List (SimpleRule W)) → (full ≡ true → now ≡ true) → (full ≡ false → now ≡ nat_lt MOST_RULES (length out + length cubes)) →
      (now ≡ true → next ≡ out) → (now ≡ false → next ≡ out ++ with_verdict x.accept cubes) → Normals now next (drop (i + 1) rules) rules
  by_full true f now next on off stays adds = rw (on f, stays (on f)) (turn_on f)
  by_full false f now next on off stays adds = by_now f now next (off f) stays adds

  pub turn : (now : Bool) (next : List (SimpleRule W)) → (full ≡ true → now ≡ true) → (full ≡ false → now ≡ nat_lt MOST_RULES (length out + length cubes)) →
      (now ≡ true → next ≡ out) → (now ≡ false → next ≡ out ++ with_verdict x.accept cubes) → Normals now next (drop (i + 1) rules) rules
  turn now next on off stays adds = by_full full refl now next on off stays adds
