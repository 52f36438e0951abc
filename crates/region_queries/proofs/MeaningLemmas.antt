-- What the search says of packets, and of the two dumps.
use Rattle.std.proofs.Common.{◌≡◌, ℕ, List, [], ◌∷◌, Bool, true, false, not, ◌&&◌, ◌||◌, Option, None, Some, IfSome, IsSomeAnd, refl, sym, ◌∙◌, ap, arith, inl, inr, map, true≢false}
use Rattle.std.specs.Prelude.{if◌then◌else◌, unwrap_or}
use Rattle.basics.proofs.Truths.{both_true, or_left, or_right}
use Rattle.primitives.specs.declared.prim.Packet.{Packet}
use Rattle.primitives.specs.declared.prim.Prim_.{Prim_}
use Rattle.primitives.specs.Holds.{IsValid}
use Rattle.fw_rule.specs.declared.rule.Dump.{Dump}
use Rattle.fw_rule.specs.declared.rule.Verdict.{Verdict}
use Rattle.fw_rule.specs.declared.side.Side.{Side}
use Rattle.fw_rule.specs.Answers.{is_accept}
use Rattle.fw_rule.specs.Walk.{policy_of}
use Rattle.box_norm.specs.declared.cube.Cube.{Cube}
use Rattle.box_norm.specs.declared.cube.SimpleRule.{SimpleRule}
use Rattle.box_norm.specs.Cubes.{any_holds, holds_cube}
use Rattle.box_norm.specs.Normal.{first_of, whole_of}
use Rattle.box_norm.specs.Overlaps.{and_of, holds_some}
use Rattle.box_norm.proofs.NormalLaws.{whole_holds}
use Rattle.box_norm.proofs.OverlapLaws.{and_holds}
use Rattle.region_cut.specs.Search.{Searches, is_accepted, with_policy}
use Rattle.region_cut.proofs.PacketLaws.{each_holds, policy_first, searches_tell}
use Rattle.region_queries.specs.declared.answers.Cover.{Cover}
use Rattle.region_queries.specs.Covers.{IsRight}
use Rattle.region_queries.specs.Refusals.{simple_rules}
use Rattle.region_queries.specs.Search.{Answers, AtEnd, Compares, FindsFirst, FindsNothing, Found, Passed, PassesAll, flipped, turned, turned_policy, without}
use Rattle.region_queries.specs.inner.Closing.{IsMeant}

-- the flipped rules accept what the rules drop
verdict_turned : (policy : Verdict) → is_accept (turned_policy policy) ≡ not (is_accept policy)
verdict_turned Verdict.Accept = refl
verdict_turned Verdict.Drop = refl

one_turned : (h a : Bool) (o r : Option Bool) (d e : Bool) → unwrap_or o d ≡ not (unwrap_or r e) → unwrap_or (if h then Some (not a) else o) d ≡ not (unwrap_or (if h then Some a else r) e)
one_turned true a o r d e h = refl
one_turned false a o r d e h = h

pub all_turned : {W : ℕ} (rules : List (SimpleRule W)) (policy : Verdict) (p : Packet) → is_accepted (map turned rules) (turned_policy policy) p ≡ not (is_accepted rules policy p)
all_turned [] policy p = verdict_turned policy
all_turned (rule ∷ rules) policy p =
    one_turned (holds_cube rule.cube p) rule.accept (first_of (map turned rules) p) (first_of rules p) (is_accept (turned_policy policy)) (is_accept policy) (all_turned rules policy p)

-- the first of two tests that passes
either : {G : Type 0} (a b : Bool) → (a ≡ true → G) → (b ≡ true → G) → (a || b) ≡ true → G
either true b f g h = f refl
either false b f g h = g h

taken : (h a : Bool) (o : Option Bool) → h ≡ true → a ≡ true → (if h then Some a else o) ≡ Some true
taken true a o h k = ap Some k
taken false a o h k = cc

-- a rule has the packet and accepts, or leaves it to the others
by_rule : {G : Type 0} (h a : Bool) (o : Option Bool) → (if h then Some a else o) ≡ Some true → (h ≡ true → a ≡ true → G) → (h ≡ false → o ≡ Some true → G) → G
by_rule true a o is f g = f refl (cc (is))
by_rule false a o is f g = g refl is

left_to : (h a : Bool) (o : Option Bool) → h ≡ false → o ≡ Some true → (if h then Some a else o) ≡ Some true
left_to true a o h k = cc
left_to false a o h k = k

both_are : (a b s : Bool) → s ≡ (a && b) → a ≡ true → b ≡ true → s ≡ true
both_are a b s is h k = grind (arith, is, h, k)

outside : (a b s : Bool) → s ≡ (a && not b) → a ≡ true → b ≡ false → s ≡ true
outside a b s is h k = grind (arith, is, h, k)

was_outside : (a b s : Bool) → s ≡ (a && not b) → s ≡ true → (a ≡ true) × (b ≡ false)
was_outside a b s is h = (grind (arith, is, h), grind (arith, is, h))

module _ {W : ℕ} (others : List (SimpleRule W)) (other : Verdict) where
  abbrev against : List (SimpleRule W)
  against = with_policy others other

  -- one region, by what it has in common with the cube
  common_passed : (common : Option (Cube W)) (p : Packet) → IfSome common (λ c. Searches against (c ∷ []) None) → IsValid W p → holds_some common p ≡ true → is_accepted others other p ≡ false
  common_passed None p none v h = absurd (true≢false (sym h))
  common_passed (Some c) p none v h = searches_tell c others other None none p v h

  common_found : (common : Option (Cube W)) (p : Packet) → IsSomeAnd common (λ c. Searches against (c ∷ []) (Some p)) →
      IsValid W p × (holds_some common p ≡ true) × (is_accepted others other p ≡ true)
  common_found None p some = absurd some
  common_found (Some c) p some = searches_tell c others other (Some p) some

  -- several regions
  all_passed : (cube : Cube W) (p : Packet) → IsValid W p → holds_cube cube p ≡ true → (regions : List (Cube W)) → PassesAll against regions cube → any_holds regions p ≡ true →
      is_accepted others other p ≡ false
  all_passed cube p v h [] none k = absurd (true≢false (sym k))
  all_passed cube p v h (region ∷ regions) none k =
      either (holds_cube region p) (any_holds regions p)
      (λ here. common_passed (and_of region cube) p none.0 v
      (both_are (holds_cube region p) (holds_cube cube p) (holds_some (and_of region cube) p) (and_holds region cube p v) here h))
      (λ later. all_passed cube p v h regions none.1 later) k

  first_found : (cube : Cube W) (p : Packet) (regions : List (Cube W)) → FindsFirst against regions cube p →
      IsValid W p × (any_holds regions p ≡ true) × (holds_cube cube p ≡ true) × (is_accepted others other p ≡ true)
  first_found cube p [] some = absurd some
  first_found cube p (region ∷ regions) some = elim some [
    | inl here ↦
        let told = common_found (and_of region cube) p here in
        let both = both_true (holds_cube region p) (holds_cube cube p) (sym (and_holds region cube p told.0) ∙ told.1) in
        (told.0, or_left (holds_cube region p) (any_holds regions p) both.0, both.1, told.2)
    | inr later ↦
        let rest = first_found cube p regions later.1 in
        (rest.0, or_right (holds_cube region p) (any_holds regions p) rest.1, rest.2, rest.3)
  ]

  -- What a search tells: a packet of the regions that the rules accept isn't accepted by the others, or this one is accepted by both.
  abbrev Told : List (SimpleRule W) → List (Cube W) → Cover → Type 0
  Told rules regions Cover.Holds = (p : Packet) → IsValid W p → any_holds regions p ≡ true → first_of rules p ≡ Some true → is_accepted others other p ≡ false
  Told rules regions (Cover.Fails p) = IsValid W p × (any_holds regions p ≡ true) × (first_of rules p ≡ Some true) × (is_accepted others other p ≡ true)

  later_told : (rule : SimpleRule W) (rules : List (SimpleRule W)) (regions : List (Cube W)) → FindsNothing against rule regions → (answer : Cover) →
      Told rules (without rule.cube regions) answer → Told (rule ∷ rules) regions answer
  later_told rule rules regions none Cover.Holds told = λ p v h is.
      by_rule (holds_cube rule.cube p) rule.accept (first_of rules p) is
      (λ has accepted. all_passed rule.cube p v has regions (none accepted) h)
      (λ out on. told p v (outside (any_holds regions p) (holds_cube rule.cube p) (any_holds (without rule.cube regions) p) (each_holds rule.cube regions p v) h out) on)
  later_told rule rules regions none (Cover.Fails p) told =
      let was = was_outside (any_holds regions p) (holds_cube rule.cube p) (any_holds (without rule.cube regions) p) (each_holds rule.cube regions p told.0) told.1 in
      (told.0, was.0, left_to (holds_cube rule.cube p) rule.accept (first_of rules p) was.1 told.2, told.3)

  compares_told : (rules : List (SimpleRule W)) (regions : List (Cube W)) (answer : Cover) → Compares against rules regions answer → Told rules regions answer
  compares_told rules regions answer AtEnd = λ p v h is. cc
  compares_told rules regions answer (Found {rule = rule} {rules = more} {regions = here} {p = p} accepted some) =
      let first = first_found rule.cube p here some in
      (first.0, first.1, taken (holds_cube rule.cube p) rule.accept (first_of more p) first.2 accepted, first.3)
  compares_told rules regions answer (Passed {rule = rule} {rules = more} {regions = here} {answer = found} none c) =
      later_told rule more here none found (compares_told more (without rule.cube here) found c)

-- from what the search tells to what is so of the dumps
no_turned : (a b : Bool) → b ≡ not a → b ≡ false → a ≡ true
no_turned a b is h = grind (arith, is, h)

turned_both : (a b : Bool) → b ≡ not a → b ≡ true → a ≡ true → ⊥
turned_both a b is h k = absurd (grind (arith, is, h, k))

some_same : {X : Type 0} (a b : X) → Some a ≡ Some b → a ≡ b
some_same a b e = cc

module _ {W : ℕ} (first : Dump (Prim_ W)) (first_chain : ℕ) (second : Dump (Prim_ W)) (second_chain : ℕ) (policy other : Verdict)
    (meant : IsMeant first first_chain Side.Upper) (must : IsMeant second second_chain Side.Lower)
    (policy_is : policy_of first first_chain ≡ Some policy) (other_is : policy_of second second_chain ≡ Some other) where
  abbrev upper : List (SimpleRule W)
  upper = simple_rules first first_chain Side.Upper

  abbrev lower : List (SimpleRule W)
  lower = simple_rules second second_chain Side.Lower

  pub right : (answer : Cover) → Answers (flipped lower other) (with_policy upper policy) answer → IsRight first first_chain second second_chain answer
  right Cover.Holds a = λ p v may.
      let told = compares_told (map turned lower) (turned_policy other) (with_policy upper policy) (whole_of W ∷ []) Cover.Holds a.0 in
      let accepted : is_accepted upper policy p ≡ true = (meant.means policy policy_is p v).1 may in
      let dropped = told p v (or_left (holds_cube (whole_of W) p) false (whole_holds W p v)) (policy_first upper policy p v ∙ ap Some accepted) in
      (must.means other other_is p v).0 (no_turned (is_accepted lower other p) (is_accepted (map turned lower) (turned_policy other) p) (all_turned lower other p) dropped)
  right (Cover.Fails p) a =
      let told = compares_told (map turned lower) (turned_policy other) (with_policy upper policy) (whole_of W ∷ []) (Cover.Fails p) a.0 in
      record {
        valid = told.0;
        may = (meant.means policy policy_is p told.0).0 (some_same (is_accepted upper policy p) true (sym (policy_first upper policy p told.0) ∙ told.2));
        must_not = λ all. turned_both (is_accepted lower other p) (is_accepted (map turned lower) (turned_policy other) p) (all_turned lower other p) told.3
            ((must.means other other_is p told.0).1 all);
      }
