-- What the search of some regions tells of a packet.
use Rattle.std.proofs.Common.{◌≡◌, ℕ, List, [], ◌∷◌, Bool, true, false, not, ◌&&◌, ◌||◌, Option, None, Some, refl, sym, ◌∙◌, ap, arith, inl, inr}
use Rattle.std.specs.Prelude.{if◌then◌else◌, unwrap_or}
use Rattle.primitives.specs.declared.prim.Packet.{Packet}
use Rattle.primitives.specs.Holds.{IsValid}
use Rattle.fw_rule.specs.declared.rule.Verdict.{Verdict}
use Rattle.fw_rule.specs.Answers.{is_accept}
use Rattle.box_norm.specs.declared.cube.Cube.{Cube}
use Rattle.box_norm.specs.declared.cube.SimpleRule.{SimpleRule}
use Rattle.box_norm.specs.Cubes.{any_holds, each_piece, holds_cube}
use Rattle.box_norm.specs.Normal.{first_of}
use Rattle.box_norm.specs.Overlaps.{holds_some, minus_of}
use Rattle.box_norm.proofs.NormalLaws.{whole_holds}
use Rattle.box_norm.proofs.OverlapLaws.{and_holds, minus_holds}
use Rattle.box_norm.proofs.PieceLaws.{any_append}
use Rattle.basics.proofs.Truths.{all_true, both_true, or_left, or_right}
use Rattle.region_cut.specs.Least.{IsHit, IsLeastPacket}
use Rattle.region_cut.specs.Search.{AllApart, Finds, FindsNothing, Here, IsFirstHit, Later, Past, Searches, Tells, is_accepted, left_by, with_policy}

-- a packet of the regions isn't in a cube that is apart from each
missed : (a b r : Bool) → (a ≡ true → b ≡ true → ⊥) → (r ≡ true → b ≡ false) → (a || r) ≡ true → b ≡ false
missed true true r f g h = absurd (f refl refl)
missed true false r f g h = refl
missed false b r f g h = g h

apart_misses : {W : ℕ} (cube : Cube W) (regions : List (Cube W)) (p : Packet) → IsValid W p → AllApart regions cube → any_holds regions p ≡ true → holds_cube cube p ≡ false
apart_misses cube [] p v h k = absurd (grind (arith, k))
apart_misses cube (c ∷ cs) p v h k = missed (holds_cube c p) (holds_cube cube p) (any_holds cs p) (h.0 p v) (apart_misses cube cs p v h.1) k

-- the pieces of all regions without a cube
both_less : (x y a r t : Bool) → x ≡ (a && t) → y ≡ (r && t) → (x || y) ≡ ((a || r) && t)
both_less x y a r t e f = grind (arith, e, f)

pub each_holds : {W : ℕ} (cube : Cube W) (regions : List (Cube W)) (p : Packet) → IsValid W p →
    any_holds (each_piece (λ c. minus_of c cube) regions) p ≡ (any_holds regions p && not (holds_cube cube p))
each_holds cube [] p v = refl
each_holds cube (c ∷ cs) p v =
    any_append (minus_of c cube) (each_piece (λ d. minus_of d cube) cs) p ∙
    both_less _ _ (holds_cube c p) (any_holds cs p) (not (holds_cube cube p)) (minus_holds c cube p v) (each_holds cube cs p v)

-- what a rule leaves: a packet that it doesn't have stays, and none comes to be
stays_by : {W : ℕ} (b : Bool) (rule : SimpleRule W) (regions : List (Cube W)) (p : Packet) → IsValid W p → any_holds regions p ≡ true → holds_cube rule.cube p ≡ false →
    any_holds (if b then regions else each_piece (λ c. minus_of c rule.cube) regions) p ≡ true
stays_by true rule regions p v h k = h
stays_by false rule regions p v h k = let e = each_holds rule.cube regions p v in grind (arith, e, h, k)

was_by : {W : ℕ} (b : Bool) (rule : SimpleRule W) (regions : List (Cube W)) (p : Packet) → IsValid W p → (b ≡ true → AllApart regions rule.cube) →
    any_holds (if b then regions else each_piece (λ c. minus_of c rule.cube) regions) p ≡ true → (any_holds regions p ≡ true) × (holds_cube rule.cube p ≡ false)
was_by true rule regions p v f h = (h, apart_misses rule.cube regions p v (f refl) h)
was_by false rule regions p v f h = let e = each_holds rule.cube regions p v in (grind (arith, e, h), grind (arith, e, h))

-- what a hit tells: its packet is in the region and in the cube
least_holds : {W : ℕ} (c : Cube W) (p : Packet) → IsLeastPacket c p → holds_cube c p ≡ true
least_holds c p l = all_true _ _ l.in_name.1 (all_true _ _ l.out_name.1 (all_true _ _ l.src.0 (all_true _ _ l.dst.0
    (all_true _ _ l.proto.0 (all_true _ _ l.sport.0 (all_true _ _ l.dport.0 (all_true _ _ l.flags.0 (all_true _ _ l.state.0 l.icmp.0))))))))

hit_holds : {W : ℕ} (a b : Cube W) (p : Packet) → IsHit a b p → (holds_cube a p ≡ true) × (holds_cube b p ≡ true)
hit_holds a b p h =
    both_true (holds_cube a p) (holds_cube b p) (sym (and_holds a b p h.valid) ∙ ap (λ o. holds_some o p) h.common_is ∙ least_holds h.common p h.least)

first_holds : {W : ℕ} (regions : List (Cube W)) (cube : Cube W) (p : Packet) → IsFirstHit regions cube p →
    IsValid W p × (any_holds regions p ≡ true) × (holds_cube cube p ≡ true)
first_holds [] cube p h = absurd h
first_holds (c ∷ cs) cube p h = elim h [
  | inl hit ↦ let both = hit_holds c cube p hit in (hit.valid, or_left (holds_cube c p) (any_holds cs p) both.0, both.1)
  | inr later ↦ let rest = first_holds cs cube p later.1 in (rest.0, or_right (holds_cube c p) (any_holds cs p) rest.1, rest.2)
]

-- regions that are apart from a cube have no hit
pub no_hit : {W : ℕ} (regions : List (Cube W)) (cube : Cube W) (p : Packet) → AllApart regions cube → IsFirstHit regions cube p → ⊥
no_hit [] cube p apart h = h
no_hit (c ∷ cs) cube p apart h = elim h [
  | inl hit ↦ let both = hit_holds c cube p hit in apart.0 p hit.valid both.0 both.1
  | inr later ↦ no_hit cs cube p apart.1 later.1
]

-- What a search tells: an answer's packet is in the regions, and the first rule that has it accepts it. Where there is no answer, no rule
-- accepts a packet of the regions.
abbrev Told : {W : ℕ} → List (SimpleRule W) → List (Cube W) → Option Packet → Type 0
Told {W} rules regions None = (p : Packet) → IsValid W p → any_holds regions p ≡ true → unwrap_or (first_of rules p) false ≡ false
Told {W} rules regions (Some p) = IsValid W p × (any_holds regions p ≡ true) × (first_of rules p ≡ Some true)

taken : (h a : Bool) (o : Option Bool) → h ≡ true → a ≡ true → (if h then Some a else o) ≡ Some true
taken true a o h k = ap Some k
taken false a o h k = cc

passed_over : (h a : Bool) (o r : Option Bool) → h ≡ false → o ≡ r → (if h then Some a else o) ≡ r
passed_over true a o r h k = cc
passed_over false a o r h k = k

turned : (h a : Bool) (o : Option Bool) → (h ≡ true → a ≡ false) → (h ≡ false → unwrap_or o false ≡ false) → unwrap_or (if h then Some a else o) false ≡ false
turned true a o f g = f refl
turned false a o f g = g refl

drops_by : {W : ℕ} (a : Bool) (rule : SimpleRule W) (regions : List (Cube W)) (p : Packet) → IsValid W p → (a ≡ true → AllApart regions rule.cube) →
    any_holds regions p ≡ true → holds_cube rule.cube p ≡ true → a ≡ false
drops_by true rule regions p v f h k = let e = apart_misses rule.cube regions p v (f refl) h in absurd (grind (arith, e, k))
drops_by false rule regions p v f h k = refl

later_told : {W : ℕ} (rule : SimpleRule W) (rules : List (SimpleRule W)) (regions : List (Cube W)) → FindsNothing rule regions → (answer : Option Packet) →
    Told rules (left_by rule regions) answer → Told (rule ∷ rules) regions answer
later_told rule rules regions f None told = λ p v h.
    turned (holds_cube rule.cube p) rule.accept (first_of rules p) (drops_by rule.accept rule regions p v f h)
    (λ k. told p v (stays_by rule.accept rule regions p v h k))
later_told rule rules regions f (Some p) told =
    let was = was_by rule.accept rule regions p told.0 f told.1 in
    (told.0, was.0, passed_over (holds_cube rule.cube p) rule.accept (first_of rules p) (Some true) was.1 told.2)

searched_told : {W : ℕ} (rules : List (SimpleRule W)) (regions : List (Cube W)) (answer : Option Packet) → Searches rules regions answer → Told rules regions answer
searched_told rules regions answer Past = λ p v h. refl
searched_told rules regions answer (Here {rule = rule} {rules = others} {regions = here} {p = p} a hit) =
    let first = first_holds here rule.cube p hit in
    (first.0, first.1, taken (holds_cube rule.cube p) rule.accept (first_of others p) first.2 a)
searched_told rules regions answer (Later {rule = rule} {rules = others} {regions = here} {answer = found} f s) =
    later_told rule others here f found (searched_told others (left_by rule here) found s)

-- the policy as one last rule answers for each valid packet that no rule has
by_policy : (h a : Bool) (o : Option Bool) (d : Bool) (r : Option Bool) → r ≡ Some (unwrap_or o d) → (if h then Some a else r) ≡ Some (unwrap_or (if h then Some a else o) d)
by_policy true a o d r e = refl
by_policy false a o d r e = e

pub policy_first : {W : ℕ} (rules : List (SimpleRule W)) (policy : Verdict) (p : Packet) → IsValid W p → first_of (with_policy rules policy) p ≡ Some (is_accepted rules policy p)
policy_first {W} [] policy p v = ap (λ b. if b then Some (is_accept policy) else None) (whole_holds W p v)
policy_first (rule ∷ rules) policy p v =
    by_policy (holds_cube rule.cube p) rule.accept (first_of rules p) (is_accept policy) (first_of (with_policy rules policy) p) (policy_first rules policy p v)

-- from what the search of one region answers to what is said of it
only_one : (a : Bool) → (a || false) ≡ true → a ≡ true
only_one true e = refl
only_one false e = e

one_holds : (a : Bool) → a ≡ true → (a || false) ≡ true
one_holds a e = or_left a false e

some_same : {X : Type 0} (a b : X) → Some a ≡ Some b → a ≡ b
some_same a b e = cc

region_told : {W : ℕ} (region : Cube W) (rules : List (SimpleRule W)) (policy : Verdict) (answer : Option Packet) → Told (with_policy rules policy) (region ∷ []) answer →
    Tells region rules policy answer
region_told region rules policy None told = λ p v h.
    sym (ap (λ o. unwrap_or o false) (policy_first rules policy p v)) ∙ told p v (one_holds (holds_cube region p) h)
region_told region rules policy (Some p) told =
    (told.0, only_one (holds_cube region p) told.1, some_same (is_accepted rules policy p) true (sym (policy_first rules policy p told.0) ∙ told.2))

-- what is searched to its end tells it, whatever its lists came to
pub searches_tell : {W : ℕ} (region : Cube W) (rules : List (SimpleRule W)) (policy : Verdict) (answer : Option Packet) → Searches (with_policy rules policy) (region ∷ []) answer →
    Tells region rules policy answer
searches_tell region rules policy answer s = region_told region rules policy answer (searched_told (with_policy rules policy) (region ∷ []) answer s)

pub tells : {W : ℕ} (region : Cube W) (rules : List (SimpleRule W)) (policy : Verdict) (answer : Option Packet) → Finds region (with_policy rules policy) answer →
    Tells region rules policy answer
tells region rules policy answer f = searches_tell region rules policy answer f.0
