-- What is held after the states of a flat list came, by the list itself.
use Rattle.std.proofs.Common.{◌≡◌, ℕ, ◌<◌, ◌≤◌, nat_lt, max, Bool, true, false, ◌||◌, ◌+◌, if◌then◌else◌, List, [], ◌∷◌, ◌++◌, length, length-append, append_assoc, append-nil, Option, None, Some, refl, sym, ◌∙◌, ap, subst, map, arith}
use Rattle.std.proofs.lemmas.Bool.Decides.{nat_tests}
use Rattle.basics.proofs.Truths.{clash, or_left, or_right}
use Rattle.limits.specs.declared.TheConstants.{MOST_CUBES, MOST_RULES}
use Rattle.match_expr.specs.declared.expr.FlatRule.{FlatRule}
use Rattle.primitives.specs.declared.prim.Prim_.{Prim_}
use Rattle.closure.specs.Stream.{cut_out}
use Rattle.box_norm.specs.declared.cube.Cube.{Cube}
use Rattle.box_norm.specs.declared.cube.SimpleRule.{SimpleRule}
use Rattle.box_norm.specs.Cuts.{Work, cuts_by}
use Rattle.box_norm.specs.Normal.{boxes_of, normal_of, whole_of, with_verdict}
use Rattle.box_norm.specs.Regular.{AreRegular, EachCube, IsRegular}
use Rattle.box_norm.specs.Sets.{HasSets}
use Rattle.box_norm.proofs.Normals.{length_verdicts}
use Rattle.box_norm.proofs.RegularLaws.{more_regular}
use Rattle.simple_filter.specs.inner.Collected.{within_limit, cut_by, is_over, some_over, rules_of, all_rules, whole_cubes, HasTaken}

or_assoc : (a b c : Bool) → ((a || b) || c) ≡ (a || (b || c))
or_assoc true b c = refl
or_assoc false b c = refl

or_none : (a : Bool) → (a || false) ≡ a
or_none true = refl
or_none false = refl

-- a state that was opened
pub is_none : {X : Type 0} (over : Bool) (list : X) (state : Option X) → (if over then None else Some list) ≡ state → over ≡ true → None ≡ state
is_none true list state v e = v
is_none false list state v e = absurd (grind (arith, e))

pub is_some : {X : Type 0} (over : Bool) (list : X) (state : Option X) → (if over then None else Some list) ≡ state → over ≡ false → Some list ≡ state
is_some true list state v e = absurd (grind (arith, e))
is_some false list state v e = v

abbrev States : ℕ → Type 0
States W = List (Option (List (Cube W)) × Bool)

module _ {W : ℕ} where
  over_append : (xs ys : States W) → some_over (xs ++ ys) ≡ (some_over xs || some_over ys)
  over_append [] ys = refl
  over_append (y ∷ xs) ys = rw (over_append xs ys) (sym (or_assoc (is_over y.0) (some_over xs) (some_over ys)))

  over_one : (xs : States W) (x : Option (List (Cube W)) × Bool) → some_over (xs ++ x ∷ []) ≡ (some_over xs || is_over x.0)
  over_one xs x = over_append xs (x ∷ []) ∙ ap (λ b. some_over xs || b) (or_none (is_over x.0))

  rules_append : (xs : States W) (x : Option (List (Cube W)) × Bool) → all_rules (xs ++ x ∷ []) ≡ all_rules xs ++ rules_of x.0 x.1
  rules_append [] x = append-nil (rules_of x.0 x.1)
  rules_append (y ∷ xs) x = rw (rules_append xs x) (sym (append_assoc (rules_of y.0 y.1) (all_rules xs) (rules_of x.0 x.1)))

  pub taken_none : HasTaken {W = W} [] false false []
  taken_none = record { boxes = refl; rules = λ b h. refl; few = λ b h. omega arith; many = λ b h. absurd (grind (arith, h)); regular = tt; sets = tt }

  -- where some were too many, nothing that comes makes a difference
  module _ (rules : List (SimpleRule W)) (full boxes : Bool) where
    over_taken : (xs : States W) → boxes ≡ true → boxes ≡ some_over xs → EachCube IsRegular rules → EachCube HasSets rules → HasTaken rules full boxes xs
    over_taken xs b is regular sets = record {
      boxes = is;
      rules = λ no. absurd (clash boxes b no);
      few = λ no. absurd (clash boxes b no);
      many = λ no. absurd (clash boxes b no);
      regular = regular;
      sets = sets;
    }

    pub taken_settled : boxes ≡ true → (xs ys : States W) → HasTaken rules full boxes xs → HasTaken rules full boxes (xs ++ ys)
    taken_settled b xs ys h =
        over_taken (xs ++ ys) b (b ∙ sym (over_append xs ys ∙ or_left (some_over xs) (some_over ys) (sym h.boxes ∙ b))) h.regular h.sets

  -- one more
  module _ (rules : List (SimpleRule W)) (full boxes : Bool) (xs : States W) (h : HasTaken rules full boxes xs) (accept : Bool) where
    pub taken_over : HasTaken rules full true (xs ++ (None, accept) ∷ [])
    taken_over = over_taken rules full true (xs ++ (None, accept) ∷ []) refl (sym (over_one xs (None, accept) ∙ or_right (some_over xs) true refl)) h.regular h.sets

    module _ (cubes : List (Cube W)) where
      more : all_rules (xs ++ (Some cubes, accept) ∷ []) ≡ all_rules xs ++ with_verdict accept cubes
      more = rules_append xs (Some cubes, accept)

      long : length (all_rules (xs ++ (Some cubes, accept) ∷ [])) ≡ length (all_rules xs) + length cubes
      long = ap length more ∙ length-append (all_rules xs) (with_verdict accept cubes) ∙ ap (λ z. length (all_rules xs) + z) (length_verdicts accept cubes)

      same_boxes : boxes ≡ some_over (xs ++ (Some cubes, accept) ∷ [])
      same_boxes = h.boxes ∙ sym (over_one xs (Some cubes, accept) ∙ or_none (some_over xs))

      too_many : boxes ≡ false → (b : Bool) → full ≡ b → (b ≡ false → MOST_RULES < length rules + length cubes) → MOST_RULES < length (all_rules (xs ++ (Some cubes, accept) ∷ []))
      too_many none true f m = omega (arith, h.many none f, long)
      too_many none false f m = omega (arith, m refl, ap length (h.rules none f), long)

      -- too many rules now, or before
      pub taken_full : (full ≡ false → MOST_RULES < length rules + length cubes) → HasTaken rules true boxes (xs ++ (Some cubes, accept) ∷ [])
      taken_full m = record {
        boxes = same_boxes;
        rules = λ none f. absurd (grind (arith, f));
        few = λ none f. absurd (grind (arith, f));
        many = λ none f. too_many none full refl (λ e. m e);
        regular = h.regular;
        sets = h.sets;
      }

      pub taken_more : full ≡ false → length rules + length cubes ≤ MOST_RULES → AreRegular cubes → EachCube HasSets (rules ++ with_verdict accept cubes) →
          HasTaken (rules ++ with_verdict accept cubes) false boxes (xs ++ (Some cubes, accept) ∷ [])
      taken_more f small r s = record {
        boxes = same_boxes;
        rules = λ none g. ap (λ z. z ++ with_verdict accept cubes) (h.rules none f) ∙ sym more;
        few = λ none g. omega (arith, small, ap length (h.rules none f), long);
        many = λ none g. absurd (grind (arith, g));
        regular = more_regular rules accept cubes h.regular r;
        sets = s;
      }

    -- too many rules before, and cubes that aren't looked at
    pub taken_unseen : full ≡ true → (state : Option (List (Cube W))) → is_over state ≡ false → HasTaken rules full boxes (xs ++ (state, accept) ∷ [])
    taken_unseen f None few = absurd (grind (arith, few))
    taken_unseen f (Some cubes) few =
        subst (λ b. HasTaken rules b boxes (xs ++ (Some cubes, accept) ∷ [])) (sym f) (taken_full cubes (λ no. absurd (clash full f no)))

-- by the flat list
module _ (W : ℕ) where
  abbrev states : List (FlatRule (Prim_ W)) → List (Option (List (Cube W)) × Bool)
  states rules = map (cut_out (cut_by {W = W}) (whole_cubes W)) rules

  over_is : (work : Work W) → is_over (within_limit work) ≡ nat_lt MOST_CUBES work.longest
  over_is work = by (nat_lt MOST_CUBES work.longest)
    where
      by : (b : Bool) → is_over (if b then None else Some work.list) ≡ b
      by true = refl
      by false = refl

  or_max : (a b : ℕ) → (nat_lt MOST_CUBES a || nat_lt MOST_CUBES b) ≡ nat_lt MOST_CUBES (max a b)
  or_max a b = grind (arith, nat_tests)

  pub over_boxes : (rules : List (FlatRule (Prim_ W))) → some_over (states rules) ≡ nat_lt MOST_CUBES (boxes_of rules)
  over_boxes [] = refl
  over_boxes (rule ∷ rules) = rw (over_boxes rules, over_is ((cuts_by {W = W} rule.expr).keep (whole_of W ∷ []))) (or_max ((cuts_by {W = W} rule.expr).keep (whole_of W ∷ [])).longest (boxes_of rules))

  rules_if : (b accept : Bool) (list : List (Cube W)) → b ≡ false → rules_of (if b then None else Some list) accept ≡ with_verdict accept list
  rules_if true accept list h = absurd (grind (arith, h))
  rules_if false accept list h = refl

  pub rules_normal : (rules : List (FlatRule (Prim_ W))) → boxes_of rules ≤ MOST_CUBES → all_rules (states rules) ≡ normal_of rules
  rules_normal [] h = refl
  rules_normal (rule ∷ rules) h =
      rw (
        rules_normal rules (grind (arith, h)),
        rules_if (nat_lt MOST_CUBES ((cuts_by {W = W} rule.expr).keep (whole_of W ∷ [])).longest) rule.accept ((cuts_by {W = W} rule.expr).keep (whole_of W ∷ [])).list (grind (arith, nat_tests, h)),
      ) refl

  -- all of the flat list
  module _ (rules : List (FlatRule (Prim_ W))) (taken : List (SimpleRule W)) (full boxes : Bool) (h : HasTaken taken full boxes (states rules)) where
    pub boxes_pass : boxes ≡ true → MOST_CUBES < boxes_of rules
    boxes_pass b = grind (arith, nat_tests, b, h.boxes ∙ over_boxes rules)

    pub boxes_keep : boxes ≡ false → boxes_of rules ≤ MOST_CUBES
    boxes_keep b = grind (arith, nat_tests, b, h.boxes ∙ over_boxes rules)

    pub rules_pass : boxes ≡ false → full ≡ true → MOST_RULES < length (normal_of rules)
    rules_pass b f = rw (← rules_normal rules (boxes_keep b)) (h.many b f)

    pub rules_keep : boxes ≡ false → full ≡ false → length (normal_of rules) ≤ MOST_RULES
    rules_keep b f = rw (← rules_normal rules (boxes_keep b)) (h.few b f)

    pub rules_are : boxes ≡ false → full ≡ false → taken ≡ normal_of rules
    rules_are b f = h.rules b f ∙ rules_normal rules (boxes_keep b)
