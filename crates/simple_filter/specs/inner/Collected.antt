-- Cubes that are cut by one expression after another, and the simple rules that are collected of them.
use Rattle.std.specs.Prelude.{ℕ, ◌≤◌, ◌<◌, ◌≡◌, nat_lt, Bool, true, false, ◌||◌, if◌then◌else◌, List, [], ◌∷◌, ◌++◌, length, Option, None, Some}
use Rattle.limits.specs.declared.TheConstants.{MOST_CUBES, MOST_RULES}
use Rattle.match_expr.specs.Meaning.{every}
use Rattle.match_expr.specs.declared.expr.Expr.{Expr}
use Rattle.match_expr.specs.declared.expr.Expr.TheOpen.{Expr-F}
use Rattle.match_expr.specs.declared.expr.Expr.TheFolds.{fold-Expr}
use Rattle.primitives.specs.declared.prim.Prim_.{Prim_}
use Rattle.box_norm.specs.declared.cube.Cube.{Cube}
use Rattle.box_norm.specs.declared.cube.SimpleRule.{SimpleRule}
use Rattle.box_norm.specs.Cuts.{Work, cuts_by}
use Rattle.box_norm.specs.Normal.{whole_of, with_verdict}
use Rattle.box_norm.specs.Regular.{AreRegular, EachCube, IsRegular}
use Rattle.box_norm.specs.Sets.{HasSets}

module _ {P : Type 0} where
  -- one level, with the answer for each part in its place
  abbrev pub tests_level : Expr-F P Bool → Bool
  tests_level (Expr-F.All parts) = every parts
  tests_level (Expr-F.Not part) = false
  tests_level (Expr-F.Prim x) = true

  -- whether an expression is made of tests and of Alls, with no Not
  abbrev pub are_tests : Expr P → Bool
  are_tests = fold-Expr P Bool tests_level

module _ {W : ℕ} where
  -- regular cubes, and not too many
  pub record AreFew (cubes : List (Cube W)) : Type 0 where
    pub regular : AreRegular cubes
    pub few : length cubes ≤ MOST_CUBES

  -- the cubes, or None where some list on the way had too many
  abbrev pub within_limit : Work W → Option (List (Cube W))
  within_limit work = if nat_lt MOST_CUBES work.longest then None else Some work.list

  -- what a further cut leaves: too many stay too many
  abbrev pub cut_by : Option (List (Cube W)) → Expr (Prim_ W) → Option (List (Cube W))
  cut_by None e = None
  cut_by (Some cubes) e = within_limit ((cuts_by {W = W} e).keep cubes)

  -- whether the cubes were too many
  abbrev pub is_over : Option (List (Cube W)) → Bool
  is_over None = true
  is_over (Some cubes) = false

  -- whether some were
  abbrev pub some_over : List (Option (List (Cube W)) × Bool) → Bool
  some_over [] = false
  some_over (x ∷ xs) = is_over x.0 || some_over xs

  -- the cubes with a verdict; no rules where the cubes were too many
  abbrev pub rules_of : Option (List (Cube W)) → Bool → List (SimpleRule W)
  rules_of None accept = []
  rules_of (Some cubes) accept = with_verdict accept cubes

  -- one after another
  abbrev pub all_rules : List (Option (List (Cube W)) × Bool) → List (SimpleRule W)
  all_rules [] = []
  all_rules (x ∷ xs) = rules_of x.0 x.1 ++ all_rules xs

-- the cube of all packets
abbrev pub whole_cubes : (W : ℕ) → Option (List (Cube W))
whole_cubes W = Some (whole_of W ∷ [])

-- what is held after these came: whether some were too many, and, where none were, the rules as long as they aren't
pub record HasTaken {W : ℕ} (taken : List (SimpleRule W)) (is_full has_boxes : Bool)
    (xs : List (Option (List (Cube W)) × Bool)) : Type 0 where
  pub boxes : has_boxes ≡ some_over xs
  pub rules : has_boxes ≡ false → is_full ≡ false → taken ≡ all_rules xs
  pub few : has_boxes ≡ false → is_full ≡ false → length (all_rules xs) ≤ MOST_RULES
  pub many : has_boxes ≡ false → is_full ≡ true → MOST_RULES < length (all_rules xs)
  pub regular : EachCube IsRegular taken
  pub sets : EachCube HasSets taken
