-- A cut by tests gives a list that is no longer, so it can't come to too many cubes.
use Rattle.std.proofs.Common.{◌≡◌, ℕ, ◌≤◌, nat_lt, Bool, true, false, if◌then◌else◌, List, [], ◌∷◌, length, length-append, map, Option, None, Some, Result, Ok, Err, refl, sym, ap, subst, arith}
use Rattle.std.specs.Prelude.{IfOk, bit_and}
use Rattle.std.proofs.lemmas.Bool.Decides.{nat_tests}
use Rattle.basics.proofs.Truths.{both_true}
use Rattle.limits.specs.declared.TheConstants.{MOST_CUBES}
use Rattle.match_expr.specs.Meaning.{every}
use Rattle.match_expr.specs.declared.expr.Expr.{Expr, map-Expr, roll-Expr}
use Rattle.match_expr.specs.declared.expr.Expr.TheOpen.{Expr-F}
use Rattle.match_expr.specs.declared.expr.Expr.TheFolds.{fold-roll-Expr, ind-Expr}
use Rattle.interval_set.specs.Spelling.{set_and}
use Rattle.name_set.specs.declared.set.NameSet.{NameSet}
use Rattle.name_set.specs.Names.{cut_of}
use Rattle.primitives.specs.declared.prim.Prim_.{Prim_}
use Rattle.box_norm.specs.declared.cube.Cube.{Cube}
use Rattle.box_norm.specs.declared.cube.CubeFault.{CubeFault}
use Rattle.box_norm.specs.Cubes.{each_piece, is_none, kept}
use Rattle.box_norm.specs.Pieces.{cut_pieces, flags_where, kept_in, kept_out, single}
use Rattle.box_norm.specs.Cuts.{Answers, Work, Cuts, keep_all, cuts_step, cuts_by}
use Rattle.box_norm.specs.Regular.{AreRegular}
use Rattle.simple_filter.specs.inner.Collected.{AreFew, are_tests, cut_by, is_over, tests_level, within_limit}
use Rattle.simple_filter.proofs.CutInTurn.{cuts_long}

module _ (W : ℕ) where
  kept_one : (c : Cube W) → length (kept c) ≤ 1
  kept_one c = by (is_none c)
    where
      by : (b : Bool) → length (if b then [] else c ∷ []) ≤ 1
      by true = omega arith
      by false = omega arith

  in_one : (c : Cube W) (names : Option NameSet) → length (kept_in c names) ≤ 1
  in_one c None = omega arith
  in_one c (Some names) = kept_one (record c { in_name = names })

  out_one : (c : Cube W) (names : Option NameSet) → length (kept_out c names) ≤ 1
  out_one c None = omega arith
  out_one c (Some names) = kept_one (record c { out_name = names })

  -- a test gives at most one piece of a cube
  cut_one : (x : Prim_ W) (c : Cube W) → length (cut_pieces x c) ≤ 1
  cut_one (Prim_.Src set) c = kept_one (record c { src = set_and W c.src set })
  cut_one (Prim_.Dst set) c = kept_one (record c { dst = set_and W c.dst set })
  cut_one (Prim_.InName pattern) c = in_one c (cut_of c.in_name pattern)
  cut_one (Prim_.OutName pattern) c = out_one c (cut_of c.out_name pattern)
  cut_one (Prim_.Proto proto) c = kept_one (record c { proto = set_and 8 c.proto (single proto) })
  cut_one (Prim_.SrcPorts ports) c = kept_one (record c { proto = set_and 8 c.proto (single ports.proto); sport = set_and 16 c.sport ports.set })
  cut_one (Prim_.DstPorts ports) c = kept_one (record c { proto = set_and 8 c.proto (single ports.proto); dport = set_and 16 c.dport ports.set })
  cut_one (Prim_.Flags mask comp) c = kept_one (record c { proto = set_and 8 c.proto (single 6); flags = bit_and c.flags (flags_where mask comp 64) })
  cut_one (Prim_.State states) c = kept_one (record c { state = bit_and c.state states })
  cut_one (Prim_.IcmpKind m) c = kept_one (record c { proto = set_and 8 c.proto (single m.proto); icmp = set_and 8 c.icmp (single m.kind) })
  cut_one Prim_.Always c = kept_one c

  each_one : (f : Cube W → List (Cube W)) → ((c : Cube W) → length (f c) ≤ 1) → (l : List (Cube W)) → length (each_piece f l) ≤ length l
  each_one f one [] = omega arith
  each_one f one (c ∷ l) = let h = each_one f one l in omega (arith, h, one c, length-append (f c) (each_piece f l))

  abbrev E : Type 0
  E = Expr (Prim_ W)

  -- the longest list that comes up is the first
  abbrev IsShort : Cuts W → Type 0
  IsShort cuts = (l : List (Cube W)) → (cuts.keep l).longest ≤ length l

  abbrev Kept : E → Type 0
  Kept e = are_tests e ≡ true → IsShort (cuts_by {W = W} e)

  keeps_short : (es : List ((e : E) × Kept e)) → every (map are_tests (map (λ e. e.0) es)) ≡ true → (l : List (Cube W)) →
      (keep_all (map (cuts_by {W = W}) (map (λ e. e.0) es)) l).longest ≤ length l
  keeps_short [] tests l = omega arith
  keeps_short (e ∷ es) tests l =
      let each = both_true (are_tests e.0) (every (map are_tests (map (λ e. e.0) es))) tests in
      let h = keeps_short es each.1 ((cuts_by {W = W} e.0).keep l).list in
      omega (arith, h, e.1 each.0 l, (cuts_long W e.0).keep l)

  abbrev Layer : Expr-F (Prim_ W) E → Type 0
  Layer z = tests_level (map-Expr (Prim_ W) E Bool are_tests z) ≡ true → IsShort (cuts_step (map-Expr (Prim_ W) E (Cuts W) (cuts_by {W = W}) z))

  layer : (z : Expr-F (Prim_ W) ((e : E) × Kept e)) → Layer (map-Expr (Prim_ W) ((e : E) × Kept e) E (λ e. e.0) z)
  layer (Expr-F.All es) = keeps_short es
  layer (Expr-F.Not e) = λ tests. absurd (grind (arith, tests))
  layer (Expr-F.Prim x) = λ tests. each_one (cut_pieces x) (cut_one x)

  tests_short : (e : E) → Kept e
  tests_short = ind-Expr (Prim_ W) Kept (λ x y is.
      subst (λ t. t ≡ true → IsShort (cuts_by {W = W} (roll-Expr (Prim_ W) x))) (sym (fold-roll-Expr (Prim_ W) Bool tests_level x))
      (subst (λ c. tests_level (map-Expr (Prim_ W) E Bool are_tests x) ≡ true → IsShort c) (sym (fold-roll-Expr (Prim_ W) (Cuts W) (cuts_step {W = W}) x))
      (subst Layer is (layer y))))

  not_over : (work : Work W) → work.longest ≤ MOST_CUBES → is_over (within_limit work) ≡ false
  not_over work h = by (nat_lt MOST_CUBES work.longest) refl
    where
      by : (b : Bool) → nat_lt MOST_CUBES work.longest ≡ b → is_over (if b then None else Some work.list) ≡ false
      by true e = absurd (grind (arith, nat_tests, e, h))
      by false e = refl

  -- so few cubes stay few
  pub stay_few : (over : Bool) (list : List (Cube W)) (state : Option (List (Cube W))) → (if over then None else Some list) ≡ state → over ≡ false → AreFew list →
      (e : Expr (Prim_ W)) → are_tests e ≡ true → is_over (cut_by state e) ≡ false
  stay_few true list state is off few e tests = absurd (grind (arith, off))
  stay_few false list state is off few e tests =
      subst (λ z. is_over (cut_by z e) ≡ false) is
      (not_over ((cuts_by {W = W} e).keep list) (let h = tests_short e tests list in omega (arith, h, few.few)))

  -- what a cut answers is few
  pub few_answered : (work : Work W) (r : Result (List (Cube W)) CubeFault) → Answers work r → length work.list ≤ work.longest → IfOk r (λ l. AreRegular l) → IfOk r (λ l. AreFew l)
  few_answered work (Ok list) answers long regular = record { regular = regular; few = omega (arith, ap length answers.0, answers.1, long) }
  few_answered work (Err fault) answers long regular = tt
