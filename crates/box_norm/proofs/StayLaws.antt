-- What holds of each piece of a cube that it holds of stays true of each cube when a list is cut.
use Rattle.std.proofs.Common.{◌≡◌, ℕ, ◌<◌, List, [], ◌∷◌, ◌++◌, Bool, true, false, not, Option, None, Some, refl, sym, subst, map, arith, inl, inr, ◌⊎◌, bit_and, bit_xor}
use Rattle.std.specs.Prelude.{if◌then◌else◌, Contains}
use Rattle.std.specs.List.{AllByRecursion, filter}
use Rattle.basics.proofs.Lists.{each_filter, each_left, each_right}
use Rattle.std.proofs.lemmas.Nat.{xor_lt, and_le_l}
use Rattle.std.proofs.lemmas.List.Elements.{Contains-append_right}
use Rattle.match_expr.specs.declared.expr.Expr.{Expr, map-Expr, roll-Expr}
use Rattle.match_expr.specs.declared.expr.Expr.TheOpen.{Expr-F}
use Rattle.match_expr.specs.declared.expr.Expr.TheFolds.{fold-roll-Expr, ind-Expr}
use Rattle.match_expr.specs.declared.expr.FlatRule.{FlatRule}
use Rattle.interval_set.specs.Spelling.{set_and, set_minus}
use Rattle.name_set.specs.declared.pattern.Pattern.{Pattern}
use Rattle.name_set.specs.declared.set.NameSet.{NameSet}
use Rattle.name_set.specs.Patterns.{covers, have_common}
use Rattle.name_set.specs.Names.{some_covers, narrower, cut_under, cut_of, cut_not_of}
use Rattle.primitives.specs.declared.prim.Prim_.{Prim_}
use Rattle.box_norm.specs.declared.cube.Cube.{Cube}
use Rattle.box_norm.specs.declared.cube.SimpleRule.{SimpleRule}
use Rattle.box_norm.specs.Cubes.{kept, each_piece}
use Rattle.box_norm.specs.Pieces.{single, flags_where, kept_in, kept_out, cut_pieces, omit_pieces}
use Rattle.box_norm.specs.Cuts.{Cuts, keep_all, omit_all, cuts_step, cuts_by}
use Rattle.box_norm.specs.Normal.{whole_of, with_verdict, normal_of}
use Rattle.match_expr.specs.Primitives.{joined}
use Rattle.box_norm.specs.Regular.{patterns_in, patterns_step, patterns_of, rule_patterns, IsOf, NamesAreOf, HasStates, EachCube}
use Rattle.box_norm.proofs.RegularLaws.{kept_all, all_append}

abbrev pub AllIn : List Pattern → List Pattern → Type 0
AllIn ps qs = AllByRecursion (Contains ps) qs

pub all_map : {X : Type 0} (P Q : X → Type 0) → ((x : X) → P x → Q x) → (xs : List X) → AllByRecursion P xs → AllByRecursion Q xs
all_map P Q f [] h = tt
all_map P Q f (x ∷ xs) h = (f x h.0, all_map P Q f xs h.1)

self_head : {X : Type 0} (x : X) (xs : List X) → Contains (x ∷ xs) x
self_head x xs = (0, omega arith, refl)

pub all_self : (ps : List Pattern) → AllIn ps ps
all_self [] = tt
all_self (p ∷ ps) = (self_head p ps, all_map (Contains ps) (Contains (p ∷ ps)) (λ q h. Contains-append_right (p ∷ []) ps q h) ps (all_self ps))

-- a fact of cubes that each piece keeps, where the patterns of the test are among these
module _ {W : ℕ} (Q : Cube W → Type 0) (ps : List Pattern)
    (step_keep : (x : Prim_ W) → AllIn ps (patterns_in x) → (c : Cube W) → Q c → AllByRecursion Q (cut_pieces x c))
    (step_omit : (x : Prim_ W) → AllIn ps (patterns_in x) → (c : Cube W) → Q c → AllByRecursion Q (omit_pieces x c)) where
  pub record Stays (cuts : Cuts W) : Type 0 where
    pub keep : (l : List (Cube W)) → AllByRecursion Q l → AllByRecursion Q (cuts.keep l).list
    pub omit : (l : List (Cube W)) → AllByRecursion Q l → AllByRecursion Q (cuts.omit l).list

  abbrev AllStay : List (Cuts W) → Type 0
  AllStay [] = Unit {0}
  AllStay (e ∷ es) = Stays e × AllStay es

  each_stays : (f : Cube W → List (Cube W)) → ((c : Cube W) → Q c → AllByRecursion Q (f c)) → (l : List (Cube W)) → AllByRecursion Q l → AllByRecursion Q (each_piece f l)
  each_stays f h [] a = tt
  each_stays f h (c ∷ cs) a = all_append Q (f c) (each_piece f cs) (h c a.0) (each_stays f h cs a.1)

  keeps_stay : (es : List (Cuts W)) → AllStay es → (l : List (Cube W)) → AllByRecursion Q l → AllByRecursion Q (keep_all es l).list
  keeps_stay [] h l a = a
  keeps_stay (e ∷ es) h l a = keeps_stay es h.1 (e.keep l).list (h.0.keep l a)

  omits_stay : (es : List (Cuts W)) → AllStay es → (l : List (Cube W)) → AllByRecursion Q l → AllByRecursion Q (omit_all es l).list
  omits_stay [] h l a = tt
  omits_stay (e ∷ es) h l a = all_append Q (e.omit l).list (omit_all es (e.keep l).list).list (h.0.omit l a) (omits_stay es h.1 (e.keep l).list (h.0.keep l a))

  abbrev E : Type 0
  E = Expr (Prim_ W)

  abbrev Kept : E → Type 0
  Kept e = AllIn ps (patterns_of {W = W} e) → Stays (cuts_by {W = W} e)

  every_stays : (es : List ((e : E) × Kept e)) → AllIn ps (joined (map (patterns_of {W = W}) (map (λ e. e.0) es))) → AllStay (map (cuts_by {W = W}) (map (λ e. e.0) es))
  every_stays [] h = tt
  every_stays (e ∷ es) h = (
    e.1 (each_left (Contains ps) (patterns_of {W = W} e.0) (joined (map (patterns_of {W = W}) (map (λ e. e.0) es))) h),
    every_stays es (each_right (Contains ps) (patterns_of {W = W} e.0) (joined (map (patterns_of {W = W}) (map (λ e. e.0) es))) h),
  )

  abbrev Layer : Expr-F (Prim_ W) E → Type 0
  Layer z = AllIn ps (patterns_step {W = W} (map-Expr (Prim_ W) E (List Pattern) (patterns_of {W = W}) z)) → Stays (cuts_step (map-Expr (Prim_ W) E (Cuts W) (cuts_by {W = W}) z))

  layer : (z : Expr-F (Prim_ W) ((e : E) × Kept e)) → Layer (map-Expr (Prim_ W) ((e : E) × Kept e) E (λ e. e.0) z)
  layer (Expr-F.All es) = λ h. record {
    keep = keeps_stay (map (cuts_by {W = W}) (map (λ e. e.0) es)) (every_stays es h);
    omit = omits_stay (map (cuts_by {W = W}) (map (λ e. e.0) es)) (every_stays es h);
  }
  layer (Expr-F.Not e) = λ h. record { keep = (e.1 h).omit; omit = (e.1 h).keep }
  layer (Expr-F.Prim x) = λ h. record { keep = each_stays (cut_pieces x) (step_keep x h); omit = each_stays (omit_pieces x) (step_omit x h) }

  pub cuts_stay : (e : E) → Kept e
  cuts_stay = ind-Expr (Prim_ W) Kept (λ x y is.
      subst (λ t. AllIn ps t → Stays (cuts_by {W = W} (roll-Expr (Prim_ W) x))) (sym (fold-roll-Expr (Prim_ W) (List Pattern) (patterns_step {W = W}) x))
      (subst (λ c. AllIn ps (patterns_step {W = W} (map-Expr (Prim_ W) E (List Pattern) (patterns_of {W = W}) x)) → Stays c) (sym (fold-roll-Expr (Prim_ W) (Cuts W) (cuts_step {W = W}) x))
      (subst Layer is (layer y))))

abbrev OnName : (NameSet → Type 0) → Option NameSet → Type 0
OnName N None = Unit {0}
OnName N (Some s) = N s

module _ (ps : List Pattern) (s : NameSet) (by : Pattern) (h : IsOf ps s) (k : Contains ps by) where
  narrow_of : (u : Bool) → ((if u then by else s.base) ≡ Pattern.Prefix []) ⊎ Contains ps (if u then by else s.base)
  narrow_of true = inr k
  narrow_of false = h.base

  under_of : (v : Bool) (base : Pattern) → ((base ≡ Pattern.Prefix []) ⊎ Contains ps base) →
      OnName (IsOf ps) (if v then None else Some (record { base = base; excluded = filter (λ p. have_common p base) s.excluded }))
  under_of true base b = tt
  under_of false base b = record { base = b; excluded = each_filter (Contains ps) (λ p. have_common p base) s.excluded h.excluded }

  common_of : (c : Bool) → OnName (IsOf ps) (if c then cut_under (narrower s.base by) s.excluded else None)
  common_of true = under_of (some_covers s.excluded (narrower s.base by)) (narrower s.base by) (narrow_of (covers s.base by))
  common_of false = tt

  pub cut_is_of : OnName (IsOf ps) (cut_of s by)
  cut_is_of = common_of (have_common s.base by)

  without_of : (c : Bool) → OnName (IsOf ps) (if c then Some s else Some (record { base = s.base; excluded = filter (λ p. not (covers by p)) s.excluded ++ by ∷ [] }))
  without_of true = h
  without_of false = record {
    base = h.base;
    excluded = all_append (Contains ps) (filter (λ p. not (covers by p)) s.excluded) (by ∷ []) (each_filter (Contains ps) (λ p. not (covers by p)) s.excluded h.excluded) (k, tt);
  }

  without_common_of : (c : Bool) → OnName (IsOf ps) (if c then (if some_covers s.excluded by then Some s else Some (record { base = s.base; excluded = filter (λ p. not (covers by p)) s.excluded ++ by ∷ [] })) else Some s)
  without_common_of true = without_of (some_covers s.excluded by)
  without_common_of false = h

  without_under_of : (c : Bool) → OnName (IsOf ps) (if c then None else if have_common by s.base then (if some_covers s.excluded by then Some s else Some (record { base = s.base; excluded = filter (λ p. not (covers by p)) s.excluded ++ by ∷ [] })) else Some s)
  without_under_of true = tt
  without_under_of false = without_common_of (have_common by s.base)

  pub cut_not_is_of : OnName (IsOf ps) (cut_not_of s by)
  cut_not_is_of = without_under_of (covers by s.base)

pub and_states : (a b : ℕ) → a < 32 → bit_and a b < 32
and_states a b h = let e = and_le_l a b in omega (arith, e, h)

pub less_states : (a b : ℕ) → a < 32 → bit_xor a (bit_and a b) < 32
less_states a b h = xor_lt 5 a (bit_and a b) h (and_states a b h)

-- a fact of the states, and one of both names
pub record Fits {W : ℕ} (S : ℕ → Type 0) (N : NameSet → Type 0) (c : Cube W) : Type 0 where
  pub states : S c.state
  pub in_name : N c.in_name
  pub out_name : N c.out_name

module _ {W : ℕ} (S : ℕ → Type 0) (N : NameSet → Type 0) (c : Cube W) (h : Fits S N c) where
  same_fits : (d : Cube W) → d.in_name ≡ c.in_name → d.out_name ≡ c.out_name → S d.state → AllByRecursion (Fits S N) (kept d)
  same_fits d e f g = kept_all (Fits S N) d (λ _. record { states = g; in_name = subst N (sym e) h.in_name; out_name = subst N (sym f) h.out_name })

  in_fits : (o : Option NameSet) → OnName N o → AllByRecursion (Fits S N) (kept_in c o)
  in_fits None k = tt
  in_fits (Some s) k = kept_all (Fits S N) (record c { in_name = s }) (λ _. record { states = h.states; in_name = k; out_name = h.out_name })

  out_fits : (o : Option NameSet) → OnName N o → AllByRecursion (Fits S N) (kept_out c o)
  out_fits None k = tt
  out_fits (Some s) k = kept_all (Fits S N) (record c { out_name = s }) (λ _. record { states = h.states; in_name = h.in_name; out_name = k })

module _ (S : ℕ → Type 0) (N : NameSet → Type 0) (ps : List Pattern)
    (s_cut : (a b : ℕ) → S a → S (bit_and a b))
    (s_omit : (a b : ℕ) → S a → S (bit_xor a (bit_and a b)))
    (n_cut : (s : NameSet) (by : Pattern) → N s → Contains ps by → OnName N (cut_of s by))
    (n_omit : (s : NameSet) (by : Pattern) → N s → Contains ps by → OnName N (cut_not_of s by)) where
  pub cut_fits : {W : ℕ} (x : Prim_ W) → AllIn ps (patterns_in x) → (c : Cube W) → Fits S N c → AllByRecursion (Fits S N) (cut_pieces x c)
  cut_fits {W} (Prim_.Src set) k c h = same_fits S N c h (record c { src = set_and W c.src set }) refl refl h.states
  cut_fits {W} (Prim_.Dst set) k c h = same_fits S N c h (record c { dst = set_and W c.dst set }) refl refl h.states
  cut_fits (Prim_.InName by) k c h = in_fits S N c h (cut_of c.in_name by) (n_cut c.in_name by h.in_name k.0)
  cut_fits (Prim_.OutName by) k c h = out_fits S N c h (cut_of c.out_name by) (n_cut c.out_name by h.out_name k.0)
  cut_fits (Prim_.Proto proto) k c h = same_fits S N c h (record c { proto = set_and 8 c.proto (single proto) }) refl refl h.states
  cut_fits (Prim_.SrcPorts ports) k c h = same_fits S N c h (record c { proto = set_and 8 c.proto (single ports.proto); sport = set_and 16 c.sport ports.set }) refl refl h.states
  cut_fits (Prim_.DstPorts ports) k c h = same_fits S N c h (record c { proto = set_and 8 c.proto (single ports.proto); dport = set_and 16 c.dport ports.set }) refl refl h.states
  cut_fits (Prim_.Flags mask comp) k c h = same_fits S N c h (record c { proto = set_and 8 c.proto (single 6); flags = bit_and c.flags (flags_where mask comp 64) }) refl refl h.states
  cut_fits (Prim_.State states) k c h = same_fits S N c h (record c { state = bit_and c.state states }) refl refl (s_cut c.state states h.states)
  cut_fits (Prim_.IcmpKind m) k c h = same_fits S N c h (record c { proto = set_and 8 c.proto (single m.proto); icmp = set_and 8 c.icmp (single m.kind) }) refl refl h.states
  cut_fits Prim_.Always k c h = same_fits S N c h c refl refl h.states

  pub omit_fits : {W : ℕ} (x : Prim_ W) → AllIn ps (patterns_in x) → (c : Cube W) → Fits S N c → AllByRecursion (Fits S N) (omit_pieces x c)
  omit_fits {W} (Prim_.Src set) k c h = same_fits S N c h (record c { src = set_minus W c.src set }) refl refl h.states
  omit_fits {W} (Prim_.Dst set) k c h = same_fits S N c h (record c { dst = set_minus W c.dst set }) refl refl h.states
  omit_fits (Prim_.InName by) k c h = in_fits S N c h (cut_not_of c.in_name by) (n_omit c.in_name by h.in_name k.0)
  omit_fits (Prim_.OutName by) k c h = out_fits S N c h (cut_not_of c.out_name by) (n_omit c.out_name by h.out_name k.0)
  omit_fits (Prim_.Proto proto) k c h = same_fits S N c h (record c { proto = set_minus 8 c.proto (single proto) }) refl refl h.states
  omit_fits (Prim_.SrcPorts ports) k c h =
      all_append (Fits S N) (kept (record c { proto = set_minus 8 c.proto (single ports.proto) })) (kept (record c { proto = set_and 8 c.proto (single ports.proto); sport = set_minus 16 c.sport ports.set }))
      (same_fits S N c h (record c { proto = set_minus 8 c.proto (single ports.proto) }) refl refl h.states)
      (same_fits S N c h (record c { proto = set_and 8 c.proto (single ports.proto); sport = set_minus 16 c.sport ports.set }) refl refl h.states)
  omit_fits (Prim_.DstPorts ports) k c h =
      all_append (Fits S N) (kept (record c { proto = set_minus 8 c.proto (single ports.proto) })) (kept (record c { proto = set_and 8 c.proto (single ports.proto); dport = set_minus 16 c.dport ports.set }))
      (same_fits S N c h (record c { proto = set_minus 8 c.proto (single ports.proto) }) refl refl h.states)
      (same_fits S N c h (record c { proto = set_and 8 c.proto (single ports.proto); dport = set_minus 16 c.dport ports.set }) refl refl h.states)
  omit_fits (Prim_.Flags mask comp) k c h =
      all_append (Fits S N) (kept (record c { proto = set_minus 8 c.proto (single 6) })) (kept (record c { proto = set_and 8 c.proto (single 6); flags = bit_xor c.flags (bit_and c.flags (flags_where mask comp 64)) }))
      (same_fits S N c h (record c { proto = set_minus 8 c.proto (single 6) }) refl refl h.states)
      (same_fits S N c h (record c { proto = set_and 8 c.proto (single 6); flags = bit_xor c.flags (bit_and c.flags (flags_where mask comp 64)) }) refl refl h.states)
  omit_fits (Prim_.State states) k c h = same_fits S N c h (record c { state = bit_xor c.state (bit_and c.state states) }) refl refl (s_omit c.state states h.states)
  omit_fits (Prim_.IcmpKind m) k c h =
      all_append (Fits S N) (kept (record c { proto = set_minus 8 c.proto (single m.proto) })) (kept (record c { proto = set_and 8 c.proto (single m.proto); icmp = set_minus 8 c.icmp (single m.kind) }))
      (same_fits S N c h (record c { proto = set_minus 8 c.proto (single m.proto) }) refl refl h.states)
      (same_fits S N c h (record c { proto = set_and 8 c.proto (single m.proto); icmp = set_minus 8 c.icmp (single m.kind) }) refl refl h.states)
  omit_fits Prim_.Always k c h = tt

  -- the cuts by an expression of these patterns
  pub cuts_fit : (W : ℕ) (e : Expr (Prim_ W)) → AllIn ps (patterns_of {W = W} e) → Stays (Fits S N) ps cut_fits omit_fits (cuts_by {W = W} e)
  cuts_fit W e h = cuts_stay (Fits S N) ps cut_fits omit_fits e h

  verdict_fits : {W : ℕ} (b : Bool) (cs : List (Cube W)) → AllByRecursion (Fits S N) cs → EachCube (Fits S N) (with_verdict b cs)
  verdict_fits b [] h = tt
  verdict_fits b (c ∷ cs) h = (h.0, verdict_fits b cs h.1)

  pub normal_fits : (W : ℕ) → Fits S N (whole_of W) → (rules : List (FlatRule (Prim_ W))) → AllIn ps (rule_patterns rules) → EachCube (Fits S N) (normal_of rules)
  normal_fits W f [] h = tt
  normal_fits W f (rule ∷ rules) h =
      all_append (λ (r : SimpleRule W). Fits S N r.cube) (with_verdict rule.accept ((cuts_by {W = W} rule.expr).keep (whole_of W ∷ [])).list) (normal_of rules)
      (verdict_fits rule.accept ((cuts_by {W = W} rule.expr).keep (whole_of W ∷ [])).list ((cuts_fit W rule.expr (each_left (Contains ps) (patterns_of {W = W} rule.expr) (rule_patterns rules) h)).keep (whole_of W ∷ []) (f, tt)))
      (normal_fits W f rules (each_right (Contains ps) (patterns_of {W = W} rule.expr) (rule_patterns rules) h))

-- the bits of states alone
abbrev Low : ℕ → Type 0
Low state = state < 32

abbrev AnyName : NameSet → Type 0
AnyName s = Unit {0}

any_name : (o : Option NameSet) → OnName AnyName o
any_name None = tt
any_name (Some s) = tt

to_states : {W : ℕ} (l : List (Cube W)) → AllByRecursion (Fits Low AnyName) l → AllByRecursion HasStates l
to_states l h = all_map (Fits Low AnyName) HasStates (λ c f. f.states) l h

from_states : {W : ℕ} (l : List (Cube W)) → AllByRecursion HasStates l → AllByRecursion (Fits Low AnyName) l
from_states l h = all_map HasStates (Fits Low AnyName) (λ c s. record { states = s; in_name = tt; out_name = tt }) l h

module _ (W : ℕ) (e : Expr (Prim_ W)) (l : List (Cube W)) (h : AllByRecursion HasStates l) where
  pub keep_states : AllByRecursion HasStates ((cuts_by {W = W} e).keep l).list
  keep_states = to_states ((cuts_by {W = W} e).keep l).list ((cuts_fit Low AnyName (patterns_of {W = W} e) and_states less_states (λ s by _ _. any_name (cut_of s by)) (λ s by _ _. any_name (cut_not_of s by)) W e (all_self (patterns_of {W = W} e))).keep l (from_states l h))

  pub omit_states : AllByRecursion HasStates ((cuts_by {W = W} e).omit l).list
  omit_states = to_states ((cuts_by {W = W} e).omit l).list ((cuts_fit Low AnyName (patterns_of {W = W} e) and_states less_states (λ s by _ _. any_name (cut_of s by)) (λ s by _ _. any_name (cut_not_of s by)) W e (all_self (patterns_of {W = W} e))).omit l (from_states l h))

-- the names alone
abbrev AnyState : ℕ → Type 0
AnyState state = Unit {0}

to_names : {W : ℕ} (ps : List Pattern) (l : List (Cube W)) → AllByRecursion (Fits AnyState (IsOf ps)) l → AllByRecursion (NamesAreOf ps) l
to_names ps l h = all_map (Fits AnyState (IsOf ps)) (NamesAreOf ps) (λ c f. record { in_name = f.in_name; out_name = f.out_name }) l h

from_names : {W : ℕ} (ps : List Pattern) (l : List (Cube W)) → AllByRecursion (NamesAreOf ps) l → AllByRecursion (Fits AnyState (IsOf ps)) l
from_names ps l h = all_map (NamesAreOf ps) (Fits AnyState (IsOf ps)) (λ c f. record { states = tt; in_name = f.in_name; out_name = f.out_name }) l h

module _ (W : ℕ) (e : Expr (Prim_ W)) (ps : List Pattern) (k : AllIn ps (patterns_of {W = W} e)) (l : List (Cube W)) (h : AllByRecursion (NamesAreOf ps) l) where
  pub keep_names : AllByRecursion (NamesAreOf ps) ((cuts_by {W = W} e).keep l).list
  keep_names = to_names ps ((cuts_by {W = W} e).keep l).list
      ((cuts_fit AnyState (IsOf ps) ps (λ a b _. tt) (λ a b _. tt) (λ s by h k. cut_is_of ps s by h k) (λ s by h k. cut_not_is_of ps s by h k) W e k).keep l (from_names ps l h))

  pub omit_names : AllByRecursion (NamesAreOf ps) ((cuts_by {W = W} e).omit l).list
  omit_names = to_names ps ((cuts_by {W = W} e).omit l).list
      ((cuts_fit AnyState (IsOf ps) ps (λ a b _. tt) (λ a b _. tt) (λ s by h k. cut_is_of ps s by h k) (λ s by h k. cut_not_is_of ps s by h k) W e k).omit l (from_names ps l h))

-- the cubes of the normal form
whole_names : (ps : List Pattern) → IsOf ps (record { base = Pattern.Prefix []; excluded = [] })
whole_names ps = record { base = inl refl; excluded = tt }

normal_all : (W : ℕ) (rules : List (FlatRule (Prim_ W))) → EachCube (Fits Low (IsOf (rule_patterns rules))) (normal_of rules)
normal_all W rules = normal_fits Low (IsOf (rule_patterns rules)) (rule_patterns rules) and_states less_states
    (λ s by h k. cut_is_of (rule_patterns rules) s by h k) (λ s by h k. cut_not_is_of (rule_patterns rules) s by h k) W
    (record { states = omega arith; in_name = whole_names (rule_patterns rules); out_name = whole_names (rule_patterns rules) }) rules (all_self (rule_patterns rules))

pub normal_states : (W : ℕ) (rules : List (FlatRule (Prim_ W))) → EachCube HasStates (normal_of rules)
normal_states W rules = all_map (λ (r : SimpleRule W). Fits Low (IsOf (rule_patterns rules)) r.cube) (λ (r : SimpleRule W). HasStates r.cube) (λ r f. f.states) (normal_of rules) (normal_all W rules)

pub normal_patterns : (W : ℕ) (rules : List (FlatRule (Prim_ W))) → EachCube (NamesAreOf (rule_patterns rules)) (normal_of rules)
normal_patterns W rules = all_map (λ (r : SimpleRule W). Fits Low (IsOf (rule_patterns rules)) r.cube) (λ (r : SimpleRule W). NamesAreOf (rule_patterns rules) r.cube)
    (λ r f. record { in_name = f.in_name; out_name = f.out_name }) (normal_of rules) (normal_all W rules)
