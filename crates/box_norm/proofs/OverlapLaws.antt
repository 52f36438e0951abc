-- What two cubes have in common holds the packets of both, and the pieces of one without the other hold the rest.
use Rattle.std.proofs.Common.{◌≡◌, ℕ, List, [], ◌∷◌, ◌++◌, Bool, true, false, not, ◌&&◌, ◌||◌, Option, None, Some, refl, sym, ◌∙◌, ap, arith, bit_and, bit_xor}
use Rattle.std.specs.Prelude.{if◌then◌else◌, option_to_list}
use Rattle.std.specs.List.{flat_map}
use Rattle.basics.proofs.Truths.{and_assoc, and_false, and_one}
use Rattle.interval_set.specs.Spelling.{set_minus}
use Rattle.name_set.specs.declared.pattern.Pattern.{Pattern}
use Rattle.name_set.specs.declared.set.NameSet.{NameSet}
use Rattle.name_set.specs.Patterns.{fits}
use Rattle.name_set.specs.Names.{has_name, has_name_some, some_fits, cut_of, cut_not_of}
use Rattle.name_set.proofs.Cuts.{cut_names, cut_not_names}
use Rattle.primitives.specs.declared.prim.Packet.{Packet}
use Rattle.primitives.specs.Holds.{IsValid}
use Rattle.box_norm.specs.declared.cube.Cube.{Cube}
use Rattle.box_norm.specs.Cubes.{holds_cube, any_holds, is_none, kept}
use Rattle.box_norm.specs.Overlaps.{without_each, names_common, cut_by_each, names_less, both_of, and_names, and_of, holds_some, to_in_name, minus_common, minus_of}
use Rattle.box_norm.proofs.Dims.{Dim, Value, has_value, put, tests, all, fits_in, fits_else, holds_all, all_both, holds_by, put_holds, more_asked, one_changed}
use Rattle.box_norm.proofs.PieceLaws.{any_append, kept_holds, kept_changed, none_holds, and_within, minus_within, bits_and, bits_less}

-- the names of a set without each pattern
cut_again : (s c : Bool) (f g : Bool) → c ≡ (s && not f) → (c && not g) ≡ (s && not (f || g))
cut_again s c f g e = grind (arith, e)

pub without_names : (o : Option NameSet) (ps : List Pattern) (n : List ℕ) → has_name_some (without_each o ps) n ≡ (has_name_some o n && not (some_fits ps n))
without_names None ps n = refl
without_names (Some s) [] n = and_one (has_name s n)
without_names (Some s) (p ∷ ps) n =
    without_names (cut_not_of s p) ps n ∙ cut_again (has_name s n) (has_name_some (cut_not_of s p) n) (fits p n) (some_fits ps n) (cut_not_names s p n)

pub common_names : (a b : NameSet) (n : List ℕ) → has_name_some (names_common a b) n ≡ (has_name a n && has_name b n)
common_names a b n =
    without_names (cut_of a b.base) b.excluded n ∙ ap (λ t. t && not (some_fits b.excluded n)) (cut_names a b.base n) ∙
    and_assoc (has_name a n) (fits b.base n) (not (some_fits b.excluded n))

-- whether the name is in one of the sets
abbrev pub some_have : List NameSet → List ℕ → Bool
some_have [] n = false
some_have (s ∷ ss) n = has_name s n || some_have ss n

some_append : (a b : List NameSet) (n : List ℕ) → some_have (a ++ b) n ≡ (some_have a n || some_have b n)
some_append [] b n = refl
some_append (s ∷ a) b n = let ih = some_append a b n in grind (arith, ih)

one_has : (o : Option NameSet) (n : List ℕ) → some_have (option_to_list o) n ≡ has_name_some o n
one_has None n = refl
one_has (Some s) n = let t = has_name s n in elim t as (λ b. (b || false) ≡ b) [ true ↦ refl | false ↦ refl ]

cut_more : (s f g a b : Bool) → a ≡ (s && f) → b ≡ (s && g) → (a || b) ≡ (s && (f || g))
cut_more s f g a b e h = grind (arith, e, h)

each_names : (s : NameSet) (ps : List Pattern) (n : List ℕ) → some_have (flat_map (λ p. option_to_list (cut_of s p)) ps) n ≡ (has_name s n && some_fits ps n)
each_names s [] n = let t = has_name s n in elim t as (λ b. false ≡ (b && false)) [ true ↦ refl | false ↦ refl ]
each_names s (p ∷ ps) n =
    some_append (option_to_list (cut_of s p)) (flat_map (λ p. option_to_list (cut_of s p)) ps) n ∙
    cut_more (has_name s n) (fits p n) (some_fits ps n) (some_have (option_to_list (cut_of s p)) n) _ (one_has (cut_of s p) n ∙ cut_names s p n) (each_names s ps n)

by_each : (o : Option NameSet) (ps : List Pattern) (n : List ℕ) → some_have (cut_by_each o ps) n ≡ (has_name_some o n && some_fits ps n)
by_each None ps n = refl
by_each (Some s) ps n = each_names s ps n

less : (h f g a b : Bool) → a ≡ (h && not f) → b ≡ ((h && f) && g) → (a || b) ≡ (h && not (f && not g))
less h f g a b e k = grind (arith, e, k)

pub less_names : (a b : NameSet) (n : List ℕ) → some_have (names_less a b) n ≡ (has_name a n && not (has_name b n))
less_names a b n =
    some_append (option_to_list (cut_not_of a b.base)) (cut_by_each (cut_of a b.base) b.excluded) n ∙
    less (has_name a n) (fits b.base n) (some_fits b.excluded n) _ _
    (one_has (cut_not_of a b.base) n ∙ cut_not_names a b.base n)
    (by_each (cut_of a b.base) b.excluded n ∙ ap (λ t. t && some_fits b.excluded n) (cut_names a b.base n))

-- the cube with each of these sets of names
or_right : (a b x y t : Bool) → a ≡ (x && t) → b ≡ (y && t) → (a || b) ≡ ((x || y) && t)
or_right a b x y t e f = grind (arith, e, f)

pub names_hold : {W : ℕ} (d : Dim) (c : Cube W) (with : NameSet → Cube W) (n : List ℕ) (p : Packet) → ((s : NameSet) → holds_cube (with s) p ≡ (has_name s n && fits_else d c p)) →
    (ss : List NameSet) → any_holds (flat_map (λ s. kept (with s)) ss) p ≡ (some_have ss n && fits_else d c p)
names_hold d c with n p e [] = refl
names_hold d c with n p e (s ∷ ss) =
    any_append (kept (with s)) (flat_map (λ s. kept (with s)) ss) p ∙
    or_right _ _ (has_name s n) (some_have ss n) (fits_else d c p) (kept_holds (with s) p ∙ e s) (names_hold d c with n p e ss)

-- what both have
unless_by : {W : ℕ} (b : Bool) (c : Cube W) (p : Packet) → is_none c ≡ b → holds_some (if b then None else Some c) p ≡ holds_cube c p
unless_by true c p h = sym (none_holds c p h)
unless_by false c p h = refl

apart : (x y s t : Bool) → false ≡ (x && s) → false ≡ ((x && y) && (s && t))
apart x y s t e = grind (arith, e)

-- in each dimension what both cubes have
module _ {W : ℕ} (a b : Cube W) (p : Packet) (v : IsValid W p) where
  module _ (i o : NameSet) (e : has_name i p.in_name ≡ (has_name a.in_name p.in_name && has_name b.in_name p.in_name))
      (f : has_name o p.out_name ≡ (has_name a.out_name p.out_name && has_name b.out_name p.out_name)) where
    pub fits_both : (d : Dim) → fits_in d (both_of a b i o) p ≡ (fits_in d a p && fits_in d b p)
    fits_both Dim.InName = e
    fits_both Dim.OutName = f
    fits_both Dim.Src = and_within W a.src b.src p.src v.src
    fits_both Dim.Dst = and_within W a.dst b.dst p.dst v.dst
    fits_both Dim.Proto = and_within 8 a.proto b.proto p.proto v.proto
    fits_both Dim.Sport = and_within 16 a.sport b.sport p.sport v.sport
    fits_both Dim.Dport = and_within 16 a.dport b.dport p.dport v.dport
    fits_both Dim.Flags = bits_and a.flags b.flags p.flags
    fits_both Dim.State = bits_and a.state b.state p.state
    fits_both Dim.Types = and_within 8 a.icmp b.icmp p.icmp v.icmp

    pub both_hold : holds_cube (both_of a b i o) p ≡ (holds_cube a p && holds_cube b p)
    both_hold = holds_all (both_of a b i o) p ∙ all_both (tests a p) (tests b p) (tests (both_of a b i o) p)
        (fits_both Dim.InName, (fits_both Dim.OutName, (fits_both Dim.Src, (fits_both Dim.Dst, (fits_both Dim.Proto, (fits_both Dim.Sport, (fits_both Dim.Dport, (fits_both Dim.Flags, (fits_both Dim.State, (fits_both Dim.Types, tt)))))))))) ∙
        ap (λ x. x && all (tests b p)) (sym (holds_all a p)) ∙ ap (λ y. holds_cube a p && y) (sym (holds_all b p))

  -- a dimension where nothing is common
  none_common : (d : Dim) → false ≡ (fits_in d a p && fits_in d b p) → false ≡ (holds_cube a p && holds_cube b p)
  none_common d e = apart (fits_in d a p) (fits_else d a p) (fits_in d b p) (fits_else d b p) e ∙
      ap (λ x. x && (fits_in d b p && fits_else d b p)) (sym (holds_by d a p)) ∙ ap (λ y. holds_cube a p && y) (sym (holds_by d b p))

  and_by : (i o : Option NameSet) → has_name_some i p.in_name ≡ (has_name a.in_name p.in_name && has_name b.in_name p.in_name) →
      has_name_some o p.out_name ≡ (has_name a.out_name p.out_name && has_name b.out_name p.out_name) →
      holds_some (and_names a b i o) p ≡ (holds_cube a p && holds_cube b p)
  and_by None o e f = none_common Dim.InName e
  and_by (Some i) None e f = none_common Dim.OutName f
  and_by (Some i) (Some o) e f = unless_by (is_none (both_of a b i o)) (both_of a b i o) p refl ∙ both_hold i o e f

-- what the two cubes have in common holds the packets of both
pub and_holds : {W : ℕ} (a b : Cube W) (p : Packet) → IsValid W p → holds_some (and_of a b) p ≡ (holds_cube a p && holds_cube b p)
and_holds a b p v = and_by a b p v (names_common a.in_name b.in_name) (names_common a.out_name b.out_name)
    (common_names a.in_name b.in_name p.in_name) (common_names a.out_name b.out_name p.out_name)

-- one dimension more of what is common, and the pieces of that dimension
front_more : (x y h t b : Bool) → x ≡ (h && t) → y ≡ (x && b) → y ≡ (h && (t && b))
front_more x y h t b e f = grind (arith, e, f)

pieces_more : (x y z h t b : Bool) → x ≡ (h && not t) → z ≡ (h && t) → y ≡ (z && not b) → (x || y) ≡ (h && not (t && b))
pieces_more x y z h t b e f g = grind (arith, e, f, g)

nested : (a b c d e f g h i j : Bool) → (((((((((a && b) && c) && d) && e) && f) && g) && h) && i) && j) ≡ (a && (b && (c && (d && (e && (f && (g && (h && (i && j)))))))))
nested a b c d e f g h i j = simp and_assoc

-- so far: the pieces hold the packets of `a` outside of these dimensions of `b`, and the front those inside
record Front {W : ℕ} (a : Cube W) (p : Packet) (inside : Bool) (pieces : List (Cube W)) (front : Cube W) : Type 0 where
  pub outside : any_holds pieces p ≡ (holds_cube a p && not inside)
  pub within : holds_cube front p ≡ (holds_cube a p && inside)

module _ {W : ℕ} (a : Cube W) (p : Packet) (inside : Bool) (pieces : List (Cube W)) (front : Cube W) (so : Front a p inside pieces front) (d : Dim) (b : Bool) where
  front_by : (more : List (Cube W)) (common : Value d) → any_holds more p ≡ (holds_cube front p && not b) → has_value d common p ≡ (fits_in d front p && b) →
      Front a p (inside && b) (pieces ++ more) (put d front common)
  front_by more common e f = record {
    outside = any_append pieces more p ∙ pieces_more (any_holds pieces p) (any_holds more p) (holds_cube front p) (holds_cube a p) inside b so.outside so.within e;
    within = front_more (holds_cube front p) (holds_cube (put d front common) p) (holds_cube a p) inside b so.within (one_changed d front p b common f);
  }

  next : (less common : Value d) → has_value d less p ≡ (fits_in d front p && not b) → has_value d common p ≡ (fits_in d front p && b) →
      Front a p (inside && b) (pieces ++ kept (put d front less)) (put d front common)
  next less common e f = front_by (kept (put d front less)) common (kept_changed d front p (not b) less e) f

  next_names : (with : NameSet → Cube W) (ss : List NameSet) (common : Value d) (n : List ℕ) → ((s : NameSet) → holds_cube (with s) p ≡ (has_name s n && fits_else d front p)) →
      some_have ss n ≡ (fits_in d front p && not b) → has_value d common p ≡ (fits_in d front p && b) →
      Front a p (inside && b) (pieces ++ flat_map (λ s. kept (with s)) ss) (put d front common)
  next_names with ss common n e f g = front_by (flat_map (λ s. kept (with s)) ss) common
      (names_hold d front with n p e ss ∙ more_asked (fits_in d front p) (fits_else d front p) (not b) (some_have ss n) f ∙ ap (λ x. x && not b) (sym (holds_by d front p))) g

module _ {W : ℕ} (a b : Cube W) (i o : NameSet) (p : Packet) (v : IsValid W p)
    (e : has_name i p.in_name ≡ (has_name a.in_name p.in_name && has_name b.in_name p.in_name))
    (f : has_name o p.out_name ≡ (has_name a.out_name p.out_name && has_name b.out_name p.out_name)) where
  abbrev m : Cube W
  m = both_of a b i o

  abbrev common : (d : Dim) → fits_in d m p ≡ (fits_in d a p && fits_in d b p)
  common = fits_both a b p v i o e f

  begun : Front a p true [] a
  begun = record { outside = sym (and_false (holds_cube a p)); within = and_one (holds_cube a p) }

  pub common_rest : any_holds (minus_common a b (Some m)) p ≡ (holds_cube a p && not (holds_cube b p))
  common_rest =
      let s1 = next_names a p _ _ _ begun Dim.InName (fits_in Dim.InName b p) (λ s. record a { in_name = s }) (names_less a.in_name b.in_name) i p.in_name (λ s. put_holds Dim.InName a s p) (less_names a.in_name b.in_name p.in_name) e in
      let s2 = next_names a p _ _ _ s1 Dim.OutName (fits_in Dim.OutName b p) (λ s. record (to_in_name m a) { out_name = s }) (names_less a.out_name b.out_name) o p.out_name (λ s. put_holds Dim.OutName (to_in_name m a) s p) (less_names a.out_name b.out_name p.out_name) f in
      let s3 = next a p _ _ _ s2 Dim.Src (fits_in Dim.Src b p) (set_minus W a.src b.src) m.src (minus_within W a.src b.src p.src v.src) (common Dim.Src) in
      let s4 = next a p _ _ _ s3 Dim.Dst (fits_in Dim.Dst b p) (set_minus W a.dst b.dst) m.dst (minus_within W a.dst b.dst p.dst v.dst) (common Dim.Dst) in
      let s5 = next a p _ _ _ s4 Dim.Proto (fits_in Dim.Proto b p) (set_minus 8 a.proto b.proto) m.proto (minus_within 8 a.proto b.proto p.proto v.proto) (common Dim.Proto) in
      let s6 = next a p _ _ _ s5 Dim.Sport (fits_in Dim.Sport b p) (set_minus 16 a.sport b.sport) m.sport (minus_within 16 a.sport b.sport p.sport v.sport) (common Dim.Sport) in
      let s7 = next a p _ _ _ s6 Dim.Dport (fits_in Dim.Dport b p) (set_minus 16 a.dport b.dport) m.dport (minus_within 16 a.dport b.dport p.dport v.dport) (common Dim.Dport) in
      let s8 = next a p _ _ _ s7 Dim.Flags (fits_in Dim.Flags b p) (bit_xor a.flags (bit_and a.flags b.flags)) m.flags (bits_less a.flags b.flags p.flags) (common Dim.Flags) in
      let s9 = next a p _ _ _ s8 Dim.State (fits_in Dim.State b p) (bit_xor a.state (bit_and a.state b.state)) m.state (bits_less a.state b.state p.state) (common Dim.State) in
      let s10 = next a p _ _ _ s9 Dim.Types (fits_in Dim.Types b p) (set_minus 8 a.icmp b.icmp) m.icmp (minus_within 8 a.icmp b.icmp p.icmp v.icmp) (common Dim.Types) in
      s10.outside ∙ ap (λ t. holds_cube a p && not t) (nested (fits_in Dim.InName b p) (fits_in Dim.OutName b p) (fits_in Dim.Src b p) (fits_in Dim.Dst b p)
      (fits_in Dim.Proto b p) (fits_in Dim.Sport b p) (fits_in Dim.Dport b p) (fits_in Dim.Flags b p) (fits_in Dim.State b p) (fits_in Dim.Types b p))

-- the cube alone, where nothing is common
alone : (x y : Bool) → false ≡ (x && y) → (x || false) ≡ (x && not y)
alone x y e = grind (arith, e)

rest_by : {W : ℕ} (z : Bool) (a b : Cube W) (i o : NameSet) (p : Packet) → IsValid W p →
    has_name i p.in_name ≡ (has_name a.in_name p.in_name && has_name b.in_name p.in_name) →
    has_name o p.out_name ≡ (has_name a.out_name p.out_name && has_name b.out_name p.out_name) →
    is_none (both_of a b i o) ≡ z → any_holds (minus_common a b (if z then None else Some (both_of a b i o))) p ≡ (holds_cube a p && not (holds_cube b p))
rest_by true a b i o p v e f z = alone (holds_cube a p) (holds_cube b p) (sym (none_holds (both_of a b i o) p z) ∙ both_hold a b p v i o e f)
rest_by false a b i o p v e f z = common_rest a b i o p v e f

rest_names : {W : ℕ} (a b : Cube W) (i o : Option NameSet) (p : Packet) → IsValid W p →
    has_name_some i p.in_name ≡ (has_name a.in_name p.in_name && has_name b.in_name p.in_name) →
    has_name_some o p.out_name ≡ (has_name a.out_name p.out_name && has_name b.out_name p.out_name) →
    any_holds (minus_common a b (and_names a b i o)) p ≡ (holds_cube a p && not (holds_cube b p))
rest_names a b None o p v e f = alone (holds_cube a p) (holds_cube b p) (none_common a b p v Dim.InName e)
rest_names a b (Some i) None p v e f = alone (holds_cube a p) (holds_cube b p) (none_common a b p v Dim.OutName f)
rest_names a b (Some i) (Some o) p v e f = rest_by (is_none (both_of a b i o)) a b i o p v e f refl

-- the pieces of one cube without the other hold the packets of the one that aren't in the other
pub minus_holds : {W : ℕ} (a b : Cube W) (p : Packet) → IsValid W p → any_holds (minus_of a b) p ≡ (holds_cube a p && not (holds_cube b p))
minus_holds a b p v = rest_names a b (names_common a.in_name b.in_name) (names_common a.out_name b.out_name) p v
    (common_names a.in_name b.in_name p.in_name) (common_names a.out_name b.out_name p.out_name)
