-- No packet is in two pieces of one cube without another, where no two exclusions of one name set share a name.
use Rattle.std.proofs.Common.{◌≡◌, ℕ, ◌+◌, ◌≤◌, List, [], ◌∷◌, ◌++◌, Bool, true, false, not, ◌&&◌, ◌||◌, cond, Option, None, Some, refl, ◌∙◌, ap, arith, bit_and, bit_xor}
use Rattle.std.specs.Prelude.{if◌then◌else◌, option_to_list}
use Rattle.std.specs.List.{flat_map, AllByRecursion}
use Rattle.interval_set.specs.Spelling.{set_minus}
use Rattle.name_set.specs.declared.pattern.Pattern.{Pattern}
use Rattle.name_set.specs.declared.set.NameSet.{NameSet}
use Rattle.name_set.specs.Patterns.{fits, AreApart}
use Rattle.name_set.specs.Names.{has_name, has_name_some, some_fits, cut_of, cut_not_of}
use Rattle.name_set.proofs.Cuts.{cut_names, cut_not_names}
use Rattle.primitives.specs.declared.prim.Packet.{Packet}
use Rattle.box_norm.specs.declared.cube.Cube.{Cube}
use Rattle.box_norm.specs.Cubes.{holds_cube, is_none, kept}
use Rattle.box_norm.specs.Disjoint.{AreDisjoint, AreAllApart}
use Rattle.box_norm.specs.Overlaps.{names_common, cut_by_each, names_less, both_of, and_names, to_in_name, minus_common, minus_of}
use Rattle.box_norm.proofs.OverlapLaws.{common_names}
use Rattle.box_norm.proofs.Dims.{Dim, Value, has_value, put, fits_in, fits_else, holds_by, put_holds}
use Rattle.box_norm.proofs.PartLaws.{one, times, times_append, times_cons, times_kept, two_parts, set_parts, bit_parts}

-- in how many of the sets the name is
abbrev pub sum_has : List NameSet → List ℕ → ℕ
sum_has [] n = 0
sum_has (s ∷ ss) n = one (has_name s n) + sum_has ss n

sum_append : (a b : List NameSet) (n : List ℕ) → sum_has (a ++ b) n ≡ sum_has a n + sum_has b n
sum_append [] b n = omega arith
sum_append (s ∷ a) b n = let ih = sum_append a b n in omega (arith, ih)

sum_one : (o : Option NameSet) (n : List ℕ) → sum_has (option_to_list o) n ≡ one (has_name_some o n)
sum_one None n = refl
sum_one (Some s) n = omega arith

apart_fits : (p : Pattern) (ps : List Pattern) (n : List ℕ) → AllByRecursion (AreApart p) ps → fits p n ≡ true → some_fits ps n ≡ false
apart_fits p [] n h k = refl
apart_fits p (q ∷ ps) n h k =
    let ih = apart_fits p ps n h.1 k in
    let f : fits q n ≡ true → fits p n ≡ true → fits q n ≡ false = λ e k. absurd (h.0 n k e) in
    grind (arith, ih, f, k)

exclusive : (s f g : Bool) → (f ≡ true → g ≡ false) → one (s && f) + one (s && g) ≤ one (s && (f || g))
exclusive false f g h = omega arith
exclusive true false g h = omega arith
exclusive true true g h = let e = h refl in rw e (omega arith)

each_sum : (s : NameSet) (ps : List Pattern) (n : List ℕ) → AreAllApart ps → sum_has (flat_map (λ p. option_to_list (cut_of s p)) ps) n ≤ one (has_name s n && some_fits ps n)
each_sum s [] n h = omega arith
each_sum s (p ∷ ps) n h =
    let ih = each_sum s ps n h.1 in
    let e = sum_append (option_to_list (cut_of s p)) (flat_map (λ p. option_to_list (cut_of s p)) ps) n in
    let f = sum_one (cut_of s p) n ∙ ap one (cut_names s p n) in
    let g = exclusive (has_name s n) (fits p n) (some_fits ps n) (apart_fits p ps n h.0) in
    omega (arith, ih, e, f, g)

by_each_sum : (o : Option NameSet) (ps : List Pattern) (n : List ℕ) → AreAllApart ps → sum_has (cut_by_each o ps) n ≤ one (has_name_some o n && some_fits ps n)
by_each_sum None ps n h = omega arith
by_each_sum (Some s) ps n h = each_sum s ps n h

three : (a f g : Bool) → one (a && not f) + one ((a && f) && g) + one (a && (f && not g)) ≤ one a
three false f g = omega arith
three true false g = omega arith
three true true true = omega arith
three true true false = omega arith

-- of the names of one set those that the other lacks, and those that it has
names_split : (a b : NameSet) (n : List ℕ) → AreAllApart b.excluded → sum_has (names_less a b) n + one (has_name_some (names_common a b) n) ≤ one (has_name a n)
names_split a b n h =
    let e = sum_append (option_to_list (cut_not_of a b.base)) (cut_by_each (cut_of a b.base) b.excluded) n in
    let f = sum_one (cut_not_of a b.base) n ∙ ap one (cut_not_names a b.base n) in
    let g = by_each_sum (cut_of a b.base) b.excluded n h in
    let k : one (has_name_some (cut_of a b.base) n && some_fits b.excluded n) ≡ one ((has_name a n && fits b.base n) && some_fits b.excluded n) = ap (λ t. one (t && some_fits b.excluded n)) (cut_names a b.base n) in
    let l : one (has_name_some (names_common a b) n) ≡ one (has_name a n && has_name b n) = ap one (common_names a b n) in
    let m = three (has_name a n) (fits b.base n) (some_fits b.excluded n) in
    omega (arith, e, f, g, k, l, m)

-- the cube with each of these sets
one_and : (x : Bool) → one (x && true) ≡ one x
one_and true = refl
one_and false = refl

none_and : (x : Bool) → one (x && false) ≡ 0
none_and true = refl
none_and false = refl

with_sum : {W : ℕ} (d : Dim) (c : Cube W) (with : NameSet → Cube W) (n : List ℕ) (p : Packet) → ((s : NameSet) → holds_cube (with s) p ≡ (has_name s n && fits_else d c p)) →
    (r : Bool) → fits_else d c p ≡ r → (ss : List NameSet) → times (flat_map (λ s. kept (with s)) ss) p ≡ cond r (sum_has ss n) 0
with_sum d c with n p e true g [] = refl
with_sum d c with n p e false g [] = refl
with_sum d c with n p e true g (s ∷ ss) =
    let is : times (kept (with s)) p ≡ one (has_name s n) = times_kept (with s) p ∙ ap one (e s) ∙ ap (λ r. one (has_name s n && r)) g ∙ one_and (has_name s n) in
    omega (arith, with_sum d c with n p e true g ss, times_append (kept (with s)) (flat_map (λ s. kept (with s)) ss) p, is)
with_sum d c with n p e false g (s ∷ ss) =
    let is : times (kept (with s)) p ≡ 0 = times_kept (with s) p ∙ ap one (e s) ∙ ap (λ r. one (has_name s n && r)) g ∙ none_and (has_name s n) in
    omega (arith, with_sum d c with n p e false g ss, times_append (kept (with s)) (flat_map (λ s. kept (with s)) ss) p, is)

within_r : (r : Bool) (k : ℕ) (x y : Bool) → k + one y ≤ one x → cond r k 0 + one (y && r) ≤ one (x && r)
within_r true k x y h = omega (arith, one_and x, one_and y, h)
within_r false k x y h = omega (arith, none_and x, none_and y, h)

with_split : {W : ℕ} (d : Dim) (c : Cube W) (with : NameSet → Cube W) (n : List ℕ) (p : Packet) → ((s : NameSet) → holds_cube (with s) p ≡ (has_name s n && fits_else d c p)) →
    (ss : List NameSet) (s : NameSet) → sum_has ss n + one (has_name s n) ≤ one (fits_in d c p) → times (flat_map (λ s. kept (with s)) ss) p + one (holds_cube (with s) p) ≤ one (holds_cube c p)
with_split d c with n p e ss s h =
    omega (arith, with_sum d c with n p e (fits_else d c p) refl ss, ap one (e s), ap one (holds_by d c p), within_r (fits_else d c p) (sum_has ss n) (fits_in d c p) (has_name s n) h)

-- so far: the packet is in no more of the pieces and the front than of `a`
record Once {W : ℕ} (a : Cube W) (p : Packet) (pieces : List (Cube W)) (front : Cube W) : Type 0 where
  pub once : times pieces p + one (holds_cube front p) ≤ one (holds_cube a p)

-- one dimension more
module _ {W : ℕ} (a : Cube W) (p : Packet) (pieces : List (Cube W)) (front : Cube W) (so : Once a p pieces front) where
  next : (d : Dim) (less common : Value d) → one (has_value d common p) + one (has_value d less p) ≤ one (fits_in d front p) → Once a p (pieces ++ kept (put d front less)) (put d front common)
  next d less common h = record { once = omega (arith, so.once, two_parts d front p common less h, times_append pieces (kept (put d front less)) p, times_kept (put d front less) p) }

  next_names : (d : Dim) (with : NameSet → Cube W) (n : List ℕ) → ((s : NameSet) → holds_cube (with s) p ≡ (has_name s n && fits_else d front p)) →
      (ss : List NameSet) (s : NameSet) → sum_has ss n + one (has_name s n) ≤ one (fits_in d front p) → Once a p (pieces ++ flat_map (λ s. kept (with s)) ss) (with s)
  next_names d with n e ss s h = record { once = omega (arith, so.once, with_split d front with n p e ss s h, times_append pieces (flat_map (λ s. kept (with s)) ss) p) }

module _ {W : ℕ} (a b : Cube W) (i o : NameSet) (p : Packet)
    (e : sum_has (names_less a.in_name b.in_name) p.in_name + one (has_name i p.in_name) ≤ one (has_name a.in_name p.in_name))
    (f : sum_has (names_less a.out_name b.out_name) p.out_name + one (has_name o p.out_name) ≤ one (has_name a.out_name p.out_name)) where
  abbrev m : Cube W
  m = both_of a b i o

  begun : Once a p [] a
  begun = record { once = omega arith }

  pub pieces_once : times (minus_common a b (Some m)) p + one (holds_cube m p) ≤ one (holds_cube a p)
  pieces_once =
      let s1 = next_names a p _ _ begun Dim.InName (λ s. record a { in_name = s }) p.in_name (λ s. put_holds Dim.InName a s p) (names_less a.in_name b.in_name) i e in
      let s2 = next_names a p _ _ s1 Dim.OutName (λ s. record (to_in_name m a) { out_name = s }) p.out_name (λ s. put_holds Dim.OutName (to_in_name m a) s p) (names_less a.out_name b.out_name) o f in
      let s3 = next a p _ _ s2 Dim.Src (set_minus W a.src b.src) m.src (set_parts W a.src b.src p.src) in
      let s4 = next a p _ _ s3 Dim.Dst (set_minus W a.dst b.dst) m.dst (set_parts W a.dst b.dst p.dst) in
      let s5 = next a p _ _ s4 Dim.Proto (set_minus 8 a.proto b.proto) m.proto (set_parts 8 a.proto b.proto p.proto) in
      let s6 = next a p _ _ s5 Dim.Sport (set_minus 16 a.sport b.sport) m.sport (set_parts 16 a.sport b.sport p.sport) in
      let s7 = next a p _ _ s6 Dim.Dport (set_minus 16 a.dport b.dport) m.dport (set_parts 16 a.dport b.dport p.dport) in
      let s8 = next a p _ _ s7 Dim.Flags (bit_xor a.flags (bit_and a.flags b.flags)) m.flags (bit_parts a.flags b.flags p.flags) in
      let s9 = next a p _ _ s8 Dim.State (bit_xor a.state (bit_and a.state b.state)) m.state (bit_parts a.state b.state p.state) in
      let s10 = next a p _ _ s9 Dim.Types (set_minus 8 a.icmp b.icmp) m.icmp (set_parts 8 a.icmp b.icmp p.icmp) in
      s10.once

one_most : (b : Bool) → one b ≤ 1
one_most true = omega arith
one_most false = omega arith

once : {W : ℕ} (a : Cube W) (p : Packet) → times (a ∷ []) p ≤ 1
once a p = let e = times_cons a [] p in let f = one_most (holds_cube a p) in omega (arith, e, f)

rest_by : {W : ℕ} (z : Bool) (a b : Cube W) (i o : NameSet) (p : Packet) →
    sum_has (names_less a.in_name b.in_name) p.in_name + one (has_name i p.in_name) ≤ one (has_name a.in_name p.in_name) →
    sum_has (names_less a.out_name b.out_name) p.out_name + one (has_name o p.out_name) ≤ one (has_name a.out_name p.out_name) →
    times (minus_common a b (if z then None else Some (both_of a b i o))) p ≤ 1
rest_by true a b i o p e f = once a p
rest_by false a b i o p e f = let h = pieces_once a b i o p e f in let k = one_most (holds_cube a p) in omega (arith, h, k)

rest_names : {W : ℕ} (a b : Cube W) (i o : Option NameSet) (p : Packet) →
    sum_has (names_less a.in_name b.in_name) p.in_name + one (has_name_some i p.in_name) ≤ one (has_name a.in_name p.in_name) →
    sum_has (names_less a.out_name b.out_name) p.out_name + one (has_name_some o p.out_name) ≤ one (has_name a.out_name p.out_name) →
    times (minus_common a b (and_names a b i o)) p ≤ 1
rest_names a b None o p e f = once a p
rest_names a b (Some i) None p e f = once a p
rest_names a b (Some i) (Some o) p e f = rest_by (is_none (both_of a b i o)) a b i o p e f

-- the pieces share no packet
pub minus_disjoint : {W : ℕ} (a b : Cube W) → AreAllApart b.in_name.excluded → AreAllApart b.out_name.excluded → AreDisjoint (minus_of a b)
minus_disjoint a b h k = λ p. rest_names a b (names_common a.in_name b.in_name) (names_common a.out_name b.out_name) p
    (names_split a.in_name b.in_name p.in_name h) (names_split a.out_name b.out_name p.out_name k)
