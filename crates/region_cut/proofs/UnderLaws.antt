-- Cubes under others, dimension by dimension: what misses a cube misses each of its parts.
use Rattle.std.proofs.Common.{◌≡◌, ℕ, zero, suc, ◌^◌, List, [], ◌∷◌, ◌++◌, Bool, true, false, not, ◌&&◌, Option, None, Some, refl, sym, ◌∙◌, ap, arith, bit_and, bit_xor}
use Rattle.std.specs.Prelude.{IfSome, if◌then◌else◌}
use Rattle.std.specs.List.{AllByRecursion, flat_map}
use Rattle.std.proofs.lemmas.Bool.Decides.{nat_tests}
use Rattle.std.proofs.lemmas.Nat.Bits.{bit_at-lt, bit_at-zero, same_from_bits}
use Rattle.basics.proofs.Lists.{each_append, each_weaker}
use Rattle.interval_set.specs.declared.set.Range.{Range}
use Rattle.interval_set.specs.Numbers.{has}
use Rattle.interval_set.specs.Spelling.{ranges_where, set_and, set_minus, with_last}
use Rattle.interval_set.proofs.Spelling.{and_has, minus_has}
use Rattle.name_set.specs.declared.set.NameSet.{NameSet}
use Rattle.primitives.specs.Holds.{has_bit}
use Rattle.box_norm.specs.declared.cube.Cube.{Cube}
use Rattle.box_norm.specs.Cubes.{each_piece, is_none, kept}
use Rattle.box_norm.specs.Overlaps.{and_names, and_of, both_of, minus_common, minus_of, names_common, names_less, to_dport, to_dst, to_flags, to_in_name, to_out_name, to_proto, to_sport, to_src, to_state}
use Rattle.box_norm.proofs.PieceLaws.{bits_and, bits_less}
use Rattle.box_norm.proofs.RegularLaws.{kept_all}
use Rattle.region_cut.specs.inner.Misses.{DestinationPorts, Destinations, Flags, InNames, Misses, NoneOfBoth, OutNames, Protocols, SourcePorts, Sources, States, Types}
use Rattle.region_cut.proofs.ApartLaws.{apart_dport, apart_dst, apart_flags, apart_icmp, apart_in_name, apart_out_name, apart_proto, apart_sport, apart_src, apart_state}
use Rattle.region_cut.proofs.LeastLaws.{zero_bits}
use Rattle.region_cut.proofs.NameLaws.{NamesUnder, common_stays, less_stay, missed_names, names_miss_under, names_self}

-- each number of the second test passes the first
abbrev pub AllIn : (ℕ → Bool) → (ℕ → Bool) → Type 0
AllIn f g = (n : ℕ) → g n ≡ true → f n ≡ true

first_of_both : (l f g : Bool) → (l && (f && g)) ≡ true → f ≡ true
first_of_both l f g h = grind (arith, h)

first_of_less : (f g : Bool) → (f && g) ≡ true → f ≡ true
first_of_less f g h = grind (arith, h)

and_in : (w : ℕ) (f : ℕ → Bool) (a b : List Range) → AllIn f (has a) → AllIn f (has (set_and w a b))
and_in w f a b u n h = u n (first_of_both _ (has a n) (has b n) (sym (and_has w a b n) ∙ h))

minus_in : (w : ℕ) (f : ℕ → Bool) (a b : List Range) → AllIn f (has a) → AllIn f (has (set_minus w a b))
minus_in w f a b u n h = u n (first_of_both _ (has a n) (not (has b n)) (sym (minus_has w a b n) ∙ h))

bits_in : (f : ℕ → Bool) (a b : ℕ) → AllIn f (has_bit a) → AllIn f (has_bit (bit_and a b))
bits_in f a b u i h = u i (first_of_less (has_bit a i) (has_bit b i) (sym (bits_and a b i) ∙ h))

bits_left_in : (f : ℕ → Bool) (a b : ℕ) → AllIn f (has_bit a) → AllIn f (has_bit (bit_xor a (bit_and a b)))
bits_left_in f a b u i h = u i (first_of_less (has_bit a i) (not (has_bit b i)) (sym (bits_less a b i) ∙ h))

-- the second cube is under the first in each dimension
pub record IsUnder {W : ℕ} (a c : Cube W) : Type 0 where
  pub in_name : NamesUnder a.in_name c.in_name
  pub out_name : NamesUnder a.out_name c.out_name
  pub src : AllIn (has a.src) (has c.src)
  pub dst : AllIn (has a.dst) (has c.dst)
  pub proto : AllIn (has a.proto) (has c.proto)
  pub sport : AllIn (has a.sport) (has c.sport)
  pub dport : AllIn (has a.dport) (has c.dport)
  pub flags : AllIn (has_bit a.flags) (has_bit c.flags)
  pub state : AllIn (has_bit a.state) (has_bit c.state)
  pub icmp : AllIn (has a.icmp) (has c.icmp)

pub under_self : {W : ℕ} (a : Cube W) → IsUnder a a
under_self a = record {
  in_name = names_self a.in_name;
  out_name = names_self a.out_name;
  src = λ n h. h;
  dst = λ n h. h;
  proto = λ n h. h;
  sport = λ n h. h;
  dport = λ n h. h;
  flags = λ n h. h;
  state = λ n h. h;
  icmp = λ n h. h;
}

-- what a cube has in common with another, and its pieces without the other
unless_under : {W : ℕ} (t : Bool) (region c : Cube W) → IsUnder region c → IfSome (if t then None else Some c) (IsUnder region)
unless_under true region c u = tt
unless_under false region c u = u

module _ {W : ℕ} (region a b : Cube W) (u : IsUnder region a) where
  both_under : (i o : NameSet) → NamesUnder region.in_name i → NamesUnder region.out_name o → IsUnder region (both_of a b i o)
  both_under i o h k = record {
    in_name = h;
    out_name = k;
    src = and_in W (has region.src) a.src b.src u.src;
    dst = and_in W (has region.dst) a.dst b.dst u.dst;
    proto = and_in 8 (has region.proto) a.proto b.proto u.proto;
    sport = and_in 16 (has region.sport) a.sport b.sport u.sport;
    dport = and_in 16 (has region.dport) a.dport b.dport u.dport;
    flags = bits_in (has_bit region.flags) a.flags b.flags u.flags;
    state = bits_in (has_bit region.state) a.state b.state u.state;
    icmp = and_in 8 (has region.icmp) a.icmp b.icmp u.icmp;
  }

  common_by : (i o : Option NameSet) → IfSome i (NamesUnder region.in_name) → IfSome o (NamesUnder region.out_name) → IfSome (and_names a b i o) (IsUnder region)
  common_by None o h k = tt
  common_by (Some i) None h k = tt
  common_by (Some i) (Some o) h k = unless_under (is_none (both_of a b i o)) region (both_of a b i o) (both_under i o h k)

  common_under : IfSome (and_of a b) (IsUnder region)
  common_under = common_by (names_common a.in_name b.in_name) (names_common a.out_name b.out_name)
      (common_stays region.in_name a.in_name b.in_name u.in_name) (common_stays region.out_name a.out_name b.out_name u.out_name)

-- so far: each piece is under the region
record Pieces {W : ℕ} (region : Cube W) (pieces : List (Cube W)) : Type 0 where
  pub each : AllByRecursion (IsUnder region) pieces

next : {W : ℕ} (region : Cube W) (pieces : List (Cube W)) → Pieces region pieces → (piece : Cube W) → IsUnder region piece → Pieces region (pieces ++ kept piece)
next region pieces so piece u = record { each = each_append (IsUnder region) pieces (kept piece) so.each (kept_all (IsUnder region) piece (λ _. u)) }

with_names : {W : ℕ} (region : Cube W) (N : NameSet → Type 0) (with : NameSet → Cube W) → ((s : NameSet) → N s → IsUnder region (with s)) → (ss : List NameSet) → AllByRecursion N ss →
    AllByRecursion (IsUnder region) (flat_map (λ s. kept (with s)) ss)
with_names region N with f [] h = tt
with_names region N with f (s ∷ ss) h =
    each_append (IsUnder region) (kept (with s)) (flat_map (λ s. kept (with s)) ss) (kept_all (IsUnder region) (with s) (λ _. f s h.0)) (with_names region N with f ss h.1)

next_names : {W : ℕ} (region : Cube W) (pieces : List (Cube W)) → Pieces region pieces → (N : NameSet → Type 0) (with : NameSet → Cube W) → ((s : NameSet) → N s → IsUnder region (with s)) →
    (ss : List NameSet) → AllByRecursion N ss → Pieces region (pieces ++ flat_map (λ s. kept (with s)) ss)
next_names region pieces so N with f ss h =
    record { each = each_append (IsUnder region) pieces (flat_map (λ s. kept (with s)) ss) so.each (with_names region N with f ss h) }

made : {W : ℕ} (region c : Cube W) → NamesUnder region.in_name c.in_name → NamesUnder region.out_name c.out_name → AllIn (has region.src) (has c.src) → AllIn (has region.dst) (has c.dst) →
    AllIn (has region.proto) (has c.proto) → AllIn (has region.sport) (has c.sport) → AllIn (has region.dport) (has c.dport) → AllIn (has_bit region.flags) (has_bit c.flags) →
    AllIn (has_bit region.state) (has_bit c.state) → AllIn (has region.icmp) (has c.icmp) → IsUnder region c
made region c i o s d p q r f t k = record { in_name = i; out_name = o; src = s; dst = d; proto = p; sport = q; dport = r; flags = f; state = t; icmp = k }

rest_under : {W : ℕ} (region a b m : Cube W) → IsUnder region a → IsUnder region m → AllByRecursion (IsUnder region) (minus_common a b (Some m))
rest_under {W} region a b m u v =
    let s1 = next_names region [] (record { each = tt }) (NamesUnder region.in_name) (λ s. record a { in_name = s })
    (λ s n. made region (record a { in_name = s }) n u.out_name u.src u.dst u.proto u.sport u.dport u.flags u.state u.icmp)
    (names_less a.in_name b.in_name) (less_stay region.in_name a.in_name b.in_name u.in_name) in
    let s2 = next_names region _ s1 (NamesUnder region.out_name) (λ s. record (to_in_name m a) { out_name = s })
    (λ s n. made region (record (to_in_name m a) { out_name = s }) v.in_name n u.src u.dst u.proto u.sport u.dport u.flags u.state u.icmp)
    (names_less a.out_name b.out_name) (less_stay region.out_name a.out_name b.out_name u.out_name) in
    let c3 = record (to_out_name m a) { src = set_minus W a.src b.src } in
    let s3 = next region _ s2 c3 (made region c3 v.in_name v.out_name (minus_in W (has region.src) a.src b.src u.src) u.dst u.proto u.sport u.dport u.flags u.state u.icmp) in
    let c4 = record (to_src m a) { dst = set_minus W a.dst b.dst } in
    let s4 = next region _ s3 c4 (made region c4 v.in_name v.out_name v.src (minus_in W (has region.dst) a.dst b.dst u.dst) u.proto u.sport u.dport u.flags u.state u.icmp) in
    let c5 = record (to_dst m a) { proto = set_minus 8 a.proto b.proto } in
    let s5 = next region _ s4 c5 (made region c5 v.in_name v.out_name v.src v.dst (minus_in 8 (has region.proto) a.proto b.proto u.proto) u.sport u.dport u.flags u.state u.icmp) in
    let c6 = record (to_proto m a) { sport = set_minus 16 a.sport b.sport } in
    let s6 = next region _ s5 c6 (made region c6 v.in_name v.out_name v.src v.dst v.proto (minus_in 16 (has region.sport) a.sport b.sport u.sport) u.dport u.flags u.state u.icmp) in
    let c7 = record (to_sport m a) { dport = set_minus 16 a.dport b.dport } in
    let s7 = next region _ s6 c7 (made region c7 v.in_name v.out_name v.src v.dst v.proto v.sport (minus_in 16 (has region.dport) a.dport b.dport u.dport) u.flags u.state u.icmp) in
    let c8 = record (to_dport m a) { flags = bit_xor a.flags (bit_and a.flags b.flags) } in
    let s8 = next region _ s7 c8 (made region c8 v.in_name v.out_name v.src v.dst v.proto v.sport v.dport (bits_left_in (has_bit region.flags) a.flags b.flags u.flags) u.state u.icmp) in
    let c9 = record (to_flags m a) { state = bit_xor a.state (bit_and a.state b.state) } in
    let s9 = next region _ s8 c9 (made region c9 v.in_name v.out_name v.src v.dst v.proto v.sport v.dport v.flags (bits_left_in (has_bit region.state) a.state b.state u.state) u.icmp) in
    let c10 = record (to_state m a) { icmp = set_minus 8 a.icmp b.icmp } in
    (next region _ s9 c10 (made region c10 v.in_name v.out_name v.src v.dst v.proto v.sport v.dport v.flags v.state (minus_in 8 (has region.icmp) a.icmp b.icmp u.icmp))).each

minus_by : {W : ℕ} (region a b : Cube W) → IsUnder region a → (o : Option (Cube W)) → IfSome o (IsUnder region) → AllByRecursion (IsUnder region) (minus_common a b o)
minus_by region a b u None v = (u, tt)
minus_by region a b u (Some m) v = rest_under region a b m u v

minus_under : {W : ℕ} (region a b : Cube W) → IsUnder region a → AllByRecursion (IsUnder region) (minus_of a b)
minus_under region a b u = minus_by region a b u (and_of a b) (common_under region a b u)

pub pieces_under : {W : ℕ} (region cube : Cube W) (parts : List (Cube W)) → AllByRecursion (IsUnder region) parts → AllByRecursion (IsUnder region) (each_piece (λ c. minus_of c cube) parts)
pieces_under region cube [] h = tt
pieces_under region cube (c ∷ cs) h =
    each_append (IsUnder region) (minus_of c cube) (each_piece (λ d. minus_of d cube) cs) (minus_under region c cube h.0) (pieces_under region cube cs h.1)

-- what misses a cube misses what is under it
none_by : (f g h : Bool) → (h ≡ true → f ≡ true) → (f && g) ≡ false → (h && g) ≡ false
none_by f g h u e = grind (arith, u, e)

none_under : (f g h : ℕ → Bool) → AllIn f h → NoneOfBoth f g → NoneOfBoth h g
none_under f g h u e n = none_by (f n) (g n) (h n) (u n) (e n)

misses_under : {W : ℕ} (a c b : Cube W) → IsUnder a c → Misses a b → Misses c b
misses_under a c b u (InNames h) = InNames (names_miss_under a.in_name c.in_name b.in_name u.in_name h)
misses_under a c b u (OutNames h) = OutNames (names_miss_under a.out_name c.out_name b.out_name u.out_name h)
misses_under a c b u (Sources h) = Sources (none_under (has a.src) (has b.src) (has c.src) u.src h)
misses_under a c b u (Destinations h) = Destinations (none_under (has a.dst) (has b.dst) (has c.dst) u.dst h)
misses_under a c b u (Protocols h) = Protocols (none_under (has a.proto) (has b.proto) (has c.proto) u.proto h)
misses_under a c b u (SourcePorts h) = SourcePorts (none_under (has a.sport) (has b.sport) (has c.sport) u.sport h)
misses_under a c b u (DestinationPorts h) = DestinationPorts (none_under (has a.dport) (has b.dport) (has c.dport) u.dport h)
misses_under a c b u (Flags h) = Flags (none_under (has_bit a.flags) (has_bit b.flags) (has_bit c.flags) u.flags h)
misses_under a c b u (States h) = States (none_under (has_bit a.state) (has_bit b.state) (has_bit c.state) u.state h)
misses_under a c b u (Types h) = Types (none_under (has a.icmp) (has b.icmp) (has c.icmp) u.icmp h)

pub each_missed : {W : ℕ} (region cube : Cube W) (parts : List (Cube W)) → AllByRecursion (IsUnder region) parts → Misses region cube → AllByRecursion (λ c. Misses c cube) parts
each_missed region cube parts h m = each_weaker (IsUnder region) (λ c. Misses c cube) (λ c u. misses_under region c cube u m) parts h

-- cubes that miss one another have nothing in common
none_added : (b : Bool) (n : ℕ) (rs : List Range) → b ≡ false → (if b then with_last n rs else rs) ≡ rs
none_added true n rs h = absurd (grind (arith, h))
none_added false n rs h = refl

none_where : (f : ℕ → Bool) (end : ℕ) → ((n : ℕ) → f n ≡ false) → ranges_where f end ≡ []
unfolding ranges_where
none_where f zero h = refl
none_where f (suc n) h = none_added (f n) n (ranges_where f n) (h n) ∙ none_where f n h

no_numbers : (w : ℕ) (a b : List Range) → NoneOfBoth (has a) (has b) → set_and w a b ≡ []
unfolding set_and
no_numbers w a b h = none_where (λ n. has a n && has b n) (2 ^ w) h

no_bits : (a b : ℕ) → NoneOfBoth (has_bit a) (has_bit b) → bit_and a b ≡ 0
no_bits a b h = same_from_bits (bit_and a b) 0 (λ i.
    let e = bits_and a b i in
    let f = h i in
    let l = bit_at-lt (bit_and a b) i in
    let z = bit_at-zero i in
    grind (arith, nat_tests, e, f, l, z))

pub no_bits_both : (a b : ℕ) → bit_and a b ≡ 0 → NoneOfBoth (has_bit a) (has_bit b)
no_bits_both a b e i = sym (bits_and a b i) ∙ zero_bits (bit_and a b) e i

pub missed_none : {W : ℕ} (a b : Cube W) → Misses a b → and_of a b ≡ None
missed_none a b (InNames h) = apart_in_name a b (missed_names a.in_name b.in_name h)
missed_none a b (OutNames h) = apart_out_name a b (missed_names a.out_name b.out_name h)
missed_none {W} a b (Sources h) = apart_src a b (no_numbers W a.src b.src h)
missed_none {W} a b (Destinations h) = apart_dst a b (no_numbers W a.dst b.dst h)
missed_none a b (Protocols h) = apart_proto a b (no_numbers 8 a.proto b.proto h)
missed_none a b (SourcePorts h) = apart_sport a b (no_numbers 16 a.sport b.sport h)
missed_none a b (DestinationPorts h) = apart_dport a b (no_numbers 16 a.dport b.dport h)
missed_none a b (Flags h) = apart_flags a b (no_bits a.flags b.flags h)
missed_none a b (States h) = apart_state a b (no_bits a.state b.state h)
missed_none a b (Types h) = apart_icmp a b (no_numbers 8 a.icmp b.icmp h)

-- a cube that misses all regions leaves them as they are
pub missed_stay : {W : ℕ} (cube : Cube W) (regions : List (Cube W)) → AllByRecursion (λ c. Misses c cube) regions → each_piece (λ c. minus_of c cube) regions ≡ regions
missed_stay cube [] h = refl
missed_stay cube (c ∷ cs) h =
    ap (λ o. minus_common c cube o ++ each_piece (λ d. minus_of d cube) cs) (missed_none c cube h.0) ∙ ap (λ l. c ∷ l) (missed_stay cube cs h.1)
