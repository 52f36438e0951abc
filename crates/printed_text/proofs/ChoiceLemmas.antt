-- What each line of a cube can say.
use Rattle.std.proofs.Common.{◌≡◌, ◌≢◌, ◌∙◌, ◌++◌, ◌∷◌, ◌+◌, ◌-◌, ◌*◌, ◌^◌, ◌<◌, ◌==◌, ◌⊎◌, [], ℕ, zero, suc, List, Bool, true, false, inl, inr, nat_le, refl, sym, ap, subst, arith, decimal, map, if◌then◌else◌, Contains, lit<}
use Rattle.std.specs.List.{AllByRecursion}
use Rattle.std.proofs.lemmas.List.Elements.{All-contains, All-from_recursion}
use Rattle.std.proofs.lemmas.Bool.{eqb-true}
use Rattle.interval_set.specs.declared.set.Range.{Range}
use Rattle.interval_set.specs.Numbers.{IsSet}
use Rattle.primitives.specs.Holds.{has_bit}
use Rattle.primitives.specs.Ports.{HasPorts}
use Rattle.box_norm.specs.declared.cube.Cube.{Cube}
use Rattle.box_norm.specs.Pieces.{single}
use Rattle.box_norm.specs.Regular.{HasPortsAlone, IsRegular, full}
use Rattle.dump_grammar.specs.Arguments.{IsPortList, IsPortRange}
use Rattle.dump_print.specs.declared.flags.FlagCube.{FlagCube}
use Rattle.dump_print.specs.declared.numbers.Numbers.{Numbers}
use Rattle.primitives.specs.Ranges.{IsRange}
use Rattle.dump_print.specs.Addresses.{is_everything}
use Rattle.dump_print.specs.CubeLines.{axes_of, choices_of}
use Rattle.dump_print.specs.Flags.{all_below, beside, cubes_of, flag_cubes, same_truth}
use Rattle.dump_print.specs.Parts.{Axes, Choice, between, choices_in, with_destinations, with_dports, with_flags, with_sports}
use Rattle.dump_print.specs.PortCover.{CoverPorts}
use Rattle.dump_print.specs.Ports.{Ports, chunks, has_port_module, port_choices, port_list, weight_of}
use Rattle.dump_print.specs.Numbers.{protocols_of}
use Rattle.box_norm.specs.Sets.{HasSets}
use Rattle.primitives.proofs.RangeLemmas.{ranges_of}
use Rattle.printed_text.proofs.NumberSets.{single_only}
use Rattle.printed_text.proofs.PortParts.{HasOnePorts, IsFlagCube, IsReadable}
use Rattle.basics.proofs.Lists.{each_append}
use Rattle.printed_text.proofs.ListLemmas.{flat_since, map_since}

-- ---- the choices
-- each part of what the line says can be said
pub record IsSayable (W : ℕ) (protocols : Numbers) (line : Choice) : Type 0 where
  pub source : IsRange W line.source
  pub destination : IsRange W line.destination
  pub sports : IsReadable protocols line.sports
  pub dports : IsReadable protocols line.dports
  pub flags : IsFlagCube protocols line.flags

-- so can each part of what the lines say
record AreSayable (W : ℕ) (protocols : Numbers) (axes : Axes) : Type 0 where
  sources : AllByRecursion (IsRange W) axes.sources
  destinations : AllByRecursion (IsRange W) axes.destinations
  sports : AllByRecursion (IsReadable protocols) axes.sports
  dports : AllByRecursion (IsReadable protocols) axes.dports
  flags : AllByRecursion (IsFlagCube protocols) axes.flags

module _ (W : ℕ) (protocols : Numbers) (axes : Axes) (are : AreSayable W protocols axes) where
  flags_sayable : (line : Choice) → IsRange W line.source → IsRange W line.destination → IsReadable protocols line.sports → IsReadable protocols line.dports
      → AllByRecursion (IsSayable W protocols) (with_flags line axes.flags)
  flags_sayable line source destination sports dports =
      map_since (IsFlagCube protocols) (IsSayable W protocols) (λ cube. record line { flags = cube })
      (λ cube is. record { source = source; destination = destination; sports = sports; dports = dports; flags = is }) axes.flags are.flags

  dports_sayable : (line : Choice) → IsRange W line.source → IsRange W line.destination → IsReadable protocols line.sports
      → AllByRecursion (IsSayable W protocols) (with_dports line axes)
  dports_sayable line source destination sports =
      flat_since (IsReadable protocols) (IsSayable W protocols) (λ ports. with_flags (record line { dports = ports }) axes.flags)
      (λ ports is. flags_sayable (record line { dports = ports }) source destination sports is) axes.dports are.dports

  sports_sayable : (line : Choice) → IsRange W line.source → IsRange W line.destination → AllByRecursion (IsSayable W protocols) (with_sports line axes)
  sports_sayable line source destination =
      flat_since (IsReadable protocols) (IsSayable W protocols) (λ ports. with_dports (record line { sports = ports }) axes)
      (λ ports is. dports_sayable (record line { sports = ports }) source destination is) axes.sports are.sports

  destinations_sayable : (source : Range) → IsRange W source → AllByRecursion (IsSayable W protocols) (with_destinations source axes)
  destinations_sayable source is =
      flat_since (IsRange W) (IsSayable W protocols) (λ destination. with_sports (between source destination) axes)
      (λ destination same. sports_sayable (between source destination) is same) axes.destinations are.destinations

  all_sayable : AllByRecursion (IsSayable W protocols) (choices_in axes)
  all_sayable = flat_since (IsRange W) (IsSayable W protocols) (λ source. with_destinations source axes) destinations_sayable axes.sources are.sources

-- ---- ports
read_port : (r : Range) → IsRange 16 r → (b : Bool) → (r.lo == r.hi) ≡ b → IsPortRange (if b then decimal r.lo else decimal r.lo ++ 58 ∷ decimal r.hi) r
read_port r is true e = (omega (arith, is.1), inl (refl, eqb-true r.lo r.hi e))
read_port r is false e = (omega (arith, is.1), inr (refl, is.0))

one_chunk : (P : List Range → Type 0) (r : Range) (b : Bool) → AllByRecursion P (if b then (r ∷ []) ∷ [] else [] ∷ (r ∷ []) ∷ []) → P (r ∷ [])
one_chunk P r true p = p.0
one_chunk P r false p = p.1.0

module _ (protocols : Numbers) (has : HasOnePorts protocols) where
  list_readable : (lists : List (List Range)) → AllByRecursion (λ chunk. IsPortList (port_list chunk) chunk) lists → AllByRecursion (IsReadable protocols) (map Ports.Listed lists)
  list_readable lists are = map_since (λ chunk. IsPortList (port_list chunk) chunk) (IsReadable protocols) Ports.Listed (λ chunk is. (is, has)) lists are

  one_readable : (r : Range) → IsRange 16 r → CoverPorts (r ∷ []) → (everything own : Bool)
      → AllByRecursion (IsReadable protocols) (if everything then Ports.Every ∷ [] else if own then Ports.Single r ∷ [] else Ports.Listed (r ∷ []) ∷ [])
  one_readable r is cover true own = (tt, tt)
  one_readable r is cover false true = (read_port r is (r.lo == r.hi) refl, tt)
  one_readable r is cover false false =
      ((one_chunk (λ chunk. IsPortList (port_list chunk) chunk) r (nat_le (weight_of ([] ++ r ∷ [])) 15) cover.read, has), tt)

  some_readable : (rs : List Range) → IsSet 16 rs → CoverPorts rs → AllByRecursion (IsReadable protocols) (port_choices protocols rs)
  some_readable [] is cover = list_readable (chunks []) cover.read
  some_readable (r ∷ []) is cover = let ends = is.1 in one_readable r (ends.1, ends.2) cover (is_everything 16 r) (has_port_module protocols)
  some_readable (r ∷ s ∷ rs) is cover = list_readable (chunks (r ∷ s ∷ rs)) cover.read

ports_some : (n : ℕ) → HasPorts n → n ≢ 0
ports_some n (inl e) = omega (arith, e)
ports_some n (inr (inl e)) = omega (arith, e)
ports_some n (inr (inr (inl e))) = omega (arith, e)
ports_some n (inr (inr (inr (inl e)))) = omega (arith, e)
ports_some n (inr (inr (inr (inr e)))) = omega (arith, e)

ports_alone : (protos : List Range) → HasPortsAlone protos → HasOnePorts (protocols_of protos)
ports_alone protos (n, has, e) = subst HasOnePorts (sym (ap protocols_of e ∙ single_only 0 n (ports_some n has))) has

ports_readable : (protos rs : List Range) → IsSet 16 rs → CoverPorts rs → (rs ≡ full 16) ⊎ HasPortsAlone protos
    → AllByRecursion (IsReadable (protocols_of protos)) (port_choices (protocols_of protos) rs)
ports_readable protos rs is cover (inl e) = subst (λ (xs : List Range). AllByRecursion (IsReadable (protocols_of protos)) (port_choices (protocols_of protos) xs)) (sym e) (tt, tt)
ports_readable protos rs is cover (inr alone) = some_readable (protocols_of protos) (ports_alone protos alone) rs is cover

-- ---- flags
-- numbers of so many flags
abbrev IsWithin : ℕ → FlagCube → Type 0
IsWithin count cube = (cube.mask < 2 ^ count) × (cube.comp < 2 ^ count)

beside_within : (count mask comp : ℕ) → mask < 2 → comp < 2 → (cubes : List FlagCube) → AllByRecursion (IsWithin count) cubes
    → AllByRecursion (IsWithin (suc count)) (map (beside mask comp) cubes)
beside_within count mask comp s t cubes are =
    map_since (IsWithin count) (IsWithin (suc count)) (beside mask comp) (λ cube is. (omega (arith, is.0, s), omega (arith, is.1, t))) cubes are

cubes_first : (b : Bool) → AllByRecursion (IsWithin 0) (if b then record { mask = 0; comp = 0 } ∷ [] else [])
cubes_first true = ((lit< tt, lit< tt), tt)
cubes_first false = tt

cubes_step : (count : ℕ) (b : Bool) (even odd : List FlagCube) → AllByRecursion (IsWithin count) even → AllByRecursion (IsWithin count) odd
    → AllByRecursion (IsWithin (suc count)) (if b then map (beside 0 0) even else map (beside 1 0) even ++ map (beside 1 1) odd)
cubes_step count true even odd p q = beside_within count 0 0 (lit< tt) (lit< tt) even p
cubes_step count false even odd p q =
    each_append (IsWithin (suc count)) (map (beside 1 0) even) (map (beside 1 1) odd) (beside_within count 1 0 (lit< tt) (lit< tt) even p) (beside_within count 1 1 (lit< tt) (lit< tt) odd q)

cubes_within : (count : ℕ) (has : ℕ → Bool) → AllByRecursion (IsWithin count) (flag_cubes count has)
unfolding flag_cubes
cubes_within zero has = cubes_first (has 0)
cubes_within (suc count) has =
    cubes_step count (all_below (2 ^ count) (λ n. same_truth (has (2 * n)) (has (2 * n + 1)))) (flag_cubes count (λ n. has (2 * n))) (flag_cubes count (λ n. has (2 * n + 1)))
    (cubes_within count (λ n. has (2 * n))) (cubes_within count (λ n. has (2 * n + 1)))

flags_of_tcp : (cubes : List FlagCube) → AllByRecursion (IsWithin 6) cubes → AllByRecursion (IsFlagCube (Numbers.Only 6)) cubes
flags_of_tcp [] are = tt
flags_of_tcp (cube ∷ cubes) are = ((are.0.0, are.0.1, inr refl), flags_of_tcp cubes are.1)

every_flag : cubes_of (2 ^ 64 - 1) ≡ record { mask = 0; comp = 0 } ∷ []
unfolding flag_cubes
every_flag = refl

flags_sayable_of : (protos : List Range) (flags : ℕ) → (flags ≡ 2 ^ 64 - 1) ⊎ (protos ≡ single 6) → AllByRecursion (IsFlagCube (protocols_of protos)) (cubes_of flags)
flags_sayable_of protos flags (inl e) =
    subst (λ (cubes : List FlagCube). AllByRecursion (IsFlagCube (protocols_of protos)) cubes) (sym (ap cubes_of e ∙ every_flag)) ((lit< tt, lit< tt, inl refl), tt)
flags_sayable_of protos flags (inr e) =
    subst (λ (protocols : Numbers). AllByRecursion (IsFlagCube protocols) (cubes_of flags)) (sym (ap protocols_of e ∙ single_only 0 6 (omega arith)))
    (flags_of_tcp (cubes_of flags) (cubes_within 6 (has_bit flags)))

-- ---- the lines of a cube
pub line_sayable : {W : ℕ} (cube : Cube W) (line : Choice) → ((rs : List Range) → IsSet 16 rs → CoverPorts rs) → HasSets cube → IsRegular cube
    → Contains (choices_of cube) line → IsSayable W (protocols_of cube.proto) line
line_sayable {W} cube line kept sets regular there =
    All-contains (IsSayable W (protocols_of cube.proto)) (choices_of cube) line
    (All-from_recursion (IsSayable W (protocols_of cube.proto)) (choices_of cube) (all_sayable W (protocols_of cube.proto) (axes_of cube) (record {
      sources = ranges_of W 0 cube.src sets.source.1;
      destinations = ranges_of W 0 cube.dst sets.destination.1;
      sports = ports_readable cube.proto cube.sport sets.sports (kept cube.sport sets.sports) regular.sport;
      dports = ports_readable cube.proto cube.dport sets.dports (kept cube.dport sets.dports) regular.dport;
      flags = flags_sayable_of cube.proto cube.flags regular.flags;
    }))) there
