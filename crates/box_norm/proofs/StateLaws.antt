-- The bits of states in what two cubes have in common, and in one without the other.
use Rattle.std.proofs.Common.{◌≡◌, ℕ, ◌<◌, List, [], ◌∷◌, ◌++◌, Bool, true, false, Option, None, Some, refl, sym, subst, bit_and, bit_xor}
use Rattle.std.specs.Prelude.{if◌then◌else◌, IfSome}
use Rattle.std.specs.List.{AllByRecursion, flat_map}
use Rattle.interval_set.specs.Spelling.{set_minus}
use Rattle.name_set.specs.declared.set.NameSet.{NameSet}
use Rattle.box_norm.specs.declared.cube.Cube.{Cube}
use Rattle.box_norm.specs.Cubes.{is_none, kept}
use Rattle.box_norm.specs.Overlaps.{names_common, names_less, both_of, and_names, and_of, to_in_name, to_out_name, to_src, to_dst, to_proto, to_sport, to_dport, to_flags, to_state, minus_common, minus_of}
use Rattle.box_norm.specs.Regular.{HasStates}
use Rattle.box_norm.proofs.RegularLaws.{kept_all, all_append}
use Rattle.box_norm.proofs.StayLaws.{and_states, less_states}

unless_states : {W : ℕ} (b : Bool) (c : Cube W) → HasStates c → IfSome (if b then None else Some c) HasStates
unless_states true c h = tt
unless_states false c h = h

names_states : {W : ℕ} (a b : Cube W) (i o : Option NameSet) → HasStates a → IfSome (and_names a b i o) HasStates
names_states a b None o h = tt
names_states a b (Some i) None h = tt
names_states a b (Some i) (Some o) h = unless_states (is_none (both_of a b i o)) (both_of a b i o) (and_states a.state b.state h)

pub some_states : {W : ℕ} (o : Option (Cube W)) (a b : Cube W) → o ≡ and_of a b → HasStates a → IfSome o HasStates
some_states o a b e h = subst (λ z. IfSome z HasStates) (sym e) (names_states a b (names_common a.in_name b.in_name) (names_common a.out_name b.out_name) h)

all_flat : {X Y : Type 0} (Q : Y → Type 0) (f : X → List Y) → ((x : X) → AllByRecursion Q (f x)) → (xs : List X) → AllByRecursion Q (flat_map f xs)
all_flat Q f h [] = tt
all_flat Q f h (x ∷ xs) = all_append Q (f x) (flat_map f xs) (h x) (all_flat Q f h xs)

piece_states : {W : ℕ} (c : Cube W) → c.state < 32 → AllByRecursion HasStates (kept c)
piece_states c h = kept_all HasStates c (λ _. h)

-- so far: each piece has them
record Low {W : ℕ} (pieces : List (Cube W)) : Type 0 where
  pub each : AllByRecursion HasStates pieces

next : {W : ℕ} (pieces : List (Cube W)) → Low pieces → (piece : Cube W) → piece.state < 32 → Low (pieces ++ kept piece)
next pieces so piece h = record { each = all_append HasStates pieces (kept piece) so.each (piece_states piece h) }

next_names : {W : ℕ} (pieces : List (Cube W)) → Low pieces → (with : NameSet → Cube W) → ((s : NameSet) → (with s).state < 32) → (ss : List NameSet) → Low (pieces ++ flat_map (λ s. kept (with s)) ss)
next_names pieces so with h ss =
    record { each = all_append HasStates pieces (flat_map (λ s. kept (with s)) ss) so.each (all_flat HasStates (λ s. kept (with s)) (λ s. piece_states (with s) (h s)) ss) }

rest_states : {W : ℕ} (a b m : Cube W) → a.state < 32 → m.state < 32 → AllByRecursion HasStates (minus_common a b (Some m))
rest_states {W} a b m h k =
    let s1 = next_names [] (record { each = tt }) (λ s. record a { in_name = s }) (λ s. h) (names_less a.in_name b.in_name) in
    let s2 = next_names _ s1 (λ s. record (to_in_name m a) { out_name = s }) (λ s. h) (names_less a.out_name b.out_name) in
    let s3 = next _ s2 (record (to_out_name m a) { src = set_minus W a.src b.src }) h in
    let s4 = next _ s3 (record (to_src m a) { dst = set_minus W a.dst b.dst }) h in
    let s5 = next _ s4 (record (to_dst m a) { proto = set_minus 8 a.proto b.proto }) h in
    let s6 = next _ s5 (record (to_proto m a) { sport = set_minus 16 a.sport b.sport }) h in
    let s7 = next _ s6 (record (to_sport m a) { dport = set_minus 16 a.dport b.dport }) h in
    let s8 = next _ s7 (record (to_dport m a) { flags = bit_xor a.flags (bit_and a.flags b.flags) }) h in
    let s9 = next _ s8 (record (to_flags m a) { state = bit_xor a.state (bit_and a.state b.state) }) (less_states a.state b.state h) in
    (next _ s9 (record (to_state m a) { icmp = set_minus 8 a.icmp b.icmp }) k).each

common_states : {W : ℕ} (a b : Cube W) (o : Option (Cube W)) → HasStates a → IfSome o HasStates → AllByRecursion HasStates (minus_common a b o)
common_states a b None h k = (h, tt)
common_states a b (Some m) h k = rest_states a b m h k

pub minus_states : {W : ℕ} (a b : Cube W) → HasStates a → AllByRecursion HasStates (minus_of a b)
minus_states a b h = common_states a b (and_of a b) h (some_states (and_of a b) a b refl h)
