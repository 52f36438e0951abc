-- The dimensions of a cube, by an index: what is said of one of them is said once.
use Rattle.std.proofs.Common.{◌≡◌, ℕ, zero, suc, List, [], ◌∷◌, Bool, true, false, ◌&&◌, refl, sym, ◌∙◌, ap, arith}
use Rattle.basics.proofs.Truths.{and_one}
use Rattle.interval_set.specs.declared.set.Range.{Range}
use Rattle.interval_set.specs.Numbers.{has}
use Rattle.name_set.specs.declared.set.NameSet.{NameSet}
use Rattle.name_set.specs.Names.{has_name}
use Rattle.primitives.specs.declared.prim.Packet.{Packet}
use Rattle.primitives.specs.Holds.{has_bit}
use Rattle.box_norm.specs.declared.cube.Cube.{Cube}
use Rattle.box_norm.specs.Cubes.{holds_cube}

pub data Dim : Type 0 where
  InName : Dim
  OutName : Dim
  Src : Dim
  Dst : Dim
  Proto : Dim
  Sport : Dim
  Dport : Dim
  Flags : Dim
  State : Dim
  Types : Dim

abbrev pub place : Dim → ℕ
place Dim.InName = 0
place Dim.OutName = 1
place Dim.Src = 2
place Dim.Dst = 3
place Dim.Proto = 4
place Dim.Sport = 5
place Dim.Dport = 6
place Dim.Flags = 7
place Dim.State = 8
place Dim.Types = 9

-- what a cube has for each
abbrev pub Value : Dim → Type 0
Value Dim.InName = NameSet
Value Dim.OutName = NameSet
Value Dim.Src = List Range
Value Dim.Dst = List Range
Value Dim.Proto = List Range
Value Dim.Sport = List Range
Value Dim.Dport = List Range
Value Dim.Flags = ℕ
Value Dim.State = ℕ
Value Dim.Types = List Range

-- whether the packet has one of these values
abbrev pub has_value : (d : Dim) → Value d → Packet → Bool
has_value Dim.InName v p = has_name v p.in_name
has_value Dim.OutName v p = has_name v p.out_name
has_value Dim.Src v p = has v p.src
has_value Dim.Dst v p = has v p.dst
has_value Dim.Proto v p = has v p.proto
has_value Dim.Sport v p = has v p.sport
has_value Dim.Dport v p = has v p.dport
has_value Dim.Flags v p = has_bit v p.flags
has_value Dim.State v p = has_bit v p.state
has_value Dim.Types v p = has v p.icmp

-- the cube with these values in one dimension
abbrev pub put : {W : ℕ} (d : Dim) → Cube W → Value d → Cube W
put Dim.InName c v = record c { in_name = v }
put Dim.OutName c v = record c { out_name = v }
put Dim.Src c v = record c { src = v }
put Dim.Dst c v = record c { dst = v }
put Dim.Proto c v = record c { proto = v }
put Dim.Sport c v = record c { sport = v }
put Dim.Dport c v = record c { dport = v }
put Dim.Flags c v = record c { flags = v }
put Dim.State c v = record c { state = v }
put Dim.Types c v = record c { icmp = v }

-- for each dimension in turn, whether it has the packet's value
abbrev pub tests : {W : ℕ} → Cube W → Packet → List Bool
tests c p = has_name c.in_name p.in_name ∷ has_name c.out_name p.out_name ∷ has c.src p.src ∷ has c.dst p.dst ∷
    has c.proto p.proto ∷ has c.sport p.sport ∷ has c.dport p.dport ∷ has_bit c.flags p.flags ∷ has_bit c.state p.state ∷ has c.icmp p.icmp ∷ []

abbrev pub all : List Bool → Bool
all [] = true
all (x ∷ xs) = x && all xs

abbrev pub nth : List Bool → ℕ → Bool
nth [] i = true
nth (x ∷ xs) zero = x
nth (x ∷ xs) (suc i) = nth xs i

abbrev pub others : List Bool → ℕ → List Bool
others [] i = []
others (x ∷ xs) zero = xs
others (x ∷ xs) (suc i) = x ∷ others xs i

-- whether this dimension has the packet's value, and whether all others have
abbrev pub fits_in : {W : ℕ} → Dim → Cube W → Packet → Bool
fits_in d c p = nth (tests c p) (place d)

abbrev pub fits_else : {W : ℕ} → Dim → Cube W → Packet → Bool
fits_else d c p = all (others (tests c p) (place d))

swapped : (x y b : Bool) → (x && (y && b)) ≡ (y && (x && b))
swapped true y b = refl
swapped false true b = refl
swapped false false b = refl

one_apart : (xs : List Bool) (i : ℕ) → all xs ≡ (nth xs i && all (others xs i))
one_apart [] i = refl
one_apart (x ∷ xs) zero = refl
one_apart (x ∷ xs) (suc i) = ap (λ b. x && b) (one_apart xs i) ∙ swapped x (nth xs i) (all (others xs i))

ended : (a b c d e f g h i j : Bool) → (a && (b && (c && (d && (e && (f && (g && (h && (i && j))))))))) ≡ all (a ∷ b ∷ c ∷ d ∷ e ∷ f ∷ g ∷ h ∷ i ∷ j ∷ [])
ended a b c d e f g h i j = ap (λ x. a && (b && (c && (d && (e && (f && (g && (h && (i && x))))))))) (and_one j)

pub holds_all : {W : ℕ} (c : Cube W) (p : Packet) → holds_cube c p ≡ all (tests c p)
holds_all c p = ended (has_name c.in_name p.in_name) (has_name c.out_name p.out_name) (has c.src p.src) (has c.dst p.dst)
    (has c.proto p.proto) (has c.sport p.sport) (has c.dport p.dport) (has_bit c.flags p.flags) (has_bit c.state p.state) (has c.icmp p.icmp)

-- each value is that of both lists
abbrev pub AreBoth : List Bool → List Bool → List Bool → Type 0
AreBoth [] [] [] = Unit {0}
AreBoth (x ∷ xs) (y ∷ ys) (z ∷ zs) = (z ≡ (x && y)) × AreBoth xs ys zs
AreBoth xs ys zs = ⊥

two : (x y s t z r : Bool) → z ≡ (x && s) → r ≡ (y && t) → (z && r) ≡ ((x && y) && (s && t))
two x y s t z r e f = grind (arith, e, f)

pub all_both : (xs ys zs : List Bool) → AreBoth xs ys zs → all zs ≡ (all xs && all ys)
all_both [] [] [] h = refl
all_both (x ∷ xs) (y ∷ ys) (z ∷ zs) h = two x (all xs) y (all ys) z (all zs) h.0 (all_both xs ys zs h.1)
all_both [] [] (z ∷ zs) h = absurd h
all_both [] (y ∷ ys) [] h = absurd h
all_both [] (y ∷ ys) (z ∷ zs) h = absurd h
all_both (x ∷ xs) [] [] h = absurd h
all_both (x ∷ xs) [] (z ∷ zs) h = absurd h
all_both (x ∷ xs) (y ∷ ys) [] h = absurd h

-- a packet is in a cube where it fits in one dimension and in all others
pub holds_by : {W : ℕ} (d : Dim) (c : Cube W) (p : Packet) → holds_cube c p ≡ (fits_in d c p && fits_else d c p)
holds_by d c p = holds_all c p ∙ one_apart (tests c p) (place d)

pub put_fits : {W : ℕ} (d : Dim) (c : Cube W) (v : Value d) (p : Packet) → fits_in d (put d c v) p ≡ has_value d v p
put_fits Dim.InName c v p = refl
put_fits Dim.OutName c v p = refl
put_fits Dim.Src c v p = refl
put_fits Dim.Dst c v p = refl
put_fits Dim.Proto c v p = refl
put_fits Dim.Sport c v p = refl
put_fits Dim.Dport c v p = refl
put_fits Dim.Flags c v p = refl
put_fits Dim.State c v p = refl
put_fits Dim.Types c v p = refl

pub put_else : {W : ℕ} (d : Dim) (c : Cube W) (v : Value d) (p : Packet) → fits_else d (put d c v) p ≡ fits_else d c p
put_else Dim.InName c v p = refl
put_else Dim.OutName c v p = refl
put_else Dim.Src c v p = refl
put_else Dim.Dst c v p = refl
put_else Dim.Proto c v p = refl
put_else Dim.Sport c v p = refl
put_else Dim.Dport c v p = refl
put_else Dim.Flags c v p = refl
put_else Dim.State c v p = refl
put_else Dim.Types c v p = refl

pub put_holds : {W : ℕ} (d : Dim) (c : Cube W) (v : Value d) (p : Packet) → holds_cube (put d c v) p ≡ (has_value d v p && fits_else d c p)
put_holds d c v p = holds_by d (put d c v) p ∙ ap (λ x. x && fits_else d (put d c v) p) (put_fits d c v p) ∙ ap (λ y. has_value d v p && y) (put_else d c v p)

pub more_asked : (x y t x' : Bool) → x' ≡ (x && t) → (x' && y) ≡ ((x && y) && t)
more_asked x y t x' e = grind (arith, e)

-- one dimension changed, the others kept
pub one_changed : {W : ℕ} (d : Dim) (c : Cube W) (p : Packet) (t : Bool) (v : Value d) → has_value d v p ≡ (fits_in d c p && t) → holds_cube (put d c v) p ≡ (holds_cube c p && t)
one_changed d c p t v e = put_holds d c v p ∙ more_asked (fits_in d c p) (fits_else d c p) t _ e ∙ ap (λ b. b && t) (sym (holds_by d c p))
