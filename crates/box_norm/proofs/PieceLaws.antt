-- The pieces of a cube hold the packets of the cube where the test holds, or where it doesn't.
use Rattle.std.proofs.Common.{◌≡◌, ℕ, zero, suc, ◌%◌, ◌+◌, ◌^◌, ◌<◌, ◌==◌, List, [], ◌∷◌, ◌++◌, Bool, true, false, not, ◌&&◌, ◌||◌, Option, None, Some, refl, sym, ◌∙◌, ap, arith, min, bit_and, bit_xor}
use Rattle.std.specs.Prelude.{if◌then◌else◌}
use Rattle.std.specs.Int.{bit_at}
use Rattle.std.proofs.lemmas.Bool.Decides.{nat_tests}
use Rattle.std.proofs.lemmas.Nat.Bits.{bit_at_and, bit_at_xor, bit_at-lt, bit_at-zero}
use Rattle.basics.proofs.Truths.{and_false, and_one}
use Rattle.interval_set.specs.declared.set.Range.{Range}
use Rattle.interval_set.specs.Numbers.{has}
use Rattle.interval_set.specs.Spelling.{set_and, set_minus}
use Rattle.interval_set.proofs.Spelling.{and_has, minus_has}
use Rattle.name_set.specs.declared.set.NameSet.{NameSet}
use Rattle.name_set.specs.Patterns.{fits}
use Rattle.name_set.specs.Names.{has_name, has_name_some, cut_of, cut_not_of}
use Rattle.name_set.proofs.Cuts.{covered_fits, cut_names, cut_not_names}
use Rattle.primitives.specs.declared.prim.Packet.{Packet}
use Rattle.primitives.specs.declared.prim.Prim_.{Prim_}
use Rattle.primitives.specs.Holds.{has_bit, holds_of, IsValid}
use Rattle.box_norm.specs.declared.cube.Cube.{Cube}
use Rattle.box_norm.specs.Cubes.{holds_cube, any_holds, is_none, has_no_range, has_no_name, kept}
use Rattle.box_norm.specs.Pieces.{single, flags_where, kept_in, kept_out, cut_pieces, omit_pieces}
use Rattle.box_norm.proofs.Dims.{Dim, Value, has_value, put, fits_in, fits_else, holds_by, put_holds, more_asked, one_changed}
use Rattle.box_norm.proofs.Flags.{flags_has}

pub any_append : {W : ℕ} (a b : List (Cube W)) (p : Packet) → any_holds (a ++ b) p ≡ (any_holds a p || any_holds b p)
any_append [] b p = refl
any_append (c ∷ a) b p = let ih = any_append a b p in grind (arith, ih)

no_range_has : (rs : List Range) (n : ℕ) → has_no_range rs ≡ true → has rs n ≡ false
no_range_has [] n h = refl
no_range_has (r ∷ rs) n h = absurd (grind (arith, h))

no_name_has : (s : NameSet) (n : List ℕ) → has_no_name s ≡ true → has_name s n ≡ false
no_name_has s n h = let f = covered_fits s.excluded s.base n h in grind (arith, f)

no_bit : (b i : ℕ) → (b == 0) ≡ true → has_bit b i ≡ false
no_bit b i h = let e : b ≡ 0 = grind (arith, nat_tests, h) in rw e (let z = bit_at-zero i in grind (arith, nat_tests, z))

-- of two dimensions, each of which holds nothing where it is empty
one_none : (x y h t : Bool) → (x ≡ true → h ≡ false) → (y ≡ true → t ≡ false) → (x || y) ≡ true → (h && t) ≡ false
one_none x y h t f g e = grind (arith, f, g, e)

-- no packet is in an empty cube
pub none_holds : {W : ℕ} (c : Cube W) (p : Packet) → is_none c ≡ true → holds_cube c p ≡ false
none_holds c p =
    one_none (has_no_name c.in_name) _ (has_name c.in_name p.in_name) _ (no_name_has c.in_name p.in_name)
    (one_none (has_no_name c.out_name) _ (has_name c.out_name p.out_name) _ (no_name_has c.out_name p.out_name)
    (one_none (has_no_range c.src) _ (has c.src p.src) _ (no_range_has c.src p.src)
    (one_none (has_no_range c.dst) _ (has c.dst p.dst) _ (no_range_has c.dst p.dst)
    (one_none (has_no_range c.proto) _ (has c.proto p.proto) _ (no_range_has c.proto p.proto)
    (one_none (has_no_range c.sport) _ (has c.sport p.sport) _ (no_range_has c.sport p.sport)
    (one_none (has_no_range c.dport) _ (has c.dport p.dport) _ (no_range_has c.dport p.dport)
    (one_none (c.flags == 0) _ (has_bit c.flags p.flags) _ (no_bit c.flags p.flags)
    (one_none (c.state == 0) _ (has_bit c.state p.state) _ (no_bit c.state p.state) (no_range_has c.icmp p.icmp)))))))))

or_none : (b : Bool) → (b || false) ≡ b
or_none true = refl
or_none false = refl

kept_by : {W : ℕ} (b : Bool) (c : Cube W) (p : Packet) → is_none c ≡ b → any_holds (if b then [] else c ∷ []) p ≡ holds_cube c p
kept_by true c p h = sym (none_holds c p h)
kept_by false c p h = or_none (holds_cube c p)

pub kept_holds : {W : ℕ} (c : Cube W) (p : Packet) → any_holds (kept c) p ≡ holds_cube c p
kept_holds c p = kept_by (is_none c) c p refl

parted : (h s t a b : Bool) → a ≡ (h && not s) → b ≡ (h && (s && not t)) → (a || b) ≡ (h && not (s && t))
parted h s t a b e f = grind (arith, e, f)

pub and_within : (w : ℕ) (a b : List Range) (n : ℕ) → n < 2 ^ w → has (set_and w a b) n ≡ (has a n && has b n)
and_within w a b n h = let e = and_has w a b n in grind (arith, nat_tests, e, h)

pub minus_within : (w : ℕ) (a b : List Range) (n : ℕ) → n < 2 ^ w → has (set_minus w a b) n ≡ (has a n && not (has b n))
minus_within w a b n h = let e = minus_has w a b n in grind (arith, nat_tests, e, h)

single_has : (m n : ℕ) → has (single m) n ≡ (n == m)
single_has m n = grind (arith, nat_tests)

and_single : (a : List Range) (m n : ℕ) → n < 256 → has (set_and 8 a (single m)) n ≡ (has a n && (n == m))
and_single a m n h = and_within 8 a (single m) n h ∙ ap (λ b. has a n && b) (single_has m n)

minus_single : (a : List Range) (m n : ℕ) → n < 256 → has (set_minus 8 a (single m)) n ≡ (has a n && not (n == m))
minus_single a m n h = minus_within 8 a (single m) n h ∙ ap (λ b. has a n && not b) (single_has m n)

pub bits_and : (a b i : ℕ) → has_bit (bit_and a b) i ≡ (has_bit a i && has_bit b i)
bits_and a b i = let e = bit_at_and a b i in let f = bit_at-lt a i in let g = bit_at-lt b i in grind (arith, nat_tests, e, f, g)

xored : (a b m x : ℕ) → a < 2 → b < 2 → m ≡ min a b → x ≡ (a + m) % 2 → (x == 1) ≡ ((a == 1) && not (b == 1))
xored zero b m x h k e f = let g : m ≡ 0 = omega (arith, e) in let i : x ≡ 0 = f ∙ rw g refl in grind (arith, nat_tests, i)
xored (suc zero) zero m x h k e f = let g : m ≡ 0 = omega (arith, e) in let i : x ≡ 1 = f ∙ rw g refl in grind (arith, nat_tests, i)
xored (suc zero) (suc zero) m x h k e f = let g : m ≡ 1 = omega (arith, e) in let i : x ≡ 0 = f ∙ rw g refl in grind (arith, nat_tests, i)
xored (suc zero) (suc (suc b)) m x h k e f = absurd (omega arith)
xored (suc (suc a)) b m x h k e f = absurd (omega arith)

pub bits_less : (a b i : ℕ) → has_bit (bit_xor a (bit_and a b)) i ≡ (has_bit a i && not (has_bit b i))
bits_less a b i =
    let e = bit_at_and a b i in let x = bit_at_xor a (bit_and a b) i in let f = bit_at-lt a i in let g = bit_at-lt b i in
    xored (bit_at a i) (bit_at b i) (bit_at (bit_and a b) i) (bit_at (bit_xor a (bit_and a b)) i) f g e x

-- one dimension changed, unless the cube is empty
pub kept_changed : {W : ℕ} (d : Dim) (c : Cube W) (p : Packet) (t : Bool) (v : Value d) → has_value d v p ≡ (fits_in d c p && t) → any_holds (kept (put d c v)) p ≡ (holds_cube c p && t)
kept_changed d c p t v e = kept_holds (put d c v) p ∙ one_changed d c p t v e

-- the cube with these names put in, where there are any
abbrev pub kept_some : {W : ℕ} → (NameSet → Cube W) → Option NameSet → List (Cube W)
kept_some with None = []
kept_some with (Some names) = kept (with names)

pub in_some : {W : ℕ} (c : Cube W) (o : Option NameSet) → kept_in c o ≡ kept_some (λ s. record c { in_name = s }) o
in_some c None = refl
in_some c (Some s) = refl

pub out_some : {W : ℕ} (c : Cube W) (o : Option NameSet) → kept_out c o ≡ kept_some (λ s. record c { out_name = s }) o
out_some c None = refl
out_some c (Some s) = refl

-- the names of one interface, where some are left
names_changed : {W : ℕ} (d : Dim) (c : Cube W) (with : NameSet → Cube W) (o : Option NameSet) (n : List ℕ) (p : Packet) (t : Bool) →
    ((s : NameSet) → holds_cube (with s) p ≡ (has_name s n && fits_else d c p)) → has_name_some o n ≡ (fits_in d c p && t) → any_holds (kept_some with o) p ≡ (holds_cube c p && t)
names_changed d c with None n p t e f = more_asked (fits_in d c p) (fits_else d c p) t false f ∙ ap (λ b. b && t) (sym (holds_by d c p))
names_changed d c with (Some s) n p t e f = kept_holds (with s) p ∙ e s ∙ more_asked (fits_in d c p) (fits_else d c p) t (has_name s n) f ∙ ap (λ b. b && t) (sym (holds_by d c p))

twice : (h r t x y : Bool) → x ≡ (h && r) → y ≡ (x && t) → y ≡ (h && (r && t))
twice h r t x y e f = grind (arith, e, f)

abbrev pub only_proto : {W : ℕ} → Cube W → ℕ → Cube W
only_proto c n = record c { proto = set_and 8 c.proto (single n) }

-- one protocol, and one dimension more
with_proto : {W : ℕ} (d : Dim) (c : Cube W) (n : ℕ) (t : Bool) (p : Packet) (v : Value d) → p.proto < 256 → has_value d v p ≡ (fits_in d (only_proto c n) p && t) →
    any_holds (kept (put d (only_proto c n) v)) p ≡ (holds_cube c p && ((p.proto == n) && t))
with_proto d c n t p v h e =
    kept_holds (put d (only_proto c n) v) p ∙ twice (holds_cube c p) (p.proto == n) t (holds_cube (only_proto c n) p) _
    (one_changed Dim.Proto c p (p.proto == n) _ (and_single c.proto n p.proto h)) (one_changed d (only_proto c n) p t v e)

-- the other protocols, and then one dimension more of this one
without_proto : {W : ℕ} (d : Dim) (c : Cube W) (n : ℕ) (t : Bool) (p : Packet) (v : Value d) → p.proto < 256 → has_value d v p ≡ (fits_in d (only_proto c n) p && not t) →
    any_holds (kept (record c { proto = set_minus 8 c.proto (single n) }) ++ kept (put d (only_proto c n) v)) p ≡ (holds_cube c p && not ((p.proto == n) && t))
without_proto d c n t p v h e =
    any_append (kept (record c { proto = set_minus 8 c.proto (single n) })) (kept (put d (only_proto c n) v)) p ∙
    parted (holds_cube c p) (p.proto == n) t _ _ (kept_changed Dim.Proto c p _ _ (minus_single c.proto n p.proto h)) (with_proto d c n (not t) p v h e)

flag_test : (mask comp f : ℕ) → f < 64 → has_bit (flags_where mask comp 64) f ≡ (bit_and f mask == comp)
flag_test mask comp f h = let e = flags_has mask comp 64 f in grind (arith, nat_tests, e, h)

flags_in : (flags mask comp f : ℕ) → f < 64 → has_bit (bit_and flags (flags_where mask comp 64)) f ≡ (has_bit flags f && (bit_and f mask == comp))
flags_in flags mask comp f h = bits_and flags (flags_where mask comp 64) f ∙ ap (λ b. has_bit flags f && b) (flag_test mask comp f h)

flags_out : (flags mask comp f : ℕ) → f < 64 → has_bit (bit_xor flags (bit_and flags (flags_where mask comp 64))) f ≡ (has_bit flags f && not (bit_and f mask == comp))
flags_out flags mask comp f h = bits_less flags (flags_where mask comp 64) f ∙ ap (λ b. has_bit flags f && not b) (flag_test mask comp f h)

-- what is kept where a test holds
pub cut_holds : {W : ℕ} (x : Prim_ W) (c : Cube W) (p : Packet) → IsValid W p → any_holds (cut_pieces x c) p ≡ (holds_cube c p && holds_of x p)
cut_holds {W} (Prim_.Src set) c p v = kept_changed Dim.Src c p (has set p.src) _ (and_within W c.src set p.src v.src)
cut_holds {W} (Prim_.Dst set) c p v = kept_changed Dim.Dst c p (has set p.dst) _ (and_within W c.dst set p.dst v.dst)
cut_holds (Prim_.InName by) c p v = ap (λ l. any_holds l p) (in_some c (cut_of c.in_name by)) ∙
    names_changed Dim.InName c (λ s. record c { in_name = s }) (cut_of c.in_name by) p.in_name p (fits by p.in_name) (λ s. put_holds Dim.InName c s p) (cut_names c.in_name by p.in_name)
cut_holds (Prim_.OutName by) c p v = ap (λ l. any_holds l p) (out_some c (cut_of c.out_name by)) ∙
    names_changed Dim.OutName c (λ s. record c { out_name = s }) (cut_of c.out_name by) p.out_name p (fits by p.out_name) (λ s. put_holds Dim.OutName c s p) (cut_names c.out_name by p.out_name)
cut_holds (Prim_.Proto proto) c p v = kept_changed Dim.Proto c p (p.proto == proto) _ (and_single c.proto proto p.proto v.proto)
cut_holds (Prim_.SrcPorts ports) c p v = with_proto Dim.Sport c ports.proto (has ports.set p.sport) p _ v.proto (and_within 16 c.sport ports.set p.sport v.sport)
cut_holds (Prim_.DstPorts ports) c p v = with_proto Dim.Dport c ports.proto (has ports.set p.dport) p _ v.proto (and_within 16 c.dport ports.set p.dport v.dport)
cut_holds (Prim_.Flags mask comp) c p v = with_proto Dim.Flags c 6 (bit_and p.flags mask == comp) p _ v.proto (flags_in c.flags mask comp p.flags v.flags)
cut_holds (Prim_.State states) c p v = kept_changed Dim.State c p (has_bit states p.state) _ (bits_and c.state states p.state)
cut_holds (Prim_.IcmpKind m) c p v = with_proto Dim.Types c m.proto (p.icmp == m.kind) p _ v.proto (and_single c.icmp m.kind p.icmp v.icmp)
cut_holds Prim_.Always c p v = kept_holds c p ∙ and_one (holds_cube c p)

-- what is kept where it doesn't
pub omit_holds : {W : ℕ} (x : Prim_ W) (c : Cube W) (p : Packet) → IsValid W p → any_holds (omit_pieces x c) p ≡ (holds_cube c p && not (holds_of x p))
omit_holds {W} (Prim_.Src set) c p v = kept_changed Dim.Src c p (not (has set p.src)) _ (minus_within W c.src set p.src v.src)
omit_holds {W} (Prim_.Dst set) c p v = kept_changed Dim.Dst c p (not (has set p.dst)) _ (minus_within W c.dst set p.dst v.dst)
omit_holds (Prim_.InName by) c p v = ap (λ l. any_holds l p) (in_some c (cut_not_of c.in_name by)) ∙
    names_changed Dim.InName c (λ s. record c { in_name = s }) (cut_not_of c.in_name by) p.in_name p (not (fits by p.in_name)) (λ s. put_holds Dim.InName c s p) (cut_not_names c.in_name by p.in_name)
omit_holds (Prim_.OutName by) c p v = ap (λ l. any_holds l p) (out_some c (cut_not_of c.out_name by)) ∙
    names_changed Dim.OutName c (λ s. record c { out_name = s }) (cut_not_of c.out_name by) p.out_name p (not (fits by p.out_name)) (λ s. put_holds Dim.OutName c s p) (cut_not_names c.out_name by p.out_name)
omit_holds (Prim_.Proto proto) c p v = kept_changed Dim.Proto c p (not (p.proto == proto)) _ (minus_single c.proto proto p.proto v.proto)
omit_holds (Prim_.SrcPorts ports) c p v = without_proto Dim.Sport c ports.proto (has ports.set p.sport) p _ v.proto (minus_within 16 c.sport ports.set p.sport v.sport)
omit_holds (Prim_.DstPorts ports) c p v = without_proto Dim.Dport c ports.proto (has ports.set p.dport) p _ v.proto (minus_within 16 c.dport ports.set p.dport v.dport)
omit_holds (Prim_.Flags mask comp) c p v = without_proto Dim.Flags c 6 (bit_and p.flags mask == comp) p _ v.proto (flags_out c.flags mask comp p.flags v.flags)
omit_holds (Prim_.State states) c p v = kept_changed Dim.State c p (not (has_bit states p.state)) _ (bits_less c.state states p.state)
omit_holds (Prim_.IcmpKind m) c p v = without_proto Dim.Types c m.proto (p.icmp == m.kind) p _ v.proto (minus_single c.icmp m.kind p.icmp v.icmp)
omit_holds Prim_.Always c p v = sym (and_false (holds_cube c p))
