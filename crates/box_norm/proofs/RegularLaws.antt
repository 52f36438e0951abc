-- The pieces of a regular cube are regular.
use Rattle.std.proofs.Common.{◌≡◌, ℕ, zero, suc, length, get_or, ◌-◌, ◌^◌, ◌<◌, ◌≤◌, ◌==◌, ◌≢◌, List, [], ◌∷◌, ◌++◌, Bool, true, false, ◌||◌, Option, None, Some, refl, sym, ◌∙◌, ap, subst, arith, inl, inr, ◌⊎◌, bit_and, bit_xor}
use Rattle.std.specs.Prelude.{if◌then◌else◌}
use Rattle.std.specs.List.{AllByRecursion}
use Rattle.std.proofs.lemmas.Bool.Decides.{nat_tests}
use Rattle.interval_set.specs.declared.set.Range.{Range}
use Rattle.interval_set.specs.Numbers.{has, IsSet}
use Rattle.interval_set.specs.Spelling.{set_and, set_minus}
use Rattle.interval_set.proofs.Spelling.{spelled_and, spelled_minus, minus_has}
use Rattle.name_set.specs.declared.set.NameSet.{NameSet}
use Rattle.name_set.specs.Names.{cut_of, cut_not_of}
use Rattle.primitives.specs.declared.prim.Prim_.{Prim_}
use Rattle.primitives.specs.Messages.{HasTypes}
use Rattle.primitives.specs.Ports.{HasPorts}
use Rattle.box_norm.specs.declared.cube.Cube.{Cube}
use Rattle.box_norm.specs.declared.cube.SimpleRule.{SimpleRule}
use Rattle.box_norm.specs.Cubes.{is_none, has_no_range, has_no_name, kept}
use Rattle.box_norm.specs.Pieces.{single, flags_where, kept_in, kept_out, cut_pieces, omit_pieces, pieces_of}
use Rattle.box_norm.specs.Normal.{whole_of, with_verdict}
use Rattle.box_norm.specs.Regular.{full, HasPortsAlone, HasTypesAlone, IsRegular, AreRegular, IsSound, EachCube}

-- what holds of the cube, if it isn't empty, holds of each that is kept
kept_if : {W : ℕ} (Q : Cube W → Type 0) (b : Bool) (c : Cube W) → is_none c ≡ b → (b ≡ false → Q c) → AllByRecursion Q (if b then [] else c ∷ [])
kept_if Q true c e h = tt
kept_if Q false c e h = (h refl, tt)

pub kept_all : {W : ℕ} (Q : Cube W → Type 0) (c : Cube W) → (is_none c ≡ false → Q c) → AllByRecursion Q (kept c)
kept_all Q c h = kept_if Q (is_none c) c refl h

pub all_append : {X : Type 0} (Q : X → Type 0) (a b : List X) → AllByRecursion Q a → AllByRecursion Q b → AllByRecursion Q (a ++ b)
all_append Q [] b h k = k
all_append Q (x ∷ a) b h k = (h.0, all_append Q a b h.1 k)

all_at : {X : Type 0} (Q : X → Type 0) (xs : List X) (i : ℕ) (d : X) → i < length xs → AllByRecursion Q xs → Q (get_or xs i d)
all_at Q [] i d h a = absurd (omega (arith, h))
all_at Q (x ∷ xs) zero d h a = a.0
all_at Q (x ∷ xs) (suc i) d h a = all_at Q xs i d (omega (arith, h)) a.1

pub all_item : {X : Type 0} (Q : X → Type 0) (xs : List X) (i : ℕ) (x : X) → i < length xs → x ≡ get_or xs i x → AllByRecursion Q xs → Q x
all_item Q xs i x h e a = subst Q (sym e) (all_at Q xs i x h a)

later : (a b : Bool) → (a || b) ≡ false → b ≡ false
later true b h = grind (arith, h)
later false b h = h

first : (a b : Bool) → (a || b) ≡ false → a ≡ false
first true b h = h
first false b h = refl

pub some_proto : {W : ℕ} (c : Cube W) → is_none c ≡ false → has_no_range c.proto ≡ false
some_proto c h = first (has_no_range c.proto) _ (later (has_no_range c.dst) _ (later (has_no_range c.src) _ (later (has_no_name c.out_name) _ (later (has_no_name c.in_name) _ h))))

pub some_types : {W : ℕ} (c : Cube W) → is_none c ≡ false → has_no_range c.icmp ≡ false
some_types c h = later (c.state == 0) _ (later (c.flags == 0) _ (later (has_no_range c.dport) _ (later (has_no_range c.sport) _ (later (has_no_range c.proto) _
    (later (has_no_range c.dst) _ (later (has_no_range c.src) _ (later (has_no_name c.out_name) _ (later (has_no_name c.in_name) _ h))))))))

-- the set of one number
single_is : (m n : ℕ) → has (single m) n ≡ (n == m)
single_is m n = grind (arith, nat_tests)

single_set : (n : ℕ) → n ≤ 255 → IsSet 8 (single n)
single_set n h = (inl refl, (omega arith, omega arith, h, tt))

none_set : IsSet 8 []
none_set = (inl refl, tt)

pub and_one : (a : List Range) (n : ℕ) → n ≤ 255 → has a n ≡ true → single n ≡ set_and 8 a (single n)
and_one a n h t = spelled_and 8 (single n) a (single n) a (single n) (single_set n h)
    (λ k. let e = single_is n k in let f : k ≡ n → has a k ≡ true = λ q. ap (has a) q ∙ t in grind (arith, nat_tests, e, f)) refl refl

pub and_none : (a : List Range) (n : ℕ) → has a n ≡ false → [] ≡ set_and 8 a (single n)
and_none a n t = spelled_and 8 [] a (single n) a (single n) none_set
    (λ k. let e = single_is n k in let f : k ≡ n → has a k ≡ false = λ q. ap (has a) q ∙ t in grind (arith, nat_tests, e, f)) refl refl

-- a set cut by one number, if it isn't empty, is that number
and_by : (b : Bool) (a : List Range) (n : ℕ) → n ≤ 255 → has a n ≡ b → has_no_range (set_and 8 a (single n)) ≡ false → (set_and 8 a (single n) ≡ single n) × (has a n ≡ true)
and_by true a n h e s = (sym (and_one a n h e), e)
and_by false a n h e s = absurd (let f : has_no_range [] ≡ false = ap has_no_range (and_none a n e) ∙ s in cc)

pub and_single_is : (a : List Range) (n : ℕ) → n ≤ 255 → has_no_range (set_and 8 a (single n)) ≡ false → (set_and 8 a (single n) ≡ single n) × (has a n ≡ true)
and_single_is a n h s = and_by (has a n) a n h refl s

pub minus_same : (n : ℕ) → [] ≡ set_minus 8 (single n) (single n)
minus_same n = spelled_minus 8 [] (single n) (single n) (single n) (single n) none_set (λ k. grind (arith, nat_tests)) refl refl

-- a set without a number that it lacks
pub minus_none : (a : List Range) (n : ℕ) → IsSet 8 a → has a n ≡ false → a ≡ set_minus 8 a (single n)
minus_none a n s t = spelled_minus 8 a a (single n) a (single n) s
    (λ k. let e = single_is n k in let f : k ≡ n → has a k ≡ false = λ q. ap (has a) q ∙ t in grind (arith, nat_tests, e, f)) refl refl

minus_other : (m n : ℕ) → m ≤ 255 → m ≢ n → single m ≡ set_minus 8 (single m) (single n)
minus_other m n h k = spelled_minus 8 (single m) (single m) (single n) (single m) (single n) (single_set m h)
    (λ i. let e = single_is m i in let f = single_is n i in grind (arith, nat_tests, e, f, k)) refl refl

-- one number without another, if it isn't empty, is that number
minus_by : (b : Bool) (m n : ℕ) → m ≤ 255 → (m == n) ≡ b → has_no_range (set_minus 8 (single m) (single n)) ≡ false → set_minus 8 (single m) (single n) ≡ single m
minus_by true m n h e s =
    let q : m ≡ n = grind (arith, nat_tests, e) in
    absurd (let f : has_no_range [] ≡ false = ap has_no_range (minus_same n) ∙ subst (λ z. has_no_range (set_minus 8 (single z) (single n)) ≡ false) q s in cc)
minus_by false m n h e s = let q : m ≢ n = grind (arith, nat_tests, e) in sym (minus_other m n h q)

pub minus_single_is : (a : List Range) (m n : ℕ) → m ≤ 255 → a ≡ single m → has_no_range (set_minus 8 a (single n)) ≡ false → set_minus 8 a (single n) ≡ single m
minus_single_is a m n h e s = ap (λ z. set_minus 8 z (single n)) e ∙ minus_by (m == n) m n h refl (subst (λ z. has_no_range (set_minus 8 z (single n)) ≡ false) e s)

minus_zero : (a : List Range) (n : ℕ) → 1 ≤ n → has a 0 ≡ true → has (set_minus 8 a (single n)) 0 ≡ true
minus_zero a n h t = let e = minus_has 8 a (single n) 0 in let f = single_is n 0 in grind (arith, nat_tests, e, f, t, h)

minus_last : (a : List Range) (n : ℕ) → n ≤ 254 → has a 255 ≡ true → has (set_minus 8 a (single n)) 255 ≡ true
minus_last a n h t = let e = minus_has 8 a (single n) 255 in let f = single_is n 255 in grind (arith, nat_tests, e, f, t, h)

-- one type to 254, or a set that holds 255
abbrev pub OfTypes : List Range → Type 0
OfTypes types = ((k : ℕ) × (k ≤ 254) × (types ≡ single k)) ⊎ (has types 255 ≡ true)

one_type : (types : List Range) (k : ℕ) → k ≤ 254 → has_no_range (set_and 8 types (single k)) ≡ false → OfTypes (set_and 8 types (single k))
one_type types k h s = inl (k, h, (and_single_is types k (omega (arith, h)) s).0)

fewer_types : (types : List Range) (k : ℕ) → k ≤ 254 → OfTypes types → has_no_range (set_minus 8 types (single k)) ≡ false → OfTypes (set_minus 8 types (single k))
fewer_types types k h a s = elim a [ inl j ↦ inl (j.0, j.1, minus_single_is types j.0 k (omega (arith, j.1)) j.2 s) | inr t ↦ inr (minus_last types k h t) ]

are_types : (protos types : List Range) → (types ≡ full 8) ⊎ HasTypesAlone protos types → OfTypes types
are_types protos types h = elim h [ inl e ↦ inr (ap (λ z. has z 255) e) | inr a ↦ a.1 ]

-- protocols whose messages have types have these numbers
pub type_numbers : (n : ℕ) → HasTypes n → (1 ≤ n) × (n ≤ 255)
type_numbers n h = elim h [ inl e ↦ (omega arith, omega arith) | inr e ↦ (omega arith, omega arith) ]

-- protocols with ports have these numbers
pub port_numbers : (n : ℕ) → HasPorts n → (1 ≤ n) × (n ≤ 255)
port_numbers n h = elim h [
  | inl e ↦ (omega arith, omega arith)
  | inr h ↦ elim h [
    | inl e ↦ (omega arith, omega arith)
    | inr h ↦ elim h [
      | inl e ↦ (omega arith, omega arith)
      | inr h ↦ elim h [
        | inl e ↦ (omega arith, omega arith)
        | inr e ↦ (omega arith, omega arith)
      ]
    ]
  ]
]

-- of a regular cube that is cut by one protocol
module _ {W : ℕ} (c : Cube W) (n : ℕ) (r : IsRegular c) (low : 1 ≤ n) (high : n ≤ 255) where
  -- what one protocol alone is, the cut is, if it isn't empty
  same_alone : (m : ℕ) → c.proto ≡ single m → has c.proto n ≡ true → m ≡ n
  same_alone m e t = let f = single_is m n in let g : has (single m) n ≡ true = subst (λ z. has z n ≡ true) e t in grind (arith, nat_tests, f, g)

  module _ (s : has_no_range (set_and 8 c.proto (single n)) ≡ false) where
    is_one : set_and 8 c.proto (single n) ≡ single n
    is_one = (and_single_is c.proto n high s).0

    has_one : has c.proto n ≡ true
    has_one = (and_single_is c.proto n high s).1

    stays_alone : (m : ℕ) → c.proto ≡ single m → set_and 8 c.proto (single n) ≡ single m
    stays_alone m e = is_one ∙ ap single (sym (same_alone m e has_one))

    pub cut_ports : (ports : List Range) → (ports ≡ full 16) ⊎ HasPortsAlone c.proto → (ports ≡ full 16) ⊎ HasPortsAlone (set_and 8 c.proto (single n))
    cut_ports ports h = elim h [ inl e ↦ inl e | inr a ↦ inr (a.0, a.1, stays_alone a.0 a.2) ]

    pub cut_flags : (flags : ℕ) → (flags ≡ 2 ^ 64 - 1) ⊎ (c.proto ≡ single 6) → (flags ≡ 2 ^ 64 - 1) ⊎ (set_and 8 c.proto (single n) ≡ single 6)
    cut_flags flags h = elim h [ inl e ↦ inl e | inr e ↦ inr (stays_alone 6 e) ]

    pub cut_types : (types : List Range) → (types ≡ full 8) ⊎ HasTypesAlone c.proto types → (types ≡ full 8) ⊎ HasTypesAlone (set_and 8 c.proto (single n)) types
    cut_types types h = elim h [ inl e ↦ inl e | inr a ↦ inr ((a.0.0, a.0.1, stays_alone a.0.0 a.0.2), a.1) ]

    pub cut_proto : ((m : ℕ) × (1 ≤ m) × (m ≤ 255) × (set_and 8 c.proto (single n) ≡ single m)) ⊎ (has (set_and 8 c.proto (single n)) 0 ≡ true)
    cut_proto = inl (n, low, high, is_one)

  module _ (s : has_no_range (set_minus 8 c.proto (single n)) ≡ false) where
    left_alone : (m : ℕ) → m ≤ 255 → c.proto ≡ single m → set_minus 8 c.proto (single n) ≡ single m
    left_alone m h e = minus_single_is c.proto m n h e s

    pub omit_ports : (ports : List Range) → (ports ≡ full 16) ⊎ HasPortsAlone c.proto → (ports ≡ full 16) ⊎ HasPortsAlone (set_minus 8 c.proto (single n))
    omit_ports ports h = elim h [ inl e ↦ inl e | inr a ↦ inr (a.0, a.1, left_alone a.0 (port_numbers a.0 a.1).1 a.2) ]

    pub omit_flags : (flags : ℕ) → (flags ≡ 2 ^ 64 - 1) ⊎ (c.proto ≡ single 6) → (flags ≡ 2 ^ 64 - 1) ⊎ (set_minus 8 c.proto (single n) ≡ single 6)
    omit_flags flags h = elim h [ inl e ↦ inl e | inr e ↦ inr (left_alone 6 (omega arith) e) ]

    pub omit_types : (types : List Range) → (types ≡ full 8) ⊎ HasTypesAlone c.proto types → (types ≡ full 8) ⊎ HasTypesAlone (set_minus 8 c.proto (single n)) types
    omit_types types h = elim h [ inl e ↦ inl e | inr a ↦ inr ((a.0.0, a.0.1, left_alone a.0.0 (type_numbers a.0.0 a.0.1).1 a.0.2), a.1) ]

    pub omit_proto : ((m : ℕ) × (1 ≤ m) × (m ≤ 255) × (set_minus 8 c.proto (single n) ≡ single m)) ⊎ (has (set_minus 8 c.proto (single n)) 0 ≡ true)
    omit_proto = elim r.proto [ inl a ↦ inl (a.0, a.1, a.2, left_alone a.0 a.2 a.3) | inr e ↦ inr (minus_zero c.proto n low e) ]

  pub proto_cut : is_none (record c { proto = set_and 8 c.proto (single n) }) ≡ false → IsRegular (record c { proto = set_and 8 c.proto (single n) })
  proto_cut s =
      let t = some_proto (record c { proto = set_and 8 c.proto (single n) }) s in
      record { some = s; sport = cut_ports t c.sport r.sport; dport = cut_ports t c.dport r.dport; flags = cut_flags t c.flags r.flags; icmp = cut_types t c.icmp r.icmp; proto = cut_proto t }

  pub proto_omit : is_none (record c { proto = set_minus 8 c.proto (single n) }) ≡ false → IsRegular (record c { proto = set_minus 8 c.proto (single n) })
  proto_omit s =
      let t = some_proto (record c { proto = set_minus 8 c.proto (single n) }) s in
      record { some = s; sport = omit_ports t c.sport r.sport; dport = omit_ports t c.dport r.dport; flags = omit_flags t c.flags r.flags; icmp = omit_types t c.icmp r.icmp; proto = omit_proto t }

  -- the protocol and its source ports, its destination ports, the flags of tcp, or types of messages
  pub sport_cut : HasPorts n → (q : List Range) → is_none (record c { proto = set_and 8 c.proto (single n); sport = q }) ≡ false → IsRegular (record c { proto = set_and 8 c.proto (single n); sport = q })
  sport_cut h q s =
      let t = some_proto (record c { proto = set_and 8 c.proto (single n); sport = q }) s in
      record { some = s; sport = inr (n, h, is_one t); dport = cut_ports t c.dport r.dport; flags = cut_flags t c.flags r.flags; icmp = cut_types t c.icmp r.icmp; proto = cut_proto t }

  pub dport_cut : HasPorts n → (q : List Range) → is_none (record c { proto = set_and 8 c.proto (single n); dport = q }) ≡ false → IsRegular (record c { proto = set_and 8 c.proto (single n); dport = q })
  dport_cut h q s =
      let t = some_proto (record c { proto = set_and 8 c.proto (single n); dport = q }) s in
      record { some = s; sport = cut_ports t c.sport r.sport; dport = inr (n, h, is_one t); flags = cut_flags t c.flags r.flags; icmp = cut_types t c.icmp r.icmp; proto = cut_proto t }

  pub flags_cut : n ≡ 6 → (q : ℕ) → is_none (record c { proto = set_and 8 c.proto (single n); flags = q }) ≡ false → IsRegular (record c { proto = set_and 8 c.proto (single n); flags = q })
  flags_cut h q s =
      let t = some_proto (record c { proto = set_and 8 c.proto (single n); flags = q }) s in
      record { some = s; sport = cut_ports t c.sport r.sport; dport = cut_ports t c.dport r.dport; flags = inr (is_one t ∙ ap single h); icmp = cut_types t c.icmp r.icmp; proto = cut_proto t }

  pub types_cut : HasTypes n → (q : List Range) → (has_no_range q ≡ false → OfTypes q) →
      is_none (record c { proto = set_and 8 c.proto (single n); icmp = q }) ≡ false → IsRegular (record c { proto = set_and 8 c.proto (single n); icmp = q })
  types_cut h q f s =
      let t = some_proto (record c { proto = set_and 8 c.proto (single n); icmp = q }) s in
      let u = some_types (record c { proto = set_and 8 c.proto (single n); icmp = q }) s in
      record { some = s; sport = cut_ports t c.sport r.sport; dport = cut_ports t c.dport r.dport; flags = cut_flags t c.flags r.flags; icmp = inr ((n, h, is_one t), f u); proto = cut_proto t }

in_regular : {W : ℕ} (c : Cube W) → IsRegular c → (o : Option NameSet) → AreRegular (kept_in c o)
in_regular c r None = tt
in_regular c r (Some s) = kept_all IsRegular (record c { in_name = s }) (λ e. record { some = e; sport = r.sport; dport = r.dport; flags = r.flags; icmp = r.icmp; proto = r.proto })

out_regular : {W : ℕ} (c : Cube W) → IsRegular c → (o : Option NameSet) → AreRegular (kept_out c o)
out_regular c r None = tt
out_regular c r (Some s) = kept_all IsRegular (record c { out_name = s }) (λ e. record { some = e; sport = r.sport; dport = r.dport; flags = r.flags; icmp = r.icmp; proto = r.proto })

pub cut_regular : {W : ℕ} (x : Prim_ W) (c : Cube W) → IsSound x → IsRegular c → AreRegular (cut_pieces x c)
cut_regular {W} (Prim_.Src set) c h r = kept_all IsRegular (record c { src = set_and W c.src set }) (λ e. record { some = e; sport = r.sport; dport = r.dport; flags = r.flags; icmp = r.icmp; proto = r.proto })
cut_regular {W} (Prim_.Dst set) c h r = kept_all IsRegular (record c { dst = set_and W c.dst set }) (λ e. record { some = e; sport = r.sport; dport = r.dport; flags = r.flags; icmp = r.icmp; proto = r.proto })
cut_regular (Prim_.InName by) c h r = in_regular c r (cut_of c.in_name by)
cut_regular (Prim_.OutName by) c h r = out_regular c r (cut_of c.out_name by)
cut_regular (Prim_.Proto proto) c h r = kept_all IsRegular (record c { proto = set_and 8 c.proto (single proto) }) (proto_cut c proto r h.0 h.1)
cut_regular (Prim_.SrcPorts ports) c h r = let k = port_numbers ports.proto h in
    kept_all IsRegular (record c { proto = set_and 8 c.proto (single ports.proto); sport = set_and 16 c.sport ports.set }) (sport_cut c ports.proto r k.0 k.1 h (set_and 16 c.sport ports.set))
cut_regular (Prim_.DstPorts ports) c h r = let k = port_numbers ports.proto h in
    kept_all IsRegular (record c { proto = set_and 8 c.proto (single ports.proto); dport = set_and 16 c.dport ports.set }) (dport_cut c ports.proto r k.0 k.1 h (set_and 16 c.dport ports.set))
cut_regular (Prim_.Flags mask comp) c h r =
    kept_all IsRegular (record c { proto = set_and 8 c.proto (single 6); flags = bit_and c.flags (flags_where mask comp 64) })
    (flags_cut c 6 r (omega arith) (omega arith) refl (bit_and c.flags (flags_where mask comp 64)))
cut_regular (Prim_.State states) c h r = kept_all IsRegular (record c { state = bit_and c.state states }) (λ e. record { some = e; sport = r.sport; dport = r.dport; flags = r.flags; icmp = r.icmp; proto = r.proto })
cut_regular (Prim_.IcmpKind m) c h r = let k = type_numbers m.proto h.0 in
    kept_all IsRegular (record c { proto = set_and 8 c.proto (single m.proto); icmp = set_and 8 c.icmp (single m.kind) })
    (types_cut c m.proto r k.0 k.1 h.0 (set_and 8 c.icmp (single m.kind)) (one_type c.icmp m.kind h.1))
cut_regular Prim_.Always c h r = kept_all IsRegular c (λ e. r)

pub omit_regular : {W : ℕ} (x : Prim_ W) (c : Cube W) → IsSound x → IsRegular c → AreRegular (omit_pieces x c)
omit_regular {W} (Prim_.Src set) c h r = kept_all IsRegular (record c { src = set_minus W c.src set }) (λ e. record { some = e; sport = r.sport; dport = r.dport; flags = r.flags; icmp = r.icmp; proto = r.proto })
omit_regular {W} (Prim_.Dst set) c h r = kept_all IsRegular (record c { dst = set_minus W c.dst set }) (λ e. record { some = e; sport = r.sport; dport = r.dport; flags = r.flags; icmp = r.icmp; proto = r.proto })
omit_regular (Prim_.InName by) c h r = in_regular c r (cut_not_of c.in_name by)
omit_regular (Prim_.OutName by) c h r = out_regular c r (cut_not_of c.out_name by)
omit_regular (Prim_.Proto proto) c h r = kept_all IsRegular (record c { proto = set_minus 8 c.proto (single proto) }) (proto_omit c proto r h.0 h.1)
omit_regular (Prim_.SrcPorts ports) c h r = let k = port_numbers ports.proto h in
    all_append IsRegular (kept (record c { proto = set_minus 8 c.proto (single ports.proto) })) _
    (kept_all IsRegular (record c { proto = set_minus 8 c.proto (single ports.proto) }) (proto_omit c ports.proto r k.0 k.1))
    (kept_all IsRegular (record c { proto = set_and 8 c.proto (single ports.proto); sport = set_minus 16 c.sport ports.set }) (sport_cut c ports.proto r k.0 k.1 h (set_minus 16 c.sport ports.set)))
omit_regular (Prim_.DstPorts ports) c h r = let k = port_numbers ports.proto h in
    all_append IsRegular (kept (record c { proto = set_minus 8 c.proto (single ports.proto) })) _
    (kept_all IsRegular (record c { proto = set_minus 8 c.proto (single ports.proto) }) (proto_omit c ports.proto r k.0 k.1))
    (kept_all IsRegular (record c { proto = set_and 8 c.proto (single ports.proto); dport = set_minus 16 c.dport ports.set }) (dport_cut c ports.proto r k.0 k.1 h (set_minus 16 c.dport ports.set)))
omit_regular (Prim_.Flags mask comp) c h r =
    all_append IsRegular (kept (record c { proto = set_minus 8 c.proto (single 6) })) _
    (kept_all IsRegular (record c { proto = set_minus 8 c.proto (single 6) }) (proto_omit c 6 r (omega arith) (omega arith)))
    (kept_all IsRegular (record c { proto = set_and 8 c.proto (single 6); flags = bit_xor c.flags (bit_and c.flags (flags_where mask comp 64)) })
    (flags_cut c 6 r (omega arith) (omega arith) refl (bit_xor c.flags (bit_and c.flags (flags_where mask comp 64)))))
omit_regular (Prim_.State states) c h r = kept_all IsRegular (record c { state = bit_xor c.state (bit_and c.state states) }) (λ e. record { some = e; sport = r.sport; dport = r.dport; flags = r.flags; icmp = r.icmp; proto = r.proto })
omit_regular (Prim_.IcmpKind m) c h r = let k = type_numbers m.proto h.0 in
    all_append IsRegular (kept (record c { proto = set_minus 8 c.proto (single m.proto) })) _
    (kept_all IsRegular (record c { proto = set_minus 8 c.proto (single m.proto) }) (proto_omit c m.proto r k.0 k.1))
    (kept_all IsRegular (record c { proto = set_and 8 c.proto (single m.proto); icmp = set_minus 8 c.icmp (single m.kind) })
    (types_cut c m.proto r k.0 k.1 h.0 (set_minus 8 c.icmp (single m.kind)) (fewer_types c.icmp m.kind h.1 (are_types c.proto c.icmp r.icmp))))
omit_regular Prim_.Always c h r = tt

pub pieces_regular : {W : ℕ} (holds : Bool) (x : Prim_ W) (c : Cube W) → IsSound x → IsRegular c → AreRegular (pieces_of holds x c)
pieces_regular true x c s r = cut_regular x c s r
pieces_regular false x c s r = omit_regular x c s r

-- the cube of all packets is regular
pub whole_regular : (W : ℕ) → IsRegular (whole_of W)
whole_regular W = record { some = refl; sport = inl refl; dport = inl refl; flags = inl refl; icmp = inl refl; proto = inr refl }

pub verdict_regular : {W : ℕ} (b : Bool) (cs : List (Cube W)) → AreRegular cs → EachCube IsRegular (with_verdict b cs)
verdict_regular b [] h = tt
verdict_regular b (c ∷ cs) h = (h.0, verdict_regular b cs h.1)

pub more_regular : {W : ℕ} (out : List (SimpleRule W)) (b : Bool) (cs : List (Cube W)) → EachCube IsRegular out → AreRegular cs → EachCube IsRegular (out ++ with_verdict b cs)
more_regular {W} out b cs h k = all_append (λ (r : SimpleRule W). IsRegular r.cube) out (with_verdict b cs) h (verdict_regular b cs k)
