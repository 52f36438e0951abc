-- The lists of a set of ports are read as their ranges, and are together the set.
use Rattle.std.proofs.Common.{◌≡◌, ◌∙◌, ◌++◌, ◌+◌, ◌-◌, ◌^◌, ◌<◌, ◌≤◌, ◌==◌, inl, inr, ℕ, List, [], ◌∷◌, Bool, true, false, ◌||◌, nat_le, decimal, map, if◌then◌else◌, refl, ap, sym, subst, append_assoc, append-nil, arith}
use Rattle.std.proofs.lemmas.Bool.{ne_eqb}
use Rattle.std.proofs.lemmas.Bool.Decides.{nat_tests}
use Rattle.std.proofs.lemmas.Fmt.{decimal_is_IsNumeral}
use Rattle.std.specs.Char.{digit_value}
use Rattle.std.specs.Str.Parse.{AllDigits}
use Rattle.std.specs.List.{AllByRecursion, flat_map, list_any, slice_split, onto_first}
use Rattle.std.proofs.lemmas.List.Splits.{slice_split-cons_yes, slice_split-cons_no}
use Rattle.interval_set.specs.declared.set.Range.{Range}
use Rattle.interval_set.specs.Numbers.{Ascends}
use Rattle.dump_grammar.specs.Lines.{Text}
use Rattle.dump_grammar.specs.Arguments.{ArePortRanges, IsPortList, IsPortRange, weight}
use Rattle.dump_print.specs.Ports.{chunks, chunks_after, port_list, port_text, unless_empty, weight_of}
use Rattle.dump_print.specs.PortCover.{CoverPorts}
use Rattle.dump_print.proofs.PortLemmas.{small_weight}

-- ---- the lists together
put_alone : (chunk : List Range) → flat_map (λ c. c) (unless_empty chunk) ≡ chunk ++ []
put_alone [] = refl
put_alone (r ∷ rs) = refl

put_together : (b : Bool) (chunk : List Range) (r : Range) (rs : List Range) (more : List (List Range)) (next : List (List Range)) →
    flat_map (λ c. c) more ≡ (chunk ++ r ∷ []) ++ rs → flat_map (λ c. c) next ≡ (r ∷ []) ++ rs →
    flat_map (λ c. c) (if b then more else chunk ∷ next) ≡ chunk ++ r ∷ rs
put_together true chunk r rs more next h k = h ∙ append_assoc chunk (r ∷ []) rs
put_together false chunk r rs more next h k = ap (λ l. chunk ++ l) k

together : (chunk rs : List Range) → flat_map (λ c. c) (chunks_after chunk rs) ≡ chunk ++ rs
together chunk [] = put_alone chunk
together chunk (r ∷ rs) =
    put_together (nat_le (weight_of (chunk ++ r ∷ [])) 15) chunk r rs _ _ (together (chunk ++ r ∷ []) rs) (together (r ∷ []) rs)

-- ---- what may stand in one list
abbrev Small : Range → Type 0
Small r = (r.lo ≤ r.hi) × (r.hi < 2 ^ 16)

abbrev IsSome : List Range → Type 0
IsSome [] = ⊥
IsSome (r ∷ rs) = Unit {0}

record Fits (chunk : List Range) : Type 0 where
  some : IsSome chunk
  few : weight_of chunk ≤ 15
  each : AllByRecursion Small chunk

each_joined : (a : List Range) (r : Range) → AllByRecursion Small a → Small r → AllByRecursion Small (a ++ r ∷ [])
each_joined [] r p q = (q, tt)
each_joined (x ∷ a) r p q = (p.0, each_joined a r p.1 q)

some_joined : (a : List Range) (r : Range) → IsSome (a ++ r ∷ [])
some_joined [] r = tt
some_joined (x ∷ a) r = tt

fits_alone : (chunk : List Range) → (weight_of chunk ≤ 15) × AllByRecursion Small chunk → AllByRecursion Fits (unless_empty chunk)
fits_alone [] b = tt
fits_alone (r ∷ rs) b = (record { some = tt; few = b.0; each = b.1 }, tt)

le_from : (n : ℕ) (b : Bool) → nat_le n 15 ≡ b → b ≡ true → n ≤ 15
le_from n b e t = grind (arith, nat_tests)

gt_from : (n : ℕ) → nat_le n 15 ≡ false → 15 < n
gt_from n e = grind (arith, nat_tests)

begun_some : (chunk : List Range) (r : Range) → 15 < weight_of (chunk ++ r ∷ []) → IsSome chunk
begun_some [] r l = absurd (omega (arith, small_weight r, l))
begun_some (x ∷ chunk) r l = tt

fits_step : (b : Bool) (chunk : List Range) (r : Range) (more next : List (List Range)) → nat_le (weight_of (chunk ++ r ∷ [])) 15 ≡ b →
    (weight_of chunk ≤ 15) × AllByRecursion Small chunk → (weight_of (chunk ++ r ∷ []) ≤ 15 → AllByRecursion Fits more) → AllByRecursion Fits next →
    AllByRecursion Fits (if b then more else chunk ∷ next)
fits_step true chunk r more next e p h k = h (le_from _ true e refl)
fits_step false chunk r more next e p h k = (record { some = begun_some chunk r (gt_from _ e); few = p.0; each = p.1 }, k)

all_fit : (chunk rs : List Range) → (weight_of chunk ≤ 15) × AllByRecursion Small chunk → AllByRecursion Small rs → AllByRecursion Fits (chunks_after chunk rs)
all_fit chunk [] p q = fits_alone chunk p
all_fit chunk (r ∷ rs) p q =
    fits_step (nat_le (weight_of (chunk ++ r ∷ [])) 15) chunk r _ _ refl p
    (λ few. all_fit (chunk ++ r ∷ []) rs (few, each_joined chunk r p.1 q.0) q.1)
    (all_fit (r ∷ []) rs (omega (arith, small_weight r), (q.0, tt)) q.1)

-- ---- bytes that aren't there
abbrev Free : ℕ → Text → Type 0
Free c [] = Unit {0}
Free c (b ∷ text) = ((b == c) ≡ false) × Free c text

free_digits : (c : ℕ) (text : Text) → 10 ≤ digit_value c → AllDigits 10 text → Free c text
free_digits c [] high p = tt
free_digits c (d ∷ text) high p = (ne_eqb d c (λ is. absurd (omega (arith, ap digit_value is, p.0))), free_digits c text high p.1)

free_decimal : (c n : ℕ) → 10 ≤ digit_value c → n < 2 ^ 64 → Free c (decimal n)
free_decimal c n high small = free_digits c (decimal n) high (decimal_is_IsNumeral n small).0.1

free_joined : (c : ℕ) (a b : Text) → Free c a → Free c b → Free c (a ++ b)
free_joined c [] b p q = q
free_joined c (x ∷ a) b p q = (p.0, free_joined c a b p.1 q)

same_byte : (x : ℕ) → (x == x) ≡ true
same_byte x = grind (arith, nat_tests)

same_number : (x y : ℕ) → (x == y) ≡ true → x ≡ y
same_number x y e = grind (arith, nat_tests)

split_at : (c : ℕ) (xs ys : Text) → Free c xs → slice_split (λ b. b == c) (xs ++ (c ∷ ys)) ≡ xs ∷ slice_split (λ b. b == c) ys
split_at c [] ys f = slice_split-cons_yes (λ b. b == c) c ys (same_byte c)
split_at c (x ∷ xs) ys f = slice_split-cons_no (λ b. b == c) x (xs ++ (c ∷ ys)) f.0 ∙ ap (onto_first x) (split_at c xs ys f.1)

split_none : (c : ℕ) (xs : Text) → Free c xs → slice_split (λ b. b == c) xs ≡ xs ∷ []
split_none c [] f = refl
split_none c (x ∷ xs) f = slice_split-cons_no (λ b. b == c) x xs f.0 ∙ ap (onto_first x) (split_none c xs f.1)

or_false : (x y : Bool) → x ≡ false → y ≡ false → (x || y) ≡ false
or_false true y e f = e
or_false false y e f = f

or_first : (x y : Bool) → x ≡ true → (x || y) ≡ true
or_first true y e = refl
or_first false y e = let wrong : false ≡ true = e in cc

or_later : (x y : Bool) → y ≡ true → (x || y) ≡ true
or_later true y f = refl
or_later false y f = f

none_of : (c : ℕ) (text : Text) → Free c text → list_any (λ b. b == c) text ≡ false
none_of c [] f = refl
none_of c (b ∷ text) f = or_false (b == c) (list_any (λ b. b == c) text) f.0 (none_of c text f.1)

some_of : (c : ℕ) (a b : Text) → list_any (λ x. x == c) (a ++ c ∷ b) ≡ true
some_of c [] b = or_first (c == c) (list_any (λ x. x == c) b) (same_byte c)
some_of c (x ∷ a) b = or_later (x == c) (list_any (λ x. x == c) (a ++ c ∷ b)) (some_of c a b)

-- ---- a list is read
port_number : (n : ℕ) → n < 2 ^ 16 → n < 2 ^ 64
port_number n l = omega arith

port_free : (c : ℕ) (b : Bool) (r : Range) → 10 ≤ digit_value c → (58 == c) ≡ false → Small r →
    Free c (if b then decimal r.lo else decimal r.lo ++ 58 ∷ decimal r.hi)
port_free c true r high other s = free_decimal c r.lo high (omega (arith, s.0, s.1))
port_free c false r high other s =
    free_joined c (decimal r.lo) (58 ∷ decimal r.hi) (free_decimal c r.lo high (omega (arith, s.0, s.1)))
    (other, free_decimal c r.hi high (omega (arith, s.0, s.1)))

no_comma : (r : Range) → Small r → Free 44 (port_text r)
no_comma r s = port_free 44 (r.lo == r.hi) r (omega arith) refl s

split_list : (r : Range) (rs : List Range) → Small r → AllByRecursion Small rs →
    slice_split (λ b. b == 44) (port_list (r ∷ rs)) ≡ port_text r ∷ map port_text rs
split_list r [] p q = ap (slice_split (λ b. b == 44)) (append-nil (port_text r)) ∙ split_none 44 (port_text r) (no_comma r p)
split_list r (x ∷ rs) p q =
    split_at 44 (port_text r) (port_list (x ∷ rs)) (no_comma r p) ∙ ap (λ l. port_text r ∷ l) (split_list x rs q.0 q.1)

read_port : (b : Bool) (r : Range) → (r.lo == r.hi) ≡ b → Small r → IsPortRange (if b then decimal r.lo else decimal r.lo ++ 58 ∷ decimal r.hi) r
read_port true r e s = (s.1, inl (refl, same_number r.lo r.hi e))
read_port false r e s = (s.1, inr (refl, s.0))

read_ports : (rs : List Range) → AllByRecursion Small rs → ArePortRanges (map port_text rs) rs
read_ports [] p = tt
read_ports (r ∷ rs) p = (read_port (r.lo == r.hi) r refl p.0, read_ports rs p.1)

weigh_port : (b : Bool) (r : Range) → Small r →
    ◌≡◌ {A = ℕ} (if list_any (λ x. x == 58) (if b then decimal r.lo else decimal r.lo ++ 58 ∷ decimal r.hi) then 2 else 1) (if b then 1 else 2)
weigh_port true r s = ap (λ x. if x then 2 else 1) (none_of 58 (decimal r.lo) (free_decimal 58 r.lo (omega arith) (omega (arith, s.0, s.1))))
weigh_port false r s = ap (λ x. if x then 2 else 1) (some_of 58 (decimal r.lo) (decimal r.hi))

weigh_ports : (rs : List Range) → AllByRecursion Small rs → weight (map port_text rs) ≡ weight_of rs
weigh_ports [] p = refl
weigh_ports (r ∷ rs) p = λ i. weigh_port (r.lo == r.hi) r p.0 i + weigh_ports rs p.1 i

read_fit : (chunk : List Range) → Fits chunk → IsPortList (port_list chunk) chunk
read_fit [] f = absurd f.some
read_fit (r ∷ rs) f =
    let parts = split_list r rs f.each.0 f.each.1 in (
      subst (λ ps. ArePortRanges ps (r ∷ rs)) (sym parts) (read_ports (r ∷ rs) f.each),
      subst (λ ps. weight ps ≤ 15) (sym parts) (subst (λ n. n ≤ 15) (sym (weigh_ports (r ∷ rs) f.each)) f.few),
    )

read_fits : (lists : List (List Range)) → AllByRecursion Fits lists → AllByRecursion (λ chunk. IsPortList (port_list chunk) chunk) lists
read_fits [] f = tt
read_fits (chunk ∷ lists) f = (read_fit chunk f.0, read_fits lists f.1)

small_ports : (from : ℕ) (rs : List Range) → Ascends (2 ^ 16 - 1) from rs → AllByRecursion Small rs
small_ports from [] a = tt
small_ports from (r ∷ rs) a = ((a.1, omega (arith, a.2)), small_ports (r.hi + 2) rs a.3)

pub ports_covered : (rs : List Range) → Ascends (2 ^ 16 - 1) 0 rs → CoverPorts rs
ports_covered rs a = record {
  read = read_fits (chunks rs) (all_fit [] rs (omega arith, tt) (small_ports 0 rs a));
  whole = together [] rs;
}
