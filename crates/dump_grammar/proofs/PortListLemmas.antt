-- Lists of ports, part by part.
use Rattle.std.proofs.Common.{◌≡◌, ◌∙◌, ◌+◌, ◌-◌, ◌<◌, ◌≤◌, ◌==◌, ◌^◌, ℕ, List, [], ◌∷◌, ◌++◌, false, ◌||◌, All, refl, sym, ap, subst, arith, inl, inr, append_assoc, get_or, length, take}
use Rattle.std.specs.List.{AllByRecursion, list_any, slice_split}
use Rattle.std.specs.Prelude.{if◌then◌else◌}
use Rattle.std.proofs.lemmas.Bool.Decides.{nat_tests}
use Rattle.std.proofs.lemmas.List.{take_all, take_more}
use Rattle.std.proofs.lemmas.List.Elements.{All-from_recursion}
use Rattle.basics.specs.Parts.{Lacks, comma_parts}
use Rattle.interval_set.specs.declared.set.Range.{Range}
use Rattle.interval_set.specs.Numbers.{IsSet, has, is_within}
use Rattle.interval_set.specs.Spelling.{ranges_where, set_or}
use Rattle.interval_set.proofs.Spelling.{spelled, where_ascends}
use Rattle.dump_grammar.specs.Arguments.{ArePortRanges, IsPortList, IsPortRange, weight}
use Rattle.dump_grammar.specs.Lines.{Text}
use Rattle.basics.proofs.PartingLemmas.{parts_at, parts_last}

abbrev pub weight_of : Text → ℕ
weight_of part = if list_any (λ b. b == 58) part then 2 else 1

-- what was read so far: what completes the rest completes the whole, and what the whole has, the rest has
pub record PortsSoFar (text rest : Text) (found : List Range) (count : ℕ) : Type 0 where
  pub read : (more : List Range) → ArePortRanges (slice_split (λ b. b == 44) rest) more → ArePortRanges (slice_split (λ b. b == 44) text) (found ++ more)
  pub each : (rs : List Range) → ArePortRanges (slice_split (λ b. b == 44) text) rs → (more : List Range) × ArePortRanges (slice_split (λ b. b == 44) rest) more
  pub counted : count + weight (slice_split (λ b. b == 44) rest) ≡ weight (slice_split (λ b. b == 44) text)
  pub small : count ≤ 15

first_range : (part : Text) (texts : List Text) (rs : List Range) → ArePortRanges (part ∷ texts) rs → (r : Range) × (more : List Range) × (IsPortRange part r × ArePortRanges texts more)
first_range part texts [] are = absurd are
first_range part texts (r ∷ rs) are = (r, rs, (are.0, are.1))

module _ (text rest part after : Text) (found : List Range) (count : ℕ) (so_far : PortsSoFar text rest found count) (cut : (rest ≡ part ++ 44 ∷ after) × Lacks 44 part) where
  first_of : (rs : List Range) → ArePortRanges (comma_parts text) rs
      → (r : Range) × (more : List Range) × (IsPortRange part r × ArePortRanges (comma_parts after) more)
  first_of rs are =
      let left = so_far.each rs are in
      first_range part (comma_parts after) left.0
      (subst (λ (ps : List Text). ArePortRanges ps left.0) (parts_at rest part after cut) left.1)

  now_counted : count + (weight_of part + weight (comma_parts after)) ≡ weight (comma_parts text)
  now_counted = ap (λ (ps : List Text). count + weight ps) (sym (parts_at rest part after cut)) ∙ so_far.counted

  pub ports_passed : (r : Range) (with_last : List Range) (w now : ℕ) → IsPortRange part r → with_last ≡ found ++ r ∷ [] → w ≡ weight_of part → now ≡ count + w → now ≤ 15
      → PortsSoFar text after with_last now
  ports_passed r with_last w now is pushed weighs sum fits = record {
    read = λ more are.
        subst (λ (rs : List Range). ArePortRanges (comma_parts text) rs)
        (sym (ap (λ (rs : List Range). rs ++ more) pushed ∙ append_assoc found (r ∷ []) more))
        (so_far.read (r ∷ more) (subst (λ (ps : List Text). ArePortRanges ps (r ∷ more)) (sym (parts_at rest part after cut)) (is, are)));
    each = λ rs are. let left = first_of rs are in (left.1, left.2.1);
    counted = let e = now_counted in omega (arith, e, weighs, sum);
    small = fits;
  }

  -- a part that is no range of ports ends the list
  pub ports_refused : ((r : Range) → IsPortRange part r → ⊥) → (rs : List Range) → IsPortList text rs → ⊥
  ports_refused none rs list = let left = first_of rs list.0 in none left.0 left.2.0

  -- so do too many
  pub ports_many : (w now : ℕ) → w ≡ weight_of part → now ≡ count + w → 15 < now → (rs : List Range) → IsPortList text rs → ⊥
  ports_many w now weighs sum many rs list = let e = now_counted in let small = list.1 in omega (arith, e, weighs, sum, many, small)

module _ (text rest : Text) (found : List Range) (count : ℕ) (so_far : PortsSoFar text rest found count) (free : Lacks 44 rest) where
  last_counted : count + (weight_of rest + 0) ≡ weight (comma_parts text)
  last_counted = ap (λ (ps : List Text). count + weight ps) (sym (parts_last rest free)) ∙ so_far.counted

  pub last_refused : ((r : Range) → IsPortRange rest r → ⊥) → (rs : List Range) → IsPortList text rs → ⊥
  last_refused none rs list =
      let left = so_far.each rs list.0 in
      let first = first_range rest [] left.0 (subst (λ (ps : List Text). ArePortRanges ps left.0) (parts_last rest free) left.1) in
      none first.0 first.2.0

  pub last_many : (w : ℕ) → w ≡ weight_of rest → 15 < count + w → (rs : List Range) → IsPortList text rs → ⊥
  last_many w weighs many rs list = let e = last_counted in let small = list.1 in omega (arith, e, weighs, many, small)

  pub ports_whole : (r : Range) (with_last : List Range) (w : ℕ) → IsPortRange rest r → with_last ≡ found ++ r ∷ [] → w ≡ weight_of rest → count + w ≤ 15 → IsPortList text with_last
  ports_whole r with_last w is pushed weighs fits = (
    subst (λ (rs : List Range). ArePortRanges (comma_parts text) rs) (sym pushed)
        (so_far.read (r ∷ []) (subst (λ (ps : List Text). ArePortRanges ps (r ∷ [])) (sym (parts_last rest free)) (is, tt))),
    let e = last_counted in omega (arith, e, weighs, fits),
  )

abbrev pub IsOrdered : Range → Type 0
IsOrdered r = (r.lo ≤ r.hi) × (r.hi < 2 ^ 16)

pub range_ordered : (text : Text) (r : Range) → IsPortRange text r → IsOrdered r
range_ordered text r (small, inl (is, same)) = (omega (arith, same), small)
range_ordered text r (small, inr (is, ordered)) = (ordered, small)

all_ordered : (texts : List Text) (rs : List Range) → ArePortRanges texts rs → AllByRecursion IsOrdered rs
all_ordered texts [] are = tt
all_ordered [] (r ∷ rs) are = absurd are
all_ordered (text ∷ texts) (r ∷ rs) are = (range_ordered text r are.0, all_ordered texts rs are.1)

pub list_ordered : (text : Text) (rs : List Range) → IsPortList text rs → All IsOrdered rs
list_ordered text rs list = All-from_recursion IsOrdered rs (all_ordered (comma_parts text) rs list.0)

has_last : (rs : List Range) (r : Range) (n : ℕ) → has (rs ++ r ∷ []) n ≡ (has rs n || is_within r n)
has_last [] r n = grind (arith, nat_tests)
has_last (x ∷ rs) r n = let e = has_last rs r n in grind (arith, nat_tests, e)

-- one range more
pub has_more : (rs : List Range) (i : ℕ) (d : Range) (old one new : List Range) → i < length rs → one ≡ get_or rs i d ∷ []
    → ((n : ℕ) → has old n ≡ has (take i rs) n) → ((n : ℕ) → has new n ≡ (has old n || has one n)) → (n : ℕ) → has new n ≡ has (take (i + 1) rs) n
has_more rs i d old one new inside is before now n =
    let e = now n in
    let f = before n in
    let g = has_last (take i rs) (get_or rs i d) n in
    let h : has (take (i + 1) rs) n ≡ has (take i rs ++ get_or rs i d ∷ []) n = ap (λ (xs : List Range). has xs n) (take_more rs i d inside) in
    let o : has one n ≡ (is_within (get_or rs i d) n || false) = ap (λ (xs : List Range). has xs n) is in
    grind (arith, nat_tests, e, f, g, h, o)

-- a union is a set
pub joined_set : (a b s : List Range) → s ≡ set_or 16 a b → IsSet 16 s
unfolding set_or
joined_set a b s is = subst (IsSet 16) (sym is) (inr (inl refl), where_ascends (λ n. has a n || has b n) (2 ^ 16) (2 ^ 16 - 1) (omega arith))

-- the set of all ranges
pub set_whole : (s rs : List Range) (i : ℕ) → length rs ≤ i → ((n : ℕ) → has s n ≡ has (take i rs) n) → IsSet 16 s → s ≡ ranges_where (has rs) (2 ^ 16)
set_whole s rs i all numbers set = spelled 16 s (has rs) set (λ n small. numbers n ∙ ap (λ (xs : List Range). has xs n) (take_all i rs all))

-- a range is a set
pub range_whole : (s : List Range) (r : Range) → s ≡ r ∷ [] → r.lo ≤ r.hi → r.hi < 2 ^ 16 → s ≡ ranges_where (has (r ∷ [])) (2 ^ 16)
range_whole s r is ordered small =
    let set : IsSet 16 (r ∷ []) = (inr (inl refl), (omega arith, ordered, omega (arith, small), tt)) in
    is ∙ spelled 16 (r ∷ []) (has (r ∷ [])) set (λ n below. refl)
