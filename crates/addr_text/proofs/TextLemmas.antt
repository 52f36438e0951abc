-- A text has one net and one range, and they are found at its first slash and its first dash.
use Rattle.std.proofs.Common.{◌≡◌, ◌∙◌, ◌≤◌, ◌++◌, ◌∷◌, [], ℕ, List, Option, Some, None, IfNone, arith, sym, ap, subst, refl, append_assoc, inl, inr}
use Rattle.std.specs.Str.Parse.{AllDigits}
use Rattle.std.proofs.lemmas.Fmt.{decimal_injective, decimal_is_IsNumeral}
use Rattle.interval_set.specs.declared.set.Range.{Range}
use Rattle.addr_text.specs.declared.net.Net.{Net}
use Rattle.addr_text.specs.declared.net.Net.TheVariants.{Prefix, Masked}
use Rattle.addr_text.specs.Grammar.{IsPlain}
use Rattle.addr_text.specs.Masks.{shortened}
use Rattle.basics.specs.Parts.{Lacks}
use Rattle.addr_text.specs.Nets.{IsLength, IsHole, IsNetOf, IsNetText, IsRangeText, HasOneNet, HasOneRange}
use Rattle.addr_text.proofs.MaskLemmas.{mask_once}
use Rattle.addr_text.proofs.PartLemmas.{lacks_slash, lacks_dash}
use Rattle.basics.proofs.PartingLemmas.{one_parting, lacks_none}

pub if_none : {A : Type 0} (r : Option A) {P : Type 0} → P → IfNone r P
if_none (Some x) p = tt
if_none None p = p

-- the laws of a family's addresses
pub record IsFamily (Reads : List ℕ → ℕ → Type 0) : Type 0 where
  pub one : (text : List ℕ) (x y : ℕ) → Reads text x → Reads text y → x ≡ y
  pub plain : (text : List ℕ) (value : ℕ) → Reads text value → IsPlain text
  pub not_number : (text : List ℕ) (value : ℕ) → AllDigits 10 text → Reads text value → ⊥

module _ (Reads : List ℕ → ℕ → Type 0) (laws : IsFamily Reads) where
  split_at : (mark : ℕ) (text front back : List ℕ) → text ≡ (front ++ (mark ∷ [])) ++ back → text ≡ front ++ (mark ∷ back)
  split_at mark text front back is = is ∙ append_assoc front (mark ∷ []) back

  pub slashed_parts : (width : ℕ) (text front back : List ℕ) → Lacks 47 front → text ≡ front ++ (47 ∷ back) → (net : Net)
      → IsNetText Reads width text net → (address : ℕ) × Reads front address × IsNetOf Reads width address back net
  slashed_parts width text front back lacks split net (inl (address, reads, is)) =
      absurd (lacks_none 47 text front back (lacks_slash text (laws.plain text address reads)) split)
  slashed_parts width text front back lacks split net (inr (f, b, address, other, reads, of)) =
      let (front_is, back_is) = one_parting 47 text front back f b lacks (lacks_slash f (laws.plain f address reads)) split (split_at 47 text f b other) in
      (address, subst (λ t. Reads t address) (sym front_is) reads, subst (λ t. IsNetOf Reads width address t net) (sym back_is) of)

  one_length : (width : ℕ) → width ≤ 128 → (text : List ℕ) (a b : ℕ) → IsLength Reads width text a → IsLength Reads width text b → a ≡ b
  one_length width most text a b (p, inl is) (q, inl same) = decimal_injective a b (omega arith) (omega arith) (sym is ∙ same)
  one_length width most text a b (p, inl is) (q, inr mask) =
      absurd (laws.not_number text _ (subst (AllDigits 10) (sym is) (decimal_is_IsNumeral a (omega arith)).0.1) mask)
  one_length width most text a b (p, inr mask) (q, inl is) =
      absurd (laws.not_number text _ (subst (AllDigits 10) (sym is) (decimal_is_IsNumeral b (omega arith)).0.1) mask)
  one_length width most text a b (p, inr mask) (q, inr other) = mask_once width a b p q (laws.one text _ _ mask other)

  no_hole : (width : ℕ) → width ≤ 128 → (text : List ℕ) (a : ℕ) → IsLength Reads width text a → IsHole Reads width text → ⊥
  no_hole width most text a (p, inl is) (mask, reads, hole) =
      laws.not_number text _ (subst (AllDigits 10) (sym is) (decimal_is_IsNumeral a (omega arith)).0.1) reads
  no_hole width most text a (p, inr reads) (mask, other, hole) = hole a p (laws.one text _ _ other reads)

  one_net_of : (width : ℕ) → width ≤ 128 → (text : List ℕ) (address : ℕ) (a b : Net) → IsNetOf Reads width address text a → IsNetOf Reads width address text b → a ≡ b
  one_net_of width most text address (Prefix v l) (Prefix w k) (p, is) (q, same) =
      let len : l ≡ k = one_length width most text l k p q in
      let value : v ≡ w = is ∙ ap (λ n. shortened width n address) len ∙ sym same in cc
  one_net_of width most text address (Prefix v l) Masked (p, is) q = absurd (no_hole width most text l p q)
  one_net_of width most text address Masked (Prefix w k) p (q, same) = absurd (no_hole width most text k q p)
  one_net_of width most text address Masked Masked p q = refl

  pub one_net_by : (width : ℕ) → width ≤ 128 → HasOneNet Reads width
  one_net_by width most text a b (inl (x, reads, is)) (inl (y, other, same)) =
      is ∙ ap (λ n. Prefix n width) (laws.one text x y reads other) ∙ sym same
  one_net_by width most text a b (inl p) (inr (f, b', y, split, other, of)) =
      absurd (lacks_none 47 text f b' (lacks_slash text (laws.plain text p.0 p.1)) (split_at 47 text f b' split))
  one_net_by width most text a b (inr (f, b', x, split, reads, of)) q =
      let (y, other, of_b) = slashed_parts width text f b' (lacks_slash f (laws.plain f x reads)) (split_at 47 text f b' split) b q in
      one_net_of width most b' x a b of (subst (λ n. IsNetOf Reads width n b' b) (laws.one f y x other reads) of_b)

  pub dashed_parts : (text front back : List ℕ) → Lacks 45 front → text ≡ front ++ (45 ∷ back) → (range : Range)
      → IsRangeText Reads text range → Reads front range.lo × Reads back range.hi × (range.lo ≤ range.hi)
  dashed_parts text front back lacks split range (f, b, other, lo, hi, le) =
      let (front_is, back_is) = one_parting 45 text front back f b lacks (lacks_dash f (laws.plain f range.lo lo)) split (split_at 45 text f b other) in
      (subst (λ t. Reads t range.lo) (sym front_is) lo, subst (λ t. Reads t range.hi) (sym back_is) hi, le)

  same_range : (r s : Range) → r.lo ≡ s.lo → r.hi ≡ s.hi → r ≡ s
  same_range r s e f = λ i. record { lo = e i; hi = f i }

  pub one_range_by : HasOneRange Reads
  one_range_by text a b (f, b', split, lo, hi, le) q =
      let (lo', hi', le') = dashed_parts text f b' (lacks_dash f (laws.plain f a.lo lo)) (split_at 45 text f b' split) b q in
      same_range a b (laws.one f _ _ lo lo') (laws.one b' _ _ hi hi')
