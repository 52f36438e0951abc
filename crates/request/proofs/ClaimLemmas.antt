-- A part of a set has one range, a set one list of them, and a claim one name and one set.
use Rattle.std.proofs.Common.{◌≡◌, ◌∙◌, ◌<◌, ◌≤◌, ◌^◌, ◌==◌, ◌++◌, get_or, length, ℕ, List, [], ◌∷◌, Bool, true, false, sym, ap, subst, arith, inl, inr, decimal, codes, append_assoc, lit≤}
use Rattle.std.specs.List.{AllByRecursion, AllZip}
use Rattle.std.proofs.lemmas.Bool.Decides.{nat_tests}
use Rattle.std.proofs.lemmas.Fmt.{decimal_injective}
use Rattle.std.proofs.lemmas.List.{nil_from_length}
use Rattle.interval_set.specs.declared.set.Range.{Range}
use Rattle.interval_set.specs.Prefix.{prefix_range}
use Rattle.interval_set.proofs.PrefixLaws.{prefix_ordered, prefix_within}
use Rattle.addr_text.specs.Ipv4Laws.{ipv4_fits, ipv4_not_number, ipv4_one, ipv4_plain}
use Rattle.addr_text.specs.Ipv6Laws.{ipv6_fits, ipv6_not_number, ipv6_one, ipv6_plain}
use Rattle.addr_text.specs.Nets.{IsRangeText}
use Rattle.basics.specs.Parts.{Lacks, comma_parts}
use Rattle.basics.proofs.PartingLemmas.{lacks_none, one_last_parting, one_parting, two_marks}
use Rattle.addr_text.proofs.PartLemmas.{lacks_dash, lacks_slash}
use Rattle.addr_text.proofs.TextLemmas.{IsFamily, one_range_by}
use Rattle.request.specs.Arguments.{AreClaims, IsAlone, IsClaim, IsPart, IsPrefixOf, IsPrefixText}
use Rattle.request.specs.Fields.{SaysAddress}
use Rattle.primitives.specs.Ranges.{IsRange}
use Rattle.request.specs.Requests.{width_of}
use Rattle.request.specs.declared.types.Claim.{Claim}
use Rattle.request.proofs.ReadingLemmas.{zip_each, zip_once}

dashed : (text front back : List ℕ) → text ≡ (front ++ codes "-") ++ back → text ≡ front ++ (45 ∷ back)
dashed text front back is = is ∙ append_assoc front (45 ∷ []) back

module _ (Reads : List ℕ → ℕ → Type 0) (laws : IsFamily Reads) (W : ℕ) where
  -- what stands around the first slash of a prefix
  pub prefix_parts : (text front back : List ℕ) (address len : ℕ) → (text ≡ front ++ (47 ∷ back)) × Lacks 47 front → IsPrefixOf Reads W text address len
      → Reads front address × (back ≡ decimal len) × (len ≤ W)
  prefix_parts text front back address len (split, lacks) (f, (other, reads, fits)) =
      let (front_is, back_is) = one_parting 47 text front back f (decimal len) lacks (lacks_slash f (laws.plain f address reads)) split other in
      (subst (λ (t : List ℕ). Reads t address) (sym front_is) reads, back_is, fits)

  -- a text without a slash is no prefix
  pub no_slash : (text : List ℕ) → Lacks 47 text → (address len : ℕ) → IsPrefixOf Reads W text address len → ⊥
  no_slash text lacks address len (front, is) = lacks_none 47 text front (decimal len) lacks is.0

  alone_no_prefix : (text : List ℕ) (r s : Range) → IsAlone Reads W text r → IsPrefixText Reads W text s → ⊥
  alone_no_prefix text r s (address, (reads, is)) (x, len, p, same) = no_slash text (lacks_slash text (laws.plain text address reads)) x len p

  alone_no_range : (text : List ℕ) (r s : Range) → IsAlone Reads W text r → IsRangeText Reads text s → ⊥
  alone_no_range text r s (address, (reads, is)) (front, back, split, lo, hi, ordered) =
      lacks_none 45 text front back (lacks_dash text (laws.plain text address reads)) (dashed text front back split)

  prefix_no_range : (text : List ℕ) (r s : Range) → IsPrefixText Reads W text r → IsRangeText Reads text s → ⊥
  prefix_no_range text r s (address, len, (f, (is, reads, fits)), same) (front, back, split, lo, hi, ordered) =
      two_marks 45 47 front back f (decimal len) (λ e. absurd (omega (arith, e))) (lacks_slash front (laws.plain front s.lo lo))
      (lacks_dash f (laws.plain f address reads)) (sym (dashed text front back split) ∙ is)

  alone_once : (text : List ℕ) (r s : Range) → IsAlone Reads W text r → IsAlone Reads W text s → r ≡ s
  alone_once text r s (x, (reads, is)) (y, (other, same)) =
      is ∙ ap (λ (n : ℕ). record { lo = n; hi = n }) (laws.one text x y reads other) ∙ sym same

  pub same_prefix : W ≤ 128 → (text : List ℕ) (x k y l : ℕ) → IsPrefixOf Reads W text x k → IsPrefixOf Reads W text y l → (x ≡ y) × (k ≡ l)
  same_prefix most text x k y l (f, (is, reads, fits)) other =
      let (reads', is', fits') = prefix_parts text f (decimal k) y l (is, lacks_slash f (laws.plain f x reads)) other in
      (laws.one f x y reads reads', decimal_injective k l (omega (arith, fits, most)) (omega (arith, fits', most)) is')

  prefix_once : W ≤ 128 → (text : List ℕ) (r s : Range) → IsPrefixText Reads W text r → IsPrefixText Reads W text s → r ≡ s
  prefix_once most text r s (x, k, p, same) (y, l, q, same') =
      let (value, length) = same_prefix most text x k y l p q in
      same ∙ ap (λ (n : ℕ). prefix_range W n k) value ∙ ap (λ (n : ℕ). prefix_range W y n) length ∙ sym same'

  part_once : W ≤ 128 → (text : List ℕ) (r s : Range) → IsPart Reads W text r → IsPart Reads W text s → r ≡ s
  part_once most text r s (inl p) (inl q) = alone_once text r s p q
  part_once most text r s (inl p) (inr (inl q)) = absurd (alone_no_prefix text r s p q)
  part_once most text r s (inl p) (inr (inr q)) = absurd (alone_no_range text r s p q)
  part_once most text r s (inr (inl p)) (inl q) = absurd (alone_no_prefix text s r q p)
  part_once most text r s (inr (inl p)) (inr (inl q)) = prefix_once most text r s p q
  part_once most text r s (inr (inl p)) (inr (inr q)) = absurd (prefix_no_range text r s p q)
  part_once most text r s (inr (inr p)) (inl q) = absurd (alone_no_range text s r q p)
  part_once most text r s (inr (inr p)) (inr (inl q)) = absurd (prefix_no_range text s r q p)
  part_once most text r s (inr (inr p)) (inr (inr q)) = one_range_by Reads laws text r s p q

  same_claim : (a b : Claim) → a.name ≡ b.name → a.inside ≡ b.inside → a ≡ b
  same_claim a b e f = λ i. record { name = e i; inside = f i }

  claim_once : W ≤ 128 → (text : List ℕ) (a b : Claim) → IsClaim Reads W text a → IsClaim Reads W text b → a ≡ b
  claim_once most text a b p q =
      let (name, set) = one_last_parting 61 a.name p.set b.name q.set p.last q.last (sym p.parted ∙ q.parted) in
      same_claim a b name
      (zip_once (IsPart Reads W) (part_once most) (comma_parts p.set) a.inside b.inside p.parts
      (subst (λ (t : List ℕ). AllZip (IsPart Reads W) (comma_parts t) b.inside) (sym set) q.parts))

  part_bound : ((text : List ℕ) (value : ℕ) → Reads text value → value < 2 ^ W) → (text : List ℕ) (r : Range) → IsPart Reads W text r → IsRange W r
  part_bound fits text r (inl (x, (reads, is))) =
      let small = fits text x reads in
      (omega (arith, ap (λ (s : Range). s.lo) is, ap (λ (s : Range). s.hi) is), omega (arith, ap (λ (s : Range). s.hi) is, small))
  part_bound fits text r (inr (inl (x, len, (front, (split, reads, short)), is))) =
      let small = fits front x reads in
      (prefix_ordered W x len r is, prefix_within W x len r short (omega (arith, small)) is)
  part_bound fits text r (inr (inr (front, back, split, lo, hi, ordered))) =
      let small = fits back r.hi hi in (ordered, omega (arith, small))

pub no_bytes : (text : List ℕ) → (length text == 0) ≡ true → text ≡ []
no_bytes text e = nil_from_length text (grind (arith, nat_tests, e))

module _ (Reads : List ℕ → ℕ → Type 0) (W : ℕ) where
  -- where its set has no ranges, a text is no claim
  pub no_set : (text front back : List ℕ) → (text ≡ front ++ (61 ∷ back)) × Lacks 61 back → ((rs : List Range) → AllZip (IsPart Reads W) (comma_parts back) rs → ⊥)
      → (claim : Claim) → IsClaim Reads W text claim → ⊥
  no_set text front back (split, lacks) none claim is =
      let (name, set) = one_last_parting 61 front back claim.name is.set lacks is.last (sym split ∙ is.parted) in
      none claim.inside (subst (λ (t : List ℕ). AllZip (IsPart Reads W) (comma_parts t) claim.inside) (sym set) is.parts)

  -- nor where it has no name
  pub no_name : (text front back : List ℕ) → (text ≡ front ++ (61 ∷ back)) × Lacks 61 back → (b : Bool) → b ≡ (length front == 0) → b ≡ true
      → (claim : Claim) → IsClaim Reads W text claim → ⊥
  no_name text front back (split, lacks) b test holds claim is =
      let (name, set) = one_last_parting 61 front back claim.name is.set lacks is.last (sym split ∙ is.parted) in
      is.named (sym name ∙ no_bytes front (sym test ∙ holds))

  -- nor where it has no `=`
  pub no_equals : (text : List ℕ) → Lacks 61 text → (claim : Claim) → IsClaim Reads W text claim → ⊥
  no_equals text lacks claim is = lacks_none 61 text claim.name is.set lacks is.parted

-- the laws of the addresses of each family
pub family_laws : (six : Bool) → IsFamily (SaysAddress six)
family_laws false = record { one = ipv4_one; plain = ipv4_plain; not_number = ipv4_not_number }
family_laws true = record { one = ipv6_one; plain = ipv6_plain; not_number = ipv6_not_number }

pub family_fits : (six : Bool) (text : List ℕ) (value : ℕ) → SaysAddress six text value → value < 2 ^ width_of six
family_fits false text value reads = ipv4_fits text value reads
family_fits true text value reads = ipv6_fits text value reads

pub width_small : (six : Bool) → width_of six ≤ 128
width_small false = lit≤ tt
width_small true = lit≤ tt

-- arguments have one list of claims
pub claims_once_by : (Reads : List ℕ → ℕ → Type 0) (W : ℕ) → IsFamily Reads → W ≤ 128 → (arguments : List (List ℕ)) (a b : List Claim)
    → AreClaims Reads W arguments a → AreClaims Reads W arguments b → a ≡ b
claims_once_by Reads W laws most arguments a b p q = zip_once (IsClaim Reads W) (claim_once Reads laws W most) arguments a b p q

pub claims_once : (six : Bool) (arguments : List (List ℕ)) (a b : List Claim) → AreClaims (SaysAddress six) (width_of six) arguments a
    → AreClaims (SaysAddress six) (width_of six) arguments b → a ≡ b
claims_once six = claims_once_by (SaysAddress six) (width_of six) (family_laws six) (width_small six)

pub claims_bound_by : (Reads : List ℕ → ℕ → Type 0) (W : ℕ) → IsFamily Reads → ((text : List ℕ) (value : ℕ) → Reads text value → value < 2 ^ W)
    → (arguments : List (List ℕ)) (claims : List Claim) → AreClaims Reads W arguments claims → AllByRecursion (λ claim. AllByRecursion (IsRange W) claim.inside) claims
claims_bound_by Reads W laws fits arguments claims are =
    zip_each (IsClaim Reads W) (λ (claim : Claim). AllByRecursion (IsRange W) claim.inside)
    (λ text claim is. zip_each (IsPart Reads W) (IsRange W) (part_bound Reads laws W fits) (comma_parts is.set) claim.inside is.parts) arguments claims are

-- the ranges of claims are of the family's addresses
pub claims_bound : (six : Bool) (arguments : List (List ℕ)) (claims : List Claim) → AreClaims (SaysAddress six) (width_of six) arguments claims
    → AllByRecursion (λ claim. AllByRecursion (IsRange (width_of six)) claim.inside) claims
claims_bound six = claims_bound_by (SaysAddress six) (width_of six) (family_laws six) (family_fits six)

-- the first of the ranges of a set with one range
pub first_is : (P : Range → Type 0) (rs set : List Range) (r d : Range) → rs ≡ set → set ≡ r ∷ [] → P r → P (get_or rs 0 d)
first_is P rs set r d same one p = subst P (sym (ap (λ (xs : List Range). get_or xs 0 d) (same ∙ one))) p
