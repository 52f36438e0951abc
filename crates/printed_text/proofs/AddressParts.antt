-- The parts of a line that name addresses.
use Rattle.std.proofs.Common.{◌≡◌, ◌++◌, ◌∷◌, ◌-◌, ◌*◌, ◌/◌, ◌%◌, ◌^◌, ◌<◌, ◌≤◌, [], ℕ, List, Bool, true, false, Option, Some, None, inl, inr, refl, sym, ap, arith, codes, decimal, append_assoc, if◌then◌else◌, pow_pos, lit≤, length}
use Rattle.std.proofs.lemmas.Nat.{div-add-mod'}
use Rattle.interval_set.specs.declared.set.Range.{Range}
use Rattle.interval_set.specs.Numbers.{IsWidth}
use Rattle.interval_set.specs.Prefix.{prefix_range}
use Rattle.addr_text.specs.declared.net.Net.{Net}
use Rattle.addr_text.specs.Grammar.{IsPlain}
use Rattle.addr_text.specs.Nets.{IsNetText, IsRangeText}
use Rattle.match_expr.specs.declared.expr.Expr.TheVariants.{Prim}
use Rattle.primitives.specs.declared.prim.Prim_.{Prim_}
use Rattle.dump_grammar.specs.Arguments.{Says}
use Rattle.dump_grammar.specs.ChainLines.{is_among}
use Rattle.dump_grammar.specs.Groups.{Group, IsOptionName, arity_of, base_options}
use Rattle.dump_grammar.specs.Lines.{Text, bare}
use Rattle.dump_grammar.specs.Literals.{IsBaseLiteral, IsNetLiteral}
use Rattle.primitives.specs.Ranges.{IsRange}
use Rattle.dump_grammar.proofs.SaidBy.{destination_range, source_range}
use Rattle.dump_print.specs.Addresses.{is_everything, net_words, net_words_of, prefix_length, range_words, range_words_of}
use Rattle.dump_print.specs.Parts.{both_words, iprange_words}
use Rattle.printed_filter.specs.Literals.{net_literals, other_literal, prefix_literal, range_literals, yes}
use Rattle.dump_print.proofs.AddressLemmas.{found}
use Rattle.printed_text.proofs.WordLemmas.{CanStand, IsClean, clean_address, clean_decimal, clean_from, clean_is_written, code_is_written, some_joined}
use Rattle.printed_text.proofs.PartLemmas.{arity_is, IsInner, IsPart, MaybePart, base_part, join_inner, module_part, no_inner, no_part, option_part}
use Rattle.basics.proofs.Lists.{each_append}

-- ---- the length of a prefix
-- the length is one that a prefix of the range has
abbrev IsLengthOf : ℕ → ℕ → Range → ℕ → Type 0
IsLengthOf w most r len = (len ≤ most) × (prefix_range w r.lo len ≡ r)

-- ---- texts
pub width_small : (W : ℕ) → IsWidth W → W ≤ 128
width_small W (inl e) = omega (arith, e)
width_small W (inr (inl e)) = omega (arith, e)
width_small W (inr (inr (inl e))) = omega (arith, e)
width_small W (inr (inr (inr e))) = omega (arith, e)

cleared : (x k : ℕ) → x / k * k ≡ x → x ≡ x - x % k
cleared x k e = omega (arith, div-add-mod' x k, e)

pub below_top : (W n : ℕ) → n ≤ 2 ^ W - 1 → n < 2 ^ W
below_top W n l = let some : 0 < 2 ^ W = pow_pos W in omega (arith, some, l)

module _ {W : ℕ} (Reads : Text → ℕ → Type 0) (Knows : List Group → Type 0) (text_of : ℕ → Text) (width : IsWidth W)
    (round : (value : ℕ) → value < 2 ^ W → Reads (text_of value) value)
    (plain : (text : Text) (value : ℕ) → Reads text value → IsPlain text) where
  reads_low : (r : Range) → IsRange W r → Reads (text_of r.lo) r.lo
  reads_low r is = round r.lo (below_top W r.lo (omega (arith, is.0, is.1)))

  reads_high : (r : Range) → IsRange W r → Reads (text_of r.hi) r.hi
  reads_high r is = round r.hi (below_top W r.hi is.1)

  address_clean : (n : ℕ) → Reads (text_of n) n → IsClean (text_of n)
  address_clean n reads = clean_address (text_of n) (plain (text_of n) n reads)

  address_some : (n : ℕ) → Reads (text_of n) n → 0 < length (text_of n)
  address_some n reads = (plain (text_of n) n reads).some

  abbrev net_text : Range → ℕ → Text
  net_text r len = text_of r.lo ++ (codes "/" ++ decimal len)

  net_is : (r : Range) (len : ℕ) → IsRange W r → IsLengthOf W W r len → IsNetText Reads W (net_text r len) (Net.Prefix r.lo len)
  net_is r len is of = inr (
    text_of r.lo,
    decimal len,
    r.lo,
    sym (append_assoc (text_of r.lo) (codes "/") (decimal len)),
    reads_low r is,
    ((of.0, inl refl), cleared r.lo (2 ^ (W - len)) (ap (λ (x : Range). x.lo) of.1)),
  )

  net_written : (r : Range) (len : ℕ) → IsRange W r → len ≤ W → CanStand (bare (net_text r len))
  net_written r len is l =
      let reads = reads_low r is in
      clean_is_written (net_text r len) (some_joined (text_of r.lo) (codes "/" ++ decimal len) (address_some r.lo reads))
      (each_append (λ b. 34 < b) (text_of r.lo) (codes "/" ++ decimal len) (address_clean r.lo reads)
      (each_append (λ b. 34 < b) (codes "/") (decimal len) (clean_from (codes "/") refl) (clean_decimal len (omega (arith, l, width_small W width)))))

  -- the option says where an address lies
  abbrev SaysNet : Text → (List Range → Prim_ W) → Type 0
  SaysNet option prim = (text : Text) (x : Prim_ W) → IsNetLiteral Reads prim text false [] (yes x) → IsBaseLiteral Reads false option (text ∷ []) (yes x)

  source_says : SaysNet (codes "-s") Prim_.Src
  source_says text x is = inl (text, (refl, refl, is))

  destination_says : SaysNet (codes "-d") Prim_.Dst
  destination_says text x is = inr (inl (text, (refl, refl, is)))

  net_literal : (prim : List Range → Prim_ W) (r : Range) (len : ℕ) → IsRange W r → IsLengthOf W W r len → IsNetLiteral Reads prim (net_text r len) false [] (yes (prim (r ∷ [])))
  net_literal prim r len is of = (r.lo, len, (net_is r len is of, refl, ap (λ (x : Range). Prim (prim (x ∷ []))) (sym of.1)))

  net_part_of : (option : Text) (prim : List Range → Prim_ W) (r : Range) → is_among base_options option ≡ true → arity_of [] option ≡ Some 1
      → SaysNet option prim → CanStand (bare option) → IsRange W r → (everything : Bool) (o : Option ℕ) → prefix_length W r ≡ o
      → MaybePart Reads Knows option (if everything then [] else net_words_of text_of W option r o) (if everything then [] else prefix_literal prim r o)
  net_part_of option prim r among arity says named is true o e = record { there = false; part = no_part Reads Knows }
  net_part_of option prim r among arity says named is false None e = record { there = false; part = no_part Reads Knows }
  net_part_of option prim r among arity says named is false (Some len) e =
      let of = found W W len r e in
      record {
        there = true;
        part = base_part Reads Knows false option (bare (net_text r len)) (yes (prim (r ∷ []))) among arity
            (says (net_text r len) (prim (r ∷ [])) (net_literal prim r len is of)) named (net_written r len is of.0);
      }

  pub source_part : (r : Range) → IsRange W r → MaybePart {W = W} Reads Knows (codes "-s") (net_words text_of W (codes "-s") r) (net_literals Prim_.Src r)
  source_part r is = net_part_of (codes "-s") Prim_.Src r refl (arity_is [] (codes "-s") 1 refl) source_says (code_is_written (codes "-s") refl) is (is_everything W r) (prefix_length W r) refl

  pub destination_part : (r : Range) → IsRange W r → MaybePart {W = W} Reads Knows (codes "-d") (net_words text_of W (codes "-d") r) (net_literals Prim_.Dst r)
  destination_part r is = net_part_of (codes "-d") Prim_.Dst r refl (arity_is [] (codes "-d") 1 refl) destination_says (code_is_written (codes "-d") refl) is (is_everything W r) (prefix_length W r) refl

  -- ---- ranges that are no prefix
  abbrev range_text : Range → Text
  range_text r = text_of r.lo ++ (codes "-" ++ text_of r.hi)

  range_is : (r : Range) → IsRange W r → IsRangeText Reads (range_text r) r
  range_is r is = (text_of r.lo, text_of r.hi, sym (append_assoc (text_of r.lo) (codes "-") (text_of r.hi)), reads_low r is, reads_high r is, is.0)

  range_written : (r : Range) → IsRange W r → CanStand (bare (range_text r))
  range_written r is =
      let low = reads_low r is in
      let high = reads_high r is in
      clean_is_written (range_text r) (some_joined (text_of r.lo) (codes "-" ++ text_of r.hi) (address_some r.lo low))
      (each_append (λ b. 34 < b) (text_of r.lo) (codes "-" ++ text_of r.hi) (address_clean r.lo low)
      (each_append (λ b. 34 < b) (codes "-") (text_of r.hi) (clean_from (codes "-") refl) (address_clean r.hi high)))

  -- the option of iprange says where an address lies
  abbrev SaysRange : Text → (List Range → Prim_ W) → Type 0
  SaysRange option prim = (all : List Group) (text : Text) (r : Range) → IsRangeText Reads text r
      → Says Reads all (codes "iprange") option (text ∷ []) false (Prim (prim (r ∷ [])))

  source_range_says : SaysRange (codes "--src-range") Prim_.Src
  source_range_says all text r is = source_range Reads all false text r refl refl refl is refl

  destination_range_says : SaysRange (codes "--dst-range") Prim_.Dst
  destination_range_says all text r is = destination_range Reads all false text r refl refl refl is refl

  range_part_of : (option : Text) (prim : List Range → Prim_ W) (r : Range) → arity_of (codes "iprange") option ≡ Some 1 → IsOptionName option
      → SaysRange option prim → CanStand (bare option) → IsRange W r → (o : Option ℕ)
      → IsInner Reads Knows (codes "iprange") (range_words_of text_of W option r o) (other_literal prim r o)
  range_part_of option prim r arity name says named is None =
      option_part Reads Knows false (codes "iprange") option (bare (range_text r) ∷ []) (Prim (prim (r ∷ []))) arity name
      (λ all knows. says all (range_text r) r (range_is r is)) named (range_written r is, tt)
  range_part_of option prim r arity name says named is (Some len) = no_inner Reads Knows (codes "iprange")

  pub ranges_part : (source destination : Range) → IsRange W source → IsRange W destination
      → IsPart {W = W} Reads Knows [] (iprange_words text_of W source destination) (range_literals Prim_.Src source ++ range_literals Prim_.Dst destination)
  ranges_part source destination is same =
      module_part Reads Knows (codes "iprange") (both_words text_of W source destination) (range_literals Prim_.Src source ++ range_literals Prim_.Dst destination)
      refl (code_is_written (codes "iprange") refl)
      (join_inner Reads Knows (codes "iprange") (range_words text_of W (codes "--src-range") source) (range_words text_of W (codes "--dst-range") destination)
      (range_literals Prim_.Src source) (range_literals Prim_.Dst destination)
      (range_part_of (codes "--src-range") Prim_.Src source (arity_is (codes "iprange") (codes "--src-range") 1 refl) (refl, lit≤ tt) source_range_says (code_is_written (codes "--src-range") refl) is (prefix_length W source))
      (range_part_of (codes "--dst-range") Prim_.Dst destination (arity_is (codes "iprange") (codes "--dst-range") 1 refl) (refl, lit≤ tt) destination_range_says (code_is_written (codes "--dst-range") refl) same (prefix_length W destination)))
