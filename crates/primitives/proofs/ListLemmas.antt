-- Lists of names, and the parts between commas.
use Rattle.std.proofs.Common.{◌≡◌, ◌++◌, ◌∷◌, ◌<◌, ◌^◌, ℕ, List, Bool, true, false, Option, Some, None, IfNone, inl, inr, bit_or, codes, nat_lt, refl, sym, ◌∙◌, ap, arith}
use Rattle.std.specs.Int.Bits.{or_zero_r}
use Rattle.std.specs.Str.{bytes_eq}
use Rattle.std.proofs.lemmas.Slice.Eq.{bytes_eq-Decides}
use Rattle.std.proofs.lemmas.Bool.Decides.{nat_tests}
use Rattle.std.proofs.lemmas.Nat.Bits.{bit_at_or, same_from_bits}
use Rattle.basics.specs.Parts.{Lacks, comma_parts}
use Rattle.basics.proofs.PartingLemmas.{parts_at, parts_last}
use Rattle.primitives.specs.Tables.{Named, bit_in, bit_of, bits_in, both_bits, flag_names, number_in}
use Rattle.primitives.specs.Words.{SpellsFlags}
use Rattle.primitives.specs.inner.Rows.{are_places}
use Rattle.primitives.proofs.WordLemmas.{number_passes}

or_assoc : (a b c : ℕ) → bit_or (bit_or a b) c ≡ bit_or a (bit_or b c)
or_assoc a b c = same_from_bits (bit_or (bit_or a b) c) (bit_or a (bit_or b c)) (λ i.
    let e = bit_at_or (bit_or a b) c i in
    let f = bit_at_or a b i in
    let g = bit_at_or a (bit_or b c) i in
    let h = bit_at_or b c i in
    grind (arith, e, f, g, h))

both_more : (f b : ℕ) (r : Option ℕ) → both_bits (Some f) (both_bits (Some b) r) ≡ both_bits (Some (bit_or f b)) r
both_more f b None = refl
both_more f b (Some a) = ap Some (sym (or_assoc f b a))

-- the bits found so far, with those of the parts that are left
abbrev pub bits_with : List Named → ℕ → List ℕ → Option ℕ
bits_with names f rest = both_bits (Some f) (bits_in names (comma_parts rest))

-- a first part that is a name is passed
pub name_passed : (names : List Named) (rest part after : List ℕ) (f b : ℕ) (w : Option ℕ) → (rest ≡ part ++ 44 ∷ after) × Lacks 44 part →
    bit_in names part ≡ Some b → bits_with names f rest ≡ w → bits_with names (bit_or f b) after ≡ w
name_passed names rest part after f b w cut is all =
    sym (both_more f b (bits_in names (comma_parts after)))
    ∙ ap (λ r. both_bits (Some f) (both_bits r (bits_in names (comma_parts after)))) (sym is)
    ∙ ap (λ ps. both_bits (Some f) (bits_in names ps)) (sym (parts_at rest part after cut)) ∙ all

-- where the first part is no name, the list names nothing
pub name_unknown : (names : List Named) (rest part after : List ℕ) (f : ℕ) (w : Option ℕ) → (rest ≡ part ++ 44 ∷ after) × Lacks 44 part →
    bit_in names part ≡ None → bits_with names f rest ≡ w → None ≡ w
name_unknown names rest part after f w cut is all =
    ap (λ r. both_bits (Some f) (both_bits r (bits_in names (comma_parts after)))) (sym is)
    ∙ ap (λ ps. both_bits (Some f) (bits_in names ps)) (sym (parts_at rest part after cut)) ∙ all

-- the last part
pub name_last : (names : List Named) (rest : List ℕ) (f : ℕ) (w r : Option ℕ) → Lacks 44 rest → bit_in names rest ≡ r →
    bits_with names f rest ≡ w → both_bits (Some f) (both_bits r (Some 0)) ≡ w
name_last names rest f w r free is all =
    ap (λ q. both_bits (Some f) (both_bits q (Some 0))) (sym is) ∙ ap (λ ps. both_bits (Some f) (bits_in names ps)) (sym (parts_last rest free)) ∙ all

pub name_last_some : (names : List Named) (rest : List ℕ) (f b : ℕ) (w : Option ℕ) → Lacks 44 rest → bit_in names rest ≡ Some b →
    bits_with names f rest ≡ w → Some (bit_or f b) ≡ w
name_last_some names rest f b w free is all = ap (λ n. Some (bit_or f n)) (sym (or_zero_r b)) ∙ name_last names rest f w (Some b) free is all

-- ---- the bit of one name
pub place_small : (names : List Named) (text : List ℕ) (n : ℕ) → are_places names ≡ true → number_in names text ≡ Some n → n < 8
place_small names text n places is =
    let passes = number_passes (λ (word : Named). nat_lt word.number 8) names text n places is in grind (arith, nat_tests, passes)

pub bit_is : (names : List Named) (text : List ℕ) (n b : ℕ) → number_in names text ≡ Some n → b ≡ 2 ^ n → Some b ≡ bit_in names text
unfolding bit_in
bit_is names text n b is same = ap Some same ∙ ap bit_of (sym is)

pub bit_none : (names : List Named) (text : List ℕ) → number_in names text ≡ None → None ≡ bit_in names text
unfolding bit_in
bit_none names text is = ap bit_of (sym is)

-- ---- lists of flags, or ALL, or NONE
pub other_text : (text word : List ℕ) (e : Bool) → e ≡ bytes_eq text word → e ≡ false → text ≡ word → ⊥
other_text text word e is off same = let f = (bytes_eq-Decides text word).1 same in absurd (grind (arith, f, is, off))

pub none_spelled : (text : List ℕ) (r : Option ℕ) → (text ≡ codes "ALL" → ⊥) → (text ≡ codes "NONE" → ⊥) → r ≡ bits_in flag_names (comma_parts text) →
    IfNone r ((flags : ℕ) → SpellsFlags text flags → ⊥)
none_spelled text (Some n) all none list = tt
none_spelled text None all none list = λ flags spells. elim spells [
  | inl a ↦ all a.0
  | inr rest ↦ elim rest [
    | inl a ↦ none a.0
    | inr a ↦ let wrong : None ≡ Some flags = list ∙ a in absurd (cc wrong)
  ]
]
