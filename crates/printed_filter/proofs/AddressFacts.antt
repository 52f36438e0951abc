-- What a line says of an address.
use Rattle.std.proofs.Common.{◌≡◌, ℕ, ◌^◌, ◌<◌, List, [], ◌∷◌, Bool, true, false, ◌&&◌, ◌||◌, Option, Some, None, refl, sym, ◌∙◌, ap, arith}
use Rattle.std.specs.Prelude.{if◌then◌else◌}
use Rattle.std.specs.List.{list_any}
use Rattle.std.proofs.lemmas.Bool.Decides.{nat_tests}
use Rattle.interval_set.specs.declared.set.Range.{Range}
use Rattle.interval_set.specs.Numbers.{has, is_within}
use Rattle.primitives.specs.declared.prim.Packet.{Packet}
use Rattle.primitives.specs.declared.prim.Prim_.{Prim_}
use Rattle.primitives.specs.Holds.{holds_of}
use Rattle.fw_rule.specs.declared.rule.Lit.{Lit}
use Rattle.fw_rule.specs.Walk.{doubt_in}
use Rattle.dump_print.specs.Addresses.{is_everything, prefix_length}
use Rattle.printed_filter.specs.Literals.{yes, prefix_literal, net_literals, other_literal, range_literals}
use Rattle.printed_filter.proofs.Facts.{facts, one_fact}
use Rattle.printed_filter.proofs.Truths.{and_true, or_false}

pub everything_has : (w : ℕ) (r : Range) (x : ℕ) → x < 2 ^ w → is_everything w r ≡ true → is_within r x ≡ true
everything_has w r x small e = grind (arith, nat_tests)

-- whether one of the ranges has the number
pub in_ranges : (x : ℕ) (rs : List Range) → list_any (λ r. is_within r x) rs ≡ has rs x
in_ranges x [] = refl
in_ranges x (r ∷ rs) = ap (λ b. is_within r x || b) (in_ranges x rs)

module _ {W : ℕ} (p : Packet) (prim : List Range → Prim_ W) (x : ℕ) (says : (rs : List Range) → holds_of (prim rs) p ≡ has rs x) (small : x < 2 ^ W) where
  abbrev told : List (Lit (Prim_ W)) → Bool
  told = facts (holds_of {W = W}) p

  within : (r : Range) → told (yes (prim (r ∷ [])) ∷ []) ≡ is_within r x
  within r = one_fact (holds_of {W = W}) p (prim (r ∷ [])) ∙ says (r ∷ []) ∙ or_false (is_within r x)

  by_length : (r : Range) (len : Option ℕ) (b : Bool) → is_everything W r ≡ b →
      (told (if b then [] else prefix_literal prim r len) && told (other_literal prim r len)) ≡ is_within r x
  by_length r None true e = within r
  by_length r None false e = within r
  by_length r (Some len) true e = sym (everything_has W r x small e)
  by_length r (Some len) false e = and_true (told (yes (prim (r ∷ [])) ∷ [])) ∙ within r

  -- both options of an address say its range
  pub address_meets : (r : Range) → (told (net_literals prim r) && told (range_literals prim r)) ≡ is_within r x
  address_meets r = by_length r (prefix_length W r) (is_everything W r) refl

module _ {W : ℕ} (prim : List Range → Prim_ W) (r : Range) where
  net_by : (b : Bool) (len : Option ℕ) → doubt_in (if b then [] else prefix_literal prim r len) ≡ false
  net_by true len = refl
  net_by false None = refl
  net_by false (Some len) = refl

  pub net_known : doubt_in (net_literals prim r) ≡ false
  net_known = net_by (is_everything W r) (prefix_length W r)

  range_by : (len : Option ℕ) → doubt_in (other_literal prim r len) ≡ false
  range_by None = refl
  range_by (Some len) = refl

  pub range_known : doubt_in (range_literals prim r) ≡ false
  range_known = range_by (prefix_length W r)
