-- What a line and the returns of a helper chain say of a number: of the protocol, or of the type of a message.
use Rattle.std.proofs.Common.{◌≡◌, ℕ, zero, suc, ◌+◌, ◌-◌, ◌<◌, ◌==◌, List, [], ◌∷◌, Bool, true, false, not, ◌&&◌, ◌||◌, nat_lt, refl, sym, ◌∙◌, ap, arith}
use Rattle.std.specs.Prelude.{if◌then◌else◌, nat_le}
use Rattle.std.specs.List.{list_any}
use Rattle.std.proofs.lemmas.Bool.{and_parts}
use Rattle.std.proofs.lemmas.Bool.Decides.{nat_tests}
use Rattle.interval_set.specs.declared.set.Range.{Range}
use Rattle.interval_set.specs.Numbers.{has, is_within}
use Rattle.interval_set.specs.Spelling.{set_not}
use Rattle.interval_set.proofs.Spelling.{not_has}
use Rattle.primitives.specs.declared.prim.Packet.{Packet}
use Rattle.primitives.specs.declared.prim.Prim_.{Prim_}
use Rattle.primitives.specs.Holds.{holds_of}
use Rattle.fw_rule.specs.declared.rule.Lit.{Lit}
use Rattle.fw_rule.specs.Walk.{doubt_in}
use Rattle.dump_print.specs.declared.numbers.Numbers.{Numbers}
use Rattle.dump_print.specs.Addresses.{is_everything}
use Rattle.dump_print.specs.Helpers.{returned_numbers}
use Rattle.dump_print.specs.Numbers.{lacking, numbers_from, numbers_of, said_of, said_without}
use Rattle.printed_filter.specs.Literals.{number_literals}
use Rattle.printed_filter.proofs.AddressFacts.{everything_has, in_ranges}
use Rattle.printed_filter.proofs.Facts.{facts, one_denied, one_fact}
use Rattle.printed_filter.proofs.Truths.{and_true, any_flat, any_same}

-- what the form of a set says of a number
abbrev pub Means : Numbers → List Range → ℕ → Type 0
Means Numbers.Every rs x = has rs x ≡ true
Means (Numbers.Only n) rs x = has rs x ≡ (x == n)
Means (Numbers.AllBut n) rs x = has rs x ≡ not (x == n)
Means Numbers.Others rs x = Unit {0}

lacks_one : (h : Bool) (r : Range) (x : ℕ) → r.lo ≡ r.hi → has (r ∷ []) x ≡ not h → h ≡ not (x == r.lo)
lacks_one h r x same e = grind (arith, nat_tests, e)

module _ (rs : List Range) (x : ℕ) (small : x < 256) where
  lack : (ls : List Range) → ls ≡ set_not 8 rs → has ls x ≡ not (has rs x)
  lack ls is = ap (λ (z : List Range). has z x) is ∙ not_has 8 rs x ∙ ap (λ b. b && not (has rs x)) below
    where
      below : nat_lt x 256 ≡ true
      below = grind (arith, nat_tests)

  without_one : (r : Range) (b : Bool) → (r.lo == r.hi) ≡ b → has (r ∷ []) x ≡ not (has rs x) →
      Means (if b then Numbers.AllBut r.lo else Numbers.Others) rs x
  without_one r true e l = let same : r.lo ≡ r.hi = grind (arith, nat_tests, e) in lacks_one (has rs x) r x same l
  without_one r false e l = tt

  without_means : (ls : List Range) → ls ≡ set_not 8 rs → Means (said_without ls) rs x
  without_means [] is = tt
  without_means (r ∷ []) is = without_one r (r.lo == r.hi) refl (lack (r ∷ []) is)
  without_means (r ∷ s ∷ ls) is = tt

one_number : (r : Range) (x : ℕ) (said : Bool) → ((r.lo == r.hi) && said) ≡ true → has (r ∷ []) x ≡ (x == r.lo)
one_number r x said e =
    let parts = and_parts (r.lo == r.hi) said e in
    let same : r.lo ≡ r.hi = grind (arith, nat_tests, parts.0) in grind (arith, nat_tests, same)

-- whichever number can't be said alone
module _ (unsaid x : ℕ) (small : x < 256) where
  one_means : (r : Range) (b c : Bool) → is_everything 8 r ≡ b → ((r.lo == r.hi) && not (r.lo == unsaid)) ≡ c →
      Means (if b then Numbers.Every else if c then Numbers.Only r.lo else said_without (set_not 8 (r ∷ []))) (r ∷ []) x
  one_means r true c e f = ap (λ b. b || false) (everything_has 8 r x small e)
  one_means r false true e f = one_number r x (not (r.lo == unsaid)) f
  one_means r false false e f = without_means (r ∷ []) x small (set_not 8 (r ∷ [])) refl

  pub numbers_mean : (rs : List Range) → Means (said_of unsaid rs) rs x
  numbers_mean [] = without_means [] x small (set_not 8 []) refl
  numbers_mean (r ∷ []) = one_means r (is_everything 8 r) ((r.lo == r.hi) && not (r.lo == unsaid)) refl refl
  numbers_mean (r ∷ s ∷ rs) = without_means (r ∷ s ∷ rs) x small (set_not 8 (r ∷ s ∷ rs)) refl

in_numbers_from : (x first count : ℕ) → list_any (λ n. x == n) (numbers_from first count) ≡ (nat_le first x && nat_lt x (first + count))
in_numbers_from x first zero = grind (arith, nat_tests)
in_numbers_from x first (suc count) = let ih = in_numbers_from x (first + 1) count in grind (arith, nat_tests, ih)

in_range : (x : ℕ) (r : Range) → list_any (λ n. x == n) (numbers_from r.lo (r.hi + 1 - r.lo)) ≡ is_within r x
in_range x r = in_numbers_from x r.lo (r.hi + 1 - r.lo) ∙ bounds
  where
    bounds : (nat_le r.lo x && nat_lt x (r.lo + (r.hi + 1 - r.lo))) ≡ (nat_le r.lo x && nat_le x r.hi)
    bounds = grind (arith, nat_tests)

in_numbers : (x : ℕ) (rs : List Range) → list_any (λ n. x == n) (numbers_of rs) ≡ has rs x
in_numbers x rs =
    any_flat (λ n. x == n) (λ (r : Range). numbers_from r.lo (r.hi + 1 - r.lo)) rs
    ∙ any_same (λ (r : Range). list_any (λ n. x == n) (numbers_from r.lo (r.hi + 1 - r.lo))) (λ r. is_within r x) rs (in_range x) ∙ in_ranges x rs

not_not : (a b : Bool) → a ≡ not b → not a ≡ b
not_not true true e = let wrong : true ≡ false = e in cc
not_not true false e = refl
not_not false true e = refl
not_not false false e = sym e

-- a test that asks for one number, and the packet's number of that kind
module _ {W : ℕ} (p : Packet) (prim : ℕ → Prim_ W) (x : ℕ) (says : (n : ℕ) → holds_of (prim n) p ≡ (x == n)) (small : x < 256) where
  abbrev told : List (Lit (Prim_ W)) → Bool
  told = facts (holds_of {W = W}) p

  meets_by : (rs : List Range) (form : Numbers) → Means form rs x →
      (told (number_literals prim form) && not (list_any (λ n. x == n) (returned_numbers form rs))) ≡ has rs x
  meets_by rs Numbers.Every m = sym m
  meets_by rs (Numbers.Only n) m = and_true (told (number_literals prim (Numbers.Only n))) ∙ one_fact (holds_of {W = W}) p (prim n) ∙ says n ∙ sym m
  meets_by rs (Numbers.AllBut n) m =
      and_true (told (number_literals prim (Numbers.AllBut n))) ∙ one_denied (holds_of {W = W}) p (prim n) ∙ ap not (says n) ∙ sym m
  meets_by rs Numbers.Others m =
      not_not (list_any (λ n. x == n) (lacking rs)) (has rs x) (in_numbers x (set_not 8 rs) ∙ lack rs x small (set_not 8 rs) refl)

  -- what the line says and no return says is the set
  pub numbers_meet : (unsaid : ℕ) (rs : List Range) →
      (told (number_literals prim (said_of unsaid rs)) && not (list_any (λ n. x == n) (returned_numbers (said_of unsaid rs) rs))) ≡ has rs x
  numbers_meet unsaid rs = meets_by rs (said_of unsaid rs) (numbers_mean unsaid x small rs)

module _ {W : ℕ} (prim : ℕ → Prim_ W) where
  pub numbers_known : (form : Numbers) → doubt_in (number_literals prim form) ≡ false
  numbers_known Numbers.Every = refl
  numbers_known (Numbers.Only n) = refl
  numbers_known (Numbers.AllBut n) = refl
  numbers_known Numbers.Others = refl
