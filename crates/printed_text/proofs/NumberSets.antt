-- Which sets of protocols and of types of messages a line can say.
use Rattle.std.proofs.Common.{◌≡◌, ◌≢◌, ◌∙◌, ◌∷◌, ◌≤◌, ◌==◌, ◌&&◌, ◌⊎◌, [], ℕ, List, Bool, true, false, not, inl, inr, refl, sym, ap, subst, arith, if◌then◌else◌}
use Rattle.std.proofs.lemmas.Bool.Decides.{nat_tests}
use Rattle.interval_set.specs.declared.set.Range.{Range}
use Rattle.interval_set.specs.Numbers.{IsSet, has}
use Rattle.interval_set.specs.Spelling.{set_not}
use Rattle.box_norm.specs.declared.cube.Cube.{Cube}
use Rattle.box_norm.specs.Pieces.{single}
use Rattle.box_norm.specs.Regular.{HasTypesAlone, IsRegular, full}
use Rattle.dump_print.specs.declared.numbers.Numbers.{Numbers}
use Rattle.dump_print.specs.Addresses.{is_everything}
use Rattle.dump_print.specs.Numbers.{said_of, said_without}
use Rattle.printed_text.proofs.NumberLemmas.{IsNumberBut, lacked_number}

-- the number that a line says, where it says one, is below 256 and has no other meaning
abbrev pub Sayable : ℕ → Numbers → Type 0
Sayable unsaid Numbers.Every = Unit {0}
Sayable unsaid (Numbers.Only n) = IsNumberBut unsaid n
Sayable unsaid (Numbers.AllBut n) = IsNumberBut unsaid n
Sayable unsaid Numbers.Others = Unit {0}

not_everything : (n : ℕ) → is_everything 8 (record { lo = n; hi = n }) ≡ false
not_everything n = grind (arith, nat_tests)

is_single : (unsaid n : ℕ) → n ≢ unsaid → ((n == n) && not (n == unsaid)) ≡ true
is_single unsaid n other = grind (arith, nat_tests, other)

pub single_only : (unsaid n : ℕ) → n ≢ unsaid → said_of unsaid (single n) ≡ Numbers.Only n
single_only unsaid n other =
    ap (λ (b : Bool). if b then Numbers.Every else if (n == n) && not (n == unsaid) then Numbers.Only n else said_without (set_not 8 (single n))) (not_everything n)
    ∙ ap (λ (b : Bool). if b then Numbers.Only n else said_without (set_not 8 (single n))) (is_single unsaid n other)

has_first : (r : Range) → (r.lo == r.hi) ≡ true → has (r ∷ []) r.lo ≡ true
has_first r e = grind (arith, nat_tests)

without_sayable : (unsaid : ℕ) (rs xs : List Range) → xs ≡ set_not 8 rs → has rs unsaid ≡ true → Sayable unsaid (said_without xs)
without_sayable unsaid rs [] e holds = tt
without_sayable unsaid rs (r ∷ s ∷ xs) e holds = tt
without_sayable unsaid rs (r ∷ []) e holds = by_case (r.lo == r.hi) refl
  where
    by_case : (b : Bool) → (r.lo == r.hi) ≡ b → Sayable unsaid (if b then Numbers.AllBut r.lo else Numbers.Others)
    by_case true f = lacked_number unsaid rs r.lo holds (ap (λ (ys : List Range). has ys r.lo) (sym e) ∙ has_first r f)
    by_case false f = tt

another : (a b unsaid : ℕ) → ((a == b) && not (a == unsaid)) ≡ true → a ≢ unsaid
another a b unsaid e same = grind (arith, nat_tests, same)

holding_sayable : (unsaid : ℕ) (rs : List Range) → IsSet 8 rs → has rs unsaid ≡ true → Sayable unsaid (said_of unsaid rs)
holding_sayable unsaid [] is holds = let wrong : false ≡ true = holds in cc
holding_sayable unsaid (r ∷ s ∷ rs) is holds = without_sayable unsaid (r ∷ s ∷ rs) (set_not 8 (r ∷ s ∷ rs)) refl holds
holding_sayable unsaid (r ∷ []) is holds = by_case (is_everything 8 r) ((r.lo == r.hi) && not (r.lo == unsaid)) refl
  where
    by_case : (b c : Bool) → ((r.lo == r.hi) && not (r.lo == unsaid)) ≡ c
        → Sayable unsaid (if b then Numbers.Every else if c then Numbers.Only r.lo else said_without (set_not 8 (r ∷ [])))
    by_case true c e = tt
    by_case false true e = let ends = is.1 in (omega (arith, ends.1, ends.2), another r.lo r.hi unsaid e)
    by_case false false e = without_sayable unsaid (r ∷ []) (set_not 8 (r ∷ [])) refl holds

-- another number alone, or a set that holds this one
abbrev pub IsSayableSet : ℕ → List Range → Type 0
IsSayableSet unsaid rs = ((n : ℕ) × IsNumberBut unsaid n × (rs ≡ single n)) ⊎ (has rs unsaid ≡ true)

pub is_sayable : (unsaid : ℕ) (rs : List Range) → IsSet 8 rs → IsSayableSet unsaid rs → Sayable unsaid (said_of unsaid rs)
is_sayable unsaid rs is (inl (n, number, e)) = subst (Sayable unsaid) (sym (ap (said_of unsaid) e ∙ single_only unsaid n number.1)) number
is_sayable unsaid rs is (inr holds) = holding_sayable unsaid rs is holds

-- ---- the sets of a regular cube
pub protocol_set : {W : ℕ} (cube : Cube W) → IsRegular cube → IsSayableSet 0 cube.proto
protocol_set cube regular = by_case regular.proto
  where
    by_case : ((n : ℕ) × (1 ≤ n) × (n ≤ 255) × (cube.proto ≡ single n)) ⊎ (has cube.proto 0 ≡ true) → IsSayableSet 0 cube.proto
    by_case (inl (n, some, small, is)) = inl (n, (small, omega (arith, some)), is)
    by_case (inr holds) = inr holds

pub type_set : {W : ℕ} (cube : Cube W) → IsRegular cube → IsSayableSet 255 cube.icmp
type_set cube regular = by_case regular.icmp
  where
    by_case : (cube.icmp ≡ full 8) ⊎ HasTypesAlone cube.proto cube.icmp → IsSayableSet 255 cube.icmp
    by_case (inl every) = inr (ap (λ (rs : List Range). has rs 255) every)
    by_case (inr (alone, inl (k, small, is))) = inl (k, (omega (arith, small), omega (arith, small)), is)
    by_case (inr (alone, inr holds)) = inr holds
